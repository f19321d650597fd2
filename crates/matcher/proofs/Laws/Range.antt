-- The laws of refusal 17, test by test: `out_of_range` by the first of its tests that fails. No contract cites this file.
--     range-missing    the pattern is not there
--     range-number     the tuple has another number of positions than the pattern has variables
--     range_doc        the document is over 65,535
--     range_small      all else is in order: by whether all positions are at most 65,535
-- Assumes nothing.
use Prim.Native.Nat.{ℕ, ◌<◌, ◌≤◌}
use mathlib.Core.Path.{◌≡◌}
use mathlib.Core.Bool.{Bool, true, not}
use mathlib.Core.Logic.{◌≢◌}
use mathlib.Core.List.{List}
use lib.ListN.{length}
use lib.Dec.{leb}
use borrow.Author.Tests.{le-leb, lt-leb, le-ltb, lt-ltb, eq-eqb, ne_eqb}
use Rattle.seq.specs.Lists.{all}
use Rattle.plan.specs.Patterns.{Pattern}
use Rattle.matcher.specs.Testing.{out_of_range}

module _ (patterns k : ℕ) (f : Pattern) (d : ℕ) (ps : List ℕ) where
  pub range-missing : patterns ≤ k → out_of_range patterns k f d ps ≡ true
  unfolding out_of_range
  range-missing h = rw (le-leb patterns k h)

  module _ (there : k < patterns) where
    pub range-number : length ps ≢ length f.vars → out_of_range patterns k f d ps ≡ true
    unfolding out_of_range
    range-number n = rw (lt-leb patterns k there, ne_eqb (length ps) (length f.vars) n)

    module _ (number : length ps ≡ length f.vars) where
      pub range_doc : 65535 < d → out_of_range patterns k f d ps ≡ true
      unfolding out_of_range
      range_doc h = rw (lt-leb patterns k there, eq-eqb (length ps) (length f.vars) number, lt-ltb 65535 d h)

      pub range_small : d ≤ 65535 → (b : Bool) → all (λ q. leb q 65535) ps ≡ b → out_of_range patterns k f d ps ≡ not b
      unfolding out_of_range
      range_small h b e = rw (lt-leb patterns k there, eq-eqb (length ps) (length f.vars) number, le-ltb 65535 d h, e)
