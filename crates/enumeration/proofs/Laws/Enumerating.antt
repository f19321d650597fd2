-- The laws of `specs/Enumerating.antt`: the answer and the buffer afterwards, by what is asked. No contract cites this file.
--     matched-refused, matched_17, matched_16, matched-page     the answer
--     out-refused, out-answered                                 the buffer after a refusal, and after an answer
--     told-refused, told-page                                   the call's promise where it is refused, and where it is not
-- Assumes nothing.
use Prim.Native.Nat.{ℕ, ◌/◌, ◌<◌, ◌≤◌}
use mathlib.Core.Path.{◌≡◌, sym, ap, ◌∙◌}
use mathlib.Core.Bool.{true, false, cond}
use mathlib.Core.List.{List, ◌++◌}
use lib.ListN.{length, drop}
use lib.Dec.{ltb}
use borrow.Author.Tests.{lt-ltb, le-ltb}
use Rattle.seq.specs.Refusals.{refused, answered}
use Rattle.seq.proofs.Laws.Refusals.{laid-refused, laid-answered}
use Rattle.plan.specs.declared.answers.Sizes.{Sizes}
use Rattle.plan.specs.Check.{verdict}
use Rattle.plan.specs.Accepted.{pattern_at}
use Rattle.matcher.specs.Testing.{out_of_range}
use Rattle.enumeration.specs.Answers.{Page}
use Rattle.enumeration.specs.Enumerating.{var_count, matches_of, page_of, words_of, matches_by, matches_answer, matches_out}
use Rattle.enumeration.specs.Enumeration.{Kept}

-- the answer, where the buffer has so many words
module _ (v p : List ℕ) (k d : ℕ) (from : List ℕ) (room : ℕ) where
  -- 1 to 14
  pub matched-refused : (n q : ℕ) → verdict v p ≡ refused n q → matches_answer v p k d from room ≡ refused n q
  unfolding matches_answer
  matched-refused n q e = ap (λ s. matches_by s k (pattern_at p k) d from room (matches_of v p k d from)) e

  -- behind an accepted volume and plan
  module _ (s : Sizes) (ok : verdict v p ≡ answered s) where
    matched : matches_answer v p k d from room
        ≡ cond (out_of_range s.patterns k (pattern_at p k) d from) (refused 17 0) (cond (ltb room (var_count p k)) (refused 16 0) (answered (page_of (room / var_count p k) (matches_of v p k d from))))
    unfolding matches_answer
    matched = ap (λ t. matches_by t k (pattern_at p k) d from room (matches_of v p k d from)) ok

    pub matched_17 : out_of_range s.patterns k (pattern_at p k) d from ≡ true → matches_answer v p k d from room ≡ refused 17 0
    matched_17 e = matched ∙ rw e

    module _ (fine : out_of_range s.patterns k (pattern_at p k) d from ≡ false) where
      pub matched_16 : room < var_count p k → matches_answer v p k d from room ≡ refused 16 0
      matched_16 h = matched ∙ rw (fine, lt-ltb room (var_count p k) h)

      pub matched-page : var_count p k ≤ room → matches_answer v p k d from room ≡ answered (page_of (room / var_count p k) (matches_of v p k d from))
      matched-page h = matched ∙ rw (fine, le-ltb room (var_count p k) h)

-- the buffer afterwards, and the promise of the call
module _ (v p : List ℕ) (k d : ℕ) (from out : List ℕ) where
  -- the words that are written
  abbrev written : List ℕ
  written = words_of (length out / var_count p k) (matches_of v p k d from)

  pub out-refused : (n q : ℕ) → matches_answer v p k d from (length out) ≡ refused n q → matches_out v p k d from out ≡ out
  unfolding matches_out
  out-refused n q e = laid-refused (matches_answer v p k d from (length out)) n q written out e

  pub out-answered : (page : Page) → matches_answer v p k d from (length out) ≡ answered page → matches_out v p k d from out ≡ written ++ drop (length written) out
  unfolding matches_out
  out-answered page e = laid-answered (matches_answer v p k d from (length out)) page written out e

  pub told-refused : (n q : ℕ) → matches_answer v p k d from (length out) ≡ refused n q → Kept v p k d from (record { lent = out; says = refused n q; back = out })
  told-refused n q a = (sym a, sym (out-refused n q a))

  pub told-page : (back : List ℕ) (page : Page) → matches_answer v p k d from (length out) ≡ answered page → back ≡ written ++ drop (length written) out
      → Kept v p k d from (record { lent = out; says = answered page; back = back })
  told-page back page a b = (sym a, b ∙ sym (out-answered page a))
