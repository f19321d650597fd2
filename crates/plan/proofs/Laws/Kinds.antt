-- The table of `src/kinds.rt` follows its rule: it holds, kind by kind, what rows of that kind use, whatever their words. No contract
-- cites this file.
--     table, table_is     the table, and the rule over all of it at once
--     table_at            the rule at one kind
-- Assumes nothing.
use Prim.Native.Nat.{ℕ, ◌+◌, ◌<◌}
use native.Mathlib.Nat.{zero-add}
use mathlib.Core.Path.{◌≡◌, refl, sym, ap, ◌∙◌}
use mathlib.Core.Bool.{true, false}
use mathlib.Core.List.{List, [], ◌∷◌}
use lib.ListN.{get_or}
use Rattle.seq.specs.Numbers.{run}
use Rattle.seq.proofs.Laws.Numbers.{get_or-run}
use Rattle.plan.specs.declared.kinds.Uses.{Uses}
use Rattle.plan.specs.Limits.{last_kind}
use Rattle.plan.specs.Rows.{kind_of, uses, uses_of}

abbrev pub table : List Uses
table =
    uses true false false 0 0
    ∷ uses true true true 0 65535
    ∷ uses true true false 0 0
    ∷ uses true true false 0 0
    ∷ uses false false true 1 65536
    ∷ uses false false false 0 0
    ∷ uses false false false 0 0
    ∷ uses false false false 0 0
    ∷ uses false false false 0 0
    ∷ uses true true true 0 4294967295
    ∷ uses true true false 0 0
    ∷ []

-- no word is used
abbrev nothing : Uses
nothing = uses false false false 0 0

module _ (a b c : ℕ) where
  table_is : run (λ j. uses_of (kind_of (j + 1) a b c)) 0 last_kind ≡ table
  unfolding run
  table_is = refl

  pub table_at : (j : ℕ) → j < last_kind → get_or table j nothing ≡ uses_of (kind_of (j + 1) a b c)
  table_at j h =
      ap (λ (us : List Uses). get_or us j nothing) (sym table_is)
      ∙ get_or-run (λ i. uses_of (kind_of (i + 1) a b c)) 0 last_kind j nothing h
      ∙ ap (λ (i : ℕ). uses_of (kind_of (i + 1) a b c)) (zero-add j)
