-- The answers of a plan in a document as the bits of a number. Assumes nothing.
use Rattle.std.specs.Prelude.{ℕ, ◌+◌, ◌*◌, ◌≡◌, Bool, true, false, not, List, [], ◌∷◌, Option, Some, None, map, eqb, leb, get_or}
use Rattle.std.specs.Int.Count.{ones}
use Rattle.plan.specs.declared.row.Operator.{Operator}
use Rattle.plan.specs.declared.row.Operator.TheVariants.{Both, Either, FirstNotSecond, AtLeast}
use Rattle.plan.specs.Rows.{rows_of}
use Rattle.plan.specs.Patterns.{Pattern, patterns_of, answer}

-- 1 for yes, 0 for no
abbrev pub flag_of : Bool → ℕ
flag_of true = 1
flag_of false = 0

-- the bits of some answers, the first one the lowest; the top of a stack is its first
unfoldable pub bits_of : List Bool → ℕ
bits_of [] = 0
bits_of (t ∷ ts) = bits_of ts * 2 + flag_of t

-- the bits of the patterns of a plan: 1 where it is found
abbrev pub found_bits : (Pattern → Bool) → List ℕ → ℕ
found_bits found p = bits_of (map found (patterns_of (rows_of p)))

-- an operator answers yes to the bits of the answers that it takes, the top one the lowest; AT LEAST counts the ones
abbrev pub joins : Operator → ℕ → Bool
joins Both taken = eqb taken 3
joins Either taken = not (eqb taken 0)
joins FirstNotSecond taken = eqb taken 2
joins (AtLeast least of) taken = leb least (ones taken)

-- the sets of found patterns of a plan with the most patterns, two to the power of their number
abbrev pub most_found_sets : ℕ
most_found_sets = 256

-- for each set of found patterns the answer, where it is known
pub record Remembers (p : List ℕ) (known : List (Option Bool)) : Type 0 where
  pub right : (found : Pattern → Bool) (yes : Bool) → get_or known (found_bits found p) None ≡ Some yes → yes ≡ answer found (rows_of p)
