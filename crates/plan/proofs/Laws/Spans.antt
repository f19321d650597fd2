-- The laws of `specs/Parts.antt` that hold of every list of words. No contract cites this file.
--     found_ge, found_within, found-le, found_at, found_before     the first row of a sort from a row on
--     behind-first, behind-next    behind no pattern, and behind the next one
-- Assumes nothing.
use Prim.Native.Nat.{ℕ, ◌+◌, ◌-◌, ◌<◌, ◌≤◌}
use native.Mathlib.Numerals.{add-one}
use native.Mathlib.Omega.{arith}
use mathlib.Core.Path.{◌≡◌, refl, ap}
use mathlib.Core.Bool.{Bool, true, false}
use mathlib.Core.List.{List}
use Rattle.seq.proofs.Laws.Numbers.{first-le, first_ge, first-at, first-before}
use Rattle.plan.specs.declared.row.Kind.{Kind}
use Rattle.plan.specs.Rows.{row_count, row_at}
use Rattle.plan.specs.Parts.{first_of, ending, behind}

-- the first row of a sort from row i on
module _ (sort : Kind → Bool) (p : List ℕ) (i : ℕ) where
  -- row j is of the sort
  abbrev test : ℕ → Bool
  test j = sort (row_at p j).kind

  pub found_ge : i ≤ first_of sort p i
  unfolding first_of
  found_ge = first_ge test i (row_count p - i)

  pub found_within : (m : ℕ) → i ≤ m → row_count p ≤ m → first_of sort p i ≤ m
  unfolding first_of
  found_within m h l = let e = first-le test i (row_count p - i) in omega arith

  pub found-le : i ≤ row_count p → first_of sort p i ≤ row_count p
  found-le h = found_within (row_count p) h (omega arith)

  pub found_at : first_of sort p i < row_count p → test (first_of sort p i) ≡ true
  unfolding first_of
  found_at h =
      let l = first_ge test i (row_count p - i) in
      first-at test i (row_count p - i) (omega arith)

  pub found_before : (j : ℕ) → i ≤ j → j < first_of sort p i → test j ≡ false
  unfolding first_of
  found_before j l h = first-before test i (row_count p - i) j l h

module _ (p : List ℕ) where
  pub behind-first : behind p 0 ≡ 0
  unfolding behind
  behind-first = refl

  pub behind-next : (k : ℕ) → behind p (k + 1) ≡ ending p (behind p k) + 1
  unfolding behind
  behind-next k = ap (behind p) (add-one k)
