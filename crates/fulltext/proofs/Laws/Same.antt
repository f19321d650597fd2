-- What a plan says of a document depends on the positions in it alone. No contract cites this file.
--     least-same, found-same            a pattern in document d of some lists and in document e of others that hold the same positions there
--     matching-same, patterns-same      a plan there: whether it is true, and the words of its patterns
--     rows_shift                        true documents and their rows by those of another work, h documents before
-- Assumes nothing.
use Prim.Native.Nat.{ℕ, zero, suc, ◌+◌, ◌≤◌, ◌<◌}
use native.Mathlib.Nat.{suc-add}
use native.Mathlib.Omega.{arith}
use mathlib.Core.Path.{◌≡◌, refl, ap, ap₂, fun_ext}
use mathlib.Core.Bool.{Bool, true, false}
use mathlib.Core.List.{List, ◌++◌, map}
use mathlib.Core.Option.{Option}
use lib.ListN.{length}
use Rattle.seq.specs.Lists.{cons_if, keep, joined, first}
use Rattle.seq.specs.Numbers.{run}
use Rattle.plan.specs.declared.row.Row.{Row}
use Rattle.plan.specs.Patterns.{Pattern, patterns_of, answer}
use Rattle.fulltext.specs.Positions.{list_of, positions_in}
use Rattle.fulltext.specs.Matches.{matches, least_in}
use Rattle.fulltext.specs.Documents.{present, found, matching, shown, shown_in, Work}

module _ (xs ys : List (List ℕ)) (d e : ℕ) (same : (l : ℕ) → positions_in d (list_of xs l) ≡ positions_in e (list_of ys l)) where
  pub least-same : (f : Pattern) → least_in xs d f ≡ least_in ys e f
  unfolding least_in
  least-same f = ap (λ (at : ℕ → List ℕ). first (matches (at 0) (map at f.vars) f.predicates)) (fun_ext same)

  pub found-same : (f : Pattern) → found xs d f ≡ found ys e f
  unfolding found
  found-same f = ap present (least-same f)

  pub matching-same : (rows : List Row) → matching xs rows d ≡ matching ys rows e
  unfolding matching
  matching-same rows = ap (λ (test : Pattern → Bool). answer test rows) (fun_ext found-same)

  pub patterns-same : (rows : List Row) → joined (map (shown_in xs d) (patterns_of rows)) ≡ joined (map (shown_in ys e) (patterns_of rows))
  patterns-same rows =
      ap₂
      (λ (starts : List ℕ) (least : Pattern → Option (List ℕ)). joined (map (λ (f : Pattern). shown starts (length f.vars) (least f)) (patterns_of rows)))
      (same 0)
      (fun_ext least-same)

-- m documents from a on of work w, and those h further on of work u
pub rows_shift : (u w : Work) (g : ℕ → List ℕ) (h a m : ℕ)
    → ((j : ℕ) → a ≤ j → j < a + m → u.is_true (j + h) ≡ w.is_true j) → ((j : ℕ) → a ≤ j → j < a + m → u.row_of (j + h) ≡ g j)
    → joined (map u.row_of (keep u.is_true (run (λ d. d) (a + h) m))) ≡ joined (map g (keep w.is_true (run (λ d. d) a m)))
unfolding keep run joined
rows_shift u w g h a zero e r = refl
rows_shift u w g h a (suc m) e r =
    go (w.is_true a) (e a (omega arith) (omega arith))
    (rw (suc-add a h) at (rows_shift u w g h (suc a) m (λ j x y. e j (omega arith) (omega arith)) (λ j x y. r j (omega arith) (omega arith))))
  where
    behind : List ℕ
    behind = keep u.is_true (run (λ d. d) (suc (a + h)) m)

    others : List ℕ
    others = keep w.is_true (run (λ d. d) (suc a) m)

    go : (t : Bool) → u.is_true (a + h) ≡ t → joined (map u.row_of behind) ≡ joined (map g others)
        → joined (map u.row_of (cons_if (u.is_true (a + h)) (a + h) behind)) ≡ joined (map g (cons_if t a others))
    go true q rest = rw q (ap₂ (λ (x y : List ℕ). x ++ y) (r a (omega arith) (omega arith)) rest)
    go false q rest = rw q rest
