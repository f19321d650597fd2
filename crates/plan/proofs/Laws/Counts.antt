-- The laws of `specs/Counts.antt`: counting and moving row by row come to the same. No contract cites this file.
--     counted_is     in front of row i, where each row before it may stand
-- Assumes nothing.
use Prim.Native.Nat.{ℕ, zero, suc, ◌+◌, ◌-◌, ◌<◌, ◌≤◌}
use native.Mathlib.Nat.{zero-add, add-zero}
use native.Mathlib.Numerals.{add-one}
use native.Mathlib.Omega.{arith}
use mathlib.Core.Path.{◌≡◌, refl, sym, ap, ap₂, ◌∙◌, subst}
use mathlib.Core.Bool.{Bool, true, false, not, cond, ◌&&◌}
use mathlib.Core.List.{List, [], ◌∷◌, ◌++◌}
use lib.Dec.{ltb}
use borrow.Author.Tests.{lt-ltb}
use Rattle.seq.specs.Lists.{keep, all, total}
use Rattle.seq.specs.Numbers.{run}
use Rattle.seq.proofs.Laws.Lists.{total-snoc, all_snoc, keep_snoc}
use Rattle.seq.proofs.Laws.Numbers.{run_end, run-snoc}
use Rattle.plan.specs.declared.row.Kind.{Kind}
use Rattle.plan.specs.declared.row.Kind.TheVariants as kind
use Rattle.plan.specs.declared.row.Row.{Row}
use Rattle.plan.specs.declared.state.State.{State}
use Rattle.plan.specs.Rows.{row_at, is_voice, is_condition, is_end, is_operator}
use Rattle.plan.specs.State.{initial, takes, after, state_at, order_wrong}
use Rattle.plan.specs.Counts.{count_of, behind_end, taken, counted}
use Rattle.plan.proofs.Laws.State.{state_at-first, state_at-next, operator-stands}

-- one more row, counted where it is of the sort
count-snoc : (sort : Kind → Bool) (xs : List Row) (r : Row) → count_of sort (xs ++ (r ∷ [])) ≡ count_of sort xs + cond (sort r.kind) 1 0
unfolding count_of
count-snoc sort xs r = keep_snoc (λ (x : Row). sort x.kind) xs r

-- one more row behind the last END, and one more END
abbrev no_end : Row → Bool
no_end x = not (is_end x.kind)

behind-snoc : (xs : List Row) (r : Row) → is_end r.kind ≡ false → behind_end (xs ++ (r ∷ [])) ≡ behind_end xs ++ (r ∷ [])
unfolding behind_end all
behind-snoc [] r e = rw e
behind-snoc (x ∷ xs) r e = rw (all_snoc no_end (x ∷ xs) r, e) (go (all no_end (x ∷ xs)) (behind-snoc xs r e))
  where
    go : (t : Bool) → behind_end (xs ++ (r ∷ [])) ≡ behind_end xs ++ (r ∷ []) → cond (t && true) (x ∷ (xs ++ (r ∷ []))) (behind_end (xs ++ (r ∷ []))) ≡ cond t (x ∷ xs) (behind_end xs) ++ (r ∷ [])
    go true h = refl
    go false h = h

behind-end : (xs : List Row) (r : Row) → is_end r.kind ≡ true → behind_end (xs ++ (r ∷ [])) ≡ []
unfolding behind_end all
behind-end [] r e = rw e
behind-end (x ∷ xs) r e = rw (all_snoc no_end (x ∷ xs) r, e) (go (all no_end (x ∷ xs)) (behind-end xs r e))
  where
    go : (t : Bool) → behind_end (xs ++ (r ∷ [])) ≡ [] → cond (t && false) (x ∷ (xs ++ (r ∷ []))) (behind_end (xs ++ (r ∷ []))) ≡ []
    go true h = h
    go false h = h

-- a state by its five parts
same : (v w : ℕ) (b d : Bool) (p q a e t u : ℕ) → v ≡ w → b ≡ d → p ≡ q → a ≡ e → t ≡ u
    → ◌≡◌ {A = State} (record { vars = v; begun = b; patterns = p; answers = a; total = t }) (record { vars = w; begun = d; patterns = q; answers = e; total = u })
same v w b d p q a e t u x y z i j = rw (x, y, z, i, j)

-- the answers that rows have stacked, and those that they have taken
abbrev stacked_of : List Row → ℕ
stacked_of rows = count_of is_end rows + count_of is_operator rows

abbrev taken_of : List Row → ℕ
taken_of rows = total (λ (r : Row). taken r.kind) rows

-- the answers stacked with one more row
abbrev stacked_with : List Row → Kind → ℕ
stacked_with rows k = count_of is_end rows + cond (is_end k) 1 0 + (count_of is_operator rows + cond (is_operator k) 1 0)

-- none of no rows is of a sort
none : (sort : Kind → Bool) → count_of sort [] ≡ 0
unfolding count_of keep
none sort = refl

-- some rows, behind which no more answers have been taken than stacked, and one more row that may stand there
module _ (xs : List Row) (l : taken_of xs ≤ stacked_of xs) where
  stacked-snoc : (r : Row) → stacked_of (xs ++ (r ∷ [])) ≡ stacked_with xs r.kind
  stacked-snoc r = ap₂ (λ (n m : ℕ). n + m) (count-snoc is_end xs r) (count-snoc is_operator xs r)

  taken-snoc : (r : Row) → taken_of (xs ++ (r ∷ [])) ≡ taken_of xs + taken r.kind
  taken-snoc r = total-snoc (λ (x : Row). taken x.kind) xs r

  -- the answers that there are with one more row
  answers-snoc :
      (r : Row) (n : ℕ) → stacked_with xs r.kind - (taken_of xs + taken r.kind) ≡ n
      → stacked_of (xs ++ (r ∷ [])) - taken_of (xs ++ (r ∷ [])) ≡ n
  answers-snoc r n e = ap₂ (λ (a b : ℕ). a - b) (stacked-snoc r) (taken-snoc r) ∙ e

  counted-after : (k : Kind) → order_wrong (counted xs) k ≡ false → counted (xs ++ (record { kind = k } ∷ [])) ≡ after (counted xs) k
  unfolding counted
  counted-after (kind.Voice list) e =
      let r : Row = record { kind = kind.Voice list } in
      let b = behind-snoc xs r refl in
      same _ _ _ _ _ _ _ _ _ _
      (ap (count_of is_voice) b ∙ count-snoc is_voice (behind_end xs) r)
      (ap (λ (rows : List Row). ltb 0 (count_of is_condition rows)) b ∙ ap (ltb 0) (count-snoc is_condition (behind_end xs) r ∙ add-zero _))
      (count-snoc is_end xs r ∙ add-zero _)
      (answers-snoc r (stacked_of xs - taken_of xs) (omega arith))
      (count-snoc is_voice xs r)
  counted-after (kind.Condition c) e =
      let r : Row = record { kind = kind.Condition c } in
      let b = behind-snoc xs r refl in
      same _ _ _ _ _ _ _ _ _ _
      (ap (count_of is_voice) b ∙ count-snoc is_voice (behind_end xs) r ∙ add-zero _)
      (ap (λ (rows : List Row). ltb 0 (count_of is_condition rows)) b ∙ ap (ltb 0) (count-snoc is_condition (behind_end xs) r) ∙ lt-ltb 0 (count_of is_condition (behind_end xs) + 1) (omega arith))
      (count-snoc is_end xs r ∙ add-zero _)
      (answers-snoc r (stacked_of xs - taken_of xs) (omega arith))
      (count-snoc is_voice xs r ∙ add-zero _)
  counted-after kind.End e =
      let r : Row = record { kind = kind.End } in
      let b = behind-end xs r refl in
      same _ _ _ _ _ _ _ _ _ _
      (ap (count_of is_voice) b ∙ none is_voice)
      (ap (λ (rows : List Row). ltb 0 (count_of is_condition rows)) b ∙ ap (ltb 0) (none is_condition))
      (count-snoc is_end xs r)
      (answers-snoc r (stacked_of xs - taken_of xs + 1) (omega arith))
      (count-snoc is_voice xs r ∙ add-zero _)
  counted-after (kind.Operator o) e =
      let r : Row = record { kind = kind.Operator o } in
      let b = behind-snoc xs r refl in
      let w : takes o ≤ stacked_of xs - taken_of xs = (operator-stands (counted xs) o e).1 in
      same _ _ _ _ _ _ _ _ _ _
      (ap (count_of is_voice) b ∙ count-snoc is_voice (behind_end xs) r ∙ add-zero _)
      (ap (λ (rows : List Row). ltb 0 (count_of is_condition rows)) b ∙ ap (ltb 0) (count-snoc is_condition (behind_end xs) r ∙ add-zero _))
      (count-snoc is_end xs r ∙ add-zero _)
      (answers-snoc r (stacked_of xs - taken_of xs + 1 - takes o) (omega arith))
      (count-snoc is_voice xs r ∙ add-zero _)

  taken-after :
      (k : Kind) → order_wrong (counted xs) k ≡ false
      → taken_of (xs ++ (record { kind = k } ∷ [])) ≤ stacked_of (xs ++ (record { kind = k } ∷ []))
  unfolding counted
  taken-after k e = rw (taken-snoc (record { kind = k }), stacked-snoc (record { kind = k })) (go k e)
    where
      go : (j : Kind) → order_wrong (counted xs) j ≡ false → taken_of xs + taken j ≤ stacked_with xs j
      go (kind.Voice list) q = omega arith
      go (kind.Condition c) q = omega arith
      go kind.End q = omega arith
      go (kind.Operator o) q = let w : takes o ≤ stacked_of xs - taken_of xs = (operator-stands (counted xs) o q).1 in omega arith

-- no more answers have been taken than stacked, and counting gives a state
abbrev Right : List Row → State → Type 0
Right rows s = (taken_of rows ≤ stacked_of rows) × (counted rows ≡ s)

right-first : Right [] initial
unfolding total counted count_of keep behind_end
right-first = (omega arith, refl)

right-next : (rows : List Row) (s : State) (k : Kind) → order_wrong s k ≡ false → Right rows s → Right (rows ++ (record { kind = k } ∷ [])) (after s k)
right-next rows s k e w =
    let o : order_wrong (counted rows) k ≡ false = rw w.1 e in
    (taken-after rows w.0 k o, counted-after rows w.0 k o ∙ ap (λ (x : State). after x k) w.1)

-- in front of row i, where each row before it may stand
module _ (p : List ℕ) where
  right-at : (i : ℕ) → ((j : ℕ) → j < i → order_wrong (state_at p j) (row_at p j).kind ≡ false) → Right (run (row_at p) 0 i) (state_at p i)
  right-at zero h = subst (λ (s : State). Right (run (row_at p) 0 0) s) (sym (state_at-first p)) (subst (λ (rows : List Row). Right rows initial) (sym (run_end (row_at p) 0 0 (omega arith))) right-first)
  right-at (suc i) h =
      let rows : run (row_at p) 0 i ++ (row_at p i ∷ []) ≡ run (row_at p) 0 (suc i) = ap (λ (j : ℕ). run (row_at p) 0 i ++ (row_at p j ∷ [])) (sym (zero-add i)) ∙ sym (run-snoc (row_at p) 0 i) ∙ ap (run (row_at p) 0) (add-one i) in
      let next : after (state_at p i) (row_at p i).kind ≡ state_at p (suc i) = sym (state_at-next p i) ∙ ap (state_at p) (add-one i) in
      subst (λ (s : State). Right (run (row_at p) 0 (suc i)) s) next
      (subst (λ (xs : List Row). Right xs (after (state_at p i) (row_at p i).kind)) rows
      (right-next (run (row_at p) 0 i) (state_at p i) (row_at p i).kind (h i (omega arith)) (right-at i (λ j l. h j (omega arith)))))

  pub counted_is : (i : ℕ) → ((j : ℕ) → j < i → order_wrong (state_at p j) (row_at p j).kind ≡ false) → counted (run (row_at p) 0 i) ≡ state_at p i
  counted_is i h = (right-at i h).1
