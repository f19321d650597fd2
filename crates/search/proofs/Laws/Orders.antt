-- An order of each pattern's variables, set pattern by pattern. No contract cites this file.
--     Ranking                  the variables of the first k patterns are in order
--     ranking-first, ranking-next, ranking-done     from pattern to pattern
--     ordered                  each order has each variable once
-- Assumes nothing.
use Prim.Native.Nat.{ℕ, ◌+◌, ◌<◌, ◌≤◌}
use native.Mathlib.Omega.{arith}
use mathlib.Core.Path.{◌≡◌, sym, ◌∙◌}
use mathlib.Core.Logic.{⊎_elim}
use mathlib.Core.List.{List}
use lib.ListN.{length, get_or, drop, length-drop}
use lib.Seq.{get_or-drop}
use Rattle.seq.proofs.Laws.Tests.{below_or}
use Rattle.plan.specs.Patterns.{Pattern}
use Rattle.plan.specs.Check.{sizes}
use Rattle.plan.specs.Accepted.{pattern_at}
use Rattle.plan.specs.Inner.Outline.{vars_before}
use Rattle.matcher.specs.Inner.Order.{RarestFirst}
use Rattle.search.specs.Inner.Setup.{RarestEach}
use Rattle.search.specs.Inner.Walk.{Ordered}
use Rattle.search.proofs.Laws.Lent.{lent, back, back-drop, back-length, back-before}
use Rattle.search.proofs.Laws.Walk.{vars-behind}

-- an order is known from its first numbers
rarest-same : (v : List ℕ) (f : Pattern) (xs ys : List ℕ) → RarestFirst v f xs → length f.vars ≤ length ys
    → ((i : ℕ) → i < length f.vars → get_or ys i 0 ≡ get_or xs i 0) → RarestFirst v f ys
rarest-same v f xs ys r room same = record {
  each = record {
    room = room;
    below = λ i h. rw (same i h) (r.each.below i h);
    covers = λ x h. let c = r.each.covers x h in (c.0, (c.1.0, same c.0 c.1.0 ∙ c.1.1));
    once = λ i j a b e. r.each.once i j a b (sym (same i a) ∙ e ∙ same j b);
  };
  rises = λ i h. rw (same i (omega arith), same (i + 1) h) (r.rises i h);
}

pub record Ranking (v p : List ℕ) (size : ℕ) (orders : List ℕ) (k : ℕ) : Type 0 where
  pub most : k ≤ (sizes p).patterns
  pub same_length : length orders ≡ size
  pub ranked : (j : ℕ) → j < k → RarestFirst v (pattern_at p j) (drop (vars_before p j) orders)

module _ (v p : List ℕ) (size : ℕ) where
  pub ranking-first : (orders : List ℕ) → length orders ≡ size → Ranking v p size orders 0
  ranking-first orders e = record { most = omega arith; same_length = e; ranked = λ j h. absurd (let z : ⊥ = omega arith in z) }

  -- the order of pattern k is set, in the part of the buffer from its first variable on
  pub ranking-next : (orders : List ℕ) (k first : ℕ) (part : List ℕ) → Ranking v p size orders k → k < (sizes p).patterns
      → first ≡ vars_before p k → first ≤ length orders → length part ≡ length (lent first orders)
      → RarestFirst v (pattern_at p k) part → Ranking v p size (back first orders part) (k + 1)
  ranking-next orders k first part r h e room same own = record {
    most = omega arith;
    same_length = back-length first orders part room same ∙ r.same_length;
    ranked = λ j l. ⊎_elim
        (earlier j)
        (λ (m : k ≤ j).
        let q : j ≡ k = omega arith in
        rw (q, sym e, back-drop first orders part room) own)
        (below_or j k);
  }
    where
      earlier : (j : ℕ) → j < k → RarestFirst v (pattern_at p j) (drop (vars_before p j) (back first orders part))
      earlier j l =
          let w = vars-behind p j k l (omega arith) in
          let a = length-drop (vars_before p j) (back first orders part) in
          let b = back-length first orders part room same in
          rarest-same v (pattern_at p j) (drop (vars_before p j) orders) (drop (vars_before p j) (back first orders part)) (r.ranked j l)
          (omega arith)
          (λ i m.
          get_or-drop (vars_before p j) (back first orders part) i 0
          ∙ back-before first orders part room (vars_before p j + i) (omega arith)
          ∙ sym (get_or-drop (vars_before p j) orders i 0))

  pub ranking-done : (orders : List ℕ) (k : ℕ) → Ranking v p size orders k → (sizes p).patterns ≤ k → RarestEach v p orders
  ranking-done orders k r h j l = r.ranked j (omega arith)

pub ordered : (v p orders : List ℕ) → RarestEach v p orders → Ordered p orders
ordered v p orders r k h = (r k h).each
