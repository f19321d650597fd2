-- What is set up before the documents are walked. No contract cites this file.
--     used-first, used-next     the lists of a plan's variables, variable by variable
--     used-within               all of them are lists of the volume
--     started-cursor            a cursor on a list, from the starts of the lists
--     voice-at, voice-few, voice-place     a variable, as its row in the plan names it
-- Assumes nothing.
use Prim.Native.Nat.{ℕ, ◌+◌, ◌-◌, ◌<◌, ◌≤◌, max}
use native.Mathlib.Omega.{arith}
use mathlib.Core.Path.{◌≡◌, refl, subst, ap, ap₂, ◌∙◌}
use mathlib.Core.List.{List}
use mathlib.Core.Logic.{⊎_elim}
use Rattle.seq.proofs.Laws.Tests.{below_or}
use Rattle.volume.specs.Layout.{list_count, start}
use Rattle.volume.proofs.Laws.Starts.{start-next}
use Rattle.plan.specs.Limits.{most_vars}
use Rattle.plan.specs.declared.outline.Outline.{Outline}
use Rattle.plan.specs.Check.{Accepted, sizes}
use Rattle.plan.specs.Inner.Outline.{vars_before, outline_at, Tabled}
use Rattle.plan.proofs.Laws.Outline.{vars-within, Outlined, outlined}
use Rattle.matcher.proofs.Laws.Placed.{Voiced, voiced, var-is, var-few}
use Rattle.matcher.specs.declared.cursor.Cursor.{Cursor}
use Rattle.matcher.specs.Inner.Cursors.{list_cursor}
use Rattle.matcher.specs.Inner.Tables.{var_at}
use Rattle.search.specs.Inner.Setup.{ListsUsed}
use Rattle.search.proofs.Laws.Tally.{var-there}

module _ (p : List ℕ) where
  pub used-first : ListsUsed p 0 0
  used-first = record { above = λ x h. absurd (let z : ⊥ = omega arith in z); least = λ m h. omega arith }

  -- the list of variable x, and those before it
  pub used-next : (x r list : ℕ) → ListsUsed p x r → list ≡ var_at p x → ListsUsed p (x + 1) (max r (list + 1))
  used-next x r list u e = record {
    above =
        λ y l. ⊎_elim
        (λ (b : y < x). let a = u.above y b in omega arith)
        (λ (b : x ≤ y). let q : y ≡ x = omega arith in rw q (omega arith))
        (below_or y x);
    least = λ m a. let b = a x (omega arith) in let c = u.least m (λ y l. a y (omega arith)) in omega arith;
  }

  pub used-within : (v : List ℕ) → Accepted v p → (r : ℕ) → ListsUsed p (sizes p).vars r → r ≤ list_count v
  used-within v accepted r u = u.least (list_count v) (var-there v p accepted)

pub started-cursor :
    (v : List ℕ) (list at end : ℕ)
    → at ≡ start v list → end ≡ start v (list + 1) → record { at = at; end = end } ≡ list_cursor v list
started-cursor v list at end a e = ap₂ (λ (i j : ℕ). let c : Cursor = record { at = i; end = j } in c) a (e ∙ start-next v list)

-- variable i of pattern k, as its row in the plan names it
module _ (v p : List ℕ) (accepted : Accepted v p) (table : List Outline) (tabled : Tabled p table) (k i : ℕ)
    (h : k < (sizes p).patterns) (l : i < (outline_at table k).vars) where
  here : Outlined p k (outline_at table k)
  here = outlined table tabled k h refl

  pub voice-at : Voiced v p (((outline_at table k).condition - (outline_at table k).vars) + i) (var_at p (vars_before p k + i))
  voice-at =
      subst (Voiced v p (((outline_at table k).condition - (outline_at table k).vars) + i))
      (var-is v p accepted (outline_at table k) here.there here.entry i l ∙ ap (λ (x : ℕ). var_at p (x + i)) here.first-is)
      (voiced v p accepted (outline_at table k) here.there here.entry.outlines i l)

  -- it has its place among those of the plan
  pub voice-few : (outline_at table k).first + i < most_vars
  voice-few = var-few v p accepted (outline_at table k) here.there here.entry i l

  pub voice-place : ((outline_at table k).first + i ≡ vars_before p k + i) × (vars_before p k + i < (sizes p).vars)
  voice-place =
      let f = here.first-is in
      let n = here.vars_are in
      let w = vars-within p k h in
      (omega arith, omega arith)
