-- Every search by the C functions, from the theorem of the crate `search`. No contract cites this file.
--     accepted     refusal 0 is an accepted plan
--     holds3       demand 3 holds of the structs
-- Assumes nothing.
use Prim.Native.Nat.{ℕ}
use native.Mathlib.Omega.{arith}
use mathlib.Core.Path.{◌≡◌}
use mathlib.Core.Logic.{⊎_elim}
use mathlib.Core.List.{List}
use Rattle.seq.specs.Refusals.{refused}
use Rattle.plan.specs.Check as plan
use Rattle.plan.proofs.Laws.CheckFirst.{check_sound}
use Rattle.plan.proofs.Laws.Stages.{plan-number}
use Rattle.search.specs.Demands.{Holds3}
use Rattle.search.proofs.Laws.Whole as whole
use Rattle.lihambozy.specs.Flat.{flat_plan}
use Rattle.lihambozy.specs.Search.{structs}
use Rattle.lihambozy.proofs.Laws.Heard.{heard-flat}

-- refusal 0 is an accepted plan
pub accepted : (v p : List ℕ) → (flat_plan (plan.verdict v p)).refusal ≡ 0 → plan.Accepted v p
accepted v p e = ⊎_elim (λ a. a) (λ (w : (n : ℕ) × (q : ℕ) × (plan.verdict v p ≡ refused n q)).
    let z : w.0 ≡ 0 = rw w.2 at e in
    let h = (plan-number v p w.0 w.1 ((check_sound v p).first w.0 w.1 w.2).applies.1).0 in
    absurd (let y : ⊥ = omega arith in y)) (check_sound v p).total

pub holds3 : (v p : List ℕ) → (flat_plan (plan.verdict v p)).refusal ≡ 0 → Holds3 structs v p
holds3 v p e = whole.holds3 structs v p (accepted v p e) (heard-flat v p)
