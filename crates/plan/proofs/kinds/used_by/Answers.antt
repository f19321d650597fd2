-- `kinds::used_by` meets its contract: the rule of the table, at this kind. Assumes nothing.
use native.Mathlib.Omega.{arith}
use Prim.Native.Nat.{ℕ, ◌+◌, ◌-◌}
use mathlib.Core.Path.{◌≡◌, ap, ◌∙◌}
use Rattle.plan.specs.Rows.{kind_of, uses_of}
use Rattle.plan.proofs.Laws.Kinds.{table_at}
use Rattle.plan.proofs.kinds.used_by.Goals as goal

pub returns : goal.returns
returns c =
    let k = c.args.kind in
    let back : k - 1 + 1 ≡ k = omega arith in
    λ a b limit. table_at a b limit (k - 1) (omega arith) ∙ ap (λ (j : ℕ). uses_of (kind_of j a b limit)) back
