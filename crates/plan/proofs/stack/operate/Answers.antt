-- `stack::operate` meets its contract: its bits are those of the operator on the answers. Assumes nothing.
use native.Mathlib.Nat.{one-mul}
use native.Mathlib.Omega.{arith}
use Prim.Native.Nat.{ℕ, ◌+◌, ◌-◌, ◌*◌, ◌^◌, ◌/◌, ◌%◌, ◌<◌, ◌≤◌}
use mathlib.Core.Path.{◌≡◌, refl, sym, ap, subst, ◌∙◌}
use mathlib.Core.Bool.{Bool, true, false}
use lib.Dec.{lit<}
use lib.Pow.{pow_pos, pow_mono, shl_exact, shr_lt}
use lib.Bits.{bit_and, and_mask}
use mir.Val.{bool_byte}
use Rattle.plan.specs.declared.row.Operator.{Operator}
use Rattle.plan.specs.declared.row.Kind.TheVariants as kind
use Rattle.plan.specs.Rows.{InRange}
use Rattle.plan.specs.State.{takes}
use Rattle.plan.specs.Inner.Stack.{flag_of, joins}
use Rattle.plan.proofs.Laws.State.{takes-some, takes-few}
use Rattle.plan.proofs.Laws.Stack.{operated, operated_bits}
use Rattle.plan.proofs.stack.operate.Goals as goal

-- the mask of the answers that are taken
mask : (n k : ℕ) → k ≤ 8 → bit_and n ((1 * 2 ^ k) % 4294967296 - 1) ≡ n % 2 ^ k
mask n k h = ap (λ (m : ℕ). bit_and n (m - 1)) (shl_exact 1 k 32 (lit< tt) (omega arith) ∙ one-mul (2 ^ k)) ∙ and_mask n k

-- the answers below those that are taken
rest_lt : (n k : ℕ) → n < 4294967296 → 2 ≤ k → k ≤ 8 → n / 2 ^ k < 1073741824
rest_lt n k h l m =
    let e : 32 - k + k ≡ 32 = omega arith in
    let s : 2 ^ (32 - k) ≤ 1073741824 = pow_mono {i = 32 - k} {j = 30} (omega arith) in
    let b : n / 2 ^ k < 2 ^ (32 - k) = shr_lt (32 - k) k (subst (λ (j : ℕ). n < 2 ^ j) (sym e) h) in
    omega arith

-- an operator takes two answers to eight
few : (o : Operator) (n : ℕ) → n ≡ takes o → InRange (kind.Operator o) → n ≤ 8
few o n e h = rw e (takes-few o h)

-- the answers below are few enough for one more
small : (o : Operator) (n stack : ℕ) → n ≡ takes o → InRange (kind.Operator o) → stack < 4294967296 → stack / 2 ^ n < 1073741824
small o n stack e h l = rest_lt stack n l (rw e (takes-some o h)) (few o n e h)

byte-flag : (t : Bool) → bool_byte t ≡ flag_of t
byte-flag true = refl
byte-flag false = refl

byte-le : (t : Bool) → bool_byte t ≤ 1
byte-le true = omega arith
byte-le false = omega arith

pub overflow_shl-taken : goal.overflow_shl-taken
overflow_shl-taken c = omega (arith, few _ _ c.takes-count.ensures c.requires)

pub overflow_sub-taken : goal.overflow_sub-taken
overflow_sub-taken c =
    let k = c.takes-count.result in
    rw (shl_exact 1 k 32 (lit< tt) (omega (arith, few _ _ c.takes-count.ensures c.requires)) ∙ one-mul (2 ^ k)) (pow_pos k)

pub overflow_shr-result : goal.overflow_shr-result
overflow_shr-result c = omega (arith, few _ _ c.takes-count.ensures c.requires)

pub overflow_mul-result : goal.overflow_mul-result
overflow_mul-result c = omega (arith, small _ _ c.args.stack c.takes-count.ensures c.requires (omega arith))

pub overflow_add-result : goal.overflow_add-result
overflow_add-result c = rw c.from.ensures (omega (arith, small _ _ c.args.stack c.takes-count.ensures c.requires (omega arith), byte-le c.joins.result))

pub returns : goal.returns
returns c = λ ts h e.
    let a = c.args in
    let k = c.takes-count.result in
    let rest = a.stack / 2 ^ k * 2 in
    ap (λ (n : ℕ). rest + n) (c.from.ensures ∙ byte-flag c.joins.result)
    ∙ ap (λ (b : Bool). rest + flag_of b) (c.joins.ensures ∙ ap (joins a.operator) (mask a.stack k (few _ _ c.takes-count.ensures c.requires)))
    ∙ ap (λ (j : ℕ). a.stack / 2 ^ j * 2 + flag_of (joins a.operator (a.stack % 2 ^ j))) c.takes-count.ensures
    ∙ ap (operated a.operator) e
    ∙ operated_bits a.operator ts h
