use Prim.Native.Nat.{ℕ, ◌+◌, ◌-◌}
use native.Mathlib.Omega.{arith}
use mathlib.Core.Path.{◌≡◌, ap, ◌∙◌}
use mathlib.Core.List.{List}
use lib.ListN.{length, get_or, take, drop, length-drop}
use lib.Seq.{get_or-take, length-take-le}
use Rattle.std.proofs.lemmas.List.{get_or-drop}
use Rattle.matcher.proofs.Laws.Shortfall.{largest-first, largest-next}
use Rattle.matcher.proofs.predicates.largest_of.Goals as goal

-- the positions behind the first
behind-many : (ps : List ℕ) → length (take (length ps - 1) (drop 1 ps)) ≡ length ps - 1
behind-many ps = let e = length-drop 1 ps in length-take-le (length ps - 1) (drop 1 ps) (omega arith)

pub loop-p-init : goal.loop-p-init
loop-p-init c = largest-first _

pub loop-p-preserved : goal.loop-p-preserved
loop-p-preserved c =
    let l = c.loop-p in
    let i = l.p-index in
    let ps = c.args.positions.now in
    let n = behind-many ps in
    let t = c.loop-p-test.true in
    let e : get_or (take (length ps - 1) (drop 1 ps)) i 0 ≡ get_or ps (i + 1) 0 =
    get_or-take (length ps - 1) (drop 1 ps) i 0 (omega arith) ∙ get_or-drop 1 ps i 0 ∙ ap (λ (j : ℕ). get_or ps j 0) (let q : 1 + i ≡ i + 1 = omega arith in q) in
    rw (c.max-largest.ensures, e) (largest-next ps (i + 1) l.largest l.invariant)

pub returns : goal.returns
returns c =
    let l = c.loop-p in
    let n = behind-many c.args.positions.now in
    let t = c.loop-p-test.false in
    let a = l.auto in
    let r = c.requires in
    let e : l.p-index + 1 ≡ length c.args.positions.now = omega arith in
    rw e at l.invariant
