use native.Mathlib.Omega.{arith}
use Prim.Native.Nat.{◌+◌, ◌*◌, ◌/◌}
use native.Mathlib.Nat.{sub-zero}
use mathlib.Core.Path.{◌≡◌, refl, sym, ap, ◌∙◌}
use mathlib.Core.Bool.{false}
use lib.ListN.{length}
use Rattle.std.specs.Prelude.{Ok}
use Rattle.std.proofs.lemmas.Result.{err_from_is_err_and}
use Rattle.seq.specs.Numbers.{first_from, sum_to}
use Rattle.seq.proofs.Laws.Numbers.{first_hit, first_miss, first-end, sum_step}
use Rattle.volume.specs.Layout.{word}
use Rattle.volume.specs.Check.{block_wrong, bad_block}
use Rattle.volume.specs.Inner.Falls.{fall, falls_before}
use Rattle.volume.proofs.Laws.Check.{blocks_wrong-true, blocks_wrong-false}
use Rattle.volume.proofs.Laws.Pass.{block-right, block-refused, pass_refused, pass_done}
use Rattle.volume.proofs.blocks.check_blocks.Goals as goal

pub loop-k-init : goal.loop-k-init
unfolding sum_to
loop-k-init c = record { few = omega arith; counted = refl; search = ap (first_from (block_wrong _) 0) (sub-zero _) }

pub loop-k-preserved : goal.loop-k-preserved
loop-k-preserved c =
    let l = c.loop-k in
    let v = c.args.whole.now.bytes.now in
    let right : block_wrong v l.k ≡ false = block-right v l.k _ c.in_ok-check_block.ensures in
    let inside : falls_before v (126 * l.k) + c.falls_in.result ≡ falls_before v (126 * l.k + 125) = c.falls_in.ensures.result_value in
    let last : falls_before v (126 * l.k + 125 + 1) ≡ falls_before v (126 * l.k + 125) + fall (word v) (126 * l.k + 125) = sum_step (fall (word v)) (126 * l.k + 125) in
    let next : 126 * (l.k + 1) ≡ 126 * l.k + 125 + 1 = omega arith in
    record {
      few = omega arith;
      counted = rw next (omega arith);
      search = sym (first_miss (block_wrong v) l.k (length v / 512) c.loop-k-test.true right) ∙ l.invariant.search;
    }

pub returns-in_err-check_block : goal.returns-in_err-check_block
returns-in_err-check_block c =
    let l = c.loop-k in
    let v = c.args.whole.now.bytes.now in
    let p = err_from_is_err_and c.from_residual.result c.from_residual.ensures.1 in
    let w = block-refused v l.k _ c.in_err-check_block.ensures in
    let bad : bad_block v ≡ l.k = sym l.invariant.search ∙ first_hit (block_wrong v) l.k (length v / 512) c.loop-k-test.true w.0 in
    rw (p.1, p.2, w.1, ← bad) (sym (pass_refused v (blocks_wrong-true v (omega arith))))

pub returns : goal.returns
returns c =
    let l = c.loop-k in
    let v = c.args.whole.now.bytes.now in
    let bad = sym l.invariant.search ∙ first-end (block_wrong v) l.k (length v / 512) c.loop-k-test.false in
    let e : l.k ≡ length v / 512 = omega arith in
    rw (pass_done v (blocks_wrong-false v (omega arith))) (ap Ok (rw e at l.invariant.counted))
