use Prim.Native.Nat.{ℕ, ◌+◌, ◌*◌, ◌-◌, ◌<◌, ◌≤◌}
use native.Mathlib.Nat.{sub-zero}
use native.Mathlib.Omega.{arith}
use mathlib.Core.Path.{◌≡◌, refl, sym, ap, ◌∙◌}
use mathlib.Core.List.{List}
use lib.ListN.{length, take, drop, length-take, length-drop}
use Rattle.seq.proofs.Laws.Numbers.{length_run}
use Rattle.volume.specs.Layout.{blocks_for}
use Rattle.volume.proofs.Laws.Check.{good}
use Rattle.volume.proofs.Laws.Storing.{laying-first, laying_again, laying-done}
use Rattle.join.specs.Refusals.{extent_of_both}
use Rattle.join.specs.Inner.Reading.{joined_word}
use Rattle.join.proofs.Laws.Blocks.{stands-first}
use Rattle.join.proofs.joining.put_joined.Goals as goal
use Rattle.join.proofs.joining.put_joined.Goals.{After-next_block-merge}

-- a block that is left has words, there are not more than 8,192 blocks, and one is of 512 bytes
more-words : (e n k : ℕ) → n ≡ blocks_for e → k < n → 126 * k < e
more-words e n k i h = omega arith

most-blocks : (e n : ℕ) → n ≡ blocks_for e → e ≤ 1032192 → n ≤ 8192
most-blocks e n i h = omega arith

block-long : (xs : List ℕ) (k : ℕ) → 512 * k + 512 ≤ length xs → length (take (512 * k + 512 - 512 * k) (drop (512 * k) xs)) ≡ 512
block-long xs k h = simp (length-take, length-drop) (omega arith)

pub front-merge-requires : goal.front-merge-requires
front-merge-requires c =
    let g = good c.args.sources.now.first.now c.args.sources.now.joinable.first in
    let e = c.args.sources.now.lists_are in
    omega arith

pub loop-k-init : goal.loop-k-init
loop-k-init c =
    let a = c.args in
    let room = c.requires.n_in_bounds in (
      laying-first _ _ _ _ (omega arith) (omega arith),
      stands-first a.sources.now.lift a.sources.now.first.now a.sources.now.second.now c.args.sources.now.joinable _ a.sources.now.lists c.front-merge.ensures c.args.sources.now.lists_are,
      refl,
    )

pub next_block-merge-requires : goal.next_block-merge-requires
next_block-merge-requires c =
    let n = c.requires.n_value in
    let more = more-words (extent_of_both c.args.sources.now.first.now c.args.sources.now.second.now) c.args.n c.loop-k.k n c.loop-k-test.true in
    record {
      stands_before = c.loop-k.invariant.1;
      k_bound = more;
      words_len = c.loop-k.invariant.2;
    }

-- a block has 126 words
long : (c : After-next_block-merge) → length c.next_block-merge.new.words ≡ 126
long c = ap length c.next_block-merge.ensures.words_after ∙ length_run _ _ 126

pub slice_bounds-put_made-end : goal.slice_bounds-put_made-end
slice_bounds-put_made-end c = sym (long (goal.at.slice_bounds-put_made-end c).After-next_block-merge)

pub put_made-requires : goal.put_made-requires
put_made-requires c =
    let most = most-blocks (extent_of_both c.args.sources.now.first.now c.args.sources.now.second.now) c.args.n c.requires.n_value c.args.sources.now.joinable.fits in
    let room = c.loop-k.invariant.0.room in
    let same = c.loop-k.invariant.0.same in
    let more = c.loop-k-test.true in
    record {
      words_len = long (goal.at.put_made-requires c).After-next_block-merge;
      k_bound = omega (arith, most, more);
      out_len = block-long c.loop-k.out c.loop-k.k (omega (arith, room, same, more));
    }

pub loop-k-preserved : goal.loop-k-preserved
loop-k-preserved c =
    let a = c.args in
    let f = joined_word a.sources.now.lift a.sources.now.first.now a.sources.now.second.now in
    let next = c.next_block-merge.ensures in (
      laying_again f 0 a.n a.out.now c.loop-k.out _ c.loop-k.k c.loop-k.invariant.0 c.loop-k-test.true
          (c.put_made.ensures f next.words_after) (omega arith),
      next.stands_before_2,
      long (goal.at.loop-k-preserved c).After-next_block-merge,
    )

pub returns : goal.returns
returns c =
    rw (sub-zero c.args.n) at (laying-done _ 0 c.args.n c.args.out.now _ c.loop-k.k c.loop-k.invariant.0 c.loop-k-test.false)
