use native.Mathlib.Omega.{arith}
use native.Mathlib.Nat.{suc-mul, mul-le-mul_right}
use Prim.Native.Nat.{ℕ, ◌+◌, ◌-◌, ◌*◌, ◌<◌, ◌≤◌}
use mathlib.Core.Path.{◌≡◌, refl, ◌∙◌}
use mathlib.Core.List.{List}
use lib.ListN.{length, take, drop}
use Rattle.seq.specs.Lists.{joined}
use Rattle.seq.specs.Numbers.{run}
use Rattle.block.specs.Bytes.{IsWords}
use Rattle.lister.specs.Text.{line, scene_word}
use Rattle.lister.specs.Inner.Pages.{row_lines}
use Rattle.lister.proofs.Laws.Stored.{stored-none, pieces_room, pieces_more}
use Rattle.lister.proofs.Laws.Lengths.{rows_short}
use Rattle.lister.proofs.text.Text.put_rows.Invariants.{piece}
use Rattle.lister.proofs.text.Text.put_rows.Goals as goal
use Rattle.lister.proofs.text.Text.put_rows.Goals.{Start, In-loop-i}

-- row i is the part of the page that starts where i rows end
row-part : (width : ℕ) (page : List ℕ) (i : ℕ) → line scene_word (take (i * width + width - i * width) (drop (i * width) page)) ≡ piece width page i
row-part width page i = let l : i * width + width - i * width ≡ width = omega arith in rw l refl

-- and ends inside those that n rows take
row_within : (width i n : ℕ) → i < n → i * width + width ≤ n * width
row_within width i n h = rw (← suc-mul i width) (mul-le-mul_right width h)

-- the lines are no longer than 32-bit words allow, so there is room for all
room : (c : Start) → IsWords c.args.page.now → let a = c.args in a.self.now.end + length (joined (run (piece a.width a.page.now) 0 a.n)) ≤ length a.self.now.out.now
unfolding row_lines
room c words = omega (arith, rows_short c.args.width c.args.page.now c.args.n words, c.requires.width_in_bounds_2)

-- the row that is next lies in the page
within : (c : In-loop-i) → c.loop-i.i * c.args.width + c.args.width ≤ length c.args.page.now
within c = omega (arith, row_within c.args.width c.loop-i.i c.args.n c.loop-i-test.true, c.requires.width_in_bounds)

pub loop-i-init : goal.loop-i-init
unfolding joined run
loop-i-init c = let s = c.args.self.now in (stored-none s.out.now s.end (omega arith), refl)

pub overflow_mul-first : goal.overflow_mul-first
overflow_mul-first c = omega (arith, within (goal.at.overflow_mul-first c).In-loop-i)

pub overflow_add-first : goal.overflow_add-first
overflow_add-first c = omega (arith, within (goal.at.overflow_add-first c).In-loop-i)

pub offset_bounds-page-first : goal.offset_bounds-page-first
offset_bounds-page-first c = omega (arith, within (goal.at.offset_bounds-page-first c).In-loop-i)

pub slice_bounds-put_row-count : goal.slice_bounds-put_row-count
slice_bounds-put_row-count c = omega (arith, within (goal.at.slice_bounds-put_row-count c).In-loop-i)

pub slice_bounds-put_row-start : goal.slice_bounds-put_row-start
slice_bounds-put_row-start c = omega (arith, within (goal.at.slice_bounds-put_row-start c).In-loop-i)

pub slice_bounds-put_row-end : goal.slice_bounds-put_row-end
slice_bounds-put_row-end c = omega (arith, within (goal.at.slice_bounds-put_row-end c).In-loop-i)

pub put_row-requires : goal.put_row-requires
put_row-requires c =
    let l = c.loop-i in
    let w = c.args.width in
    rw (row-part w c.args.page.now l.i) (pieces_room (piece w c.args.page.now) {n = c.args.n} (room (goal.at.put_row-requires c).Start (λ i. omega (arith, c.type_inv.page i))) (omega arith) l.invariant.0)

pub loop-i-preserved : goal.loop-i-preserved
loop-i-preserved c =
    let l = c.loop-i in
    let w = c.args.width in
    let p = rw (row-part w c.args.page.now l.i) at c.put_row.ensures in
    (pieces_more (piece w c.args.page.now) l.invariant.0 p.added, p.same ∙ l.invariant.1)

pub returns : goal.returns
unfolding row_lines
returns c =
    let l = c.loop-i in
    let e : l.i ≡ c.args.n = omega arith in
    let all = rw e at l.invariant.0 in
    record {
      added = all;
      upper_bound = omega (arith, all.behind, rows_short c.args.width c.args.page.now c.args.n (λ i. omega (arith, c.type_inv.page i)));
      same = l.invariant.1;
    }
