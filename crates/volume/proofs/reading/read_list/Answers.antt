-- `reading::read_list` meets its contract: the volume's verdict first, then the list's number and the room. Assumes nothing.
use native.Mathlib.Omega.{arith}
use Prim.Native.Nat.{ℕ, ◌+◌, ◌*◌, ◌/◌, ◌<◌, ◌≤◌}
use mathlib.Core.Path.{◌≡◌, sym, ap, ap₂, ◌∙◌}
use mathlib.Core.List.{◌++◌}
use lib.ListN.{length, drop}
use Rattle.std.proofs.lemmas.Result.{err_from_is_err_and}
use Rattle.seq.specs.Numbers.{run}
use Rattle.seq.specs.Refusals.{answered}
use Rattle.volume.specs.Answers.{Sizes}
use Rattle.volume.specs.Layout.{word, list_count, count, start}
use Rattle.volume.specs.declared.layout.ListSpan.{ListSpan}
use Rattle.volume.specs.Check.{verdict}
use Rattle.volume.proofs.Laws.Check.{good, accepted_by, sizes_are}
use Rattle.volume.proofs.Laws.Read.{read-volume, read_none, read_short, read_answer_lem, read_kept, read-laid}
use Rattle.volume.proofs.reading.read_list.Goals as goal
use Rattle.volume.proofs.reading.read_list.Goals.{After-list_span-span, In_ok-sizes}

-- the sizes that the check told
abbrev found : (c : In_ok-sizes) → Sizes
found c = record { lists = c.in_ok-sizes.sizes.lists; postings = c.in_ok-sizes.sizes.postings }

told : (c : In_ok-sizes) → verdict c.args.volume.now ≡ answered (found c)
told c = sym c.in_ok-sizes.ensures

-- its count, and where it starts
count-is : (c : After-list_span-span) → c.list_span-span.result.count ≡ count c.args.volume.now c.args.list
count-is c = ap (λ (s : ListSpan). s.count) c.list_span-span.ensures

start_is : (c : After-list_span-span) → c.list_span-span.result.start ≡ start c.args.volume.now c.args.list
start_is c = ap (λ (s : ListSpan). s.start) c.list_span-span.ensures

-- the list lies in the blocks of the volume
within : (c : After-list_span-span) →
    record {
      inside : c.list_span-span.result.start + c.list_span-span.result.count ≤ 126 * (length c.args.volume.now / 512);
      small : c.list_span-span.result.count ≤ 1032192;
    }
within c =
    let a = c.args in
    let v = a.volume.now in
    let t : verdict v ≡ answered (record { lists = c.in_ok-sizes.sizes.lists; postings = c.in_ok-sizes.sizes.postings }) = sym c.in_ok-sizes.ensures in
    let g = good v (accepted_by v _ t) in
    let z = ap (λ (s : Sizes). s.lists) (sizes_are v _ t) in
    let l : a.list < list_count v = omega arith in
    let w = g.lists-within a.list l in
    let n = count-is c in
    let s = start_is c in
    record { inside = omega arith; small = omega arith }

pub returns-in_err-sizes : goal.returns-in_err-sizes
returns-in_err-sizes c =
    let a = c.args in
    let p = err_from_is_err_and c.from_residual.result c.from_residual.ensures.1 in
    let e = read-volume a.volume.now a.list (length a.out.now) _ c.in_err-sizes.ensures in
    record {
      result_value = rw (p.1, p.2) e;
      out_after = sym (read_kept a.volume.now a.list a.out.now _ _ (sym e));
    }

pub returns-then-sizes-list : goal.returns-then-sizes-list
returns-then-sizes-list c =
    let a = c.args in
    let e = read_none a.volume.now a.list (length a.out.now) _ (told (goal.at.returns-then-sizes-list c).In_ok-sizes) (omega arith) in
    record {
      result_value = sym e;
      out_after = sym (read_kept a.volume.now a.list a.out.now 17 0 e);
    }

pub list_span-span-requires : goal.list_span-span-requires
list_span-span-requires c =
    let v = c.args.volume.now in
    let t = told (goal.at.list_span-span-requires c).In_ok-sizes in
    record {
      accepted = accepted_by v _ t;
      list_bound = let z = ap (λ (s : Sizes). s.lists) (sizes_are v _ t) in omega arith;
    }

pub returns-then-out-n : goal.returns-then-out-n
returns-then-out-n c =
    let a = c.args in
    let n = count-is (goal.at.returns-then-out-n c).After-list_span-span in
    let e = read_short a.volume.now a.list (length a.out.now) _ (told (goal.at.returns-then-out-n c).In_ok-sizes) (omega arith) (omega arith) in
    record {
      result_value = sym e;
      out_after = sym (read_kept a.volume.now a.list a.out.now 16 0 e);
    }

pub copy_postings-requires : goal.copy_postings-requires
copy_postings-requires c = let w = within (goal.at.copy_postings-requires c).After-list_span-span in record { n_bound = omega arith; n_in_bounds = omega arith }

pub overflow_cast-result : goal.overflow_cast-result
overflow_cast-result c = let w = within (goal.at.overflow_cast-result c).After-list_span-span in omega arith

pub returns : goal.returns
returns c =
    let a = c.args in
    let v = a.volume.now in
    let span = (goal.at.returns c).After-list_span-span in
    let n = count-is span in
    let e = read_answer_lem v a.list (length a.out.now) _ (told (goal.at.returns c).In_ok-sizes) (omega arith) (omega arith) in record {
      result_value = ap answered n ∙ sym e;
      out_after = c.copy_postings.ensures
          ∙ ap₂ (λ (s m : ℕ). run (word v) s m ++ drop m a.out.now) (start_is span) n ∙ sym (read-laid v a.list a.out.now _ e);
    }
