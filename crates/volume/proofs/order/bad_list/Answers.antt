-- `order::bad_list` meets its contract: with no more falls than are allowed every list rises, and else the lists are walked. Assumes nothing.
use native.Mathlib.Omega.{arith}
use mathlib.Core.Path.{◌≡◌, sym, ◌∙◌}
use Prim.Native.Nat.{◌+◌}
use Rattle.volume.specs.Layout.{lead, list_count, extent}
use Rattle.volume.specs.Check.{bad_list}
use Rattle.seq.proofs.Laws.Numbers.{index-none}
use Rattle.volume.specs.Inner.Falls.{falls_before}
use Rattle.volume.proofs.Laws.Falls.{lists-rise}
use Rattle.volume.proofs.order.bad_list.Goals as goal

pub returns-then-head-list_falls : goal.returns-then-head-list_falls
returns-then-head-list_falls c =
    let p = c.requires in
    let v = c.args.whole.now.bytes.now in
    let head : falls_before v 0 + c.falls_from-head.result ≡ falls_before v (lead (list_count v))
    = rw (c.lead.ensures, p.lists_value) at c.falls_from-head.ensures.result_value in
    let tail : falls_before v (extent v) + c.falls_from-tail.result ≡ _ = rw p.used_value at c.falls_from-tail.ensures.result_value in
    let none = lists-rise v c.list_falls.result _ _ _ c.list_falls.ensures head tail (c.if-head-list_falls.true ∙ p.all_value) in
    sym (index-none (list_count v) (bad_list v) (omega arith))
