-- `Sources::head_word` meets its contract: the counts of accepted volumes lie in their blocks, and those of a list add up to no more than
-- the joined stream holds. Assumes nothing.
use native.Mathlib.Omega.{arith}
use Prim.Native.Nat.{ℕ, ◌+◌, ◌-◌}
use mathlib.Core.Path.{◌≡◌, sym, ap, ap₂, ◌∙◌}
use Rattle.volume.specs.Layout.{entry}
use Rattle.volume.proofs.Laws.Check.{good}
use Rattle.join.specs.Inner.Reading.{head_word}
use Rattle.join.proofs.Laws.Stream.{head-count}
use Rattle.join.proofs.sources.Sources.head_word.Goals as goal

pub count_at-requires : goal.count_at-requires
count_at-requires c =
    let g = good c.args.self.now.first.now c.args.self.now.joinable.first in
    omega arith

pub count_at-requires-in_default : goal.count_at-requires-in_default
count_at-requires-in_default c =
    let g = good c.args.self.now.second.now c.args.self.now.joinable.second in
    let same = c.args.self.now.joinable.same in
    omega arith

pub overflow_add-result : goal.overflow_add-result
overflow_add-result c =
    let list = c.args.i - c.entry.result in
    let same = c.args.self.now.joinable.same in
    let one = (good c.args.self.now.first.now c.args.self.now.joinable.first).lists-within list (omega arith) in
    let two = (good c.args.self.now.second.now c.args.self.now.joinable.second).lists-within list (omega arith) in
    let fits = c.args.self.now.joinable.fits in
    omega arith

pub returns-in_default : goal.returns-in_default
returns-in_default c =
    let v = c.args.self.now.first.now in
    let w = c.args.self.now.second.now in
    let list = c.args.i - c.entry.result in
    let e : entry list ≡ c.args.i = omega arith in
    ap₂ (λ (m n : ℕ). m + n) c.count_at.ensures c.count_at-in_default.ensures
    ∙ sym (head-count v w list (omega arith))
    ∙ ap (head_word v w) e
