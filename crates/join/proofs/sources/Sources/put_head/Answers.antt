use native.Mathlib.Omega.{arith}
use Prim.Native.Nat.{ℕ}
use mathlib.Core.Path.{◌≡◌, sym, ap, ◌∙◌}
use mathlib.Core.List.{List}
use lib.ListN.{set}
use Rattle.volume.proofs.Laws.Check.{good}
use Rattle.join.specs.Inner.Reading.{head_word}
use Rattle.join.proofs.Laws.Made.{made_none, made_more}
use Rattle.join.proofs.sources.Sources.put_head.Goals as goal

pub lead-requires : goal.lead-requires
lead-requires c =
    let g = good c.args.self.now.first.now c.args.self.now.joinable.first in
    omega arith

pub loop-j-init : goal.loop-j-init
loop-j-init c =
    let a = c.args in
    sym (made_none (head_word a.self.now.first.now a.self.now.second.now) a.from 0 a.words.now)

pub loop-j-preserved : goal.loop-j-preserved
loop-j-preserved c =
    let l = c.loop-j in
    let a = c.args in
    let f = head_word a.self.now.first.now a.self.now.second.now in
    let x = c.head_word.result in
    ap (λ (xs : List ℕ). set xs l.j x) l.invariant
    ∙ made_more f a.from 0 a.words.now l.j l.j x (omega arith) (omega arith) c.head_word.ensures

pub returns : goal.returns
returns c =
    let j : c.loop-j.j ≡ c.min-head.result = omega arith in
    record {
      value = omega arith;
      words_after = rw j at c.loop-j.invariant;
    }
