-- `writer::write_line` meets its contract: the first pass tells how many bytes the line has, the second one stores them. Assumes nothing.
use native.Mathlib.Omega.{arith}
use Prim.Native.Nat.{ℕ, ◌-◌}
use mathlib.Core.List.{List}
use mathlib.Core.Path.{sym, subst}
use Rattle.std.proofs.Common.{rules, ◌≡◌, Result}
use Rattle.printer.specs.declared.answers.WriteError.{WriteError}
use Rattle.printer.specs.Inner.Trees.{LineWritten}
use Rattle.printer.proofs.Laws.Writer.{plan-some, plan-room, plan-short, plan-put, line-short, line-whole}
use Rattle.printer.proofs.writer.write_line.Goals as goal

-- the same bytes afterwards
line-lent : {p out : List ℕ} {r : Result ℕ WriteError} {x y : List ℕ} → x ≡ y → LineWritten p out r y → LineWritten p out r x
line-lent {p} {out} {r} e w = subst (λ (l : List ℕ). LineWritten p out r l) (sym e) w

pub overflow_sub-last : goal.overflow_sub-last
overflow_sub-last c =
    let a = c.args in
    let v = c.requires.0 in
    let ok = c.requires.1 in
    plan-some v a.plan.now ok

pub put_tree-requires : goal.put_tree-requires
put_tree-requires c =
    let a = c.args in
    let v = c.requires.0 in
    let ok = c.requires.1 in
    plan-room v a.plan.now ok 2048 (plan-short v a.plan.now ok)

pub overflow_sub-bytes : goal.overflow_sub-bytes
overflow_sub-bytes c =
    let a = c.args in
    let v = c.requires.0 in
    let ok = c.requires.1 in
    let counted = (plan-put v a.plan.now ok c.put_tree.ensures.put).ends in
    omega arith

pub returns-then-out-bytes : goal.returns-then-out-bytes
returns-then-out-bytes c =
    let a = c.args in
    let v = c.requires.0 in
    let ok = c.requires.1 in
    let counted = (plan-put v a.plan.now ok c.put_tree.ensures.put).ends in
    line-short a.plan.now a.out.now (omega (arith, c.if-out-bytes.true))

pub put_tree-requires-2 : goal.put_tree-requires-2
put_tree-requires-2 c =
    let a = c.args in
    let v = c.requires.0 in
    let ok = c.requires.1 in
    let counted = (plan-put v a.plan.now ok c.put_tree.ensures.put).ends in
    plan-room v a.plan.now ok (2048 - c.put_tree.new.text.at) (omega arith)

pub returns : goal.returns
returns c =
    let a = c.args in
    let v = c.requires.0 in
    let ok = c.requires.1 in
    let counted = (plan-put v a.plan.now ok c.put_tree.ensures.put).ends in
    let put = plan-put v a.plan.now ok c.put_tree-2.ensures.put in
    line-lent (search rules) (line-whole a.plan.now a.out.now (omega arith) (omega (arith, c.if-out-bytes.false)) put)
