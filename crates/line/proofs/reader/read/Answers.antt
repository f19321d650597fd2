-- `reader::read` meets its contract: the first pass tells how many rows the line has, the second one stores them. Assumes nothing.
use borrow.Author.Rules.{rules}
use native.Mathlib.Omega.{arith}
use mathlib.Core.List.{[], ◌∷◌}
use Rattle.line.proofs.Laws.Call.{at-broken, at-deep, too_long_lem, refuses-broken, refuses-deep, too_many_lem, too_short, answers}
use Rattle.line.proofs.reader.read.Goals as goal

pub returns-then-text-gt2048 : goal.returns-then-text-gt2048
returns-then-text-gt2048 c =
    let a = c.args in
    let w = too_long_lem a.text.now a.out.now c.if-text-gt2048.true in
    record { result_value = w.0; out_after = w.1 }

pub overflow_cast-result : goal.overflow_cast-result
overflow_cast-result c =
    let h = at-broken c.args.text.now (0 ∷ []) c.read_rows.new.out _ (rw c.in-Err-Broken.field-0-is at c.in-Err-Broken.ensures) in
    search rules

pub overflow_cast-result-in-Err-Deep : goal.overflow_cast-result-in-Err-Deep
overflow_cast-result-in-Err-Deep c =
    let h = at-deep c.args.text.now (0 ∷ []) c.read_rows.new.out _ (rw c.in-Err-Deep.field-0-is at c.in-Err-Deep.ensures) in
    search rules

pub returns-then-rows-gt64 : goal.returns-then-rows-gt64
returns-then-rows-gt64 c =
    let a = c.args in
    let w = too_many_lem a.text.now a.out.now (omega arith) _ c.read_rows.new.out c.in-Ok.field-0 c.in-Ok.ensures c.if-rows-gt64.true in
    record { result_value = w.0; out_after = w.1 }

pub returns-then-out-rows : goal.returns-then-out-rows
returns-then-out-rows c =
    let a = c.args in
    let w = too_short a.text.now a.out.now (omega arith) _ c.read_rows.new.out c.in-Ok.field-0 c.in-Ok.ensures (omega arith) c.if-out-rows.true in
    record { result_value = w.0; out_after = w.1 }

pub returns-in-Err-Broken : goal.returns-in-Err-Broken
returns-in-Err-Broken c =
    let a = c.args in
    let w = refuses-broken a.text.now a.out.now (omega arith) (0 ∷ []) c.read_rows.new.out _ (rw c.in-Err-Broken.field-0-is at c.in-Err-Broken.ensures) in
    record { result_value = w.0; out_after = w.1 }

pub returns-in-Err-Deep : goal.returns-in-Err-Deep
returns-in-Err-Deep c =
    let a = c.args in
    let w = refuses-deep a.text.now a.out.now (omega arith) (0 ∷ []) c.read_rows.new.out _ (rw c.in-Err-Deep.field-0-is at c.in-Err-Deep.ensures) in
    record { result_value = w.0; out_after = w.1 }

pub returns-else-out-rows : goal.returns-else-out-rows
returns-else-out-rows c =
    let a = c.args in
    let s = c.read_rows-in-Ok in
    let w =
    answers a.text.now a.out.now (omega arith) _ c.read_rows.new.out c.in-Ok.field-0 c.in-Ok.ensures s.new.out s.result (omega arith) (omega arith)
    s.ensures in
    record { result_value = w.0; out_after = w.1 }
