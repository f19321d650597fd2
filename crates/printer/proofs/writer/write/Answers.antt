-- `writer::write` meets its contract: the verdict first. Assumes nothing.
use mathlib.Core.Path.{ap, sym, ◌∙◌}
use Rattle.std.proofs.lemmas.Result.{err_from_is_err_and}
use Rattle.seq.specs.Refusals.{answered}
use Rattle.plan.proofs.Laws.Check.{verdict-sizes}
use Rattle.printer.proofs.Laws.Writer.{write-refused, write-whole}
use Rattle.printer.proofs.writer.write.Goals as goal

pub write_line-requires : goal.write_line-requires
write_line-requires c =
    let a = c.args in
    let e = sym c.in_ok-check.ensures in
    (a.volume.now, e ∙ ap answered (verdict-sizes a.volume.now a.plan.now _ e))

pub returns-in_err-check : goal.returns-in_err-check
returns-in_err-check c =
    let a = c.args in
    let p = err_from_is_err_and c.from_residual.result c.from_residual.ensures.1 in
    let w = write-refused a.volume.now a.plan.now a.out.now c.in_err-check.field-0.0 (sym c.in_err-check.ensures) in
    rw (p.1, p.2) (record { result_value = w.0; out_after = w.1 })

pub returns : goal.returns
returns c =
    let a = c.args in
    let w = write-whole a.volume.now a.plan.now a.out.now (sym c.in_ok-check.ensures) c.write_line.ensures in
    record { result_value = w.0; out_after = w.1 }
