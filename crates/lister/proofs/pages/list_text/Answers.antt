-- `pages::list_text` meets its contract: the line of a refusal, or the turn of a page. Assumes nothing.
use mathlib.Core.Path.{sym, ◌∙◌}
use Rattle.plan.specs.Answers.{code_of, at_of}
use Rattle.lister.proofs.Laws.Pages.{told-only, width_is, list-refused}
use Rattle.lister.proofs.pages.list_text.Goals as goal

pub page_text-requires : goal.page_text-requires
page_text-requires c = record {
  width_value = c.row_words-width.ensures ∙ width_is c.args.volume.now c.args.plan.now c.in-Ok.sizes (sym c.in-Ok.ensures);
  ready = c.requires;
}

pub returns-in-Ok : goal.returns-in-Ok
returns-in-Ok c = record {
  told = c.page_text.ensures.told;
  ahead = c.page_text.ensures.ahead;
}

pub returns-in-Err : goal.returns-in-Err
returns-in-Err c =
    let a = c.args in
    let s = a.start in
    let why = c.in-Err.why in
    let code = c.code_of.ensures in
    let w = told-only s.tally (rw (code.number_value, code.at_value) at c.put_refusal.ensures) in
    rw (list-refused a.volume.now a.plan.now s.doc s.tally (code_of why) (at_of why) (sym c.in-Err.ensures), c.last.ensures)
    (record { told = w.0; ahead = w.1 })
