-- `pages::page_text` meets its contract: the rows that the call laid are those of the documents up to the one that comes next. Assumes nothing.
use native.Mathlib.Omega.{arith}
use Rattle.search.specs.Answers.{said_listed}
use Rattle.lister.proofs.Laws.Pages.{blank, IsTurn, is-turn}
use Rattle.lister.proofs.pages.page_text.Goals as goal
use Rattle.lister.proofs.pages.page_text.Goals.{After-list-listed}

-- the call's answer and its page, as a turn
turn : (c : After-list-listed)
    → let a = c.args in IsTurn a.volume.now a.plan.now a.start.doc a.start.tally a.width c.list-listed.new.out (said_listed c.list-listed.result)
unfolding blank
turn c =
    let a = c.args in
    is-turn a.volume.now a.plan.now a.start.doc a.start.tally a.width c.list-listed.new.out (said_listed c.list-listed.result) c.requires.width_value c.list-listed.ensures

pub answer_text-requires : goal.answer_text-requires
answer_text-requires c =
    let t = turn (goal.at.answer_text-requires c).After-list-listed in
    record {
      width_in_bounds = omega (arith, t.rows);
      tally_bound = omega (arith, c.requires.ready.0);
      width_in_bounds_2 = omega (arith, t.text, c.requires.ready.1);
    }

pub returns : goal.returns
returns c =
    let w = (turn (goal.at.returns c).After-list-listed).told c.requires.ready.0 (c.answer_text.ensures.told, c.answer_text.ensures.adds) in
    record { told = w.0; ahead = w.1 }
