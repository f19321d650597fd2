-- `pages::answer_text` meets its contract, answer by answer. Assumes nothing.
use native.Mathlib.Omega.{arith}
use Rattle.std.proofs.Common.{rules}
use Rattle.lister.proofs.Laws.Stored.{stored-size}
use Rattle.lister.proofs.Laws.Pages.{told-only, told-done, told_more, told-lent}
use Rattle.lister.proofs.pages.answer_text.Goals as goal

pub put_rows-requires : goal.put_rows-requires
put_rows-requires c =
    let e = c.in-Ok.is in
    record {
      width_in_bounds = rw e at c.requires.width_in_bounds;
      width_in_bounds_2 = omega (arith, rw e at c.requires.width_in_bounds_2);
    }

pub put_done-requires : goal.put_done-requires
put_done-requires c =
    let rows = c.put_rows.ensures in
    omega (arith, rw c.in-Ok.is at c.requires.width_in_bounds_2, rows.upper_bound, stored-size rows.added)

pub returns-in-Some : goal.returns-in-Some
returns-in-Some c =
    let w = told_more c.args.tally c.in-Ok.listing.tally c.in-Some.doc (omega arith) c.put_rows.ensures.added in
    rw (c.in-Ok.is, c.in-Some.is, c.from.ensures) (record { told = told-lent (search rules) w.0; adds = w.1 })

pub returns-in-None : goal.returns-in-None
returns-in-None c =
    let w = told-done c.args.tally c.in-Ok.listing.tally c.put_rows.ensures.added (rw c.from.ensures at c.put_done.ensures.added) in
    rw (c.in-Ok.is, c.in-None.is, c.last.ensures) (record { told = told-lent (search rules) w.0; adds = w.1 })

pub returns-in-Err : goal.returns-in-Err
returns-in-Err c =
    let w = told-only c.args.tally c.put_refusal.ensures in
    rw (c.in-Err.is, c.code_of.ensures, c.last-in-Err.ensures) (record { told = w.0; adds = w.1 })
