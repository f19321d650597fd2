-- `pages::turn_text` meets its contract: the line `file too long`, or the turn over the volume and the words of the plan file. Assumes nothing.
use native.Mathlib.Omega.{arith}
use Rattle.std.proofs.Common.{rules}
use mathlib.Core.Path.{sym, ap, ◌∙◌}
use lib.ListN.{length}
use Rattle.lister.proofs.Laws.Stored.{stored-front}
use Rattle.lister.proofs.Laws.Files.{words-most}
use Rattle.lister.proofs.Laws.Pages.{told-only, told-lent, turn-long, turn-short}
use Rattle.lister.proofs.pages.turn_text.Goals as goal

pub returns-then-volume-gt-VOLUME : goal.returns-then-volume-gt-VOLUME
returns-then-volume-gt-VOLUME c =
    let a = c.args in
    let w = told-only a.start.tally c.put_bytes.ensures.added in
    rw (turn-long a.volume.now a.file.now a.start.doc a.start.tally (omega arith), c.last.ensures)
    (record { told = told-lent (search rules) w.0; ahead = w.1 })

pub slice_bounds-words-end : goal.slice_bounds-words-end
slice_bounds-words-end c = let p = c.plan_words-n.ensures in omega (arith, (stored-front p).0, words-most c.args.file.now)

pub slice_bounds-list_text-end : goal.slice_bounds-list_text-end
slice_bounds-list_text-end c = let p = c.plan_words-n.ensures in (stored-front p).0 ∙ sym (ap length (stored-front p).1)

pub list_text-requires : goal.list_text-requires
list_text-requires c = c.requires

pub returns : goal.returns
returns c =
    let a = c.args in
    let words = (stored-front c.plan_words-n.ensures).1 in
    rw (turn-short a.volume.now a.file.now a.start.doc a.start.tally (omega arith))
    (record { told = rw words at c.list_text.ensures.told; ahead = c.list_text.ensures.ahead })
