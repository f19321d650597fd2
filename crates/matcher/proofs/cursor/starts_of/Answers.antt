-- `cursor::starts_of` meets its contract: an accepted volume has a list 0. Assumes nothing.
use Rattle.volume.proofs.Laws.Check.{good}
use Rattle.matcher.proofs.cursor.starts_of.Goals as goal

pub list_cursor-requires : goal.list_cursor-requires
list_cursor-requires c = (good _ c.args.volume.now.accepted).lists-some

pub returns : goal.returns
returns c = c.list_cursor.ensures
