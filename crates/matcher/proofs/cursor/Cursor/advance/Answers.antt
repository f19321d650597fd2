use Rattle.matcher.proofs.cursor.Cursor.advance.Goals as goal

pub gallop-requires : goal.gallop-requires
gallop-requires c = c.requires

pub returns : goal.returns
returns c = c.gallop.ensures
