-- `paragraphs::blocks_of` meets its contract. Assumes nothing.
use mathlib.Core.Path.{refl}
use borrow.Author.Tests.{lt-ltb, le-ltb}
use Rattle.matcher.proofs.paragraphs.blocks_of.Goals as goal

pub returns-then-starts-two : goal.returns-then-starts-two
returns-then-starts-two c = rw (lt-ltb _ _ c.if-starts-two.true) refl

pub returns : goal.returns
returns c = rw (le-ltb _ _ c.if-starts-two.false) refl
