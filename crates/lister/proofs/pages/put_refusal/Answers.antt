-- `pages::put_refusal` meets its contract. Assumes nothing.
use native.Mathlib.Omega.{arith}
use Rattle.std.proofs.Common.{rules}
use Rattle.lister.specs.Text.{refused_word}
use Rattle.lister.proofs.Laws.Stored.{stored-lent}
use Rattle.lister.proofs.Laws.Lengths.{pair-short}
use Rattle.lister.proofs.pages.put_refusal.Goals as goal

pub put_line-requires : goal.put_line-requires
put_line-requires c = pair-short refused_word _ _ (omega arith) (omega arith) (omega (arith, c.requires))

pub returns : goal.returns
returns c = stored-lent (search rules) c.put_line.ensures.added
