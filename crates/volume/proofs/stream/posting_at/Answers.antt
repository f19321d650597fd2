-- `stream::posting_at` meets its contract. Assumes nothing.
use mathlib.Core.Path.{ap}
use Rattle.volume.proofs.stream.posting_at.Goals as goal

pub returns : goal.returns
returns c = ap (λ b. record { bits = b }) c.word_at.ensures
