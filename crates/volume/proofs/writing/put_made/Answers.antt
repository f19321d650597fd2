-- `volume::writing::put_made` meets its contract: its number and its words are the bytes that the checksum covers, for each stream that has
-- these words in the block. Assumes nothing.
use native.Mathlib.Nat.{zero-add}
use mathlib.Core.Path.{ap, ◌∙◌}
use Rattle.std.proofs.Common.{rules}
use Rattle.seq.specs.Lists.{at}
use Rattle.volume.specs.Write.{sealed}
use Rattle.volume.proofs.Laws.Storing.{put_body, words-made}
use Rattle.volume.proofs.writing.put_made.Goals as goal

pub returns : goal.returns
returns c =
    let words = at c.args.words.now in
    let stored = c.put_words.ensures words 0 (λ j x h e. rw (zero-add j) (search rules)) in
    λ f e. c.seal.ensures ∙ ap sealed (put_body f _ _ _ _ c.put32.ensures (stored ∙ rw (words-made f _ _ _ e)))
