-- `Sources::put_head` meets its contract. The loop's invariant: the first j words are made, all of them in front of the postings, and the
-- others are as they were. Assumes nothing.
use mathlib.Core.Path.{◌≡◌}
use Rattle.join.specs.Inner.Reading.{head_word, made}
use Rattle.join.proofs.sources.Sources.put_head.Given as goal

abbrev pub invariant-loop-j : goal.invariant-loop-j
invariant-loop-j l = l.words ≡ made (head_word l.self.first.now l.self.second.now) l.from 0 l.j l.initial.words
