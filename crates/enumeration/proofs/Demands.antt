-- Each statement of `specs/Demands.antt`, proved. Assumes nothing.
use mathlib.Core.Path.{refl}
use Rattle.seq.specs.Calls.{plain}
use Rattle.fulltext.specs.Order.{matches_from}
use Rattle.enumeration.specs.Enumerating.{page_of, words_of}
use Rattle.enumeration.specs.Demands.{MatchesRefuses, Enumerates, OneToOne, SampleMatches}
use Rattle.enumeration.proofs.Laws.MatchesFirst.{matches_call}
use Rattle.enumeration.proofs.Laws.Enumeration.{every_enumeration}
use Rattle.enumeration.proofs.Laws.Answers as answers

pub matches-refuses : MatchesRefuses
unfolding MatchesRefuses
matches-refuses = matches_call

pub enumerates : Enumerates
unfolding Enumerates
enumerates v p ok k d there low = every_enumeration plain v p ok k d there low (λ start out. refl)

pub one-to-one : OneToOne
one-to-one = answers.one-to-one

pub sample-matches : SampleMatches
unfolding matches_from page_of words_of
sample-matches = record { later = refl; near = refl; page = refl; words = refl }
