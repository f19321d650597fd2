-- Each statement of `specs/Demands.antt`, proved. Assumes nothing.
use mathlib.Core.Path.{refl}
use Rattle.seq.specs.Lists.{joined}
use Rattle.seq.specs.Numbers.{run}
use Rattle.plan.specs.Rows.{row_at}
use Rattle.grammar.specs.Demands.{Unambiguous, Means, PlanLines, ComesBack, SampleLine}
use Rattle.grammar.specs.Meaning.{line_rows}
use Rattle.grammar.specs.Query.{plan_line}
use Rattle.grammar.specs.Reading.{outcome}
use Rattle.grammar.specs.Words.{words_of_line}
use Rattle.grammar.proofs.Laws.Outcome as outcomes
use Rattle.grammar.proofs.Laws.Words as words
use Rattle.grammar.proofs.Laws.Bounds as bounds
use Rattle.grammar.proofs.Laws.Spare as spare

pub unambiguous : Unambiguous
unfolding Unambiguous
unambiguous = outcomes.unambiguous

pub means : Means
unfolding Means
means = words.line_meant

pub plan-lines : PlanLines
unfolding PlanLines
plan-lines = bounds.accepted-line

pub comes_back : ComesBack
unfolding ComesBack
comes_back = spare.comes_back

pub sample-line : SampleLine
unfolding outcome words_of_line line_rows plan_line row_at run joined
sample-line = record { reads = refl; words = refl; line = refl }
