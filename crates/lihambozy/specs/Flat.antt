-- What the C functions answer: refusal 0 and the values, or a refusal's number, its place, and zeros. Assumes nothing.
use Rattle.std.specs.Prelude.{◌≡◌, ℕ, Bool, cond, List, replicate}
use Rattle.std.proofs.Math.Option.{Option, none, some}
use Rattle.seq.specs.Refusals.{Said, refused, answered}
use Rattle.volume.specs.Answers.{Sizes}
use Rattle.join.specs.Answers.{JoinSaid}
use Rattle.plan.specs.declared.answers.Sizes as plan
use Rattle.plan.specs.declared.showing.Span.{Span}
use Rattle.plan.specs.Limits.{most_pattern_vars}
use Rattle.fulltext.specs.Positions.{limit}
use Rattle.enumeration.specs.Answers as enumerationAnswers
use Rattle.search.specs.Answers.{Next, done, more, Page}
use Rattle.lihambozy.specs.declared.refused.Refused.{Refused}
use Rattle.lihambozy.specs.declared.answers.CheckVolumeAnswer.{CheckVolumeAnswer}
use Rattle.lihambozy.specs.declared.answers.ReadListAnswer.{ReadListAnswer}
use Rattle.lihambozy.specs.declared.answers.WriteVolumeAnswer.{WriteVolumeAnswer}
use Rattle.lihambozy.specs.declared.answers.JoinVolumesAnswer.{JoinVolumesAnswer}
use Rattle.lihambozy.specs.declared.answers.CheckPlanAnswer.{CheckPlanAnswer}
use Rattle.lihambozy.specs.declared.answers.PatternRowsAnswer.{PatternRowsAnswer}
use Rattle.lihambozy.specs.declared.answers.TestPositionsAnswer.{TestPositionsAnswer}
use Rattle.lihambozy.specs.declared.answers.ListAnswer.{ListAnswer}
use Rattle.lihambozy.specs.declared.answers.ListMatchesAnswer.{ListMatchesAnswer}
use Rattle.lihambozy.specs.declared.answers.LineToPlanAnswer.{LineToPlanAnswer}
use Rattle.lihambozy.specs.declared.answers.PlanToLineAnswer.{PlanToLineAnswer}

-- a refusal's number and place are those that are said
abbrev pub IsRefusal : {A : Type 0} → Refused → Said A → Type 0
IsRefusal r said = said ≡ refused r.number r.at

-- the answer of checking a volume
abbrev pub flat_sizes : Said Sizes → CheckVolumeAnswer
flat_sizes (refused n p) = record { refusal = n; at = p; lists = 0; postings = 0 }
flat_sizes (answered s) = record { refusal = 0; at = 0; lists = s.lists; postings = s.postings }

-- the answer of reading a list
abbrev pub flat_list : Said ℕ → ReadListAnswer
flat_list (refused n p) = record { refusal = n; at = p; count = 0 }
flat_list (answered n) = record { refusal = 0; at = 0; count = n }

-- the answer of writing a volume
abbrev pub flat_volume : Said ℕ → WriteVolumeAnswer
flat_volume (refused n p) = record { refusal = n; at = p; blocks = 0 }
flat_volume (answered n) = record { refusal = 0; at = 0; blocks = n }

-- the answer of joining two volumes, where a refusal is of this volume, or of neither
abbrev pub flat_joined : ℕ → Said ℕ → JoinVolumesAnswer
flat_joined volume (refused n p) = record { refusal = n; at = p; volume = volume; blocks = 0 }
flat_joined volume (answered n) = record { refusal = 0; at = 0; volume = volume; blocks = n }

abbrev pub flat_join : JoinSaid → JoinVolumesAnswer
flat_join s = flat_joined s.volume s.said

-- the answer of checking a plan
abbrev pub flat_plan : Said plan.Sizes → CheckPlanAnswer
flat_plan (refused n p) = record { refusal = n; at = p; patterns = 0; vars = 0 }
flat_plan (answered s) = record { refusal = 0; at = 0; patterns = s.patterns; vars = s.vars }

-- where the rows of a pattern lie
abbrev pub flat_span : Span → PatternRowsAnswer
flat_span s = record { start = s.start; len = s.len }

-- the answer of testing positions
abbrev pub flat_test : Said Bool → TestPositionsAnswer
flat_test (refused n p) = record { refusal = n; at = p; passes = 0 }
flat_test (answered b) = record { refusal = 0; at = 0; passes = cond b 1 0 }

-- the document to go on from, or 65,536
abbrev pub flat_next : Next → ℕ
flat_next done = limit
flat_next (more s) = s

-- the answer of listing
abbrev pub flat_listing : Said Page → ListAnswer
flat_listing (refused n p) = record { refusal = n; at = p; rows = 0; tally = 0; next = 0 }
flat_listing (answered page) = record { refusal = 0; at = 0; rows = page.rows; tally = page.tally; next = flat_next page.next }

-- 1 where a match is left, and else 0
abbrev pub flat_more : Option (List ℕ) → ℕ
flat_more none = 0
flat_more (some words) = 1

-- the answer of writing matches
abbrev pub flat_matches : Said enumerationAnswers.Page → ListMatchesAnswer
flat_matches (refused n p) = record { refusal = n; at = p; count = 0; more = 0; next = replicate most_pattern_vars 0 }
flat_matches (answered page) = record {
  refusal = 0;
  at = 0;
  count = page.count;
  more = flat_more page.next;
  next = enumerationAnswers.beside_next page.next;
}

-- the answer of reading a line
abbrev pub flat_words : Said ℕ → LineToPlanAnswer
flat_words (refused n p) = record { refusal = n; at = p; words = 0 }
flat_words (answered n) = record { refusal = 0; at = 0; words = n }

-- the answer of writing a line
abbrev pub flat_bytes : Said ℕ → PlanToLineAnswer
flat_bytes (refused n p) = record { refusal = n; at = p; bytes = 0 }
flat_bytes (answered n) = record { refusal = 0; at = 0; bytes = n }
