-- Testing given positions of a pattern. Assumes nothing.
use Rattle.std.specs.Prelude.{ℕ, Bool, not, cond, ◌||◌, List, length, ltb, leb, eqb}
use Rattle.seq.specs.Lists.{all}
use Rattle.seq.specs.Refusals.{Said, refused, answered}
use Rattle.volume.specs.Layout.{lists_of}
use Rattle.plan.specs.declared.answers.Sizes.{Sizes}
use Rattle.plan.specs.Check.{verdict}
use Rattle.plan.specs.Patterns.{Pattern}
use Rattle.plan.specs.Accepted.{pattern_at}
use Rattle.fulltext.specs.Matches.{matches_at}

-- 17: pattern k is not below F, the number of positions is not that of the pattern's variables, or the document or a position is over
-- 65,535
unfoldable pub out_of_range : ℕ → ℕ → Pattern → ℕ → List ℕ → Bool
unfolding all
out_of_range patterns k f d ps =
    leb patterns k || (not (eqb (length ps) (length f.vars)) || (ltb 65535 d || not (all (λ q. leb q 65535) ps)))

-- 1 to 14 of the volume and the plan; 17; or whether the positions match pattern f, number k, in document d
abbrev pub test_by : Said Sizes → ℕ → Pattern → ℕ → List ℕ → Bool → Said Bool
test_by (refused n q) k f d ps b = refused n q
test_by (answered s) k f d ps b = cond (out_of_range s.patterns k f d ps) (refused 17 0) (answered b)

-- the answer to testing positions of pattern k in document d
unfoldable pub test_answer : List ℕ → List ℕ → ℕ → ℕ → List ℕ → Said Bool
test_answer v p k d ps = test_by (verdict v p) k (pattern_at p k) d ps (matches_at (lists_of v) d (pattern_at p k) ps)
