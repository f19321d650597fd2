-- Writing a plan as a line: the answer, and the lent bytes afterwards. Assumes nothing.
use Rattle.std.specs.Prelude.{ℕ, cond, List, length, ltb}
use Rattle.seq.specs.Refusals.{Said, refused, answered, laid}
use Rattle.plan.specs.declared.answers.Sizes.{Sizes}
use Rattle.plan.specs.Check.{verdict}
use Rattle.grammar.specs.Query.{plan_text}

-- 1 to 14; 16: the buffer is shorter than the text; or the number of bytes
abbrev pub write_by : Said Sizes → List ℕ → ℕ → Said ℕ
write_by (refused n q) s room = refused n q
write_by (answered z) s room = cond (ltb room (length s)) (refused 16 0) (answered (length s))

-- by the verdict on the volume and the plan
unfoldable pub write_answer : List ℕ → List ℕ → ℕ → Said ℕ
write_answer v p room = write_by (verdict v p) (plan_text p) room

-- the buffer afterwards
unfoldable pub write_out : List ℕ → List ℕ → List ℕ → List ℕ
unfolding write_answer
write_out v p out = laid (write_answer v p (length out)) (plan_text p) out
