-- Reading a list of a volume: the answer, and the lent words afterwards. Assumes nothing.
use Rattle.std.specs.Prelude.{ℕ, cond, List, length, ltb, leb}
use Rattle.seq.specs.Refusals.{Said, refused, answered, laid}
use Rattle.volume.specs.Answers.{Sizes}
use Rattle.volume.specs.Layout.{count, postings_of}
use Rattle.volume.specs.Check.{verdict}

-- 1 to 8 of the volume; 17: there is no list i; 16: n postings do not fit the buffer; or n
abbrev pub read_by : Said Sizes → ℕ → ℕ → ℕ → Said ℕ
read_by (refused r p) i n room = refused r p
read_by (answered s) i n room = cond (leb s.lists i) (refused 17 0) (cond (ltb room n) (refused 16 0) (answered n))

-- the answer to reading list i of v into a buffer of so many words
unfoldable pub read_answer : List ℕ → ℕ → ℕ → Said ℕ
read_answer v i room = read_by (verdict v) i (count v i) room

-- the buffer afterwards
unfoldable pub read_out : List ℕ → ℕ → List ℕ → List ℕ
read_out v i out = laid (read_answer v i (length out)) (postings_of v i) out
