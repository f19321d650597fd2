-- The printed listing (document 01): what the program prints, over the bytes of the volume file and of the plan file. Assumes nothing.
use Rattle.std.specs.Prelude.{ℕ, ◌*◌, ◌/◌, ◌%◌, Bool, cond, ◌&&◌, List, [], ◌∷◌, ◌++◌, map, length, ltb, leb, eqb}
use Rattle.seq.specs.Lists.{joined}
use Rattle.seq.specs.Numbers.{run}
use Rattle.seq.specs.Refusals.{Said, refused, answered}
use Rattle.block.specs.Bytes.{le32}
use Rattle.plan.specs.declared.answers.Sizes.{Sizes}
use Rattle.plan.specs.Limits.{most_words}
use Rattle.plan.specs.Check.{verdict}
use Rattle.fulltext.specs.Positions.{limit}
use Rattle.fulltext.specs.Documents.{Work, docs_in, work}
use Rattle.lister.specs.Text.{line, scene_word, done_word, refused_word, too_long}

-- a plan file has 1 to 64 rows of 16 bytes
abbrev pub whole_rows : ℕ → Bool
whole_rows n = ltb 0 n && (leb n (4 * most_words) && eqb (n % 16) 0)

-- the words of a plan file, little-endian; a file of another length is an empty plan, which is refusal 9
unfoldable pub plan_words : List ℕ → List ℕ
unfolding run
plan_words b = cond (whole_rows (length b)) (run (λ i. le32 b (4 * i)) 0 (length b / 4)) []

-- a line for each of some documents: its row
unfoldable pub doc_lines : Work → List ℕ → List ℕ
unfolding joined line
doc_lines w ds = joined (map (λ d. line scene_word (w.row_of d)) ds)

-- the refusal of a volume and a plan; or a line for each true document, rising, and the postings of all variables
abbrev pub listing : Said Sizes → Work → List ℕ
listing (refused n q) w = line refused_word (n ∷ q ∷ [])
listing (answered s) w = doc_lines w (docs_in w 0 limit) ++ line done_word (w.postings 0 limit ∷ [])

-- what is printed of a volume file v and a plan file b
unfoldable pub printed : List ℕ → List ℕ → List ℕ
unfolding doc_lines
printed v b = let text = listing (verdict v (plan_words b)) (work v (plan_words b)) in cond (ltb 65536 (length v)) too_long text
