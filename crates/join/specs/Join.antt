-- Joining two volumes: the answer, and the lent bytes afterwards. Assumes nothing.
use Rattle.std.specs.Prelude.{ℕ, ◌+◌, Bool, not, cond, ◌||◌, List, map, length, ltb, leb, eqb}
use Rattle.seq.specs.Lists.{any, joined}
use Rattle.seq.specs.Refusals.{Said, refused, answered, laid}
use Rattle.volume.specs.Posting.{doc_of}
use Rattle.volume.specs.Layout.{list_count, lists_of}
use Rattle.volume.specs.Answers.{Sizes}
use Rattle.volume.specs.Check.{verdict}
use Rattle.volume.specs.Write.{volume_of, write_answer}
use Rattle.join.specs.Answers.{JoinSaid}
use Rattle.join.specs.Joined.{joined_lists}

-- 24: the numbers of lists differ
unfoldable pub list_counts_wrong : List ℕ → List ℕ → Bool
list_counts_wrong v w = not (eqb (list_count v) (list_count w))

-- the document of posting q, raised by h, passes 65,535, or is not above the documents of all of some postings
abbrev pub raise_wrong : ℕ → List ℕ → ℕ → Bool
raise_wrong h ps q = ltb 65535 (doc_of q + h) || any (λ p. leb (doc_of q + h) (doc_of p)) ps

-- 25: so for some posting of the second, beside all postings of the first
unfoldable pub docs_wrong : ℕ → List ℕ → List ℕ → Bool
unfolding any joined
docs_wrong h v w = any (raise_wrong h (joined (lists_of v))) (joined (lists_of w))

-- the lists of v, then those of w raised by h
abbrev pub lists_of_both : ℕ → List ℕ → List ℕ → List (List ℕ)
lists_of_both h v w = joined_lists h (lists_of v) (lists_of w)

-- behind the checks of both volumes: 24, then 25, or what the writer answers for the joined lists
unfoldable pub join_rest : ℕ → List ℕ → List ℕ → ℕ → Said ℕ
unfolding joined
join_rest h v w room =
    let lists = lists_of_both h v w in
    let from25 = cond (docs_wrong h v w) (refused 25 0) (write_answer (map length lists) (joined lists) room) in
    cond (list_counts_wrong v w) (refused 24 0) from25

-- 1 to 8 of the first volume, 1 to 8 of the second, or what comes behind
abbrev pub join_by : Said Sizes → Said Sizes → Said ℕ → JoinSaid
join_by (refused n p) second rest = record { volume = 1; said = refused n p }
join_by (answered s) (refused n p) rest = record { volume = 2; said = refused n p }
join_by (answered s) (answered t) rest = record { volume = 0; said = rest }

-- the answer to joining v and w, the second raised by h, into an output of so many bytes
unfoldable pub join_answer : ℕ → List ℕ → List ℕ → ℕ → JoinSaid
unfolding join_rest
join_answer h v w room = join_by (verdict v) (verdict w) (join_rest h v w room)

-- the output afterwards
unfoldable pub join_out : ℕ → List ℕ → List ℕ → List ℕ → List ℕ
unfolding join_answer
join_out h v w out = laid (join_answer h v w (length out)).said (volume_of (lists_of_both h v w)) out
