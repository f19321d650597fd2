-- The volume of given lists, and the writer: its answer, and the lent bytes afterwards. Assumes nothing.
use Rattle.std.specs.Prelude.{ℕ, zero, suc, ◌*◌, Bool, not, cond, ◌&&◌, List, [], ◌∷◌, ◌++◌, map, length, ltb, leb, eqb}
use Rattle.seq.specs.Lists.{at, rises, joined}
use Rattle.seq.specs.Numbers.{first_from, run, sum_to}
use Rattle.seq.specs.Refusals.{Said, refused, answered, laid}
use Rattle.block.specs.Bytes.{bytes16, bytes32}
use Rattle.block.specs.Checksum.{check_a, check_b}
use Rattle.volume.specs.Layout.{extent_of, blocks_for}

-- the bytes of f k, f (k + 1), .., m words
unfoldable pub word_bytes : (ℕ → ℕ) → ℕ → ℕ → List ℕ
word_bytes f k zero = []
word_bytes f k (suc m) = bytes32 (f k) ++ word_bytes f (suc k) m

-- the bytes of block k of the stream f that its checksum covers
unfoldable pub block_body : (ℕ → ℕ) → ℕ → List ℕ
block_body f k = bytes32 k ++ word_bytes f (126 * k) 126

-- bytes with their checksum behind them
unfoldable pub sealed : List ℕ → List ℕ
sealed xs = xs ++ (bytes16 (check_a xs) ++ bytes16 (check_b xs))

-- blocks k, k + 1, .., m of them
unfoldable pub blocks_from : (ℕ → ℕ) → ℕ → ℕ → List ℕ
blocks_from f k zero = []
blocks_from f k (suc m) = sealed (block_body f k) ++ blocks_from f (suc k) m

-- the stream of counts and postings, in front of the zero words
abbrev pub stream_of : List ℕ → List ℕ → List ℕ
stream_of counts postings = 1 ∷ length counts ∷ (counts ++ postings)

-- the volume of counts and postings
unfoldable pub written : List ℕ → List ℕ → List ℕ
written counts postings = blocks_from (at (stream_of counts postings)) 0 (blocks_for (extent_of (length counts) (length postings)))

-- the volume of lists
unfoldable pub volume_of : List (List ℕ) → List ℕ
volume_of lists = written (map length lists) (joined lists)

-- list i of the given counts and postings
abbrev pub given_list : List ℕ → List ℕ → ℕ → List ℕ
given_list counts postings i = run (at postings) (sum_to (at counts) i) (at counts i)

-- the given lists
unfoldable pub given_lists : List ℕ → List ℕ → List (List ℕ)
given_lists counts postings = run (given_list counts postings) 0 (length counts)

-- 5: the number of counts is outside 1 to 1,024
unfoldable pub counts_wrong : List ℕ → Bool
counts_wrong counts = not (leb 1 (length counts) && leb (length counts) 1024)

-- 18: the counts do not sum to the number of postings
unfoldable pub sum_wrong : List ℕ → List ℕ → Bool
sum_wrong counts postings = not (eqb (sum_to (at counts) (length counts)) (length postings))

-- 7: given list i does not rise
unfoldable pub given_wrong : List ℕ → List ℕ → ℕ → Bool
given_wrong counts postings i = not (rises (given_list counts postings i))

-- the lowest such list; the number of lists where there is none
abbrev pub bad_given : List ℕ → List ℕ → ℕ
bad_given counts postings = first_from (given_wrong counts postings) 0 (length counts)

unfoldable pub given_lists_wrong : List ℕ → List ℕ → Bool
given_lists_wrong counts postings = ltb (bad_given counts postings) (length counts)

-- 19: more than 1,032,192 stream words
unfoldable pub too_large : List ℕ → List ℕ → Bool
too_large counts postings = ltb 1032192 (extent_of (length counts) (length postings))

-- 20: the output is shorter than the volume
unfoldable pub short_output : List ℕ → List ℕ → ℕ → Bool
short_output counts postings room = ltb room (512 * blocks_for (extent_of (length counts) (length postings)))

-- the writer's answer, for an output of so many bytes: the first refusal of 5, 18, 7, 19, 20, or the number of blocks
unfoldable pub write_answer : List ℕ → List ℕ → ℕ → Said ℕ
write_answer counts postings room =
    let blocks = blocks_for (extent_of (length counts) (length postings)) in
    let from20 = cond (short_output counts postings room) (refused 20 0) (answered blocks) in
    let from19 = cond (too_large counts postings) (refused 19 0) from20 in
    let from7 = cond (given_lists_wrong counts postings) (refused 7 (bad_given counts postings)) from19 in
    let from18 = cond (sum_wrong counts postings) (refused 18 0) from7 in
    cond (counts_wrong counts) (refused 5 0) from18

-- the output afterwards
unfoldable pub write_out : List ℕ → List ℕ → List ℕ → List ℕ
write_out counts postings out = laid (write_answer counts postings (length out)) (written counts postings) out
