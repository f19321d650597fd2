-- The verdict on a volume: a test for each of document 01's refusals 1 to 8, and the first that fails. Assumes nothing.
use Rattle.std.specs.Prelude.{ℕ, ◌-◌, ◌%◌, Bool, not, cond, ◌&&◌, ◌||◌, ◌≡◌, List, length, ltb, leb, eqb}
use Rattle.seq.specs.Lists.{rises}
use Rattle.seq.specs.Numbers.{first_from}
use Rattle.seq.specs.Refusals.{Said, refused, answered}
use Rattle.volume.specs.Answers.{Sizes}
use Rattle.block.specs.Checksum.{check_a, check_b}
use Rattle.volume.specs.Layout.{blocks, stream_length, block_number, covered, stored_a, stored_b, word}
use Rattle.volume.specs.Layout.{version, list_count, posting_count, extent, blocks_for, postings_of}

-- 1: length 0, not a multiple of 512, or over 8,192 blocks
unfoldable pub length_wrong : List ℕ → Bool
length_wrong v = eqb (length v) 0 || (not (eqb (length v % 512) 0) || ltb 8192 (blocks v))

-- 2 and 3 in block k
unfoldable pub number_wrong : List ℕ → ℕ → Bool
number_wrong v k = not (eqb (block_number v k) k)

unfoldable pub checksum_wrong : List ℕ → ℕ → Bool
checksum_wrong v k = not (eqb (stored_a v k) (check_a (covered v k)) && eqb (stored_b v k) (check_b (covered v k)))

unfoldable pub block_wrong : List ℕ → ℕ → Bool
block_wrong v k = number_wrong v k || checksum_wrong v k

-- the lowest block with 2 or 3; the number of blocks where there is none
abbrev pub bad_block : List ℕ → ℕ
bad_block v = first_from (block_wrong v) 0 (blocks v)

unfoldable pub blocks_wrong : List ℕ → Bool
blocks_wrong v = ltb (bad_block v) (blocks v)

-- 4: the version is not 1
unfoldable pub version_wrong : List ℕ → Bool
version_wrong v = not (eqb (version v) 1)

-- 5: the number of lists is outside 1 to 1,024
unfoldable pub list_count_wrong : List ℕ → Bool
list_count_wrong v = not (leb 1 (list_count v) && leb (list_count v) 1024)

-- 6: the number of blocks is not the least that holds the counts and the lists
unfoldable pub extent_wrong : List ℕ → Bool
extent_wrong v = not (eqb (blocks_for (extent v)) (blocks v))

-- 7: list i does not rise
unfoldable pub order_wrong : List ℕ → ℕ → Bool
order_wrong v i = not (rises (postings_of v i))

-- the lowest such list; the number of lists where there is none
abbrev pub bad_list : List ℕ → ℕ
bad_list v = first_from (order_wrong v) 0 (list_count v)

unfoldable pub lists_wrong : List ℕ → Bool
lists_wrong v = ltb (bad_list v) (list_count v)

-- 8: stream word i, behind the lists, is not 0
unfoldable pub padding_wrong : List ℕ → ℕ → Bool
padding_wrong v i = not (eqb (word v i) 0)

-- the lowest such word; the number of stream words where there is none
abbrev pub bad_word : List ℕ → ℕ
bad_word v = first_from (padding_wrong v) (extent v) (stream_length v - extent v)

unfoldable pub tail_wrong : List ℕ → Bool
tail_wrong v = ltb (bad_word v) (stream_length v)

-- what an accepted volume gives
abbrev pub sizes : List ℕ → Sizes
sizes v = record { lists = list_count v; postings = posting_count v }

-- the verdict on the stream of a volume whose blocks are in order
unfoldable pub stream_verdict : List ℕ → Said Sizes
stream_verdict v =
    let from8 = cond (tail_wrong v) (refused 8 (bad_word v)) (answered (sizes v)) in
    let from7 = cond (lists_wrong v) (refused 7 (bad_list v)) from8 in
    let from6 = cond (extent_wrong v) (refused 6 0) from7 in
    let from5 = cond (list_count_wrong v) (refused 5 0) from6 in
    cond (version_wrong v) (refused 4 0) from5

-- the verdict on a volume
unfoldable pub verdict : List ℕ → Said Sizes
verdict v =
    let stream = stream_verdict v in
    let block = cond (number_wrong v (bad_block v)) (refused 2 (bad_block v)) (refused 3 (bad_block v)) in
    let from2 = cond (blocks_wrong v) block stream in
    cond (length_wrong v) (refused 1 0) from2

-- v is accepted: none of 1 to 8 applies
abbrev pub Accepted : List ℕ → Type 0
Accepted v = verdict v ≡ answered (sizes v)
