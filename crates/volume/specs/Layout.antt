-- A volume's bytes: blocks of 512, the stream of their words, and the lists that the stream holds. Each definition is total:
-- behind the end of the bytes stand zeros. Assumes nothing.
use Rattle.std.specs.Prelude.{ℕ, ◌+◌, ◌*◌, ◌/◌, ◌%◌, List, length, take, drop}
use Rattle.seq.specs.Numbers.{run, sum_to}
use Rattle.block.specs.Bytes.{le16, le32}

-- the number of blocks of v
abbrev pub blocks : List ℕ → ℕ
blocks v = length v / 512

-- the number of stream words of v
abbrev pub stream_length : List ℕ → ℕ
stream_length v = 126 * blocks v

-- the number that block k holds
abbrev pub block_number : List ℕ → ℕ → ℕ
block_number v k = le32 v (512 * k)

-- the bytes of block k that its checksum covers
abbrev pub covered : List ℕ → ℕ → List ℕ
covered v k = take 508 (drop (512 * k) v)

-- the checksum that block k holds
abbrev pub stored_a : List ℕ → ℕ → ℕ
stored_a v k = le16 v (512 * k + 508)

abbrev pub stored_b : List ℕ → ℕ → ℕ
stored_b v k = le16 v (512 * k + 510)

-- where stream word i stands: 126 words to a block, behind its number
unfoldable pub offset : ℕ → ℕ
offset i = 512 * (i / 126) + 4 + 4 * (i % 126)

-- stream word i
unfoldable pub word : List ℕ → ℕ → ℕ
word v i = le32 v (offset i)

-- the version (01: edition)
abbrev pub version : List ℕ → ℕ
version v = word v 0

-- the number of lists (01: T)
abbrev pub list_count : List ℕ → ℕ
list_count v = word v 1

-- the stream index of the number of postings of list i
abbrev pub entry : ℕ → ℕ
entry i = 2 + i

-- the number of stream words in front of the postings of so many lists
abbrev pub lead : ℕ → ℕ
lead lists = entry lists

-- the number of stream words in front of the zero words, for so many lists and postings
abbrev pub extent_of : ℕ → ℕ → ℕ
extent_of lists postings = lead lists + postings

-- the number of postings of list i
abbrev pub count : List ℕ → ℕ → ℕ
count v i = word v (entry i)

-- the number of postings of all lists (01: S)
abbrev pub posting_count : List ℕ → ℕ
posting_count v = sum_to (count v) (list_count v)

-- the number of stream words in front of the zero words
abbrev pub extent : List ℕ → ℕ
extent v = extent_of (list_count v) (posting_count v)

-- the least number of blocks that holds w words
abbrev pub blocks_for : ℕ → ℕ
blocks_for w = (w + 125) / 126

-- the stream index of the first posting of list i
abbrev pub start : List ℕ → ℕ → ℕ
start v i = lead (list_count v) + sum_to (count v) i

-- the postings of list i
abbrev pub postings_of : List ℕ → ℕ → List ℕ
postings_of v i = run (word v) (start v i) (count v i)

-- the lists of v
unfoldable pub lists_of : List ℕ → List (List ℕ)
lists_of v = run (postings_of v) 0 (list_count v)
