-- What `src/writing.rt` has stored: the words of a block, and a run of blocks. No call's promise rests on this file. Assumes nothing.
use Rattle.std.specs.Prelude.{ℕ, ◌*◌, ◌-◌, ◌≡◌, List, ◌++◌, take, drop}
use Rattle.seq.specs.Lists.{at}
use Rattle.seq.specs.Numbers.{run}
use Rattle.volume.specs.Write.{word_bytes, block_body, sealed, blocks_from, stream_of}

-- the stream of counts and postings, by index
abbrev pub given : List ℕ → List ℕ → ℕ → ℕ
given counts postings = at (stream_of counts postings)

-- a block with the words of f from index k on
abbrev pub filled : (ℕ → ℕ) → ℕ → List ℕ → List ℕ
filled f k out = take 4 out ++ word_bytes f k 126 ++ drop 508 out

-- bytes with the blocks of f from `from` to `to`
abbrev pub stored : (ℕ → ℕ) → ℕ → ℕ → List ℕ → List ℕ
stored f from to out = take (512 * from) out ++ blocks_from f from (to - from) ++ drop (512 * to) out

-- bytes with the first n blocks of f
abbrev pub stored_first : (ℕ → ℕ) → ℕ → List ℕ → List ℕ
stored_first f n out = blocks_from f 0 n ++ drop (512 * n) out

-- bytes are block k of every stream that has these words there
abbrev pub IsBlock : List ℕ → ℕ → List ℕ → Type 0
IsBlock words k block = (f : ℕ → ℕ) → words ≡ run f (126 * k) 126 → block ≡ sealed (block_body f k)
