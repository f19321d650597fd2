-- How the joined stream is made from the two volumes, for `src/reading.rt` and `src/joining.rt`. No call's promise rests on this file.
-- Assumes nothing.
use Rattle.std.specs.Prelude.{ℕ, ◌+◌, ◌*◌, ◌-◌, ◌<◌, ◌≤◌, min, max, ◌≡◌, List, ◌∷◌, ◌++◌, map, length, take, drop}
use Rattle.seq.specs.Lists.{at, joined}
use Rattle.seq.specs.Numbers.{run}
use Rattle.volume.specs.Layout.{word, list_count, lead, count, extent, start, lists_of}
use Rattle.volume.specs.Check.{Accepted}
use Rattle.volume.specs.Write.{stream_of}
use Rattle.join.specs.declared.reading.Merge.{Merge}
use Rattle.join.specs.Joined.{joined_by}
use Rattle.join.specs.Refusals.{extent_of_both}

-- the joined lists, where a number is added to each posting of the second
abbrev pub lifted_lists : ℕ → List ℕ → List ℕ → List (List ℕ)
lifted_lists lift v w = joined_by (λ p. p + lift) (lists_of v) (lists_of w)

-- their stream, by index
unfoldable pub joined_word : ℕ → List ℕ → List ℕ → ℕ → ℕ
unfolding joined
joined_word lift v w = at (stream_of (map length (lifted_lists lift v w)) (joined (lifted_lists lift v w)))

-- its words in front of the postings, which are the same whatever is added
abbrev pub head_word : List ℕ → List ℕ → ℕ → ℕ
head_word v w = at (1 ∷ list_count v ∷ run (λ i. count v i + count w i) 0 (list_count v))

-- a number can be added to each of n words of a volume, from a stream index on, in 32 bits
pub record Liftable (lift : ℕ) (v : List ℕ) (from n : ℕ) : Type 0 where
  pub each : (j : ℕ) → j < n → word v (from + j) + lift < 4294967296

-- so for each posting of a volume
pub record Lifts (lift : ℕ) (v : List ℕ) : Type 0 where
  pub each : (i : ℕ) → lead (list_count v) ≤ i → i < extent v → word v i + lift < 4294967296

-- two accepted volumes of as many lists, whose joined lists fit a volume
pub record Joinable (v w : List ℕ) : Type 0 where
  pub first : Accepted v
  pub second : Accepted w
  pub same : list_count w ≡ list_count v
  pub fits : extent_of_both v w ≤ 1032192

-- words whose elements from `to` up to `end` are f's from index i on, and whose others are as they were
abbrev pub made : (ℕ → ℕ) → ℕ → ℕ → ℕ → List ℕ → List ℕ
made f i to end words = take to words ++ run f i (end - to) ++ drop end words

-- how much of both volumes is read: what the two stream indexes add up to
abbrev pub read_of : Merge → ℕ
read_of c = c.first + c.second

-- in front of all postings of so many lists
abbrev pub front_of : ℕ → Merge
front_of lists = record { lists = 0; first = lead lists; stop = lead lists; second = lead lists; end = lead lists }

-- the lists entered, but the last, are read; the last one is read in the first volume before it is read in the second
pub record StandsAt (v w : List ℕ) (c : Merge) : Type 0 where
  pub lists : c.lists ≤ list_count v
  pub first-end : c.stop ≡ start v c.lists
  pub first-low : start v (c.lists - 1) ≤ c.first
  pub first-high : c.first ≤ c.stop
  pub second-end : c.end ≡ start w c.lists
  pub second-low : start w (c.lists - 1) ≤ c.second
  pub second-high : c.second ≤ c.end
  pub waits : c.first < c.stop → c.second ≡ start w (c.lists - 1)

-- the index in the joined stream of the word that comes next
abbrev pub index_of : List ℕ → Merge → ℕ
index_of v c = read_of c - lead (list_count v)

-- a merge in front of block k: what comes next is the block's first word, but not a count, and nothing where the block is behind the lists
pub record StandsBefore (v w : List ℕ) (c : Merge) (k : ℕ) : Type 0 where
  pub stands : StandsAt v w c
  pub index : index_of v c ≡ max (lead (list_count v)) (min (126 * k) (extent_of_both v w))

-- from a merge in front of word `to` of a block to one that is reached, with the words between made
pub record Turned (lift : ℕ) (v w : List ℕ) (c : Merge) (to : ℕ) (words : List ℕ) (r : Merge) (after : List ℕ) : Type 0 where
  pub stands : StandsAt v w r
  pub onward : read_of c ≤ read_of r
  pub inside : to + (read_of r - read_of c) ≤ 126
  pub words-made : after ≡ made (joined_word lift v w) (index_of v c) to (to + (read_of r - read_of c)) words
