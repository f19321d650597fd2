-- The lists of two volumes, joined (02: double bill). Assumes nothing.
use Rattle.std.specs.Prelude.{ℕ, ◌+◌, List, [], ◌++◌, map, length, get_or}
use Rattle.seq.specs.Numbers.{run}
use Rattle.volume.specs.Posting.{posting_of, doc_of, pos_of}

-- a posting, so many documents further on (02: scene raised by h)
abbrev pub raised : ℕ → ℕ → ℕ
raised h p = (posting_of (doc_of p + h) (pos_of p)).bits

-- list i of the first, then list i of the second, with f at each of its postings
abbrev pub joined_at : (ℕ → ℕ) → List (List ℕ) → List (List ℕ) → ℕ → List ℕ
joined_at f first second i = get_or first i [] ++ map f (get_or second i [])

-- each list of the first, with that of the second behind it
unfoldable pub joined_by : (ℕ → ℕ) → List (List ℕ) → List (List ℕ) → List (List ℕ)
unfolding run
joined_by f first second = run (joined_at f first second) 0 (length first)

-- the joined lists: each list of the first, then that of the second with h added to each document
abbrev pub joined_lists : ℕ → List (List ℕ) → List (List ℕ) → List (List ℕ)
joined_lists h first second = joined_by (raised h) first second
