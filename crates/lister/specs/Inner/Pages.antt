-- What a turn gives by the words of its page and stores in a lent buffer, for the contracts inside the crate. Assumes nothing.
use Rattle.std.specs.Prelude.{ℕ, ◌+◌, ◌*◌, ◌<◌, ◌≤◌, ◌≡◌, List, [], ◌∷◌, length, take, drop, Some, None, IfSome}
use Rattle.seq.specs.Lists.{joined}
use Rattle.seq.specs.Numbers.{run}
use Rattle.seq.specs.Refusals.{Said, refused, answered}
use Rattle.fulltext.specs.Positions.{limit}
use Rattle.search.specs.Answers.{Next, done, more, Page}
use Rattle.lister.specs.declared.pages.Turn as pages
use Rattle.lister.specs.Text.{line, scene_word, refused_word}
use Rattle.lister.specs.Turns.{Turn, turn_of, only}
use Rattle.lister.specs.Inner.Stored.{put}

-- a line for each of the n rows at the front of a page
unfoldable pub row_lines : ℕ → List ℕ → ℕ → List ℕ
unfolding joined line run
row_lines width page n = joined (run (λ i. line scene_word (take width (drop (i * width) page))) 0 n)

-- the turn of a listing call's answer, by the words of the page: the lines of as many rows as it gives
abbrev pub page_turn : Said Page → ℕ → List ℕ → ℕ → Turn
page_turn (refused n q) width page tally = only (line refused_word (n ∷ q ∷ [])) tally
page_turn (answered a) width page tally = turn_of (row_lines width page a.rows) (tally + a.tally) a.next

-- the rows of an answer
abbrev pub rows_in : Said Page → ℕ
rows_in (refused n q) = 0
rows_in (answered page) = page.rows

-- the answer of a turn with none behind it
abbrev pub last : ℕ → pages.Turn
last n = record { bytes = n; next = None }

-- the answer of a turn behind which the next one starts at document t with the sum `tally`
abbrev pub onto : ℕ → ℕ → ℕ → pages.Turn
onto n t tally = record { bytes = n; next = Some (record { doc = t; tally = tally }) }

-- the answer of a turn: how many bytes are to be printed, and where the next turn starts
abbrev pub paged_by : ℕ → ℕ → Next → pages.Turn
paged_by n tally done = last n
paged_by n tally (more t) = onto n t tally

abbrev pub paged_of : Turn → pages.Turn
paged_of t = paged_by (length t.text) t.tally t.next

-- a turn's text stands at the front of a buffer, and its answer is given
pub record Told (t : Turn) (out out' : List ℕ) (r : pages.Turn) : Type 0 where
  pub answer : r ≡ paged_of t
  pub laid : out' ≡ put out 0 t.text

-- the text fits a buffer of so many bytes, and one page's tally is added
abbrev pub Adds : ℕ → ℕ → pages.Turn → Type 0
Adds tally room r = (r.bytes ≤ room) × IfSome r.next (λ s. s.tally ≤ tally + 4294967295)

-- the bytes that hold the text of any turn: 11 for each word of a page, 6 for each row, 30 for the line of a refusal or the last line
abbrev pub text_room : ℕ
text_room = 278558

-- a turn can start at document `from` with the sum `tally`, and has so much room for its text
abbrev pub Ready : ℕ → ℕ → ℕ → Type 0
Ready from tally room = (tally ≤ 4294967296 * from) × (text_room ≤ room)

-- the text fits, and the next turn starts behind `from`, where it can start
abbrev pub Ahead : ℕ → ℕ → pages.Turn → Type 0
Ahead from room r = (r.bytes ≤ room) × IfSome r.next (λ s. (from < s.doc) × ((s.doc < limit) × (s.tally ≤ 4294967296 * s.doc)))
