-- The program's turns: each has a listing call into a page of 16,384 words, and prints what it gave. Assumes nothing.
use Rattle.std.specs.Prelude.{ℕ, zero, suc, ◌+◌, ◌≡◌, cond, List, [], ◌∷◌, ◌++◌, length, ltb}
use Rattle.seq.specs.Refusals.{Said, refused, answered}
use Rattle.fulltext.specs.Positions.{limit}
use Rattle.fulltext.specs.Documents.{Work, docs_in, work}
use Rattle.search.specs.Answers.{Next, done, more, Page}
use Rattle.search.specs.Listing.{list_answer}
use Rattle.lister.specs.Text.{line, done_word, refused_word, too_long}
use Rattle.lister.specs.Printed.{plan_words, doc_lines}

-- the words of a page
abbrev pub page_words : ℕ
page_words = 16384

-- a turn: what it prints, the document that the next one starts at if there is one, and the sum of the tallies so far
pub record Turn : Type 0 where
  pub text : List ℕ
  pub next : Next
  pub tally : ℕ

-- a turn that prints these lines, and the last line where nothing is left
abbrev pub turn_of : List ℕ → ℕ → Next → Turn
turn_of lines tally done = record { text = lines ++ line done_word (tally ∷ []); next = done; tally = tally }
turn_of lines tally (more t) = record { text = lines; next = more t; tally = tally }

-- a turn that prints only this
abbrev pub only : List ℕ → ℕ → Turn
only text tally = record { text = text; next = done; tally = tally }

-- where the next turn starts, or the end
abbrev pub up_to : Next → ℕ
up_to done = limit
up_to (more t) = t

-- the turn of a listing call's answer: a refusal, or the lines of the documents from `from` up to the one that comes next
abbrev pub turn_by : Said Page → Work → ℕ → ℕ → Turn
turn_by (refused n q) w from tally = only (line refused_word (n ∷ q ∷ [])) tally
turn_by (answered page) w from tally = turn_of (doc_lines w (docs_in w from (up_to page.next))) (tally + page.tally) page.next

-- the turn over a volume and a plan that starts at document `from`, where the tallies so far add up to `tally`
unfoldable pub list_turn : List ℕ → List ℕ → ℕ → ℕ → Turn
unfolding doc_lines
list_turn v p from tally = turn_by (list_answer v p from page_words) (work v p) from tally

-- the turn over a volume file and a plan file
unfoldable pub turn_at : List ℕ → List ℕ → ℕ → ℕ → Turn
unfolding list_turn
turn_at v b from tally = let turn = list_turn v (plan_words b) from tally in cond (ltb 65536 (length v)) (only too_long tally) turn

-- what n turns print, or fewer where nothing is left
abbrev pub onward : Next → (ℕ → List ℕ) → List ℕ
onward done rest = []
onward (more t) rest = rest t

unfoldable pub text_from : List ℕ → List ℕ → ℕ → ℕ → ℕ → List ℕ
unfolding turn_at
text_from v b zero from tally = []
text_from v b (suc n) from tally =
    let turn = turn_at v b from tally in
    turn.text ++ onward turn.next (λ next. text_from v b n next turn.tally)

-- turns from document 0 on have printed `texts`, and the next one starts at document `from` with the sum `tally`
pub data Came (v b : List ℕ) : List ℕ → ℕ → ℕ → Type 0 where
  at_start : Came v b [] 0 0
  and_turn : (texts : List ℕ) (from tally next : ℕ)
      → Came v b texts from tally
      → (turn_at v b from tally).next ≡ more next
      → Came v b (texts ++ (turn_at v b from tally).text) next (turn_at v b from tally).tally

-- `text` is to be written next: turns from document 0 on lead to the one that starts at document `from` with the sum `tally`, and this
-- is its text
abbrev pub Due : List ℕ → List ℕ → ℕ → ℕ → List ℕ → Type 0
Due v b from tally text = ((texts : List ℕ) × Came v b texts from tally) × (text ≡ (turn_at v b from tally).text)
