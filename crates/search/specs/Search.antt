-- A search: a list of listing calls as they were made, each with the buffer lent, the answer, and the buffer as it returned. An answer
-- may have any form: `plain` is document 01's number and values, and a crate above may have its own. Assumes nothing.
--     KeptAs, Kept            what a call promises
--     IsSearch                calls that are a search
--     Outcome, outcome        what a search comes to
--     Answers, Searched       what holds of each of its calls, and of a search
use Rattle.std.specs.Prelude.{ℕ, ◌+◌, ◌*◌, ◌/◌, ◌≤◌, ◌<◌, max, ◌≡◌, ◌↔◌, List, [], ◌∷◌, ◌++◌, length, get_or, take}
use Rattle.seq.specs.Refusals.{Said, refused, answered}
use Rattle.seq.specs.Calls.{Form, plain, Call, IsRefused, unrefused}
use Rattle.fulltext.specs.Positions.{limit}
use Rattle.fulltext.specs.Documents.{Work, docs_in, rows_of_docs, work}
use Rattle.search.specs.Answers.{Next, done, more, Page}
use Rattle.search.specs.Listing.{list_answer, list_out}

-- what must hold of the calls behind one that started at s: after a refusal they start at s too, after DONE there is none, after MORE they
-- start at the document that it names
abbrev pub Onward : Next → (ℕ → Type 0) → Type 0 → Type 0
Onward done from none = none
Onward (more s) from none = from s

abbrev pub Then : ℕ → Said Page → (ℕ → Type 0) → Type 0 → Type 0
Then s (refused n q) from none = from s
Then s (answered page) from none = Onward page.next from none

-- what a search has come to: the document reached (01: scene reached), 65,536 after DONE; the rows, joined in the order of the calls; the
-- sum of the tallies
pub record Outcome : Type 0 where
  pub reached : ℕ
  pub rows : List ℕ
  pub tally : ℕ

-- nothing more: the document reached is s
abbrev pub stopped : ℕ → Outcome
stopped s = record { reached = s; rows = []; tally = 0 }

-- a call's rows and tally, and then what the calls behind it come to
abbrev pub and_then : List ℕ → ℕ → Outcome → Outcome
and_then rows tally o = record { reached = o.reached; rows = rows ++ o.rows; tally = tally + o.tally }

abbrev pub onward : Next → (ℕ → Outcome) → Outcome
onward done rest = stopped limit
onward (more s) rest = rest s

-- a call that started at s and what comes behind it. A call's rows are taken from its buffer as it returned, as many as its answer gives; a
-- refused call adds nothing
abbrev pub follow : ℕ → ℕ → Said Page → List ℕ → (ℕ → Outcome) → Outcome
follow width s (refused n q) back rest = rest s
follow width s (answered page) back rest = and_then (take (page.rows * width) back) page.tally (onward page.next rest)

-- how many rows fit a call's buffer
abbrev pub room : {A : Type 0} → Work → Call A → ℕ
room w c = length c.lent / w.width

module _ {A : Type 0} (form : Form Page A) where
  -- what a listing call whose answer has this form promises, from document `start` on
  abbrev pub KeptAs : List ℕ → List ℕ → ℕ → Call A → Type 0
  KeptAs v p start c = (c.says ≡ form.make (list_answer v p start (length c.lent))) × (c.back ≡ list_out v p start c.lent)

  -- calls are a search from document s on
  abbrev pub IsSearch : List ℕ → List ℕ → ℕ → List (Call A) → Type 0
  IsSearch v p s [] = Unit
  IsSearch v p s (c ∷ cs) = KeptAs v p s c × Then s (form.said c.says) (λ next. IsSearch v p next cs) (cs ≡ [])

  -- what calls from document s on come to, by their answers and buffers alone; a row has so many words
  abbrev pub outcome_from : ℕ → ℕ → List (Call A) → Outcome
  outcome_from width s [] = stopped s
  outcome_from width s (c ∷ cs) = follow width s (form.said c.says) c.back (λ next. outcome_from width next cs)

  abbrev pub outcome : List ℕ → List ℕ → List (Call A) → Outcome
  outcome v p calls = outcome_from (work v p).width 0 calls

  -- a call says that nothing is left, or that document s is next
  abbrev pub SaysDone : Call A → Type 0
  SaysDone c = (n t : ℕ) × (form.said c.says ≡ answered (record { rows = n; tally = t; next = done }))

  abbrev pub SaysMore : Call A → ℕ → Type 0
  SaysMore c s = (n t : ℕ) × (form.said c.says ≡ answered (record { rows = n; tally = t; next = more s }))

  -- a call of a search, from document s on, over a plan and a volume
  pub record Answers (w : Work) (s : ℕ) (c : Call A) : Type 0 where
    -- it starts at a document
    pub starts : s < limit
    -- it is refused exactly if its buffer is shorter than a row, always with 16, and then its buffer is as it was
    pub short : IsRefused form c ↔ (length c.lent < w.width)
    pub sixteen : IsRefused form c → (c.says ≡ form.make (refused 16 0)) × (c.back ≡ c.lent)
    -- it says MORE t exactly if more true documents remain than rows fit, and t is the lowest of them behind those that fit
    pub says-more : (t : ℕ)
        → SaysMore c t
        ↔ ((w.width ≤ length c.lent) × ((room w c < length (docs_in w s limit)) × (get_or (docs_in w s limit) (room w c) 0 ≡ t)))
    -- it says DONE exactly if no more remain than fit
    pub says-done : SaysDone c ↔ ((w.width ≤ length c.lent) × (length (docs_in w s limit) ≤ room w c))

  -- so for each call of a search from document s on
  abbrev pub EachAnswers : Work → ℕ → List (Call A) → Type 0
  EachAnswers w s [] = Unit
  EachAnswers w s (c ∷ cs) = Answers w s c × Then s (form.said c.says) (λ next. EachAnswers w next cs) (cs ≡ [])

  -- what holds of a search that comes to an outcome
  pub record Searched (w : Work) (calls : List (Call A)) (o : Outcome) : Type 0 where
    -- the rows are those of all true documents below the one reached, each once, rising; after DONE, of all true documents
    pub rows : o.rows ≡ rows_of_docs w (docs_in w 0 o.reached)
    -- the tallies add up to the postings below the document reached; after DONE, to all
    pub tally : o.tally ≡ w.postings 0 o.reached
    -- each call answers as it must
    pub answers : EachAnswers w 0 calls
    -- with k true documents, the k-th of the calls that are not refused, or the first where k is 0, says DONE, and 65,536 is reached;
    -- had an earlier one said DONE, the search would have ended there
    pub closes : (front rest : List (Call A)) (c : Call A)
        → unrefused form calls ≡ front ++ (c ∷ rest)
        → length front + 1 ≡ max 1 (length (docs_in w 0 limit))
        → SaysDone c × (o.reached ≡ limit)

-- what `search::list` promises of a call
abbrev pub Kept : List ℕ → List ℕ → ℕ → Call (Said Page) → Type 0
Kept = KeptAs plain
