-- A whole enumeration: a list of calls as they were made, each with the buffer lent, the answer, and the buffer as it returned. The
-- first starts from a tuple, and after each MORE the next one starts from the match that it names. An answer may have any form: `plain`
-- is document 01's number and values, and a crate above may have its own. Assumes nothing.
--     KeptAs, Kept            what a call promises
--     MayStart                where an enumeration may start
--     IsEnumeration           calls that are an enumeration
--     Outcome, outcome        what an enumeration comes to
--     Answers, Exhaustive     what holds of each of its calls, and of an enumeration
use Rattle.std.specs.Prelude.{ℕ, ◌+◌, ◌*◌, ◌/◌, ◌≤◌, ◌<◌, max, ◌≡◌, ◌↔◌, List, [], ◌∷◌, ◌++◌, length, get_or, take}
use Rattle.std.proofs.Math.Option.{Option, none, some}
use Rattle.seq.specs.Lists.{joined, at}
use Rattle.seq.specs.Refusals.{Said, refused, answered}
use Rattle.seq.specs.Calls.{Form, plain, Call, IsRefused, unrefused}
use Rattle.fulltext.specs.Order.{before}
use Rattle.enumeration.specs.Answers.{Page, padded}
use Rattle.enumeration.specs.Enumerating.{var_count, matches_of, matches_answer, matches_out}

-- a tuple that a call for pattern k may start from: for each variable a position of a document
abbrev pub MayStart : List ℕ → ℕ → List ℕ → Type 0
MayStart p k start = (length start ≡ var_count p k) × ((x : ℕ) → x < length start → at start x ≤ 65535)

-- what must hold of the calls behind one that started from a tuple: after a refusal they start from it too, after DONE there is none, after
-- MORE they start from the match that it names, which is the first n of its eight words
abbrev pub Onward : ℕ → Option (List ℕ) → (List ℕ → Type 0) → Type 0 → Type 0
Onward n none from end = end
Onward n (some words) from end = from (take n words)

abbrev pub Then : ℕ → List ℕ → Said Page → (List ℕ → Type 0) → Type 0 → Type 0
Then n start (refused m q) from end = from start
Then n start (answered page) from end = Onward n page.next from end

-- what an enumeration has come to: the tuple that the next call would start from, none after DONE; the words written, joined in the order
-- of the calls
pub record Outcome : Type 0 where
  pub reached : Option (List ℕ)
  pub words : List ℕ

-- nothing more: the tuple reached, or the end
abbrev pub stopped : Option (List ℕ) → Outcome
stopped reached = record { reached = reached; words = [] }

-- a call's words, and then what the calls behind it come to
abbrev pub and_then : List ℕ → Outcome → Outcome
and_then words o = record { reached = o.reached; words = words ++ o.words }

abbrev pub onward : ℕ → Option (List ℕ) → (List ℕ → Outcome) → Outcome
onward n none rest = stopped none
onward n (some words) rest = rest (take n words)

-- a call that started from a tuple and what comes behind it. A call's words are taken from its buffer as it returned, as many matches as
-- its answer gives; a refused call adds nothing
abbrev pub follow : ℕ → List ℕ → Said Page → List ℕ → (List ℕ → Outcome) → Outcome
follow n start (refused m q) back rest = rest start
follow n start (answered page) back rest = and_then (take (page.count * n) back) (onward n page.next rest)

-- of some matches those in front of the tuple reached; at the end all
abbrev pub below : Option (List ℕ) → List (List ℕ) → List (List ℕ)
below none qs = qs
below (some to) qs = before to qs

-- how many matches fit a call's buffer
abbrev pub room : {A : Type 0} → ℕ → Call A → ℕ
room n c = length c.lent / n

module _ {A : Type 0} (form : Form Page A) where
  -- what a call whose answer has this form promises: pattern k, document d, from a tuple on
  abbrev pub KeptAs : List ℕ → List ℕ → ℕ → ℕ → List ℕ → Call A → Type 0
  KeptAs v p k d start c =
      (c.says ≡ form.make (matches_answer v p k d start (length c.lent))) × (c.back ≡ matches_out v p k d start c.lent)

  -- calls are an enumeration from a tuple on
  abbrev pub IsEnumeration : List ℕ → List ℕ → ℕ → ℕ → List ℕ → List (Call A) → Type 0
  IsEnumeration v p k d start [] = Unit
  IsEnumeration v p k d start (c ∷ cs) =
      KeptAs v p k d start c × Then (var_count p k) start (form.said c.says) (λ next. IsEnumeration v p k d next cs) (cs ≡ [])

  -- what calls from a tuple on come to, by their answers and buffers alone; a match has n words
  abbrev pub outcome : ℕ → List ℕ → List (Call A) → Outcome
  outcome n start [] = stopped (some start)
  outcome n start (c ∷ cs) = follow n start (form.said c.says) c.back (λ next. outcome n next cs)

  -- a call says that nothing is left, or names the next match in eight words
  abbrev pub SaysDone : Call A → Type 0
  SaysDone c = (m : ℕ) × (form.said c.says ≡ answered (record { count = m; next = none }))

  abbrev pub SaysMore : Call A → List ℕ → Type 0
  SaysMore c words = (m : ℕ) × (form.said c.says ≡ answered (record { count = m; next = some words }))

  -- a call of an enumeration, where these matches of n variables are left
  pub record Answers (n : ℕ) (qs : List (List ℕ)) (c : Call A) : Type 0 where
    -- it is refused exactly if its buffer is shorter than a match, always with 16, and then its buffer is as it was
    pub short : IsRefused form c ↔ (length c.lent < n)
    pub sixteen : IsRefused form c → (c.says ≡ form.make (refused 16 0)) × (c.back ≡ c.lent)
    -- it says MORE exactly if more matches are left than fit, and names the first behind those that fit
    pub says-more : (words : List ℕ)
        → SaysMore c words
        ↔ ((n ≤ length c.lent) × ((room n c < length qs) × (padded (get_or qs (room n c) []) ≡ words)))
    -- it says DONE exactly if no more are left than fit
    pub says-done : SaysDone c ↔ ((n ≤ length c.lent) × (length qs ≤ room n c))

  -- so for each call of an enumeration of pattern k in document d, and each starts from a tuple that may be given
  abbrev pub EachAnswers : List ℕ → List ℕ → ℕ → ℕ → List ℕ → List (Call A) → Type 0
  EachAnswers v p k d start [] = Unit
  EachAnswers v p k d start (c ∷ cs) =
      MayStart p k start
      × (Answers (var_count p k) (matches_of v p k d start) c
      × Then (var_count p k) start (form.said c.says) (λ next. EachAnswers v p k d next cs) (cs ≡ []))

  -- what holds of an enumeration from a tuple on that comes to an outcome
  pub record Exhaustive (v p : List ℕ) (k d : ℕ) (start : List ℕ) (calls : List (Call A)) (o : Outcome) : Type 0 where
    -- the words written are those of all matches from the start on that come before the tuple reached, each once, in order; after DONE, of
    -- all matches from the start on
    pub words : o.words ≡ joined (below o.reached (matches_of v p k d start))
    -- each call answers as it must
    pub answers : EachAnswers v p k d start calls
    -- with m matches from the start on, the m-th of the calls that are not refused, or the first where m is 0, says DONE, and the end is
    -- reached; had an earlier one said DONE, the enumeration would have ended there
    pub closes : (front rest : List (Call A)) (c : Call A)
        → unrefused form calls ≡ front ++ (c ∷ rest)
        → length front + 1 ≡ max 1 (length (matches_of v p k d start))
        → SaysDone c × (o.reached ≡ none)

-- what `enumeration::matches` promises of a call
abbrev pub Kept : List ℕ → List ℕ → ℕ → ℕ → List ℕ → Call (Said Page) → Type 0
Kept = KeptAs plain
