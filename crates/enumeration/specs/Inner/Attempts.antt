-- One pattern in one document: where its variables stand on the way to its next match. Assumes nothing.
use Rattle.std.specs.Prelude.{ℕ, ◌+◌, ◌*◌, ◌<◌, ◌≤◌, ◌≡◌, Bool, true, false, List, ◌≢◌, length, get_or}
use Rattle.volume.specs.Posting.{doc_of, pos_of}
use Rattle.volume.specs.Layout.{word, start}
use Rattle.plan.specs.declared.outline.Outline.{Outline}
use Rattle.plan.specs.Patterns.{Pattern}
use Rattle.plan.specs.Accepted.{pattern_at}
use Rattle.matcher.specs.declared.cursor.Document.{Document}
use Rattle.matcher.specs.Inner.Cursors.{seek_from, list_end}
use Rattle.matcher.specs.Inner.Settling.{Posed}
use Rattle.matcher.specs.Inner.Order.{Order}

-- stream index i lies in list l, or at its end, and all postings of the list in front of it stand before position b of document d
pub record Mark (v : List ℕ) (l d b i : ℕ) : Type 0 where
  pub from : start v l ≤ i
  pub to : i ≤ list_end v l
  pub behind : (j : ℕ) → start v l ≤ j → j < i → word v j < d * 65536 + b

-- each variable of a pattern has a mark in front of its bound
abbrev pub Marked : List ℕ → ℕ → Pattern → List ℕ → List ℕ → Type 0
Marked v d f lows marks = (x : ℕ) → x < length f.vars → Mark v (get_or f.vars x 0) d (get_or lows x 0) (get_or marks x 0)

-- what the search for a pattern's next match asks: an order of its variables, the ends of their lists, and for each a mark in front of the
-- document
pub record Sought (v p : List ℕ) (o : Outline) (doc : Document) (order firsts ends : List ℕ) : Type 0 where
  pub posed : Posed v p o doc ends
  pub order_is : Order o.vars order
  pub firsts-room : o.vars ≤ length firsts
  pub firsts_are : (x : ℕ) → x < o.vars → Mark v (get_or (pattern_at p o.pattern).vars x 0) doc.doc 0 (get_or firsts x 0)

-- the index that variable x seeks: that of its first posting from its mark on that is not below its bound
abbrev pub sought_from : List ℕ → ℕ → List ℕ → List ℕ → List ℕ → ℕ → ℕ
sought_from v d ends lows marks x = seek_from v (d * 65536 + get_or lows x 0) (get_or marks x 0) (get_or ends x 0)

-- n variables are brought to their first positions in document d that are not below lows; or one of them has none
pub record StoodFrom (v : List ℕ) (d n : ℕ) (ends lows marks : List ℕ) (r : Bool) (here ps : List ℕ) : Type 0 where
  pub each : r ≡ true → (x : ℕ) → x < n
      → (get_or here x 0 ≡ sought_from v d ends lows marks x)
      × ((get_or here x 0 < get_or ends x 0)
      × ((doc_of (word v (get_or here x 0)) ≡ d) × (get_or ps x 0 ≡ pos_of (word v (get_or here x 0)))))
  pub out : r ≡ false → (x : ℕ) × ((x < n)
      × (sought_from v d ends lows marks x < get_or ends x 0 → doc_of (word v (sought_from v d ends lows marks x)) ≢ d))

-- bounds behind a match: its positions, one on at the last of n variables
pub record Stepped (ps : List ℕ) (n : ℕ) (lows lows' : List ℕ) : Type 0 where
  pub same_length : length lows' ≡ length lows
  pub front : (x : ℕ) → x + 1 < n → get_or lows' x 0 ≡ get_or ps x 0
  pub last : (x : ℕ) → x + 1 ≡ n → get_or lows' x 0 ≡ get_or ps x 0 + 1
