-- Cursors on the lists of a volume: where they stand, and how they move. A cursor is a stream index and the end of its list.
-- Assumes nothing.
use Rattle.std.specs.Prelude.{ℕ, ◌+◌, ◌-◌, ◌*◌, ◌<◌, ◌≤◌, ◌≡◌, cond, List, map, leb, ltb, None, Some}
use Rattle.seq.specs.Numbers.{first_from}
use Rattle.volume.specs.Layout.{stream_length, word, count, start}
use Rattle.matcher.specs.declared.cursor.Cursor.{Cursor}
use Rattle.matcher.specs.declared.cursor.Document.{Document}
use Rattle.matcher.specs.declared.cursor.Reached.{Reached}

-- the first stream index from i up to e whose word is not below target; e where there is none
unfoldable pub seek_from : List ℕ → ℕ → ℕ → ℕ → ℕ
unfolding first_from
seek_from v target i e = first_from (λ j. leb target (word v j)) i (e - i)

-- the words from i up to e are in the stream, and rise
pub record Stretch (v : List ℕ) (i e : ℕ) : Type 0 where
  pub order : i ≤ e
  pub within : e ≤ stream_length v
  pub rising : (j k : ℕ) → i ≤ j → j < k → k < e → word v j < word v k

-- a cursor behind the words below target
abbrev pub sought : List ℕ → ℕ → Cursor → Cursor
sought v target c = record { at = seek_from v target c.at c.end; end = c.end }

-- stream index low lies from i up to e, and all words from i on in front of it are below target
pub record Galloped (v : List ℕ) (target i e low : ℕ) : Type 0 where
  pub from : i ≤ low
  pub to : low ≤ e
  pub below : (j : ℕ) → i ≤ j → j < low → word v j < target

-- a cursor moves forward only, on one list
pub record Forward (c r : Cursor) : Type 0 where
  pub same_end : r.end ≡ c.end
  pub not_back : c.at ≤ r.at

-- a cursor has come behind the words below target, and has read the posting there; none behind the list
pub record Arrived (v : List ℕ) (target i e : ℕ) (r : Reached) : Type 0 where
  pub at-is : r.at ≡ seek_from v target i e
  pub posting_is : r.posting ≡ cond (ltb r.at e) (Some (record { bits = word v r.at })) None

-- the stream index behind list l
abbrev pub list_end : List ℕ → ℕ → ℕ
list_end v l = start v l + count v l

-- a cursor on list l, at its first posting
abbrev pub list_cursor : List ℕ → ℕ → Cursor
list_cursor v l = record { at = start v l; end = list_end v l }

-- where cursors stand, and where their lists end
unfoldable pub ats_of : List Cursor → List ℕ
ats_of cs = map (λ c. c.at) cs

unfoldable pub ends_of : List Cursor → List ℕ
ends_of cs = map (λ c. c.end) cs

-- a cursor on no list
abbrev pub no_cursor : Cursor
no_cursor = record { at = 0; end = 0 }

-- stream index i lies in list l, or at its end, and all postings of the list in front of it are in documents below d
pub record Stands (v : List ℕ) (l d i : ℕ) : Type 0 where
  pub from : start v l ≤ i
  pub to : i ≤ list_end v l
  pub behind : (j : ℕ) → start v l ≤ j → j < i → word v j < d * 65536

-- a document, and a cursor on list 0 that has not passed it
pub record AtDocument (v : List ℕ) (c : Document) : Type 0 where
  pub small : c.doc ≤ 65535
  pub starts-at : Stands v 0 c.doc c.starts.at
  pub starts-end : c.starts.end ≡ list_end v 0
