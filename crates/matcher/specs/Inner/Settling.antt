-- One pattern in one document: where its variables stand on the way to its least match. Assumes nothing.
use Rattle.std.specs.Prelude.{ℕ, ◌+◌, ◌*◌, ◌<◌, ◌≤◌, ◌≡◌, Bool, true, false, cond, List, ◌⊎◌, ◌≢◌, eqb, length, get_or, set}
use Rattle.std.specs.Prelude as std
use Rattle.std.proofs.Math.Option.{Option, none, some}
use Rattle.seq.specs.Lists.{elem}
use Rattle.volume.specs.Posting.{doc_of, pos_of}
use Rattle.volume.specs.Layout.{word, start, lists_of}
use Rattle.plan.specs.Patterns.{Pattern}
use Rattle.plan.specs.Check.{Accepted, sizes}
use Rattle.plan.specs.Accepted.{pattern_at}
use Rattle.fulltext.specs.Calculus.{at}
use Rattle.fulltext.specs.Inner.Bounds.{MatchFrom}
use Rattle.matcher.specs.declared.cursor.Cursor.{Cursor}
use Rattle.matcher.specs.declared.cursor.Document.{Document}
use Rattle.matcher.specs.Inner.Cursors.{seek_from, list_end, AtDocument}
use Rattle.matcher.specs.Inner.Shortfall.{InDocument}
use Rattle.plan.specs.declared.outline.Outline.{Outline}
use Rattle.plan.specs.Inner.Outline.{Outlines}
use Rattle.fulltext.specs.Positions.{list_of, positions_in}
use Rattle.fulltext.specs.Matches.{fits, vars_in}

-- stream index i is that of position q of document d in list l
pub record AtPos (v : List ℕ) (l d i q : ℕ) : Type 0 where
  pub from : start v l ≤ i
  pub inside : i < list_end v l
  pub small : q ≤ 65535
  pub word-is : word v i ≡ d * 65536 + q

-- variable x, of a list that ends at e, seeks position b of document d: it is set to the first posting there that is not below it, or stays
-- where there is none in the document
abbrev pub Jumped : List ℕ → ℕ → ℕ → ℕ → ℕ → List ℕ → List ℕ → Bool → List ℕ → List ℕ → Type 0
Jumped v d e b x here ps true here' ps' =
    (seek_from v (d * 65536 + b) (get_or here x 0) e < e)
    × ((doc_of (word v (seek_from v (d * 65536 + b) (get_or here x 0) e)) ≡ d)
    × ((here' ≡ set here x (seek_from v (d * 65536 + b) (get_or here x 0) e))
    × (ps' ≡ set ps x (pos_of (word v (seek_from v (d * 65536 + b) (get_or here x 0) e))))))
Jumped v d e b x here ps false here' ps' =
    ((e ≤ seek_from v (d * 65536 + b) (get_or here x 0) e)
    ⊎ ((seek_from v (d * 65536 + b) (get_or here x 0) e < e) × (doc_of (word v (seek_from v (d * 65536 + b) (get_or here x 0) e)) ≢ d)))
    × ((here' ≡ here) × (ps' ≡ ps))

-- the variables of a pattern stand at positions of document d
pub record Standing (v : List ℕ) (d : ℕ) (f : Pattern) (here ps : List ℕ) : Type 0 where
  pub each : (x : ℕ) → x < length f.vars → AtPos v (get_or f.vars x 0) d (get_or here x 0) (get_or ps x 0)

-- the first n of some numbers may have changed, and no other
pub record Within (n : ℕ) (before after : List ℕ) : Type 0 where
  pub same_length : length after ≡ length before
  pub rest : (x : ℕ) → n ≤ x → get_or after x 0 ≡ get_or before x 0

-- the turn behind turn i of n
abbrev pub turned : ℕ → ℕ → ℕ
turned i n = cond (eqb (i + 1) n) 0 (i + 1)

-- they stand at bs or behind, and no match from bs on is in front of them
pub record Low (v : List ℕ) (d : ℕ) (f : Pattern) (bs here ps : List ℕ) : Type 0 where
  pub standing : (x : ℕ) → x < length f.vars → AtPos v (get_or f.vars x 0) d (get_or here x 0) (get_or ps x 0)
  pub above : (x : ℕ) → x < length f.vars → at bs x ≤ get_or ps x 0
  pub low : (qs : List ℕ) → MatchFrom (lists_of v) d f bs qs → (x : ℕ) → x < length f.vars → get_or ps x 0 ≤ at qs x

-- these positions, or nothing
abbrev pub given_if : Bool → List ℕ → Option (List ℕ)
given_if true ps = some ps
given_if false ps = none

-- what a pattern, given by its outline, asks in a document: the ends of its variables' lists. Where they lie among those of the plan is not
-- asked
pub record Posed (v p : List ℕ) (o : Outline) (doc : Document) (ends : List ℕ) : Type 0 where
  pub accepted : Accepted v p
  pub pattern : o.pattern < (sizes p).patterns
  pub outlines : Outlines p o
  pub document : AtDocument v doc
  pub room : o.vars ≤ length ends
  pub ends_are : (x : ℕ) → x < o.vars → get_or ends x 0 ≡ list_end v (get_or (pattern_at p o.pattern).vars x 0)

-- a cursor on list l at position q of document d
pub record On (v : List ℕ) (l d q : ℕ) (c : Cursor) : Type 0 where
  pub end_is : c.end ≡ list_end v l
  pub at-is : AtPos v l d c.at q

-- it is found; none where the list does not hold the position
abbrev pub Found : List ℕ → ℕ → ℕ → ℕ → std.Option Cursor → Type 0
Found v l d q std.None = false ≡ elem q (positions_in d (list_of (lists_of v) l))
Found v l d q (std.Some c) = On v l d q c

-- the variables of a pattern are brought to positions ps of document d, and `ends` has the ends of their lists; or a list does not hold its
-- position
pub record StoodAt (v : List ℕ) (d : ℕ) (f : Pattern) (ps : List ℕ) (r : Bool) (ends here : List ℕ) : Type 0 where
  pub fits_are : r ≡ fits (vars_in (lists_of v) d f.vars) ps
  pub standing : r ≡ true → Standing v d f here ps
  pub ends_are : r ≡ true → (x : ℕ) → x < length f.vars → get_or ends x 0 ≡ list_end v (get_or f.vars x 0)

-- positions for the variables of a pattern of an accepted plan, in document d
pub record Asked (v p : List ℕ) (o : Outline) (d : ℕ) (ps : List ℕ) : Type 0 where
  pub accepted : Accepted v p
  pub pattern : o.pattern < (sizes p).patterns
  pub outlines : Outlines p o
  pub number : length ps ≡ length (pattern_at p o.pattern).vars
  pub doc-small : d ≤ 65535
  pub small : InDocument ps
