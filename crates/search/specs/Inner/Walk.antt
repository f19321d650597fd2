-- The walk over the documents: where the cursors of a pattern stand, and what is known of the documents that they have passed. Assumes
-- nothing.
use Rattle.std.specs.Prelude.{ℕ, ◌+◌, ◌*◌, ◌<◌, ◌≤◌, ◌≡◌, Option, Some, None, Bool, true, false, ◌⊎◌, ◌≢◌, List, length, get_or, take, drop}
use Rattle.std.proofs.Math.Option.{some}
use Rattle.volume.specs.Posting.{doc_of, pos_of}
use Rattle.volume.specs.Layout.{word, lists_of}
use Rattle.plan.specs.Check.{Accepted, sizes}
use Rattle.plan.specs.Accepted.{pattern_at}
use Rattle.fulltext.specs.Positions.{limit}
use Rattle.fulltext.specs.Matches.{least_in}
use Rattle.fulltext.specs.Documents.{found, work}
use Rattle.matcher.specs.declared.cursor.Cursor.{Cursor}
use Rattle.matcher.specs.declared.cursor.Document.{Document}
use Rattle.search.specs.declared.walk.Seen.{Seen}
use Rattle.matcher.specs.Inner.Cursors.{list_end, Stands, AtDocument}
use Rattle.plan.specs.declared.outline.Outline.{Outline}
use Rattle.plan.specs.Inner.Outline.{vars_before, Entry, Tabled}
use Rattle.plan.specs.Inner.Stack.{found_bits}
use Rattle.matcher.specs.Inner.Tables.{var_at}
use Rattle.matcher.specs.Inner.Order.{Order}

-- x is one of n variables from `first` on
abbrev pub Among : ℕ → ℕ → ℕ → Type 0
Among first n x = (first ≤ x) × (x < first + n)

-- from i up to e there is a posting of document d
abbrev pub Has : List ℕ → ℕ → ℕ → ℕ → Type 0
Has v i e d = (j : ℕ) × (i ≤ j) × (j < e) × (doc_of (word v j) ≡ d)

-- a cursor that stood at i stands at j, in front of e, and has passed postings of documents below d alone
pub record Moved (v : List ℕ) (d i j e : ℕ) : Type 0 where
  pub forward : i ≤ j
  pub to : j ≤ e
  pub passed : (a : ℕ) → i ≤ a → a < j → word v a < d * 65536

-- n variables' cursors, which stood at olds, stand at ats in document r, at positions ps: the first from document d on in which each of
-- them has a posting; r is 65,536 where there is none. The positions of the other variables are those of ps₀
pub record Aligned (v ends olds : List ℕ) (first n d r : ℕ) (ats ps₀ ps : List ℕ) : Type 0 where
  pub from : d ≤ r
  pub to : r ≤ limit
  pub same_length : length ats ≡ length olds
  pub others : (x : ℕ) → (Among first n x → ⊥) → get_or ats x 0 ≡ get_or olds x 0
  pub moved : (x : ℕ) → Among first n x → Moved v r (get_or olds x 0) (get_or ats x 0) (get_or ends x 0)
  pub here : r < limit → (x : ℕ) → Among first n x → (get_or ats x 0 < get_or ends x 0) × (doc_of (word v (get_or ats x 0)) ≡ r)
  pub positions-length : length ps ≡ length ps₀
  pub positions-others : (x : ℕ) → (Among first n x → ⊥) → get_or ps x 0 ≡ get_or ps₀ x 0
  pub pos : r < limit → (x : ℕ) → Among first n x → get_or ps x 0 ≡ pos_of (word v (get_or ats x 0))
  pub missing : (e : ℕ) → d ≤ e → e < r → (x : ℕ) × (Among first n x × (Has v (get_or olds x 0) (get_or ends x 0) e → ⊥))

-- the cursors of pattern k have passed documents below d alone
abbrev pub Stood : List ℕ → List ℕ → List ℕ → List ℕ → ℕ → ℕ → Type 0
Stood v p ats ends k d = (x : ℕ) → Among (vars_before p k) (length (pattern_at p k).vars) x
    → Stands v (var_at p x) d (get_or ats x 0) × (get_or ends x 0 ≡ list_end v (var_at p x))

-- pattern k can be found in document r and in none from document d up to r; its cursors stand there, at positions ps. r is 65,536 where
-- no document is left
pub record Candidate (v p ats ends ps : List ℕ) (k d r : ℕ) : Type 0 where
  pub from : d ≤ r
  pub to : r ≤ limit
  pub absent : (e : ℕ) → d ≤ e → e < r → found (lists_of v) e (pattern_at p k) ≡ false
  pub stands : Stood v p ats ends k r
  pub here : r < limit → (x : ℕ) → Among (vars_before p k) (length (pattern_at p k).vars) x
      → (get_or ats x 0 < get_or ends x 0) × (doc_of (word v (get_or ats x 0)) ≡ r)
  pub pos : r < limit → (x : ℕ) → Among (vars_before p k) (length (pattern_at p k).vars) x
      → get_or ps x 0 ≡ pos_of (word v (get_or ats x 0))

-- pattern k before it is brought to document d: its cursors have passed documents below d alone, where it has no document yet or one
-- below d; else it stands where it can be found next
pub record Pending (v p ats ends ps : List ℕ) (k d r : ℕ) (fresh : Bool) : Type 0 where
  pub due : (fresh ≡ true) ⊎ (r < d) → Stood v p ats ends k d
  pub ahead : fresh ≡ false → d ≤ r → Candidate v p ats ends ps k d r

-- each pattern is brought to the first document from document d on in which it can be found
pub record Brought (v p ends ats₀ ps₀ docs₀ : List ℕ) (d : ℕ) (ats ps docs : List ℕ) : Type 0 where
  pub ats-length : length ats ≡ length ats₀
  pub positions-length : length ps ≡ length ps₀
  pub docs-length : length docs ≡ length docs₀
  pub each : (k : ℕ) → k < (sizes p).patterns → Candidate v p ats ends ps k d (get_or docs k 0)

-- the least of the first n documents, or 65,536
pub record LeastDoc (docs : List ℕ) (n r : ℕ) : Type 0 where
  pub most : r ≤ limit
  pub least : (k : ℕ) → k < n → r ≤ get_or docs k 0
  pub one : r < limit → (k : ℕ) × ((k < n) × (get_or docs k 0 ≡ r))

-- `orders` has an order of each pattern's variables, from its first one on
abbrev pub Ordered : List ℕ → List ℕ → Type 0
Ordered p orders = (k : ℕ) → k < (sizes p).patterns → Order (length (pattern_at p k).vars) (drop (vars_before p k) orders)

-- an accepted volume and plan, with the plan's table, an order of each pattern's variables and the ends of their lists
pub record Walks (v p : List ℕ) (table : List Outline) (orders ends : List ℕ) : Type 0 where
  pub accepted : Accepted v p
  pub tabled : Tabled p table
  pub table-length : length table ≡ (sizes p).patterns
  pub ends-room : (sizes p).vars ≤ length ends
  pub ordered : Ordered p orders

-- the positions of pattern k among ps are its least match in document d, where it is found there
abbrev pub LeastAt : List ℕ → List ℕ → ℕ → List ℕ → ℕ → Type 0
LeastAt v p d ps k = found (lists_of v) d (pattern_at p k) ≡ true
    → least_in (lists_of v) d (pattern_at p k) ≡ some (take (length (pattern_at p k).vars) (drop (vars_before p k) ps))

-- a pattern, given by its outline, stands in a document: its cursors and their positions among those of all variables, and an order
pub record Ready (v p : List ℕ) (o : Outline) (doc : Document) (orders ends ats ps : List ℕ) : Type 0 where
  pub accepted : Accepted v p
  pub pattern : o.pattern < (sizes p).patterns
  pub entry : Entry p o
  pub document : AtDocument v doc
  pub ordered : Order o.vars (drop o.first orders)
  pub ends-room : (sizes p).vars ≤ length ends
  pub ats-room : (sizes p).vars ≤ length ats
  pub positions-room : (sizes p).vars ≤ length ps
  pub candidate : Candidate v p ats ends ps o.pattern doc.doc doc.doc

-- pattern k, which stood in document d, is settled there: whether it is found, and its positions then. Its cursors have passed documents
-- below d + 1 alone; those of the other patterns stand where they stood, at ats₀ and positions ps₀
pub record Settled (v p ends : List ℕ) (k d : ℕ) (ats₀ ps₀ : List ℕ) (r : Bool) (ats ps : List ℕ) : Type 0 where
  pub ats-length : length ats ≡ length ats₀
  pub positions-length : length ps ≡ length ps₀
  pub found-is : r ≡ found (lists_of v) d (pattern_at p k)
  pub least : LeastAt v p d ps k
  pub stood : Stood v p ats ends k (d + 1)
  pub others : (x : ℕ) → (Among (vars_before p k) (length (pattern_at p k).vars) x → ⊥)
      → (get_or ats x 0 ≡ get_or ats₀ x 0) × (get_or ps x 0 ≡ get_or ps₀ x 0)

-- each pattern that can be found in document d is settled there; `docs` has the first document from d on in which each one can be found
pub record SettledAll (v p ends docs : List ℕ) (d : ℕ) (ats₀ ps₀ : List ℕ) (bits : ℕ) (ats ps : List ℕ) : Type 0 where
  pub ats-length : length ats ≡ length ats₀
  pub positions-length : length ps ≡ length ps₀
  pub bits_are : bits ≡ found_bits (found (lists_of v) d) p
  pub least : (k : ℕ) → k < (sizes p).patterns → LeastAt v p d ps k
  pub stood : (k : ℕ) → k < (sizes p).patterns → get_or docs k 0 ≡ d → Stood v p ats ends k (d + 1)
  pub kept : (k : ℕ) → k < (sizes p).patterns → get_or docs k 0 ≢ d → Candidate v p ats ends ps k d (get_or docs k 0)

-- a walk that goes on at document `from`: what each pattern waits for, `docs` having a document for each, and a cursor on list 0 that
-- has not passed that document
pub record Walking (v p ends ats ps docs : List ℕ) (from : ℕ) (fresh : Bool) (starts : Cursor) : Type 0 where
  pub to : from ≤ limit
  pub docs-length : length docs ≡ (sizes p).patterns
  pub ats-room : (sizes p).vars ≤ length ats
  pub positions-room : (sizes p).vars ≤ length ps
  pub pending : (k : ℕ) → k < (sizes p).patterns → Pending v p ats ends ps k from (get_or docs k 0) fresh
  pub starts-at : Stands v 0 from starts.at
  pub starts-end : starts.end ≡ list_end v 0

-- what is seen of the next document; 65,536 and nothing found where there is none
abbrev pub seen_or_end : Option Seen → Seen
seen_or_end None = record { doc = limit; found = 0 }
seen_or_end (Some seen) = seen

-- the next document in which a pattern can be found, or 65,536: no true one is in front of it, which patterns are found there, and at
-- which positions, and where the walk goes on
pub record Visited (v p ends : List ℕ) (from : ℕ) (seen : Seen) (ats ps docs : List ℕ) (starts : Cursor) : Type 0 where
  pub later : from ≤ seen.doc
  pub most : seen.doc ≤ limit
  pub none : (d : ℕ) → from ≤ d → d < seen.doc → (work v p).is_true d ≡ false
  pub found_are : seen.doc < limit → seen.found ≡ found_bits (found (lists_of v) seen.doc) p
  pub least : seen.doc < limit → (k : ℕ) → k < (sizes p).patterns → LeastAt v p seen.doc ps k
  pub walking : seen.doc < limit → Walking v p ends ats ps docs (seen.doc + 1) false starts
