-- One document of the walk: the next in which a pattern can be found. No contract cites this file.
--     tabled-part, cursors-part     the parts of what is laid out that the walk is handed
--     walking-first             before the first document
--     seen-from, seen_none      it is not in front of the document that was reached; no document between is true
--     seen_here                 each pattern in the document
--     seen-out, seen_in         there is none; its found patterns, their positions, and where the walk goes on
--     seen_true                 whether it is true
--     starts-stretch, starts-later, at-document     the cursor on list 0, and a document with it
--     block-first               the block of that cursor begins within the stream
-- Assumes nothing.
use Prim.Native.Nat.{ℕ, ◌+◌, ◌*◌, ◌/◌, ◌<◌, ◌≤◌}
use native.Mathlib.Omega.{arith}
use Rattle.std.specs.Prelude.{None}
use mathlib.Core.Path.{◌≡◌, refl, sym, ap, ◌∙◌}
use mathlib.Core.Bool.{Bool, true, false, true≢false}
use mathlib.Core.Logic.{⊎_elim}
use mathlib.Core.List.{List}
use lib.ListN.{length, get_or, take}
use lib.Seq.{get_or-take}
use Rattle.seq.proofs.Laws.Tests.{below_or}
use Rattle.volume.specs.Layout.{lists_of}
use Rattle.volume.specs.Layout as layout
use Rattle.volume.proofs.Laws.Check.{good}
use Rattle.plan.specs.declared.outline.Outline.{Outline}
use Rattle.plan.specs.Limits.{row_words}
use Rattle.plan.specs.Rows.{rows_of}
use Rattle.plan.specs.Patterns.{Pattern, answer}
use Rattle.plan.specs.Check.{sizes}
use Rattle.plan.proofs.Laws.Accepted.{given}
use Rattle.matcher.specs.declared.cursor.Cursor.{Cursor}
use Rattle.fulltext.specs.Positions.{limit}
use Rattle.fulltext.specs.Documents.{found, matching, work_of, work}
use Rattle.fulltext.proofs.Laws.Skips.{matching-none}
use Rattle.matcher.specs.Inner.Cursors.{no_cursor, ats_of, ends_of, seek_from, sought, Stretch, list_end, list_cursor, Stands, AtDocument}
use Rattle.plan.specs.Inner.Outline.{no_outline, Tabled}
use Rattle.matcher.specs.Inner.Tables.{var_at, Placed, Cursors}
use Rattle.matcher.proofs.Laws.Cursors.{seek_ge, seek-le, seek-below, ats-at, ends-at}
use Rattle.matcher.proofs.Laws.Volume.{list-stretch}
use Rattle.plan.proofs.Laws.Outline.{vars-within}
use Rattle.plan.specs.Inner.Stack.{found_bits}
use Rattle.search.specs.Inner.Walk.{Stood, Candidate, Pending, Brought, LeastDoc, Walks, SettledAll, Walking, seen_or_end, Visited}
use Rattle.search.proofs.Laws.Tally.{var-there}

-- the words of a row, by the plan's sizes
pub work-words : (v p : List ℕ) → (work v p).width ≡ row_words (sizes p).patterns (sizes p).vars
unfolding work sizes
work-words v p = refl

-- a cursor that has passed documents below one alone has passed those below a later one alone
starts-later : (v : List ℕ) (l from doc i : ℕ) → from ≤ doc → Stands v l from i → Stands v l doc i
starts-later v l from doc i h s = record { from = s.from; to = s.to; behind = λ j a b. let t = s.behind j a b in omega arith }

-- a document, with a cursor on list 0 that has not passed an earlier one
pub at-document : (v : List ℕ) (from doc : ℕ) (starts : Cursor) → from ≤ doc → doc < limit → Stands v 0 from starts.at
    → starts.end ≡ list_end v 0 → AtDocument v (record { doc = doc; starts = starts })
at-document v from doc starts h l s e =
    record { small = omega arith; starts-at = starts-later v 0 from doc starts.at h s; starts-end = e }

-- a cursor that has sought a document from the first posting of its list on
sought-stands : (v : List ℕ) (l d : ℕ) → Stretch v (layout.start v l) (list_end v l)
    → Stands v l d (seek_from v (d * 65536) (layout.start v l) (list_end v l))
sought-stands v l d s = record {
  from = seek_ge v (d * 65536) (layout.start v l) (list_end v l);
  to = seek-le v (d * 65536) (layout.start v l) (list_end v l) s.order;
  behind = λ j a b. seek-below v (d * 65536) (layout.start v l) (list_end v l) j a b;
}

-- the part of a table that has an outline for each pattern
pub tabled-part : (p : List ℕ) (table : List Outline) (n : ℕ) → n ≡ (sizes p).patterns → Tabled p table → Tabled p (take n table)
tabled-part p table n e t k h = rw (get_or-take n table k no_outline (omega arith)) (t k h)

-- the part of the cursors that has one for each variable
pub cursors-part : (v p : List ℕ) (d : ℕ) (cs : List Cursor) (n : ℕ) → n ≡ (sizes p).vars → Cursors v p d (ats_of cs) (ends_of cs)
    → Cursors v p d (ats_of (take n cs)) (ends_of (take n cs))
cursors-part v p d cs n e c x h =
    let t = get_or-take n cs x no_cursor (omega arith) in
    rw (ats-at (take n cs) x, ends-at (take n cs) x, t) (rw (ats-at cs x, ends-at cs x) at (c x h))

-- whether a document is true
pub seen_true : (v p : List ℕ) (bits doc : ℕ) (r : Bool) → ((found : Pattern → Bool) → bits ≡ found_bits found p → r ≡ answer found (rows_of p)) → bits ≡ found_bits (found (lists_of v) doc) p → (work v p).is_true doc ≡ r
unfolding work work_of matching
seen_true v p bits doc r told f = sym (told (found (lists_of v) doc) f)

module _ (v p : List ℕ) (table : List Outline) (orders ends : List ℕ) (w : Walks v p table orders ends) where
  -- the words of list 0
  pub starts-stretch : Stretch v (layout.start v 0) (list_end v 0)
  starts-stretch = let g = (given v p w.accepted).volume-accepted in list-stretch v g 0 (good v g).lists-some

  -- the block in which a cursor on list 0 stands begins within the stream
  pub block-first : (start : ℕ) (starts : Cursor) → starts ≡ sought v (start * 65536) (list_cursor v 0)
      → 126 * (starts.at / 126) ≤ layout.stream_length v
  block-first start starts e = rw e (let t = (sought-stands v 0 start starts-stretch).to in let h = starts-stretch.within in omega arith)

  pub walking-first : (start : ℕ) (firsts ats ps docs : List ℕ) → start ≤ limit → (sizes p).vars ≤ length firsts → (sizes p).vars ≤ length ps
      → Cursors v p start firsts ends → ats ≡ firsts → length docs ≡ (sizes p).patterns
      → (starts : Cursor) → starts ≡ sought v (start * 65536) (list_cursor v 0) → Walking v p ends ats ps docs start true starts
  walking-first start firsts ats ps docs low room reach placed same d starts e = record {
    to = low;
    docs-length = d;
    ats-room = rw same room;
    positions-room = reach;
    pending = λ k h. record { due = λ c. stood k h; ahead = λ n. absurd (true≢false n) };
    starts-at = rw e (sought-stands v 0 start starts-stretch);
    starts-end = ap (λ (c : Cursor). c.end) e;
  }
    where
      stood : (k : ℕ) → k < (sizes p).patterns → Stood v p ats ends k start
      stood k h x a = rw same (rw q.at-is (sought-stands v (var_at p x) start s), q.end_is)
        where
          inside : x < (sizes p).vars
          inside = let s = vars-within p k h in omega arith

          q : Placed v p start x (get_or firsts x 0) (get_or ends x 0)
          q = placed x inside

          s : Stretch v (layout.start v (var_at p x)) (list_end v (var_at p x))
          s = list-stretch v (given v p w.accepted).volume-accepted (var_at p x) (var-there v p w.accepted x inside)

  module _ (ats₀ ps₀ docs₀ ats ps docs : List ℕ) (from doc : ℕ) (b : Brought v p ends ats₀ ps₀ docs₀ from ats ps docs)
      (l : LeastDoc docs (length docs) doc) (size : length docs₀ ≡ (sizes p).patterns) where
    docs-size : length docs ≡ (sizes p).patterns
    docs-size = b.docs-length ∙ size

    -- each pattern's document is this one or a later one
    least : (k : ℕ) → k < (sizes p).patterns → doc ≤ get_or docs k 0
    least k h = l.least k (let s = docs-size in omega arith)

    pub seen-from : from ≤ doc
    seen-from =
        ⊎_elim
        (λ (h : doc < limit). let o = l.one h in let s = docs-size in let c = (b.each o.0 (let i = o.1.0 in omega arith)).from in let e = o.1.1 in omega arith)
        (λ (h : limit ≤ doc). let c = b.each 0 (given v p w.accepted).some-patterns in let f = c.from in let t = c.to in omega arith)
        (below_or doc limit)

    seen_none : (j : ℕ) → from ≤ j → j < doc → (work v p).is_true j ≡ false
    unfolding work work_of sizes
    seen_none j f h = matching-none v p w.accepted j (λ k i. (b.each k i).absent j f (let m = least k i in omega arith))

    -- each pattern in the document
    pub seen_here : (k : ℕ) → k < (sizes p).patterns → Candidate v p ats ends ps k doc (get_or docs k 0)
    seen_here k i = let c = b.each k i in record {
      from = least k i;
      to = c.to;
      absent = λ e f h. c.absent e (let z = seen-from in omega arith) h;
      stands = c.stands;
      here = c.here;
      pos = c.pos;
    }

    pub seen-out : (starts : Cursor) → doc ≡ limit → Visited v p ends from (seen_or_end None) ats ps docs starts
    seen-out starts e = record {
      later = let f = seen-from in omega arith;
      most = omega arith;
      none = λ j f h. seen_none j f (omega arith);
      found_are = λ h. absurd (let z : ⊥ = omega arith in z);
      least = λ h. absurd (let z : ⊥ = omega arith in z);
      walking = λ h. absurd (let z : ⊥ = omega arith in z);
    }

    pub seen_in : (bits : ℕ) (starts : Cursor) (nexts qs : List ℕ) → SettledAll v p ends docs doc ats ps bits nexts qs
        → AtDocument v (record { doc = doc; starts = starts }) → (sizes p).vars ≤ length ats → (sizes p).vars ≤ length ps
        → Visited v p ends from (record { doc = doc; found = bits }) nexts qs docs starts
    seen_in bits starts nexts qs t s room reach = record {
      later = seen-from;
      most = l.most;
      none = seen_none;
      found_are = λ h. t.bits_are;
      least = λ h. t.least;
      walking = λ h. record {
        to = omega arith;
        docs-length = docs-size;
        ats-room = let m = t.ats-length in omega arith;
        positions-room = let m = t.positions-length in omega arith;
        pending = pending;
        starts-at = starts-later v 0 doc (doc + 1) starts.at (omega arith) s.starts-at;
        starts-end = s.starts-end;
      };
    }
      where
        near : (k : ℕ) → k < (sizes p).patterns → get_or docs k 0 < doc + 1 → Stood v p nexts ends k (doc + 1)
        near k i h = t.stood k i (let m = least k i in omega arith)

        pending : (k : ℕ) → k < (sizes p).patterns → Pending v p nexts ends qs k (doc + 1) (get_or docs k 0) false
        pending k i = record {
          due = λ c. ⊎_elim (λ (f : false ≡ true). absurd (true≢false (sym f))) (near k i) c;
          ahead = λ n m. let c = t.kept k i (λ q. omega arith) in record {
            from = m;
            to = c.to;
            absent = λ j f h. c.absent j (omega arith) h;
            stands = c.stands;
            here = c.here;
            pos = c.pos;
          };
        }
