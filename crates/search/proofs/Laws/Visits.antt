-- The listing loop, document by document. No contract cites this file.
--     Visiting                      where the loop stands: rows laid, and where the walk goes on
--     visiting-first                before the first document
--     visiting-part, part_length     the patterns' documents at the front of an array
--     visit-reached                 the rows that are laid when the next document in which a pattern can be found is reached
--     visit-small                   the positions of its found patterns are those of a document
--     visit-row, visit-wide         its row from its bits and positions, and how many words it has
--     visit-passed, visit-put       behind it, with or without its row
--     visit-room, visit-words       one more row fits; the words of all rows are few
--     visit-rows                    the rows are no more than the documents
--     visit-done, visit-more        the ways out of the loop
-- Assumes nothing.
use Prim.Native.Nat.{ℕ, ◌+◌, ◌-◌, ◌*◌, ◌/◌, ◌%◌, ◌<◌, ◌≤◌}
use native.Mathlib.Omega.{arith}
use native.Mathlib.Nat.{add-mul, one-mul, mul-le-mul_left, mul-le-mul_right, le-div_iff_mul-le}
use mathlib.Core.Path.{◌≡◌, refl, sym, ap, ap₂, subst, ◌∙◌}
use mathlib.Core.Bool.{true, false}
use mathlib.Core.Logic.{◌≢◌}
use mathlib.Core.List.{List, ◌++◌}
use lib.ListN.{length, take, drop, length-append, take-append-drop}
use lib.Seq.{take_at}
use lib.Dec.{eqb}
use borrow.Author.Tests.{eq-eqb, ne_eqb}
use Rattle.seq.specs.Numbers.{run}
use Rattle.seq.specs.Refusals.{answered}
use Rattle.seq.proofs.Laws.Numbers.{length_run}
use Rattle.seq.proofs.Laws.Keep.{keep-le}
use Rattle.volume.specs.Layout.{lists_of}
use Rattle.plan.specs.declared.outline.Outline.{Outline}
use Rattle.plan.specs.Limits.{most_patterns, row_words, most_row_words}
use Rattle.plan.specs.Rows.{rows_of}
use Rattle.plan.specs.Check.{sizes}
use Rattle.plan.specs.Inner.Outline.{outline_at}
use Rattle.plan.proofs.Laws.Accepted.{given}
use Rattle.matcher.specs.declared.cursor.Cursor.{Cursor}
use Rattle.matcher.specs.Inner.Shortfall.{InDocument}
use Rattle.fulltext.specs.Positions.{limit}
use Rattle.fulltext.specs.Matches.{starts_in}
use Rattle.fulltext.specs.Documents.{Work, postings_in, work_of, docs_in, work}
use Rattle.fulltext.proofs.Laws.Counts.{work-even, work-wide}
use Rattle.search.specs.declared.walk.Seen.{Seen}
use Rattle.search.specs.Answers.{done, more}
use Rattle.search.specs.Search.{Kept}
use Rattle.search.specs.Inner.Rows.{halved, row_by}
use Rattle.search.specs.Inner.Walk.{Walks, Walking, Visited}
use Rattle.search.proofs.Laws.Loop.{Progress, begins, same_size, room-rows, over, wrote}
use Rattle.search.proofs.Laws.Listing.{stops-kept, ends-kept}
use Rattle.search.proofs.Laws.Rows.{row_is, row_small}
use Rattle.search.proofs.Laws.Seen.{work-words}

pub record Visiting (v p ends : List ℕ) (start : ℕ) (out₀ ats ps docs out : List ℕ) (from rows : ℕ) (starts : Cursor) : Type 0 where
  pub progress : Progress (work v p) start out₀ from rows out
  pub walking : Walking v p ends ats ps docs from (eqb from start) starts

pub visiting-first : (v p ends : List ℕ) (start : ℕ) (out₀ ats ps docs : List ℕ) (starts : Cursor) → start ≤ limit
    → Walking v p ends ats ps docs start true starts → Visiting v p ends start out₀ ats ps docs out₀ start 0 starts
visiting-first v p ends start out₀ ats ps docs starts h w =
    record { progress = begins (work v p) start out₀ h; walking = rw (eq-eqb start start refl) w }

-- the patterns' documents stand at the front of an array
pub visiting-part : (v p ends : List ℕ) (start : ℕ) (out₀ ats ps part rest out : List ℕ) (from rows : ℕ) (starts : Cursor) (n : ℕ)
    → n ≡ (sizes p).patterns → Visiting v p ends start out₀ ats ps part out from rows starts
    → Visiting v p ends start out₀ ats ps (take n (part ++ rest)) out from rows starts
visiting-part v p ends start out₀ ats ps part rest out from rows starts n e i =
    rw (take_at part rest n (i.walking.docs-length ∙ sym e)) i

pub part_length : (xs part : List ℕ) (n m : ℕ) → length part ≡ length (take n xs) → length xs ≡ m → length (part ++ drop n xs) ≡ m
part_length xs part n m e l = length-append part (drop n xs) ∙ ap (λ (k : ℕ). k + length (drop n xs)) e ∙ sym (length-append (take n xs) (drop n xs)) ∙ ap length (take-append-drop n xs) ∙ l

-- true documents are documents
docs-few : (w : Work) (a b : ℕ) → length (docs_in w a b) ≤ b - a
unfolding docs_in
docs-few w a b = let k = keep-le w.is_true (run (λ d. d) a (b - a)) in let l = length_run (λ (d : ℕ). d) a (b - a) in omega arith

-- rows fit 32 bits
pub visit-rows : (v p : List ℕ) (start : ℕ) (out₀ out : List ℕ) (d n : ℕ) → Progress (work v p) start out₀ d n out → n ≤ 65536
visit-rows v p start out₀ out d n g = let l = docs-few (work v p) start d in let t = g.to in let r = g.rows in omega arith

-- the row of the document, from its bits and positions, and its words
module _ (v p : List ℕ) (table : List Outline) (orders ends : List ℕ) (w : Walks v p table orders ends) (from : ℕ) (seen : Seen) (ats ps docs : List ℕ)
    (starts : Cursor) (s : Visited v p ends from seen ats ps docs starts) (inside : seen.doc < limit) (n : ℕ) (e : n ≡ (sizes p).patterns)
  where
    pub visit-small : (k : ℕ) → k < n → halved seen.found k % 2 ≡ 1
        → InDocument (take (outline_at table k).vars (drop (outline_at table k).first ps))
    visit-small k h =
        row_small v p table w.tabled seen.doc seen.found ps (s.found_are inside) (s.least inside) k (omega arith)

    visit-row : row_by (starts_in (lists_of v) seen.doc) table seen.doc seen.found ps n ≡ (work v p).row_of seen.doc
    visit-row =
        row_is v p table w.tabled seen.doc seen.found ps (s.found_are inside) (s.least inside) n e

    pub visit-wide : length (row_by (starts_in (lists_of v) seen.doc) table seen.doc seen.found ps n)
        ≡ row_words (sizes p).patterns (sizes p).vars
    visit-wide = ap length visit-row ∙ work-even v p seen.doc ∙ work-words v p

module _ (v p ends : List ℕ) (start : ℕ) (out₀ : List ℕ) (from : ℕ) (seen : Seen) (ats ps docs : List ℕ)
    (starts : Cursor) (s : Visited v p ends from seen ats ps docs starts) (rows : ℕ) (out : List ℕ)
    (g : Progress (work v p) start out₀ from rows out) where
  pub visit-reached : Progress (work v p) start out₀ seen.doc rows out
  visit-reached = over (work v p) (work-even v p) g seen.doc s.later s.most s.none

  module _ (inside : seen.doc < limit) where
    -- it is behind the first document
    onward : Walking v p ends ats ps docs (seen.doc + 1) (eqb (seen.doc + 1) start) starts
    onward = rw (ne_eqb (seen.doc + 1) start (λ e. let f = g.from in let l = s.later in omega arith)) (s.walking inside)

    pub visit-passed : (work v p).is_true seen.doc ≡ false
        → Visiting v p ends start out₀ ats ps docs out (seen.doc + 1) rows starts
    visit-passed t = record {
      progress = over (work v p) (work-even v p) visit-reached (seen.doc + 1) (omega arith) (omega arith) (λ j a b. let q : j ≡ seen.doc = omega arith in rw q t);
      walking = onward;
    }

    -- the row is put behind the others, where one more fits
    pub visit-put : (work v p).is_true seen.doc ≡ true → (wide : ℕ) → wide ≡ row_words (sizes p).patterns (sizes p).vars
        → rows ≢ length out₀ / wide → (table : List Outline) (orders : List ℕ) → Walks v p table orders ends → (n : ℕ) → n ≡ (sizes p).patterns
        → (out' : List ℕ)
        → out' ≡ take (rows * wide) out ++ row_by (starts_in (lists_of v) seen.doc) table seen.doc seen.found ps n
        ++ drop (rows * wide + length (row_by (starts_in (lists_of v) seen.doc) table seen.doc seen.found ps n)) out
        → Visiting v p ends start out₀ ats ps docs out' (seen.doc + 1) (rows + 1) starts
    visit-put t wide e less table orders w n many out' put = record {
      progress = wrote (work v p) (work-even v p) visit-reached (work-wide v p) inside t fits out'
          (put ∙ ap₂ (λ (m : ℕ) (xs : List ℕ). take (rows * m) out ++ xs ++ drop (rows * m + length xs) out) same row
          ∙ ap (λ (m : ℕ). take (rows * (work v p).width) out ++ (work v p).row_of seen.doc ++ drop (rows * (work v p).width + m) out)
          (work-even v p seen.doc));
      walking = onward;
    }
      where
        same : wide ≡ (work v p).width
        same = e ∙ sym (work-words v p)

        row : row_by (starts_in (lists_of v) seen.doc) table seen.doc seen.found ps n ≡ (work v p).row_of seen.doc
        row = visit-row v p table orders ends w from seen ats ps docs starts s inside n many

        fits : rows < length out₀ / (work v p).width
        fits = let r = room-rows (work v p) (work-even v p) g (work-wide v p) in let q = ap (λ (n : ℕ). length out₀ / n) same in omega arith

module _ (v p : List ℕ) (table : List Outline) (orders ends : List ℕ) (w : Walks v p table orders ends) where
  -- a plan's patterns, and the words of a row
  pub visit-few : ((sizes p).patterns ≤ most_patterns) × (row_words (sizes p).patterns (sizes p).vars ≤ most_row_words)
  visit-few = let g = given v p w.accepted in (g.most-patterns, g.width)

  -- the ways out of the loop
  module _ (start : ℕ) (out₀ : List ℕ) (low : start ≤ 65535) (room : row_words (sizes p).patterns (sizes p).vars ≤ length out₀) (doc rows : ℕ) (out : List ℕ) (g : Progress (work v p) start out₀ doc rows out) (tally : ℕ) (passed : tally ≡ postings_in (lists_of v) (rows_of p) start doc) where
    counted : tally ≡ (work v p).postings start doc
    unfolding work work_of
    counted = passed

    pub visit-done : doc ≡ limit → Kept v p start (record { lent = out₀; says = answered (record { rows = rows; tally = tally; next = done }); back = out })
    visit-done e =
        let k = ends-kept v p start out₀ (sizes p) w.accepted low (let q = work-words v p in omega arith) (subst (λ (d : ℕ). Progress (work v p) start out₀ d rows out) e g) in
        let t : tally ≡ (work v p).postings start limit = counted ∙ ap (λ (d : ℕ). (work v p).postings start d) e in
        (ap (λ (n : ℕ). answered (record { rows = rows; tally = n; next = done })) t ∙ k.0, k.1)

    pub visit-more : doc < limit → (work v p).is_true doc ≡ true → (wide : ℕ) → wide ≡ row_words (sizes p).patterns (sizes p).vars → rows ≡ length out₀ / wide
        → Kept v p start (record { lent = out₀; says = answered (record { rows = rows; tally = tally; next = more doc }); back = out })
    visit-more l t wide e full =
        let k = stops-kept v p start out₀ (sizes p) w.accepted low (let q = work-words v p in omega arith) g l t (full ∙ ap (λ (n : ℕ). length out₀ / n) (e ∙ sym (work-words v p))) in
        (ap (λ (n : ℕ). answered (record { rows = rows; tally = n; next = more doc })) counted ∙ k.0, k.1)

-- one more row fits
pub visit-room : (v p : List ℕ) (start : ℕ) (out₀ out : List ℕ) (d rows wide : ℕ) → wide ≡ row_words (sizes p).patterns (sizes p).vars → Progress (work v p) start out₀ d rows out → rows ≢ length out₀ / wide
    → rows * wide + wide ≤ length out
visit-room v p start out₀ out d rows wide e g less =
    let same : wide ≡ (work v p).width = e ∙ sym (work-words v p) in
    let q = ap (λ (n : ℕ). length out₀ / n) same in
    let r = room-rows (work v p) (work-even v p) g (work-wide v p) in
    let k : rows + 1 ≤ length out₀ / wide = omega arith in
    let m : (rows + 1) * wide ≤ length out₀ = (le-div_iff_mul-le (let z : 1 ≤ wide = omega arith in z)).0 k in
    let n = same_size (work v p) (work-even v p) g in
    let s = add-mul rows 1 wide in
    let o = one-mul wide in
    omega arith

-- the words of the rows are few
pub visit-words : (n w : ℕ) → n ≤ limit → w ≤ most_row_words → n * w ≤ limit * most_row_words
visit-words n w h l = let a = mul-le-mul_right w h in let b = mul-le-mul_left 65536 l in omega arith
