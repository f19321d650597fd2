-- The laws of `specs/Inner/Pages.antt`. No contract cites this file.
--     told-only, told-done, told_more     a turn's text is stored
--     told-lent               the same bytes afterwards, behind the reference that was lent
--     at_done, at_more        what DONE and MORE say of a page
--     blank, sized            a page of zeros
--     IsTurn, is-turn         a listing call's answer and its page, as a turn
--     width_is                the words of a row, by what the plan's check gives
--     list-refused, turn-long, turn-short     turns with no page; a turn over a volume that is not too long
--     told-text               the text that a turn's answer counts
--     came-next               the turn behind one is come to with the document and the sum that the answer gives
-- Assumes nothing.
use Prim.Native.Nat.{ℕ, ◌+◌, ◌*◌, ◌/◌, ◌<◌, ◌≤◌}
use native.Mathlib.Nat.{zero-add, zero-mul, add-mul, one-mul, mul-le-mul_left, le-div_iff_mul-le}
use native.Mathlib.Omega.{arith}
use mathlib.Core.Path.{◌≡◌, refl, sym, ap, ap₂, ◌∙◌, subst}
use mathlib.Core.List.{List, [], ◌∷◌, ◌++◌, append_assoc}
use Rattle.std.proofs.Common.{Some}
use lib.ListN.{length, take, drop, replicate, length-replicate}
use lib.Seq.{take_at}
use borrow.Author.Tests.{lt-ltb, le-ltb}
use Rattle.seq.specs.Lists.{joined}
use Rattle.seq.specs.Numbers.{run}
use Rattle.seq.specs.Refusals.{Said, refused, answered}
use Rattle.seq.proofs.Laws.Numbers.{run_ext}
use Rattle.seq.proofs.Laws.Stores.{drop_past}
use Rattle.plan.specs.Limits.{row_words}
use Rattle.plan.specs.declared.answers.Sizes.{Sizes}
use Rattle.plan.specs.Check.{verdict, sizes}
use Rattle.plan.proofs.Laws.Check.{verdict-sizes}
use Rattle.fulltext.specs.Positions.{limit}
use Rattle.fulltext.specs.Documents.{Work, work_of, docs_in, rows_of_docs, work}
use Rattle.search.specs.Answers.{Next, done, more, Page}
use Rattle.search.specs.Listing.{list_answer, list_out}
use Rattle.search.specs.Search.{Kept}
use Rattle.fulltext.proofs.Laws.Counts.{work-even, work-wide}
use Rattle.search.proofs.Laws.Calls.{Later, All, more-later, done_all}
use Rattle.lister.specs.declared.pages.Start.{Start}
use Rattle.lister.specs.declared.pages.Turn as pages
use Rattle.lister.specs.Text.{line, scene_word, done_word, refused_word, too_long}
use Rattle.lister.specs.Printed.{plan_words, doc_lines}
use Rattle.lister.specs.Turns.{Turn, turn_of, only, up_to, turn_by, page_words, list_turn, turn_at, Came, and_turn}
use Rattle.lister.specs.Inner.Stored.{put, Stored}
use Rattle.lister.specs.Inner.Pages.{row_lines, page_turn, rows_in, last, onto, paged_by, paged_of, text_room, Told, Adds, Ahead}
use Rattle.lister.proofs.Laws.Stored.{stored_more, stored-front}

module _ {out out' : List ℕ} {end : ℕ} where
  pub told-only : {text : List ℕ} (tally : ℕ) → Stored out 0 text out' end → Told (only text tally) out out' (last end) × Adds tally (length out) (last end)
  told-only tally s = (record { answer = ap last (stored-front s).0; laid = s.laid }, (s.fits, tt))

  pub told_more : {lines : List ℕ} (tally k t : ℕ) → k ≤ 4294967295 → Stored out 0 lines out' end
      → Told (turn_of lines (tally + k) (more t)) out out' (onto end t (tally + k)) × Adds tally (length out) (onto end t (tally + k))
  told_more tally k t h s = (record { answer = ap (λ (n : ℕ). onto n t (tally + k)) (stored-front s).0; laid = s.laid }, (s.fits, omega arith))

  pub told-done : {lines : List ℕ} (tally k : ℕ) → Stored out 0 lines out' end → {out'' : List ℕ} {end' : ℕ} → Stored out' end (line done_word ((tally + k) ∷ [])) out'' end'
      → Told (turn_of lines (tally + k) done) out out'' (last end') × Adds tally (length out) (last end')
  told-done tally k s t = let all = stored_more s (line done_word ((tally + k) ∷ [])) t in (record { answer = ap last (stored-front all).0; laid = all.laid }, (all.fits, tt))

-- the same bytes afterwards
pub told-lent : {t : Turn} {out out' out'' : List ℕ} {r : pages.Turn} → out'' ≡ out' → Told t out out' r → Told t out out'' r
told-lent e told = record { answer = told.answer; laid = e ∙ told.laid }

-- rows of one width, joined, are cut into rows again
rows-lines : (w : Work) → ((d : ℕ) → length (w.row_of d) ≡ w.width) → (ds rest : List ℕ) → row_lines w.width (rows_of_docs w ds ++ rest) (length ds) ≡ doc_lines w ds
unfolding row_lines doc_lines rows_of_docs joined run
rows-lines w even [] rest = refl
rows-lines w even (d ∷ ds) rest = ap₂ (λ (xs ys : List ℕ). xs ++ ys) (ap (line scene_word) first) (ap joined others ∙ rows-lines w even ds rest)
  where
    behind : List ℕ
    behind = rows_of_docs w ds ++ rest

    page : List ℕ
    page = rows_of_docs w (d ∷ ds) ++ rest

    in-front : page ≡ w.row_of d ++ behind
    in-front = append_assoc (w.row_of d) (rows_of_docs w ds) rest

    first : take w.width (drop (0 * w.width) page) ≡ w.row_of d
    first = rw (zero-mul w.width, in-front) (take_at (w.row_of d) behind w.width (even d))

    next_row : (j : ℕ) → drop ((1 + j) * w.width) page ≡ drop ((0 + j) * w.width) behind
    next_row j =
        ap₂ (λ (n : ℕ) (xs : List ℕ). drop n xs) (add-mul 1 j w.width ∙ ap (λ (n : ℕ). n + j * w.width) (one-mul w.width)) in-front
        ∙ drop_past (w.row_of d) behind w.width (j * w.width) (even d)
        ∙ ap (λ (n : ℕ). drop (n * w.width) behind) (sym (zero-add j))

    others : run (λ i. line scene_word (take w.width (drop (i * w.width) page))) 1 (length ds) ≡ run (λ i. line scene_word (take w.width (drop (i * w.width) behind))) 0 (length ds)
    others = run_ext _ _ 1 0 (length ds) (λ j h. ap (λ (xs : List ℕ). line scene_word (take w.width xs)) (next_row j))

-- a turn that starts behind another can start
ahead_by : (from tally room : ℕ) → tally ≤ 4294967296 * from → (lines : List ℕ) (sum : ℕ) (next : Next) → ((t : ℕ) → next ≡ more t → (from < t) × (t < limit))
    → Adds tally room (paged_of (turn_of lines sum next)) → Ahead from room (paged_of (turn_of lines sum next))
ahead_by from tally room h lines sum done later l = l
ahead_by from tally room h lines sum (more t) later l = (l.0, ((later t refl).0, ((later t refl).1, omega (arith, l.1, (later t refl).0))))

module _ (v p : List ℕ) (from : ℕ) (page₀ : List ℕ) where
  module _ (page : Page) (e : list_answer v p from (length page₀) ≡ answered page) where
    -- the answer, where what comes next is known
    with-next : (next : Next) → page.next ≡ next → list_answer v p from (length page₀) ≡ answered (record { rows = page.rows; tally = page.tally; next = next })
    with-next next q = e ∙ ap (λ (x : Next). answered (record { rows = page.rows; tally = page.tally; next = x })) q

    pub at_done : page.next ≡ done → All (work v p) from page₀ (list_out v p from page₀) page.rows page.tally
    at_done q = done_all v p from page₀ page.rows page.tally (with-next done q)

    pub at_more : (t : ℕ) → page.next ≡ more t → Later (work v p) from page₀ (list_out v p from page₀) page.rows page.tally t
    at_more t q = more-later v p from page₀ page.rows page.tally t (with-next (more t) q)

    laid-lines : (ds : List ℕ) → page.rows ≡ length ds → list_out v p from page₀ ≡ rows_of_docs (work v p) ds ++ drop (page.rows * (work v p).width) page₀
        → row_lines (work v p).width (list_out v p from page₀) page.rows ≡ doc_lines (work v p) ds
    laid-lines ds n o =
        ap₂ (λ (xs : List ℕ) (k : ℕ). row_lines (work v p).width xs k) o n
        ∙ rows-lines (work v p) (work-even v p) ds (drop (page.rows * (work v p).width) page₀)

    lines_are : (next : Next) → page.next ≡ next → row_lines (work v p).width (list_out v p from page₀) page.rows ≡ doc_lines (work v p) (docs_in (work v p) from (up_to next))
    lines_are done q = let a = at_done q in laid-lines (docs_in (work v p) from limit) a.rows a.laid
    lines_are (more t) q = let a = at_more t q in laid-lines (docs_in (work v p) from t) a.rows a.laid

    rows_in_lem : (next : Next) → page.next ≡ next → page.rows ≤ length page₀ / (work v p).width
    rows_in_lem done q = (at_done q).fits
    rows_in_lem (more t) q = let a = at_more t q in omega (arith, a.full)

  page-turn : (a : Said Page) → list_answer v p from (length page₀) ≡ a → (tally : ℕ) → page_turn a (work v p).width (list_out v p from page₀) tally ≡ turn_by a (work v p) from tally
  page-turn (refused n q) e tally = refl
  page-turn (answered page) e tally = ap (λ (xs : List ℕ). turn_of xs (tally + page.tally) page.next) (lines_are page e page.next refl)

  rows_fit : (a : Said Page) → list_answer v p from (length page₀) ≡ a → rows_in a * (work v p).width ≤ length page₀
  rows_fit (refused n q) e = rw (zero-mul (work v p).width) (omega arith)
  rows_fit (answered page) e = (le-div_iff_mul-le (work-wide v p)).0 (rows_in_lem page e page.next refl)

  turn-ahead : (a : Said Page) → list_answer v p from (length page₀) ≡ a → (tally room : ℕ) → tally ≤ 4294967296 * from
      → Adds tally room (paged_of (turn_by a (work v p) from tally)) → Ahead from room (paged_of (turn_by a (work v p) from tally))
  turn-ahead (refused n q) e tally room h l = l
  turn-ahead (answered page) e tally room h l = ahead_by from tally room h (doc_lines (work v p) (docs_in (work v p) from (up_to page.next))) (tally + page.tally) page.next later l
    where
      later : (t : ℕ) → page.next ≡ more t → (from < t) × (t < limit)
      later t q = let a = at_more page e t q in (a.later, a.below)

-- the text of rows that fit a page
text-fits : (n width : ℕ) → 1 ≤ width → n * width ≤ 16384 → n * (6 + 11 * width) + 30 ≤ 278558
text-fits n width h l = let a = mul-le-mul_left n h in omega arith

-- a page of zeros
unfoldable pub blank : List ℕ
blank = replicate 16384 0

pub sized : length blank ≡ page_words
unfolding blank
sized = length-replicate {A = ℕ} 16384 0

-- what is known of an answer and the page that comes back with it: the rows fit the page, their text fits, and a turn by the words of the
-- page is the turn by its documents
pub record IsTurn (v p : List ℕ) (from tally width : ℕ) (back : List ℕ) (said : Said Page) : Type 0 where
  pub rows : rows_in said * width ≤ page_words
  pub text : rows_in said * (6 + 11 * width) + 30 ≤ text_room
  pub told : {out out' : List ℕ} {r : pages.Turn} → tally ≤ 4294967296 * from → Told (page_turn said width back tally) out out' r × Adds tally (length out) r
      → Told (list_turn v p from tally) out out' r × Ahead from (length out) r

-- so of a call that keeps the listing call's promise
module _ (v p : List ℕ) (from tally width : ℕ) (back : List ℕ) (said : Said Page) (wide : width ≡ (work v p).width)
    (kept : Kept v p from (record { lent = blank; says = said; back = back })) where
  turn-said : page_turn said width back tally ≡ turn_by said (work v p) from tally
  turn-said = ap₂ (λ (n : ℕ) (xs : List ℕ). page_turn said n xs tally) wide kept.1 ∙ page-turn v p from blank said (sym kept.0) tally

  turn-listed : page_turn said width back tally ≡ list_turn v p from tally
  unfolding list_turn
  turn-listed = turn-said ∙ ap (λ (a : Said Page). turn_by a (work v p) from tally) (kept.0 ∙ ap (list_answer v p from) sized)

  fits : rows_in said * width ≤ page_words
  fits = rw wide (rw sized at (rows_fit v p from blank said (sym kept.0)))

  pub is-turn : IsTurn v p from tally width back said
  is-turn = record {
    rows = fits;
    text = text-fits (rows_in said) width (rw wide (work-wide v p)) fits;
    told = λ {out} {out'} {r} h t.
        let answer : r ≡ paged_of (turn_by said (work v p) from tally) = t.0.answer ∙ ap paged_of turn-said in
        (rw turn-listed at t.0, rw answer (turn-ahead v p from blank said (sym kept.0) tally (length out) h (rw answer at t.1)));
  }

pub width_is : (v p : List ℕ) (s : Sizes) → verdict v p ≡ answered s → row_words s.patterns s.vars ≡ (work v p).width
unfolding work work_of sizes
width_is v p s e = ap (λ (s : Sizes). row_words s.patterns s.vars) (verdict-sizes v p s e)

-- the turns that have no page
pub list-refused : (v p : List ℕ) (from tally n q : ℕ) → verdict v p ≡ refused n q → list_turn v p from tally ≡ only (line refused_word (n ∷ q ∷ [])) tally
unfolding list_turn list_answer
list-refused v p from tally n q e = rw e

pub turn-long : (v b : List ℕ) (from tally : ℕ) → 65536 < length v → turn_at v b from tally ≡ only too_long tally
unfolding turn_at
turn-long v b from tally h = rw (lt-ltb 65536 (length v) h)

pub turn-short : (v b : List ℕ) (from tally : ℕ) → length v ≤ 65536 → turn_at v b from tally ≡ list_turn v (plan_words b) from tally
unfolding turn_at
turn-short v b from tally h = rw (le-ltb 65536 (length v) h)

-- what is stored at the front of a buffer
front-is : (out xs : List ℕ) → take (length xs) (put out 0 xs) ≡ xs
unfolding put
front-is out xs = take_at xs (drop (0 + length xs) out) (length xs) refl

-- what a turn's answer says of its text and of the next turn
paged-bytes : (k tally : ℕ) (next : Next) → (paged_by k tally next).bytes ≡ k
paged-bytes k tally done = refl
paged-bytes k tally (more t) = refl

paged-next : (k tally : ℕ) (next : Next) (s : Start) → Some s ≡ (paged_by k tally next).next → (next ≡ more s.doc) × (tally ≡ s.tally)
paged-next k tally done s e = absurd (let z : ◌≡◌ {A = ℕ} 0 1 = cc in let y : ⊥ = omega arith in y)
paged-next k tally (more t) s e =
    let q : s ≡ record { doc = t; tally = tally } = cc in
    (ap (λ (x : Start). more x.doc) (sym q), ap (λ (x : Start). x.tally) (sym q))

module _ {turn : Turn} {out out' : List ℕ} {r : pages.Turn} (told : Told turn out out' r) where
  -- the first bytes of the buffer, as many as the answer says, are the turn's text
  pub told-text : take r.bytes out' ≡ turn.text
  told-text = rw (ap (λ (x : pages.Turn). x.bytes) told.answer ∙ paged-bytes (length turn.text) turn.tally turn.next, told.laid) (front-is out turn.text)

  told-next : (s : Start) → r.next ≡ Some s → (turn.next ≡ more s.doc) × (turn.tally ≡ s.tally)
  told-next s e = paged-next (length turn.text) turn.tally turn.next s (sym e ∙ ap (λ (x : pages.Turn). x.next) told.answer)

pub came-next : (v b texts : List ℕ) (from tally : ℕ) {out out' : List ℕ} {r : pages.Turn} → Came v b texts from tally → Told (turn_at v b from tally) out out' r
    → (s : Start) → r.next ≡ Some s → Came v b (texts ++ (turn_at v b from tally).text) s.doc s.tally
came-next v b texts from tally c told s e =
    let q = told-next told s e in
    subst (λ (k : ℕ). Came v b (texts ++ (turn_at v b from tally).text) s.doc k) q.1 (and_turn texts from tally s.doc c q.0)
