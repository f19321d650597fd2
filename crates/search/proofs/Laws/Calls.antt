-- One call of a search: the three ways in which it may go, and what follows of its answer. No contract cites this file.
--     Went, went                the buffer is too short; all that remain are written; as many as fit
--     heard-kept                a call of any form, as what it says
--     answers                   the call answers as it must
--     more-later, done_all      what MORE and DONE say, and the buffer afterwards
-- Assumes nothing.
use Prim.Native.Nat.{ℕ, ◌*◌, ◌/◌, ◌<◌, ◌≤◌}
use native.Mathlib.Nat.{le-div_iff_mul-le, one-mul}
use native.Mathlib.Omega.{arith}
use mathlib.Core.Path.{◌≡◌, refl, sym, ap, ap₂, ◌∙◌, subst}
use mathlib.Core.Bool.{true}
use mathlib.Core.Logic.{⊎_elim}
use mathlib.Core.List.{List, ◌++◌}
use lib.ListN.{length, get_or, take, drop}
use lib.Seq.{take_at}
use Rattle.seq.specs.Refusals.{Said, refused, answered}
use Rattle.seq.proofs.Laws.Tests.{below_or}
use Rattle.seq.proofs.Laws.Refusals.{not-both, same_answer}
use Rattle.seq.proofs.Laws.Calls.{heard_call}
use Rattle.plan.specs.Check as plan
use Rattle.fulltext.specs.Positions.{limit}
use Rattle.fulltext.specs.Documents.{Work, docs_in, rows_of_docs, work}
use Rattle.search.specs.Answers.{Next, done, more, Page}
use Rattle.search.specs.Listing.{rows_from, list_answer, list_out}
use Rattle.search.specs.Search.{Kept, KeptAs, room, Answers}
use Rattle.seq.specs.Calls.{Form, Call}
use Rattle.fulltext.proofs.Laws.Docs.{IsAt, docs-at, at_front, at-later, length-rows}
use Rattle.search.proofs.Laws.Pages.{page-done, rows-done, page-more, rows_more}
use Rattle.fulltext.proofs.Laws.Counts.{work-even, work-wide}
use Rattle.search.proofs.Laws.Listing.{out-answered, list-short, accepted-answer, answered-given}

-- the page at DONE, with n rows, and at MORE t
abbrev done_page : Work → ℕ → ℕ → Page
done_page w s n = record { rows = n; tally = w.postings s limit; next = done }

abbrev more_page : Work → ℕ → ℕ → ℕ → Page
more_page w s n t = record { rows = n; tally = w.postings s t; next = more t }

-- how a call from document s on went
pub data Went (w : Work) (s : ℕ) (c : Call (Said Page)) : Type 0 where
  short : length c.lent < w.width → c.says ≡ refused 16 0 → c.back ≡ c.lent → Went w s c
  whole : w.width ≤ length c.lent → length (docs_in w s limit) ≤ room w c → c.says ≡ answered (done_page w s (length (docs_in w s limit)))
      → take (length (docs_in w s limit) * w.width) c.back ≡ rows_of_docs w (docs_in w s limit) → Went w s c
  part : (t : ℕ) → w.width ≤ length c.lent → room w c < length (docs_in w s limit) → get_or (docs_in w s limit) (room w c) 0 ≡ t → IsAt w s limit (room w c) t
      → c.says ≡ answered (more_page w s (room w c) t) → take (room w c * w.width) c.back ≡ rows_of_docs w (docs_in w s t) → Went w s c

-- a call that keeps the listing call's promise goes in one of these ways
pub went : (v p : List ℕ) → plan.Accepted v p → (s : ℕ) (c : Call (Said Page)) → s < limit → Kept v p s c → Went (work v p) s c
went v p ok s c h k =
    ⊎_elim (λ (l : length c.lent < (work v p).width). let a = list-short v p s c.lent (plan.sizes p) ok (omega arith) l in short l (k.0 ∙ a.0) (k.1 ∙ a.1))
    fitting
    (below_or (length c.lent) (work v p).width)
  where
    w : Work
    w = work v p

    m : ℕ
    m = length c.lent / (work v p).width

    -- the rows at the front of the buffer that comes back
    front : (ds : List ℕ) (n : ℕ) → rows_from w s m ≡ rows_of_docs w ds → length ds ≡ n → list_out v p s c.lent ≡ rows_from w s m ++ drop (length (rows_from w s m)) c.lent → take (n * w.width) c.back ≡ rows_of_docs w ds
    front ds n e q o =
        ap (take (n * w.width)) (k.1 ∙ o)
        ∙ take_at (rows_from w s m) (drop (length (rows_from w s m)) c.lent) (n * w.width) (ap length e ∙ length-rows w (work-even v p) ds ∙ ap (λ (i : ℕ). i * w.width) q)
        ∙ e

    fitting : (work v p).width ≤ length c.lent → Went (work v p) s c
    fitting l =
        let a = accepted-answer v p s c.lent (plan.sizes p) ok (omega arith) l in
        ⊎_elim
        (λ (x : m < length (docs_in w s limit)).
        let t = get_or (docs_in w s limit) m 0 in
        let i = docs-at w s limit m (omega arith) x in
        let f = at_front w s limit m t x i in
        part t l x refl i (k.0 ∙ a.0 ∙ ap answered (page-more w s m t i.from i.below i.is_true f))
        (front (docs_in w s t) m (rows_more w s m t i.from i.below i.is_true f) f a.1))
        (λ (x : length (docs_in w s limit) ≤ m).
        whole l x (k.0 ∙ a.0 ∙ ap answered (page-done w s m x)) (front (docs_in w s limit) (length (docs_in w s limit)) (rows-done w s m x) refl a.1))
        (below_or m (length (docs_in w s limit)))

next-is : (said : Said Page) (a b : Page) → said ≡ answered a → said ≡ answered b → a.next ≡ b.next
next-is said a b e f = ap (λ (q : Page). q.next) (same_answer said a b e f)

not_more : (t : ℕ) → done ≡ more t → ⊥
not_more t e = let z : ◌≡◌ {A = ℕ} 0 1 = cc in omega arith

same_more : (t u : ℕ) → more t ≡ more u → t ≡ u
same_more t u e = cc

module _ {A : Type 0} (form : Form Page A) where
  -- a call that keeps its promise says what listing answers, if its form tells that
  pub heard-kept : (v p : List ℕ) (s : ℕ) (c : Call A) → form.said (form.make (list_answer v p s (length c.lent))) ≡ list_answer v p s (length c.lent) → KeptAs form v p s c → Kept v p s (heard_call form c)
  heard-kept v p s c back k = (ap form.said k.0 ∙ back, k.1)

  -- each way answers as a call of a search must
  pub answers : (w : Work) (s : ℕ) (c : Call A) → s < limit → c.says ≡ form.make (form.said c.says) → Went w s (heard_call form c) → Answers form w s c
  answers w s c h m (short l e b) = record {
    starts = h;
    short = (λ x. l, λ x. (16, 0, e));
    sixteen = λ x. (m ∙ ap form.make e, b);
    says-more = λ t. (λ x. absurd (not-both (form.said c.says) _ 16 0 x.2 e), λ x. let y : w.width ≤ length c.lent = x.0 in absurd (omega arith));
    says-done = (λ x. absurd (not-both (form.said c.says) _ 16 0 x.2 e), λ x. let y : w.width ≤ length c.lent = x.0 in absurd (omega arith));
  }
  answers w s c h m (whole l x e f) = record {
    starts = h;
    short = (λ y. absurd (not-both (form.said c.says) _ y.0 y.1 e y.2), λ y. absurd (omega arith));
    sixteen = λ y. absurd (not-both (form.said c.says) _ y.0 y.1 e y.2);
    says-more = λ t. (λ y. absurd (not_more t (next-is (form.said c.says) _ _ e y.2)), λ y. let z : room w c < length (docs_in w s limit) = y.1.0 in absurd (omega arith));
    says-done = (λ y. (l, x), λ y. (length (docs_in w s limit), w.postings s limit, e));
  }
  answers w s c h m (part t l x q i e f) = record {
    starts = h;
    short = (λ y. absurd (not-both (form.said c.says) _ y.0 y.1 e y.2), λ y. absurd (omega arith));
    sixteen = λ y. absurd (not-both (form.said c.says) _ y.0 y.1 e y.2);
    says-more = λ u. (
      λ y. (l, (x, q ∙ same_more t u (next-is (form.said c.says) _ _ e y.2))),
      λ y. (room w c, w.postings s t, e ∙ ap (λ (k : ℕ). answered (record { rows = room w c; tally = w.postings s t; next = more k })) (sym q ∙ y.1.1)),
    );
    says-done = (λ y. absurd (not_more t (sym (next-is (form.said c.says) _ _ e y.2))), λ y. let z : length (docs_in w s limit) ≤ room w c = y.1 in absurd (omega arith));
  }

-- a call that says MORE t: t is true, behind `start`, and the rows are those of the true documents in front of it
pub record Later (w : Work) (start : ℕ) (out back : List ℕ) (n tally t : ℕ) : Type 0 where
  pub later : start < t
  pub below : t < limit
  pub is_true : w.is_true t ≡ true
  pub full : n ≡ length out / w.width
  pub rows : n ≡ length (docs_in w start t)
  pub postings : tally ≡ w.postings start t
  pub laid : back ≡ rows_of_docs w (docs_in w start t) ++ drop (n * w.width) out

-- a call that says DONE: the rows are those of all true documents from `start` on
pub record All (w : Work) (start : ℕ) (out back : List ℕ) (n tally : ℕ) : Type 0 where
  pub fits : n ≤ length out / w.width
  pub rows : n ≡ length (docs_in w start limit)
  pub postings : tally ≡ w.postings start limit
  pub laid : back ≡ rows_of_docs w (docs_in w start limit) ++ drop (n * w.width) out

module _ (v p : List ℕ) (start : ℕ) (out : List ℕ) (n tally : ℕ) where
  -- the call as it was made
  abbrev made : Next → Call (Said Page)
  made next = record { lent = out; says = answered (record { rows = n; tally = tally; next = next }); back = list_out v p start out }

  how : (next : Next) → list_answer v p start (length out) ≡ answered (record { rows = n; tally = tally; next = next }) → Went (work v p) start (made next)
  how next e = let g = answered-given v p start out _ e in went v p g.0 start (made next) (omega (arith, g.1.0)) (sym e, refl)

  -- the words behind the rows
  laid_by : (next : Next) → list_answer v p start (length out) ≡ answered (record { rows = n; tally = tally; next = next }) → (ds : List ℕ) → rows_from (work v p) start (length out / (work v p).width) ≡ rows_of_docs (work v p) ds → n ≡ length ds
      → list_out v p start out ≡ rows_of_docs (work v p) ds ++ drop (n * (work v p).width) out
  laid_by next e ds q l =
      out-answered v p start out _ e
      ∙ ap₂ (λ (xs : List ℕ) (k : ℕ). xs ++ drop k out) q (ap length q ∙ length-rows (work v p) (work-even v p) ds ∙ ap (λ (k : ℕ). k * (work v p).width) (sym l))

  pub more-later : (t : ℕ) → list_answer v p start (length out) ≡ answered (record { rows = n; tally = tally; next = more t }) → Later (work v p) start out (list_out v p start out) n tally t
  more-later t e = go (how (more t) e)
    where
      go : Went (work v p) start (made (more t)) → Later (work v p) start out (list_out v p start out) n tally t
      go (short l f b) = absurd (not-both _ _ 16 0 refl f)
      go (whole l x f b) = absurd (not_more t (sym (next-is _ _ _ refl f)))
      go (part u l x q i f b) =
          let same = same_answer (answered (record { rows = n; tally = tally; next = more t })) _ _ refl f in
          let n-is : n ≡ length out / (work v p).width = ap (λ (a : Page). a.rows) same in
          let front = at_front (work v p) start limit (length out / (work v p).width) u x i in
          let here : Later (work v p) start out (list_out v p start out) n tally u = record {
            later = at-later (work v p) start limit (length out / (work v p).width) u x i ((le-div_iff_mul-le (work-wide v p)).1 (rw (one-mul (work v p).width) l));
            below = i.below;
            is_true = i.is_true;
            full = n-is;
            rows = n-is ∙ sym front;
            postings = ap (λ (a : Page). a.tally) same;
            laid = laid_by (more t) e (docs_in (work v p) start u) (rows_more (work v p) start (length out / (work v p).width) u i.from i.below i.is_true front) (n-is ∙ sym front);
          } in
          subst (λ (k : ℕ). Later (work v p) start out (list_out v p start out) n tally k) (sym (same_more t u (ap (λ (a : Page). a.next) same))) here

  pub done_all : list_answer v p start (length out) ≡ answered (record { rows = n; tally = tally; next = done }) → All (work v p) start out (list_out v p start out) n tally
  done_all e = go (how done e)
    where
      go : Went (work v p) start (made done) → All (work v p) start out (list_out v p start out) n tally
      go (short l f b) = absurd (not-both _ _ 16 0 refl f)
      go (whole l x f b) =
          let same = same_answer (answered (record { rows = n; tally = tally; next = done })) _ _ refl f in
          let n-is : n ≡ length (docs_in (work v p) start limit) = ap (λ (a : Page). a.rows) same in
          record {
            fits = omega arith;
            rows = n-is;
            postings = ap (λ (a : Page). a.tally) same;
            laid = laid_by done e (docs_in (work v p) start limit) (rows-done (work v p) start (length out / (work v p).width) x) n-is;
          }
      go (part u l x q i f b) = absurd (not_more u (next-is _ _ _ refl f))
