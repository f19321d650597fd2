-- Every search, whole: the theorem of demand 3. No contract cites this file.
--     From         what holds of the calls of a search from document s on
--     from_search  it holds of all
--     searched     what holds of every search over an accepted volume and plan, in every form of answer that tells what listing answers
-- Assumes nothing.
use Prim.Native.Nat.{ℕ, ◌+◌, ◌*◌, ◌<◌, ◌≤◌}
use native.Mathlib.Nat.{le-div_iff_mul-le, one-mul, add-zero}
use native.Mathlib.Omega.{arith}
use mathlib.Core.Path.{◌≡◌, refl, sym, ap, ap₂, ◌∙◌, subst}
use mathlib.Core.List.{List, [], ◌∷◌, ◌++◌, append-nil}
use lib.ListN.{length, take, length-append}
use Rattle.seq.specs.Refusals.{Said, refused, answered}
use Rattle.seq.proofs.Laws.Calls.{heard_call, Closes, closes-none, closes-refused, closes-last, closes-next}
use Rattle.plan.specs.Check as plan
use Rattle.fulltext.specs.Positions.{limit}
use Rattle.fulltext.specs.Documents.{Work, docs_in, rows_of_docs, work}
use Rattle.search.specs.Answers.{Page, done, more}
use Rattle.search.specs.Listing.{list_answer}
use Rattle.search.specs.Search.{Then, IsSearch, Outcome, outcome_from, follow, outcome, room, SaysDone, EachAnswers, Searched}
use Rattle.seq.specs.Calls.{Form, Call}
use Rattle.fulltext.proofs.Laws.Docs.{docs-parts, docs-here, docs-empty, rows_none, rows_append, at_front}
use Rattle.fulltext.proofs.Laws.Counts.{work-wide, work_add, work_none}
use Rattle.search.proofs.Laws.Calls.{Went, short, whole, part, went, heard-kept, answers}

module _ {A : Type 0} (form : Form Page A) where
  -- calls from document s on that come to an outcome
  record From (w : Work) (s : ℕ) (calls : List (Call A)) (o : Outcome) : Type 0 where
    pub above : s ≤ o.reached
    pub below : o.reached ≤ limit
    pub rows : o.rows ≡ rows_of_docs w (docs_in w s o.reached)
    pub tally : o.tally ≡ w.postings s o.reached
    pub each : EachAnswers form w s calls
    pub closes : Closes form (λ (c : Call A). SaysDone form c × (o.reached ≡ limit)) (length (docs_in w s limit)) calls

  module _ (v p : List ℕ) (ok : plan.Accepted v p)
      (tells : (s : ℕ) (out : List ℕ) → form.said (form.make (list_answer v p s (length out))) ≡ list_answer v p s (length out)) where
    -- what calls from document s on come to
    abbrev comes_to : ℕ → List (Call A) → Outcome
    comes_to s calls = outcome_from form (work v p).width s calls

    -- by what the first call says
    told : (c : Call A) (cs : List (Call A)) (s : ℕ) (said : Said Page) → form.said c.says ≡ said → From (work v p) s (c ∷ cs) (follow (work v p).width s said c.back (λ next. comes_to next cs))
        → From (work v p) s (c ∷ cs) (comes_to s (c ∷ cs))
    told c cs s said e f =
        subst (λ (o : Outcome). From (work v p) s (c ∷ cs) o) (sym (ap (λ (x : Said Page). follow (work v p).width s x c.back (λ next. comes_to next cs)) e)) f

    -- one call, and those behind it
    one_more : (c : Call A) (cs : List (Call A)) → c.says ≡ form.make (form.said c.says) → ((t : ℕ) → t < limit → IsSearch form v p t cs → From (work v p) t cs (comes_to t cs))
        → (s : ℕ) → s < limit → Then s (form.said c.says) (λ next. IsSearch form v p next cs) (cs ≡ []) → Went (work v p) s (heard_call form c) → From (work v p) s (c ∷ cs) (comes_to s (c ∷ cs))
    one_more c cs made rest s h k (short l e b) =
        let f = rest s h (rw e at k) in
        told c cs s (refused 16 0) e
        (record {
          above = f.above;
          below = f.below;
          rows = f.rows;
          tally = f.tally;
          each = (answers form (work v p) s c h made (short l e b), rw e f.each);
          closes = closes-refused form _ (length (docs_in (work v p) s limit)) 16 0 c cs e f.closes;
        })
    one_more c cs made rest s h k (whole l x e f) =
        told c cs s (answered (record { rows = length (docs_in (work v p) s limit); tally = (work v p).postings s limit; next = done })) e
        (record {
          above = omega arith;
          below = omega arith;
          rows = append-nil (take (length (docs_in (work v p) s limit) * (work v p).width) c.back) ∙ f;
          tally = add-zero ((work v p).postings s limit);
          each = (answers form (work v p) s c h made (whole l x e f), rw e (rw e at k));
          closes = closes-last form _ _ c cs e (length (docs_in (work v p) s limit)) (rw e at k) ((length (docs_in (work v p) s limit), (work v p).postings s limit, e), refl);
        })
    one_more c cs made rest s h k (part t l x q i e f) =
        told c cs s (answered (record { rows = room (work v p) c; tally = (work v p).postings s t; next = more t })) e
        (record {
          above = let a = r.above in omega (arith, i.from);
          below = r.below;
          rows =
              ap₂ (λ (xs ys : List ℕ). xs ++ ys) f r.rows ∙ sym (rows_append (work v p) (docs_in (work v p) s t) (docs_in (work v p) t (comes_to t cs).reached))
              ∙ ap (rows_of_docs (work v p)) (sym (docs-parts (work v p) s t (comes_to t cs).reached i.from r.above));
          tally = ap (λ (n : ℕ). (work v p).postings s t + n) r.tally ∙ work_add v p s t (comes_to t cs).reached i.from r.above;
          each = (answers form (work v p) s c h made (part t l x q i e f), rw e r.each);
          closes = closes-next form _ _ c cs e (length (docs_in (work v p) s limit)) (length (docs_in (work v p) t limit)) (omega (arith, some-row, there, remain)) r.closes;
        })
      where
        r : From (work v p) t cs (comes_to t cs)
        r = rest t i.below (rw e at k)

        some-row : 1 ≤ room (work v p) c
        some-row = (le-div_iff_mul-le (work-wide v p)).1 (rw (one-mul (work v p).width) l)

        -- t is among those that remain, and the rows took at least one
        there : 1 ≤ length (docs_in (work v p) t limit)
        there = let a = ap length (docs-here (work v p) t limit i.below i.is_true) in omega arith

        remain : length (docs_in (work v p) s limit) ≡ room (work v p) c + length (docs_in (work v p) t limit)
        remain =
            let a = i.below in
            ap length (docs-parts (work v p) s t limit i.from (omega arith)) ∙ length-append (docs_in (work v p) s t) (docs_in (work v p) t limit)
            ∙ ap (λ (n : ℕ). n + length (docs_in (work v p) t limit)) (at_front (work v p) s limit (room (work v p) c) t x i)

    from_search : (calls : List (Call A)) (s : ℕ) → s < limit → IsSearch form v p s calls → From (work v p) s calls (comes_to s calls)
    from_search [] s h k = record {
      above = omega arith;
      below = omega arith;
      rows = sym (ap (rows_of_docs (work v p)) (docs-empty (work v p) s) ∙ rows_none (work v p));
      tally = sym (work_none v p s);
      each = tt;
      closes = closes-none form _ (length (docs_in (work v p) s limit));
    }
    from_search (c ∷ cs) s h k =
        let back = tells s c.lent in
        let heard = heard-kept form v p s c back k.0 in
        one_more c cs (k.0.0 ∙ ap form.make (sym heard.0)) (λ t l i. from_search cs t l i) s h k.1 (went v p ok s (heard_call form c) h heard)

    pub searched : (calls : List (Call A)) → IsSearch form v p 0 calls → Searched form (work v p) calls (outcome form v p calls)
    searched calls k =
        let f = from_search calls 0 (omega arith) k in
        record { rows = f.rows; tally = f.tally; answers = f.each; closes = λ front rest c e l. f.closes front rest c e (omega arith) }
