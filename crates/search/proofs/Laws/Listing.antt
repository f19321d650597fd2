-- The answers of the listing call and the buffer afterwards, by what is asked. No contract cites this file.
--     list_plan-refused     1 to 14: the volume or the plan is refused
--     list-start            15: the start is over 65,535
--     list-short            16: the buffer is shorter than a row
--     accepted-answer       the page, and its rows
--     answered-given        what holds where the call is not refused
--     refused-kept, start-kept, short-kept     the call's promise, where it is refused
--     stops-kept, ends-kept                    the call's promise at MORE and at DONE, from the loop
-- Assumes nothing.
use Prim.Native.Nat.{ℕ, ◌/◌, ◌<◌, ◌≤◌}
use mathlib.Core.Path.{◌≡◌, sym, ap, ◌∙◌}
use mathlib.Core.Bool.{true}
use mathlib.Core.Logic.{⊎_elim}
use mathlib.Core.List.{List, ◌++◌}
use lib.ListN.{length, drop}
use borrow.Author.Tests.{lt-ltb, le-ltb}
use Rattle.seq.specs.Refusals.{refused, answered}
use Rattle.seq.proofs.Laws.Refusals.{laid-refused, laid-answered, not-both}
use Rattle.seq.proofs.Laws.Tests.{below_or}
use Rattle.plan.specs.declared.answers.Sizes.{Sizes}
use Rattle.plan.specs.Check.{sizes, verdict, Accepted}
use Rattle.plan.proofs.Laws.CheckFirst.{check_sound}
use Rattle.fulltext.specs.Positions.{limit}
use Rattle.search.specs.Answers.{Page, done, more}
use Rattle.search.specs.Listing.{page_of, rows_from, list_answer, list_out}
use Rattle.fulltext.specs.Documents.{work}
use Rattle.search.specs.Search.{Kept}
use Rattle.search.proofs.Laws.Loop.{Progress, stops, ends}
use Rattle.fulltext.proofs.Laws.Counts.{work-even, work-wide}

module _ (v p : List ℕ) (start : ℕ) (out : List ℕ) where
  -- a refusal leaves the buffer as it was, and an answer lays the rows
  pub out-refused : (n q : ℕ) → list_answer v p start (length out) ≡ refused n q → list_out v p start out ≡ out
  unfolding list_out
  out-refused n q e = laid-refused (list_answer v p start (length out)) n q (rows_from (work v p) start (length out / (work v p).width)) out e

  pub out-answered : (page : Page) → list_answer v p start (length out) ≡ answered page
      → list_out v p start out ≡ rows_from (work v p) start (length out / (work v p).width) ++ drop (length (rows_from (work v p) start (length out / (work v p).width))) out
  unfolding list_out
  out-answered page e = laid-answered (list_answer v p start (length out)) page (rows_from (work v p) start (length out / (work v p).width)) out e

  -- 1 to 14
  list_plan-refused : (n q : ℕ) → verdict v p ≡ refused n q → (list_answer v p start (length out) ≡ refused n q) × (list_out v p start out ≡ out)
  unfolding list_answer
  list_plan-refused n q e = let a : list_answer v p start (length out) ≡ refused n q = rw e in (a, out-refused n q a)

  -- behind an accepted volume and plan
  module _ (s : Sizes) (ok : verdict v p ≡ answered s) where
    list-start : 65535 < start → (list_answer v p start (length out) ≡ refused 15 0) × (list_out v p start out ≡ out)
    unfolding list_answer
    list-start h = let a : list_answer v p start (length out) ≡ refused 15 0 = rw (ok, lt-ltb 65535 start h) in (a, out-refused 15 0 a)

    pub list-short : start ≤ 65535 → length out < (work v p).width → (list_answer v p start (length out) ≡ refused 16 0) × (list_out v p start out ≡ out)
    unfolding list_answer
    list-short h l =
        let a : list_answer v p start (length out) ≡ refused 16 0 = rw (ok, le-ltb 65535 start h, lt-ltb (length out) (work v p).width l) in
        (a, out-refused 16 0 a)

    pub accepted-answer : start ≤ 65535 → (work v p).width ≤ length out
        → (list_answer v p start (length out) ≡ answered (page_of (work v p) start (length out / (work v p).width)))
        × (list_out v p start out ≡ rows_from (work v p) start (length out / (work v p).width) ++ drop (length (rows_from (work v p) start (length out / (work v p).width))) out)
    unfolding list_answer
    accepted-answer h l =
        let a : list_answer v p start (length out) ≡ answered (page_of (work v p) start (length out / (work v p).width)) = rw (ok, le-ltb 65535 start h, le-ltb (length out) (work v p).width l) in
        (a, out-answered (page_of (work v p) start (length out / (work v p).width)) a)

  -- a call that is not refused: the volume and the plan are accepted, the start is a document, and a row fits
  pub answered-given : (page : Page) → list_answer v p start (length out) ≡ answered page → Accepted v p × ((start ≤ 65535) × ((work v p).width ≤ length out))
  answered-given page e = ⊎_elim (λ a. (a, (low a, fits a (low a)))) (λ r. absurd (not-both _ page r.0 r.1 e (list_plan-refused r.0 r.1 r.2).0)) (check_sound v p).total
    where
      low : Accepted v p → start ≤ 65535
      low a = ⊎_elim (λ (h : 65535 < start). absurd (not-both _ page 15 0 e (list-start (sizes p) a h).0)) (λ h. h) (below_or 65535 start)

      fits : Accepted v p → start ≤ 65535 → (work v p).width ≤ length out
      fits a h = ⊎_elim (λ (l : length out < (work v p).width). absurd (not-both _ page 16 0 e (list-short (sizes p) a h l).0)) (λ l. l) (below_or (length out) (work v p).width)

-- the promise of a call that lends out₀, says so and gives back out
module _ (v p : List ℕ) (start : ℕ) (out₀ : List ℕ) where
  pub refused-kept : (n q : ℕ) → verdict v p ≡ refused n q → Kept v p start (record { lent = out₀; says = refused n q; back = out₀ })
  refused-kept n q e = let a = list_plan-refused v p start out₀ n q e in (sym a.0, sym a.1)

  module _ (s : Sizes) (ok : verdict v p ≡ answered s) where
    pub start-kept : 65535 < start → Kept v p start (record { lent = out₀; says = refused 15 0; back = out₀ })
    start-kept h = let a = list-start v p start out₀ s ok h in (sym a.0, sym a.1)

    module _ (low : start ≤ 65535) where
      pub short-kept : length out₀ < (work v p).width → Kept v p start (record { lent = out₀; says = refused 16 0; back = out₀ })
      short-kept h = let a = list-short v p start out₀ s ok low h in (sym a.0, sym a.1)

      pub stops-kept : {d n : ℕ} {out : List ℕ} → (work v p).width ≤ length out₀ → Progress (work v p) start out₀ d n out → d < limit → (work v p).is_true d ≡ true → n ≡ length out₀ / (work v p).width
          → Kept v p start (record { lent = out₀; says = answered (record { rows = n; tally = (work v p).postings start d; next = more d }); back = out })
      stops-kept h g l t m =
          let a = accepted-answer v p start out₀ s ok low h in
          let b = stops (work v p) (work-even v p) g l t m in
          (sym (a.0 ∙ ap answered b.0), b.1 ∙ sym a.1)

      pub ends-kept : {n : ℕ} {out : List ℕ} → (work v p).width ≤ length out₀ → Progress (work v p) start out₀ limit n out
          → Kept v p start (record { lent = out₀; says = answered (record { rows = n; tally = (work v p).postings start limit; next = done }); back = out })
      ends-kept h g =
          let a = accepted-answer v p start out₀ s ok low h in
          let b = ends (work v p) (work-even v p) (work-wide v p) g in
          (sym (a.0 ∙ ap answered b.0), b.1 ∙ sym a.1)
