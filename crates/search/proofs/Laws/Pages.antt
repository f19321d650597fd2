-- What a page says and which rows it has, by the number of rows that fit. No contract cites this file.
--     page_by_lem, rows_by      by the portion of the true documents that fits
--     page-done, rows-done      no more true documents remain than fit
--     page-more, rows_more      more remain
-- Assumes nothing.
use Prim.Native.Nat.{ℕ, ◌+◌, ◌<◌, ◌≤◌}
use native.Mathlib.Omega.{arith}
use mathlib.Core.Path.{◌≡◌, ap, ◌∙◌}
use mathlib.Core.Bool.{true}
use mathlib.Core.List.{List, ◌++◌}
use mathlib.Core.Option.{none, some}
use lib.ListN.{length}
use Rattle.seq.specs.Pages.{Portion, portion}
use Rattle.seq.proofs.Laws.Pages.{portion-all, portion-part}
use Rattle.fulltext.specs.Positions.{limit}
use Rattle.fulltext.specs.Documents.{Work, docs_in, rows_of_docs}
use Rattle.search.specs.Answers.{done, more}
use Rattle.search.specs.Listing.{page_by, portion_from, page_of, rows_from}
use Rattle.fulltext.proofs.Laws.Docs.{docs-parts, docs-here}

module _ (w : Work) (start m : ℕ) where
  page_by_lem : (p : Portion ℕ) → portion_from w start m ≡ p → page_of w start m ≡ page_by w start p
  unfolding page_of
  page_by_lem p e = ap (page_by w start) e

  rows_by : (p : Portion ℕ) → portion_from w start m ≡ p → rows_from w start m ≡ rows_of_docs w p.written
  unfolding rows_from
  rows_by p e = ap (λ (q : Portion ℕ). rows_of_docs w q.written) e

  -- no more true documents remain than fit
  module _ (h : length (docs_in w start limit) ≤ m) where
    pub page-done : page_of w start m ≡ record { rows = length (docs_in w start limit); tally = w.postings start limit; next = done }
    page-done = page_by_lem (record { written = docs_in w start limit; left = none }) (portion-all m (docs_in w start limit) h)

    pub rows-done : rows_from w start m ≡ rows_of_docs w (docs_in w start limit)
    rows-done = rows_by (record { written = docs_in w start limit; left = none }) (portion-all m (docs_in w start limit) h)

  -- document t is the first behind those that fit
  module _ (t : ℕ) (from : start ≤ t) (below : t < limit) (is_true : w.is_true t ≡ true) (front : length (docs_in w start t) ≡ m) where
    part : portion_from w start m ≡ record { written = docs_in w start t; left = some t }
    part =
        ap (portion m) (docs-parts w start t limit from (omega arith) ∙ ap (λ (ds : List ℕ). docs_in w start t ++ ds) (docs-here w t limit below is_true))
        ∙ portion-part m (docs_in w start t) (docs_in w (t + 1) limit) t front

    pub page-more : page_of w start m ≡ record { rows = m; tally = w.postings start t; next = more t }
    page-more =
        page_by_lem (record { written = docs_in w start t; left = some t }) part
        ∙ ap (λ (n : ℕ). record { rows = n; tally = w.postings start t; next = more t }) front

    pub rows_more : rows_from w start m ≡ rows_of_docs w (docs_in w start t)
    rows_more = rows_by (record { written = docs_in w start t; left = some t }) part
