-- A loop that lists documents row by row, for any work whose rows have one width. No contract cites this file.
--     Progress           what holds when document d is reached and n rows are laid
--     begins             before the first document
--     same_size          the buffer keeps its length
--     room-rows          no more rows are laid than fit
--     over               past documents that are not true
--     wrote              past a true document whose row is stored
--     stops, ends        the page and the buffer at MORE and at DONE
-- Assumes nothing.
use Prim.Native.Nat.{ℕ, ◌+◌, ◌*◌, ◌/◌, ◌<◌, ◌≤◌}
use native.Mathlib.Nat.{zero-mul, add-mul, one-mul, le-div_iff_mul-le}
use native.Mathlib.Omega.{arith}
use mathlib.Core.Path.{◌≡◌, sym, ap, ap₂, ◌∙◌}
use mathlib.Core.Bool.{true, false}
use mathlib.Core.List.{List, [], ◌∷◌, ◌++◌, append-nil}
use lib.ListN.{length, take, drop, length-append, length-drop}
use Rattle.seq.proofs.Laws.Stores.{put-over}
use Rattle.fulltext.specs.Positions.{limit}
use Rattle.fulltext.specs.Documents.{Work, docs_in, rows_of_docs}
use Rattle.search.specs.Answers.{done, more}
use Rattle.search.specs.Listing.{page_of, rows_from}
use Rattle.search.proofs.Laws.Pages.{page-done, rows-done, page-more, rows_more}
use Rattle.fulltext.proofs.Laws.Docs.{docs-parts, docs-none, docs-empty, docs-end, rows_none, rows-one, rows_append, length-rows}

-- the documents from `start` up to d are listed: n rows stand at the front of the buffer, and behind them the words that were lent
pub record Progress (w : Work) (start : ℕ) (out₀ : List ℕ) (d n : ℕ) (out : List ℕ) : Type 0 where
  pub from : start ≤ d
  pub to : d ≤ limit
  pub rows : n ≡ length (docs_in w start d)
  pub room : n * w.width ≤ length out₀
  pub laid : out ≡ rows_of_docs w (docs_in w start d) ++ drop (n * w.width) out₀

pub begins : (w : Work) (start : ℕ) (out₀ : List ℕ) → start ≤ limit → Progress w start out₀ start 0 out₀
begins w start out₀ h = record {
  from = omega arith;
  to = h;
  rows = sym (ap length (docs-empty w start));
  room = rw (zero-mul w.width) (omega arith);
  laid = rw (docs-empty w start, rows_none w, zero-mul w.width);
}

module _ (w : Work) (even : (d : ℕ) → length (w.row_of d) ≡ w.width) {start : ℕ} {out₀ : List ℕ} {d n : ℕ} {out : List ℕ} (h : Progress w start out₀ d n out) where
  -- the words of the rows that are laid
  laid-words : length (rows_of_docs w (docs_in w start d)) ≡ n * w.width
  laid-words = length-rows w even (docs_in w start d) ∙ ap (λ (k : ℕ). k * w.width) (sym h.rows)

  pub same_size : length out ≡ length out₀
  same_size =
      ap length h.laid ∙ length-append (rows_of_docs w (docs_in w start d)) (drop (n * w.width) out₀)
      ∙ (let a = laid-words in let b = length-drop (n * w.width) out₀ in let c = h.room in omega arith)

  pub room-rows : 1 ≤ w.width → n ≤ length out₀ / w.width
  room-rows wide = (le-div_iff_mul-le wide).1 h.room

  pub over : (e : ℕ) → d ≤ e → e ≤ limit → ((j : ℕ) → d ≤ j → j < e → w.is_true j ≡ false) → Progress w start out₀ e n out
  over e l m false-all = record {
    from = let a = h.from in omega arith;
    to = m;
    rows = h.rows ∙ ap length (sym same);
    room = h.room;
    laid = h.laid ∙ ap (λ (ds : List ℕ). rows_of_docs w ds ++ drop (n * w.width) out₀) (sym same);
  }
    where
      same : docs_in w start e ≡ docs_in w start d
      same = docs-parts w start d e h.from l ∙ ap (λ (ds : List ℕ). docs_in w start d ++ ds) (docs-none w d e false-all) ∙ append-nil (docs_in w start d)

  -- the row of document d is stored behind the n rows
  pub wrote : 1 ≤ w.width → d < limit → w.is_true d ≡ true → n < length out₀ / w.width → (out' : List ℕ)
      → out' ≡ take (n * w.width) out ++ w.row_of d ++ drop (n * w.width + w.width) out
      → Progress w start out₀ (d + 1) (n + 1) out'
  wrote wide l e r out' put = record {
    from = let a = h.from in omega arith;
    to = omega arith;
    rows = let a = h.rows in let b = ap length more-docs ∙ length-append (docs_in w start d) (d ∷ []) in omega arith;
    room = (le-div_iff_mul-le wide).0 (omega arith);
    laid =
        put ∙ ap (λ (xs : List ℕ). take (n * w.width) xs ++ w.row_of d ++ drop (n * w.width + w.width) xs) h.laid
        ∙ put-over (rows_of_docs w (docs_in w start d)) out₀ (w.row_of d) (n * w.width) w.width laid-words
        ∙ ap₂ (λ (xs : List ℕ) (k : ℕ). xs ++ drop k out₀) more_rows more-words;
  }
    where
      more-docs : docs_in w start (d + 1) ≡ docs_in w start d ++ (d ∷ [])
      more-docs = docs-end w start d h.from e

      more_rows : rows_of_docs w (docs_in w start d) ++ w.row_of d ≡ rows_of_docs w (docs_in w start (d + 1))
      more_rows =
          ap (λ (xs : List ℕ). rows_of_docs w (docs_in w start d) ++ xs) (sym (rows-one w d))
          ∙ sym (rows_append w (docs_in w start d) (d ∷ []))
          ∙ ap (rows_of_docs w) (sym more-docs)

      more-words : n * w.width + w.width ≡ (n + 1) * w.width
      more-words = let a = add-mul n 1 w.width in let b = one-mul w.width in omega arith

  -- the buffer, where the rows that fit are those that are laid
  laid_from : (m : ℕ) → rows_from w start m ≡ rows_of_docs w (docs_in w start d) → out ≡ rows_from w start m ++ drop (length (rows_from w start m)) out₀
  laid_from m e = h.laid ∙ ap₂ (λ (xs : List ℕ) (k : ℕ). xs ++ drop k out₀) (sym e) (sym laid-words ∙ ap length (sym e))

  -- MORE: document d is true and no further row fits
  pub stops : d < limit → w.is_true d ≡ true → n ≡ length out₀ / w.width
      → (page_of w start (length out₀ / w.width) ≡ record { rows = n; tally = w.postings start d; next = more d })
      × (out ≡ rows_from w start (length out₀ / w.width) ++ drop (length (rows_from w start (length out₀ / w.width))) out₀)
  stops l e r =
      let front = sym h.rows in
      rw (← r) (page-more w start n d h.from l e front, laid_from n (rows_more w start n d h.from l e front))

-- DONE: every document is reached
pub ends : (w : Work) → ((d : ℕ) → length (w.row_of d) ≡ w.width) → 1 ≤ w.width → {start : ℕ} {out₀ : List ℕ} {n : ℕ} {out : List ℕ} → Progress w start out₀ limit n out
    → (page_of w start (length out₀ / w.width) ≡ record { rows = n; tally = w.postings start limit; next = done })
    × (out ≡ rows_from w start (length out₀ / w.width) ++ drop (length (rows_from w start (length out₀ / w.width))) out₀)
ends w even wide {start} {out₀} {n} {out} h = (page, laid_from w even h (length out₀ / w.width) written)
  where
    fits : length (docs_in w start limit) ≤ length out₀ / w.width
    fits = let a = h.rows in let b = room-rows w even h wide in omega arith

    page : page_of w start (length out₀ / w.width) ≡ record { rows = n; tally = w.postings start limit; next = done }
    page = page-done w start (length out₀ / w.width) fits ∙ ap (λ (k : ℕ). record { rows = k; tally = w.postings start limit; next = done }) (sym h.rows)

    written : rows_from w start (length out₀ / w.width) ≡ rows_of_docs w (docs_in w start limit)
    written = rows-done w start (length out₀ / w.width) fits
