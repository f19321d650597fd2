-- Two volumes that can be joined: a document parts their postings. No contract cites this file.
--     past_doc, past_doc-lt, past_doc_has     the number behind the last document of some postings: above each, and right behind one
--     Parted, cut, parted     the first's postings lie below the cut; the second's, raised, from it on and below the limit
-- Assumes nothing.
use Prim.Native.Nat.{ℕ, ◌+◌, ◌-◌, max, ◌≤◌, ◌<◌}
use native.Mathlib.Omega.{arith}
use mathlib.Core.Path.{◌≡◌, refl, ap}
use mathlib.Core.Bool.{false}
use mathlib.Core.Logic.{inl, inr, ⊎_elim}
use mathlib.Core.List.{List, [], ◌∷◌}
use Rattle.seq.specs.Lists.{joined}
use Rattle.seq.proofs.Laws.Tests.{below_or}
use Rattle.seq.proofs.Laws.Members.{Has, has-joined}
use Rattle.volume.specs.Posting.{doc_of}
use Rattle.volume.specs.Layout.{lists_of}
use Rattle.join.specs.Join.{docs_wrong}
use Rattle.join.specs.Refusals.{HasDoc}
use Rattle.join.proofs.Laws.Docs.{posting_doc, docs-passes, docs-above}
use Rattle.fulltext.specs.Positions.{limit, list_of, count_in}
use Rattle.fulltext.proofs.Laws.Counts.{count_none}

-- the number behind the last document; 0 where there is no posting
unfoldable pub past_doc : List ℕ → ℕ
past_doc [] = 0
past_doc (x ∷ xs) = max (doc_of x + 1) (past_doc xs)

past_doc-lt : (x : ℕ) (xs : List ℕ) → Has x xs → doc_of x < past_doc xs
unfolding past_doc
past_doc-lt x [] h = absurd h
past_doc-lt x (y ∷ ys) h =
    ⊎_elim (λ (e : y ≡ x). let d = ap doc_of e in omega arith) (λ (k : Has x ys). let l = past_doc-lt x ys k in omega arith) h

-- where there is a posting, one has the last document
past_doc_has : (xs : List ℕ) → 0 < past_doc xs → (x : ℕ) × Has x xs × (doc_of x + 1 ≡ past_doc xs)
unfolding past_doc
past_doc_has [] h = absurd (omega arith)
past_doc_has (x ∷ xs) h =
    ⊎_elim
    (λ (l : doc_of x + 1 < past_doc xs). let w = past_doc_has xs (omega arith) in (w.0, inr w.1, let e = w.2 in omega arith))
    (λ (l : past_doc xs ≤ doc_of x + 1). (x, inl refl, omega arith))
    (below_or (doc_of x + 1) (past_doc xs))

-- document c parts the postings of some lists from those of others, raised by h
pub record Parted (h : ℕ) (first second : List (List ℕ)) (c : ℕ) : Type 0 where
  pub from : h ≤ c
  -- the first has none from c on
  pub low : (b l : ℕ) → count_in c b (list_of first l) ≡ 0
  -- the second has none that is raised to a document below c, or behind the last one
  pub high : (l : ℕ) → count_in 0 (c - h) (list_of second l) ≡ 0
  pub top : (l : ℕ) → count_in (limit - h) limit (list_of second l) ≡ 0

-- the document that parts two volumes: h, or the number behind the first's last document
abbrev pub cut : ℕ → List ℕ → ℕ
cut h v = max h (past_doc (joined (lists_of v)))

module _ (h : ℕ) (v w : List ℕ) (e : docs_wrong h v w ≡ false) where
  first_doc : (p l : ℕ) → Has p (list_of (lists_of v) l) → doc_of p < past_doc (joined (lists_of v))
  first_doc p l k = past_doc-lt p (joined (lists_of v)) (has-joined p (lists_of v) l k)

  second_doc : (q l : ℕ) → Has q (list_of (lists_of w) l) → HasDoc w (doc_of q)
  second_doc q l k = posting_doc w (doc_of q) q (has-joined q (lists_of w) l k) refl

  -- a raised document of the second is behind the last one of the first
  behind : (q l : ℕ) → Has q (list_of (lists_of w) l) → past_doc (joined (lists_of v)) ≤ doc_of q + h
  behind q l k =
      ⊎_elim
      (λ (s : 0 < past_doc (joined (lists_of v))).
      let p = past_doc_has (joined (lists_of v)) s in
      let a = docs-above h v w e (doc_of p.0) (doc_of q) (posting_doc v (doc_of p.0) p.0 p.1 refl) (second_doc q l k) in
      omega (arith, p.2))
      (λ (s : past_doc (joined (lists_of v)) ≤ 0). omega arith)
      (below_or 0 (past_doc (joined (lists_of v))))

  pub parted : Parted h (lists_of v) (lists_of w) (cut h v)
  parted = record {
    from = omega arith;
    low = λ b l. count_none (cut h v) b (list_of (lists_of v) l) (λ p m x y. let a = first_doc p l m in omega arith);
    high = λ l. count_none 0 (cut h v - h) (list_of (lists_of w) l) (λ q m x y. let a = behind q l m in omega arith);
    top = λ l. count_none (limit - h) limit (list_of (lists_of w) l) (λ q m x y. let a = docs-passes h v w e (doc_of q) (second_doc q l m) in omega arith);
  }
