-- The documents of some postings, and refusal 25. No contract cites this file.
--     Spans, spans                           a range is of the lowest and of the last document
--     range_none, range-rising             the documents of no posting; of a run that rises, those of its first and of its last value
--     range_append                         the documents of both of two lists
--     first_postings, first_postings-none, first_postings-next, first_postings-all     the postings of a volume, list by list
--     raise_wrong-clash, docs-clash         25 is told exactly where the documents of both clash: of two lists, of two volumes
--     doc_posting, posting_doc             a document of a volume is that of one of its postings
--     docs-passes, docs-above              25 is not told: no raised document passes 65,535; each is above those of the first volume
--     docs-found                           25 is told: a raised document passes 65,535, or is not above one of the first volume
-- Assumes nothing.
use Prim.Native.Nat.{ℕ, zero, suc, ◌+◌, ◌-◌, ◌<◌, ◌≤◌, min, max}
use native.Mathlib.Nat.{zero-add}
use native.Mathlib.Omega.{arith}
use mathlib.Core.Path.{◌≡◌, refl, sym, ap, ap₂, subst, ◌∙◌}
use mathlib.Core.Bool.{true, false}
use Rattle.std.proofs.Common.{Option, None, Some}
use mathlib.Core.Logic.{◌⊎◌, inl, inr, ⊎_elim}
use mathlib.Core.List.{List, [], ◌∷◌, ◌++◌, append-nil}
use lib.ListN.{length, get_or}
use lib.Dec.{ltb, leb}
use borrow.Author.Tests.{ltb-true}
use Rattle.seq.specs.Lists.{any, at, joined, above, rises}
use Rattle.seq.specs.Numbers.{run}
use Rattle.seq.proofs.Laws.Tests.{both, below_or}
use Rattle.seq.proofs.Laws.Decides.{Decides, ltb_decides, leb_decides, or_decides, same_decides, one-test}
use Rattle.seq.proofs.Laws.Lists.{joined_append}
use Rattle.seq.proofs.Laws.Members.{Has, any_decides, has-index, index_has, has-joined, joined_has}
use Rattle.seq.proofs.Laws.Numbers.{length_run, run-snoc, get_or-run}
use Rattle.volume.specs.Posting.{doc_of}
use Rattle.volume.specs.Layout.{word, list_count, count, start, postings_of, lists_of}
use Rattle.volume.proofs.Laws.Volume.{length-lists_of, list-of}
use Rattle.join.specs.declared.docs.DocRange.{DocRange}
use Rattle.join.specs.Join.{raise_wrong, docs_wrong}
use Rattle.join.specs.Refusals.{HasDoc}
use Rattle.join.specs.Inner.Docs.{wider, range_of, clash}

-- what a range says of the postings that it is of
record Spans (xs : List ℕ) (r : DocRange) : Type 0 where
  low-le : (x : ℕ) → Has x xs → r.low ≤ doc_of x
  le-last : (x : ℕ) → Has x xs → doc_of x ≤ r.last
  low-has : (x : ℕ) × Has x xs × (doc_of x ≡ r.low)
  last-has : (x : ℕ) × Has x xs × (doc_of x ≡ r.last)

-- the range of a posting and those behind it
spans : (x : ℕ) (xs : List ℕ) → (r : DocRange) × (range_of (x ∷ xs) ≡ Some r) × Spans (x ∷ xs) r
unfolding range_of
spans x [] = (
  record { low = doc_of x; last = doc_of x },
  refl,
  record {
    low-le = λ y h. ⊎_elim (λ (e : x ≡ y). let d = ap doc_of e in omega arith) (λ (k : Has y []). absurd k) h;
    le-last = λ y h. ⊎_elim (λ (e : x ≡ y). let d = ap doc_of e in omega arith) (λ (k : Has y []). absurd k) h;
    low-has = (x, inl refl, refl);
    last-has = (x, inl refl, refl);
  },
)
spans x (y ∷ ys) =
    let r = (spans y ys).0 in
    let e : range_of (y ∷ ys) ≡ Some r = (spans y ys).1 in
    let s = (spans y ys).2 in (
      record { low = min (doc_of x) r.low; last = max (doc_of x) r.last },
      ap (wider (Some (record { low = doc_of x; last = doc_of x }))) e,
      record {
        low-le = λ z h. ⊎_elim (λ (k : x ≡ z). let d = ap doc_of k in omega arith) (λ (k : Has z (y ∷ ys)). let l = s.low-le z k in omega arith) h;
        le-last = λ z h. ⊎_elim (λ (k : x ≡ z). let d = ap doc_of k in omega arith) (λ (k : Has z (y ∷ ys)). let l = s.le-last z k in omega arith) h;
        low-has = ⊎_elim
            (λ (l : r.low < doc_of x). let w = s.low-has in (w.0, inr w.1, let i = w.2 in omega arith))
            (λ (l : doc_of x ≤ r.low). (x, inl refl, omega arith))
            (below_or r.low (doc_of x));
        last-has = ⊎_elim
            (λ (l : doc_of x < r.last). let w = s.last-has in (w.0, inr w.1, let i = w.2 in omega arith))
            (λ (l : r.last ≤ doc_of x). (x, inl refl, omega arith))
            (below_or (doc_of x) r.last);
      },
    )

-- of a list that rises, the first posting has the lowest document, and the last one the last
rising : (a : ℕ) (xs : List ℕ) → above a xs ≡ true
    → let last = doc_of (get_or (a ∷ xs) (length xs) 0) in (doc_of a ≤ last) × (range_of (a ∷ xs) ≡ Some (record { low = doc_of a; last = last }))
unfolding above range_of
rising a [] e = (omega arith, refl)
rising a (x ∷ xs) e =
    let w = both (ltb a x) (above x xs) e in
    let l : a < x = ltb-true a x w.0 in
    let last = doc_of (get_or (x ∷ xs) (length xs) 0) in
    let m : doc_of x ≤ last = (rising x xs w.1).0 in
    let r : range_of (x ∷ xs) ≡ Some (record { low = doc_of x; last = last }) = (rising x xs w.1).1 in
    let low : min (doc_of a) (doc_of x) ≡ doc_of a = omega arith in
    let high : max (doc_of a) last ≡ last = omega arith in (
      omega arith,
      ap (wider (Some (record { low = doc_of a; last = doc_of a }))) r ∙ ap₂ (λ (n p : ℕ). Some (record { low = n; last = p })) low high,
    )

module _ (f : ℕ → ℕ) (k : ℕ) where
  pub range_none : (n : ℕ) → n ≡ 0 → None ≡ range_of (run f k n)
  unfolding run range_of
  range_none n e = rw e

  range-suc : (m : ℕ) → above (f k) (run f (suc k) m) ≡ true
      → Some (record { low = doc_of (f k); last = doc_of (f (k + m)) }) ≡ range_of (run f k (suc m))
  unfolding run
  range-suc m e =
      let last : get_or (run f k (suc m)) (length (run f (suc k) m)) 0 ≡ f (k + m)
      = ap (λ (j : ℕ). get_or (run f k (suc m)) j 0) (length_run f (suc k) m) ∙ get_or-run f k (suc m) m 0 (omega arith) in
      sym ((rising (f k) (run f (suc k) m) e).1 ∙ ap (λ (x : ℕ). Some (record { low = doc_of (f k); last = doc_of x })) last)

  pub range-rising : (n : ℕ) → 0 < n → rises (run f k n) ≡ true
      → Some (record { low = doc_of (f k); last = doc_of (f (k + n - 1)) }) ≡ range_of (run f k n)
  unfolding rises run
  range-rising zero s e = absurd (omega arith)
  range-rising (suc m) s e =
      let j : k + suc m - 1 ≡ k + m = omega arith in
      ap (λ (i : ℕ). Some (record { low = doc_of (f k); last = doc_of (f i) })) j ∙ range-suc m e

-- two lists, one behind the other
wider_assoc : (a b c : Option DocRange) → wider (wider a b) c ≡ wider a (wider b c)
wider_assoc None b c = refl
wider_assoc (Some a) None c = refl
wider_assoc (Some a) (Some b) None = refl
wider_assoc (Some a) (Some b) (Some c) = ap₂ (λ (l p : ℕ). Some (record { low = l; last = p })) (omega arith) (omega arith)

pub range_append : (xs ys : List ℕ) → wider (range_of xs) (range_of ys) ≡ range_of (xs ++ ys)
unfolding range_of
range_append [] ys = refl
range_append (x ∷ xs) ys =
    let one : Option DocRange = Some (record { low = doc_of x; last = doc_of x }) in
    wider_assoc one (range_of xs) (range_of ys) ∙ ap (wider one) (range_append xs ys)

-- the postings of the first lists of a volume
module _ (v : List ℕ) where
  abbrev pub first_postings : ℕ → List ℕ
  first_postings i = joined (run (postings_of v) 0 i)

  pub first_postings-none : range_of (first_postings 0) ≡ None
  unfolding joined run range_of
  first_postings-none = refl

  pub first_postings-next : (i : ℕ) → first_postings (i + 1) ≡ first_postings i ++ postings_of v i
  unfolding joined
  first_postings-next i =
      ap joined (run-snoc (postings_of v) 0 i)
      ∙ joined_append (run (postings_of v) 0 i) (postings_of v (0 + i) ∷ [])
      ∙ ap (λ (l : List ℕ). first_postings i ++ l) (append-nil (postings_of v (0 + i)) ∙ ap (postings_of v) (zero-add i))

  pub first_postings-all : first_postings (list_count v) ≡ joined (lists_of v)
  unfolding lists_of
  first_postings-all = refl

-- some posting of the second has a document that, raised, passes 65,535, or is not above that of a posting of the first
abbrev Wrong : ℕ → List ℕ → List ℕ → Type 0
Wrong h ps qs = (q : ℕ) × Has q qs × ((65535 < doc_of q + h) ⊎ ((p : ℕ) × Has p ps × (doc_of q + h ≤ doc_of p)))

module _ (h : ℕ) (ps qs : List ℕ) where
  wrong_decides : Decides (any (raise_wrong h ps) qs) (Wrong h ps qs)
  wrong_decides =
      any_decides (raise_wrong h ps) (λ q. (65535 < doc_of q + h) ⊎ ((p : ℕ) × Has p ps × (doc_of q + h ≤ doc_of p)))
      (λ q. or_decides (ltb_decides 65535 (doc_of q + h)) (any_decides (λ p. leb (doc_of q + h) (doc_of p)) (λ p. doc_of q + h ≤ doc_of p) (λ p. leb_decides (doc_of q + h) (doc_of p)) ps))
      qs

  -- no document in the first, and some in the second
  clash-none : (s : DocRange) → Spans qs s → Decides (clash h None (Some s)) (Wrong h [] qs)
  clash-none s v =
      same_decides (ltb_decides 65535 (s.last + h))
      (λ (l : 65535 < s.last + h). let q = v.last-has in let e = q.2 in (q.0, q.1, inl (omega arith)))
      (λ (w : Wrong h [] qs).
      let m = v.le-last w.0 w.1 in
      ⊎_elim (λ (k : 65535 < doc_of w.0 + h). let z : 65535 < s.last + h = omega arith in z) (λ (k : (p : ℕ) × Has p [] × (doc_of w.0 + h ≤ doc_of p)). absurd k.1) w.2)

  -- some in both
  clash-both : (r s : DocRange) → Spans ps r → Spans qs s → Decides (clash h (Some r) (Some s)) (Wrong h ps qs)
  clash-both r s u v = same_decides (or_decides (ltb_decides 65535 (s.last + h)) (leb_decides (s.low + h) r.last)) out back
    where
      out : (65535 < s.last + h) ⊎ (s.low + h ≤ r.last) → Wrong h ps qs
      out w =
          ⊎_elim
          (λ (l : 65535 < s.last + h). let q = v.last-has in let e = q.2 in (q.0, q.1, inl (omega arith)))
          (λ (l : s.low + h ≤ r.last). let q = v.low-has in let p = u.last-has in let a = q.2 in let b = p.2 in (q.0, q.1, inr (p.0, p.1, omega arith)))
          w

      back : Wrong h ps qs → (65535 < s.last + h) ⊎ (s.low + h ≤ r.last)
      back w =
          let low = v.low-le w.0 w.1 in
          let last = v.le-last w.0 w.1 in
          ⊎_elim
          (λ (k : 65535 < doc_of w.0 + h). inl (omega arith))
          (λ (k : (p : ℕ) × Has p ps × (doc_of w.0 + h ≤ doc_of p)). inr (let a = u.le-last k.0 k.1 in let b = k.2 in omega arith))
          w.2

clash_decides : (h : ℕ) (ps qs : List ℕ) → Decides (clash h (range_of ps) (range_of qs)) (Wrong h ps qs)
unfolding range_of
clash_decides h ps [] = record { yes = λ e. cc; no = λ e w. absurd w.1 }
clash_decides h [] (q ∷ qs) =
    let s = spans q qs in
    subst (λ (b : Option DocRange). Decides (clash h None b) (Wrong h [] (q ∷ qs))) (sym s.1) (clash-none h [] (q ∷ qs) s.0 s.2)
clash_decides h (p ∷ ps) (q ∷ qs) =
    let r = spans p ps in
    let s = spans q qs in
    subst (λ (b : Option DocRange). Decides (clash h (range_of (p ∷ ps)) b) (Wrong h (p ∷ ps) (q ∷ qs))) (sym s.1)
    (subst (λ (a : Option DocRange). Decides (clash h a (Some s.0)) (Wrong h (p ∷ ps) (q ∷ qs))) (sym r.1) (clash-both h (p ∷ ps) (q ∷ qs) r.0 s.0 r.2 s.2))

module _ (h : ℕ) (ps qs : List ℕ) where
  raise_wrong-clash : any (raise_wrong h ps) qs ≡ clash h (range_of ps) (range_of qs)
  raise_wrong-clash = one-test (wrong_decides h ps qs) (clash_decides h ps qs)

pub docs-clash : (h : ℕ) (v w : List ℕ) → docs_wrong h v w ≡ clash h (range_of (joined (lists_of v))) (range_of (joined (lists_of w)))
unfolding docs_wrong
docs-clash h v w = raise_wrong-clash h (joined (lists_of v)) (joined (lists_of w))

-- a document of a volume is that of one of its postings
module _ (v : List ℕ) (d : ℕ) where
  doc_posting : HasDoc v d → (p : ℕ) × Has p (joined (lists_of v)) × (doc_of p ≡ d)
  doc_posting k =
      let i = k.list in
      let ps = postings_of v i in
      let n : k.index < length ps = (let a = length_run (word v) (start v i) (count v i) in let b = k.below in omega arith) in
      let m : Has (at ps k.index) (get_or (lists_of v) i []) = subst (Has (at ps k.index)) (sym (list-of v i k.inside)) (index_has 0 ps k.index n) in
      (at ps k.index, has-joined (at ps k.index) (lists_of v) i m, k.is)

  pub posting_doc : (p : ℕ) → Has p (joined (lists_of v)) → doc_of p ≡ d → HasDoc v d
  posting_doc p h e =
      let w = joined_has p (lists_of v) h in
      let i = w.0 in
      let l : i < list_count v = (let a = length-lists_of v in let b = w.1 in omega arith) in
      let m = has-index 0 p (postings_of v i) (subst (Has p) (list-of v i l) w.2) in
      record {
        list = i;
        inside = l;
        index = m.0;
        below = let a = length_run (word v) (start v i) (count v i) in let b = m.1 in omega arith;
        is = ap doc_of m.2 ∙ e;
      }

module _ (h : ℕ) (v w : List ℕ) where
  docs_wrong_decides : Decides (docs_wrong h v w) (Wrong h (joined (lists_of v)) (joined (lists_of w)))
  unfolding docs_wrong
  docs_wrong_decides = wrong_decides h (joined (lists_of v)) (joined (lists_of w))

  pub docs-passes : docs_wrong h v w ≡ false → (d : ℕ) → HasDoc w d → d + h ≤ 65535
  docs-passes e d k =
      let q = doc_posting w d k in
      let never : (65535 < doc_of q.0 + h) → ⊥ = (λ l. docs_wrong_decides.no e (q.0, q.1, inl l)) in
      let a = q.2 in
      omega arith

  pub docs-above : docs_wrong h v w ≡ false → (c d : ℕ) → HasDoc v c → HasDoc w d → c < d + h
  docs-above e c d j k =
      let p = doc_posting v c j in
      let q = doc_posting w d k in
      let never : (doc_of q.0 + h ≤ doc_of p.0) → ⊥ = (λ l. docs_wrong_decides.no e (q.0, q.1, inr (p.0, p.1, l))) in
      let a = p.2 in
      let b = q.2 in
      omega arith

  pub docs-found : docs_wrong h v w ≡ true
      → ((d : ℕ) × HasDoc w d × (65535 < d + h)) ⊎ ((c : ℕ) × (d : ℕ) × HasDoc v c × HasDoc w d × (d + h ≤ c))
  docs-found e =
      let x = docs_wrong_decides.yes e in
      let q = x.0 in
      let k = posting_doc w (doc_of q) q x.1 refl in
      ⊎_elim
      (λ (l : 65535 < doc_of q + h). inl (doc_of q, k, l))
      (λ (l : (p : ℕ) × Has p (joined (lists_of v)) × (doc_of q + h ≤ doc_of p)). inr (doc_of l.0, doc_of q, posting_doc v (doc_of l.0) l.0 l.1 refl, k, l.2))
      x.2
