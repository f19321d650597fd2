-- Raised postings, and a list with raised postings behind it. No contract cites this file.
--     doc-raised, pos-raised                 the document and the position of a raised posting
--     raised-positions, raised_below         the positions of a document among raised postings: h documents before, and none below h
--     raised-count                           how many of them lie below a document
--     both-list                              list l of the joined lists
-- Assumes nothing.
use Prim.Native.Nat.{ℕ, ◌+◌, ◌-◌, ◌≤◌, ◌<◌}
use native.Mathlib.Nat.{zero-add}
use native.Mathlib.Omega.{arith}
use mathlib.Core.Path.{◌≡◌, sym, ap, ap₂, ◌∙◌, fun_ext}
use mathlib.Core.Bool.{Bool, false, ◌&&◌}
use mathlib.Core.Logic.{⊎_elim}
use mathlib.Core.List.{List, [], ◌++◌, map, map-map}
use lib.ListN.{length, length-map, get_or-eq_default}
use lib.Dec.{eqb, leb, ltb}
use borrow.Author.Tests.{ne_eqb, le-leb}
use Rattle.seq.specs.Lists.{keep}
use Rattle.seq.specs.Numbers.{run}
use Rattle.seq.proofs.Laws.Tests.{below_or}
use Rattle.seq.proofs.Laws.Decides.{eqb_decides, ltb_decides, same_decides, one-test}
use Rattle.seq.proofs.Laws.Keep.{keep_ext, keep-map}
use Rattle.seq.proofs.Laws.Members.{every_any, keep-nothing}
use Rattle.seq.proofs.Laws.Numbers.{get_or-run, length_run}
use Rattle.volume.specs.Posting.{doc_of, pos_of}
use Rattle.join.specs.Joined.{raised, joined_at, joined_by, joined_lists}
use Rattle.fulltext.specs.Positions.{list_of, positions_in, count_in}

doc-raised : (h p : ℕ) → doc_of (raised h p) ≡ doc_of p + h
doc-raised h p = omega arith

pos-raised : (h p : ℕ) → pos_of (raised h p) ≡ pos_of p
pos-raised h p = omega arith

module _ (h : ℕ) (ps : List ℕ) where
  pub raised-positions : (d : ℕ) → positions_in (d + h) (map (raised h) ps) ≡ positions_in d ps
  unfolding positions_in
  raised-positions d =
      ap (map (λ p. pos_of p)) (keep-map (λ p. eqb (doc_of p) (d + h)) (raised h) ps)
      ∙ map-map (λ p. pos_of p) (raised h) (keep (λ p. eqb (doc_of (raised h p)) (d + h)) ps)
      ∙ ap₂ (λ (f : ℕ → ℕ) (qs : List ℕ). map f qs) (fun_ext (pos-raised h)) (keep_ext (λ p. eqb (doc_of (raised h p)) (d + h)) (λ p. eqb (doc_of p) d) same ps)
    where
      same : (p : ℕ) → eqb (doc_of (raised h p)) (d + h) ≡ eqb (doc_of p) d
      same p =
          let q = doc-raised h p in
          one-test (eqb_decides (doc_of (raised h p)) (d + h))
          (same_decides (eqb_decides (doc_of p) d) (λ (e : doc_of p ≡ d). omega arith) (λ (e : doc_of (raised h p) ≡ d + h). omega arith))

  pub raised_below : (d : ℕ) → d < h → positions_in d (map (raised h) ps) ≡ []
  unfolding positions_in
  raised_below d l =
      ap (map (λ p. pos_of p))
      (keep-map (λ p. eqb (doc_of p) d) (raised h) ps
      ∙ ap (map (raised h)) (keep-nothing (λ p. eqb (doc_of (raised h p)) d) ps (every_any (λ (p : ℕ). eqb (doc_of (raised h p)) d ≡ false) other ps)))
    where
      other : (p : ℕ) → eqb (doc_of (raised h p)) d ≡ false
      other p = let q = doc-raised h p in ne_eqb (doc_of (raised h p)) d (λ (e : doc_of (raised h p) ≡ d). let z : ⊥ = omega arith in z)

  pub raised-count : (r : ℕ) → count_in 0 r (map (raised h) ps) ≡ count_in 0 (r - h) ps
  unfolding count_in
  raised-count r =
      ap length (keep-map (λ p. leb 0 (doc_of p) && ltb (doc_of p) r) (raised h) ps)
      ∙ length-map (keep (λ p. leb 0 (doc_of (raised h p)) && ltb (doc_of (raised h p)) r) ps) (raised h)
      ∙ ap length (keep_ext (λ p. leb 0 (doc_of (raised h p)) && ltb (doc_of (raised h p)) r) (λ p. leb 0 (doc_of p) && ltb (doc_of p) (r - h)) same ps)
    where
      below : (p : ℕ) → ltb (doc_of (raised h p)) r ≡ ltb (doc_of p) (r - h)
      below p =
          let q = doc-raised h p in
          one-test (ltb_decides (doc_of (raised h p)) r)
          (same_decides (ltb_decides (doc_of p) (r - h)) (λ (e : doc_of p < r - h). omega arith) (λ (e : doc_of (raised h p) < r). omega arith))

      same : (p : ℕ) → (leb 0 (doc_of (raised h p)) && ltb (doc_of (raised h p)) r) ≡ (leb 0 (doc_of p) && ltb (doc_of p) (r - h))
      same p =
          ap₂ (λ (a b : Bool). a && b)
          (le-leb 0 (doc_of (raised h p)) (omega arith) ∙ sym (le-leb 0 (doc_of p) (omega arith)))
          (below p)

-- behind the last list both sides are empty
pub both-list : (h : ℕ) (first second : List (List ℕ)) → length second ≡ length first → (l : ℕ) → list_of (joined_lists h first second) l ≡ joined_at (raised h) first second l
unfolding joined_by
both-list h first second same l =
    ⊎_elim
    (λ (k : l < length first). get_or-run (joined_at (raised h) first second) 0 (length first) l [] k ∙ ap (joined_at (raised h) first second) (zero-add l))
    (λ (k : length first ≤ l).
    let n = length_run (joined_at (raised h) first second) 0 (length first) in
    get_or-eq_default (run (joined_at (raised h) first second) 0 (length first)) [] (omega arith)
    ∙ sym (ap₂ (λ (ps qs : List ℕ). ps ++ map (raised h) qs) (get_or-eq_default first [] k) (get_or-eq_default second [] (omega arith))))
    (below_or l (length first))
