-- The true documents of a stretch, and their rows. No contract cites this file.
--     docs-parts                  a stretch in two parts
--     docs-none                   a stretch with no true document
--     docs-here                   a true document at its front
--     docs-end                    a true document at its end
--     docs-empty                  a stretch of none
--     IsAt, docs-at, at_front, at-later     the true document with a number, and those in front of it
--     rows_none, rows-one, rows_append, length-rows    rows of none, of one, of documents in two parts; their words
-- Assumes nothing.
use Prim.Native.Nat.{ℕ, zero, suc, ◌+◌, ◌-◌, ◌*◌, ◌<◌, ◌≤◌}
use native.Mathlib.Omega.{arith}
use mathlib.Core.Path.{◌≡◌, refl, sym, ap, ◌∙◌}
use mathlib.Core.Bool.{Bool, true, false}
use mathlib.Core.Logic.{⊎_elim}
use mathlib.Core.List.{List, [], ◌∷◌, ◌++◌, map, map-append, append-nil}
use lib.ListN.{length, get_or, take, length-map}
use lib.Seq.{length-take-le}
use Rattle.seq.specs.Lists.{keep, joined}
use Rattle.seq.specs.Numbers.{run}
use Rattle.seq.proofs.Laws.Tests.{below_or}
use Rattle.seq.proofs.Laws.Lists.{joined_append}
use Rattle.seq.proofs.Laws.Members.{every_any, every_map, joined-even}
use Rattle.seq.proofs.Laws.Keep.{keep_pass, keep_fail, keep_append, keep-run-none}
use Rattle.seq.proofs.Laws.Numbers.{run_step}
use Rattle.seq.proofs.Laws.Slices.{run-parts}
use Rattle.fulltext.specs.Documents.{Work, docs_in, rows_of_docs}

module _ (w : Work) where
  pub docs-parts : (a b c : ℕ) → a ≤ b → b ≤ c → docs_in w a c ≡ docs_in w a b ++ docs_in w b c
  unfolding docs_in
  docs-parts a b c h l = ap (keep w.is_true) (run-parts (λ d. d) a b c h l) ∙ keep_append w.is_true (run (λ d. d) a (b - a)) (run (λ d. d) b (c - b))

  pub docs-none : (a b : ℕ) → ((j : ℕ) → a ≤ j → j < b → w.is_true j ≡ false) → docs_in w a b ≡ []
  unfolding docs_in
  docs-none a b e = keep-run-none w.is_true (λ d. d) a (b - a) (λ j h l. e j h (omega arith))

  pub docs-here : (a b : ℕ) → a < b → w.is_true a ≡ true → docs_in w a b ≡ a ∷ docs_in w (a + 1) b
  unfolding docs_in
  docs-here a b h e = ap (keep w.is_true) (run_step (λ d. d) a b h) ∙ keep_pass w.is_true a (run (λ d. d) (a + 1) (b - (a + 1))) e

  pub docs-empty : (a : ℕ) → docs_in w a a ≡ []
  docs-empty a = docs-none a a (λ j h l. absurd (let z : ⊥ = omega arith in z))

  pub docs-end : (a d : ℕ) → a ≤ d → w.is_true d ≡ true → docs_in w a (d + 1) ≡ docs_in w a d ++ (d ∷ [])
  docs-end a d h e =
      docs-parts a d (d + 1) h (omega arith)
      ∙ ap (λ (ds : List ℕ). docs_in w a d ++ ds) (docs-here d (d + 1) (omega arith) e ∙ ap (λ (ds : List ℕ). d ∷ ds) (docs-empty (d + 1)))

  pub rows_none : rows_of_docs w [] ≡ []
  unfolding rows_of_docs joined
  rows_none = refl

  pub rows-one : (d : ℕ) → rows_of_docs w (d ∷ []) ≡ w.row_of d
  unfolding rows_of_docs joined
  rows-one d = append-nil (w.row_of d)

  pub rows_append : (ds es : List ℕ) → rows_of_docs w (ds ++ es) ≡ rows_of_docs w ds ++ rows_of_docs w es
  unfolding rows_of_docs
  rows_append ds es = ap joined (map-append w.row_of ds es) ∙ joined_append (map w.row_of ds) (map w.row_of es)

  pub length-rows : ((d : ℕ) → length (w.row_of d) ≡ w.width) → (ds : List ℕ) → length (rows_of_docs w ds) ≡ length ds * w.width
  unfolding rows_of_docs
  length-rows even ds =
      joined-even w.width (map w.row_of ds) (every_map w.row_of (λ (row : List ℕ). length row ≡ w.width) ds (every_any (λ (d : ℕ). length (w.row_of d) ≡ w.width) even ds))
      ∙ ap (λ (n : ℕ). n * w.width) (length-map ds w.row_of)

-- document number m of those from a on: it is true, and those in front of it are the true ones below it
pub record IsAt (w : Work) (a b m t : ℕ) : Type 0 where
  pub from : a ≤ t
  pub below : t < b
  pub is_true : w.is_true t ≡ true
  pub front : docs_in w a t ≡ take m (docs_in w a b)

docs_miss : (w : Work) (a b : ℕ) → a < b → w.is_true a ≡ false → docs_in w a b ≡ docs_in w (a + 1) b
unfolding docs_in
docs_miss w a b h e = ap (keep w.is_true) (run_step (λ d. d) a b h) ∙ keep_fail w.is_true a (run (λ d. d) (a + 1) (b - (a + 1))) e

-- where n documents are left
at_left : (w : Work) (b n a m : ℕ) → b ≡ a + n → m < length (docs_in w a b) → IsAt w a b m (get_or (docs_in w a b) m 0)
at_left w b zero a m q h = absurd (let e = ap length (docs-none w a b (λ j x y. absurd (let z : ⊥ = omega arith in z))) in let z : ⊥ = omega arith in z)
at_left w b (suc n) a m q h = go (w.is_true a) refl m h (at_left w b n (a + 1))
  where
    inside : a < b
    inside = omega arith

    go : (t : Bool) → w.is_true a ≡ t → (m : ℕ) → m < length (docs_in w a b)
        → ((k : ℕ) → b ≡ a + 1 + n → k < length (docs_in w (a + 1) b) → IsAt w (a + 1) b k (get_or (docs_in w (a + 1) b) k 0))
        → IsAt w a b m (get_or (docs_in w a b) m 0)
    go true e zero l ih = rw (docs-here w a b inside e) (record { from = omega arith; below = inside; is_true = e; front = docs-empty w a })
    go true e (suc k) l ih =
        let i = ih k (omega arith) (omega (arith, ap length (docs-here w a b inside e))) in
        rw (docs-here w a b inside e)
        (record {
          from = omega (arith, i.from);
          below = i.below;
          is_true = i.is_true;
          front = docs-here w a (get_or (docs_in w (a + 1) b) k 0) (omega (arith, i.from)) e ∙ ap (λ (ds : List ℕ). a ∷ ds) i.front ∙ sym (ap (take (suc k)) (docs-here w a b inside e));
        })
    go false e k l ih =
        let i = ih k (omega arith) (omega (arith, ap length (docs_miss w a b inside e))) in
        rw (docs_miss w a b inside e)
        (record {
          from = omega (arith, i.from);
          below = i.below;
          is_true = i.is_true;
          front = docs_miss w a (get_or (docs_in w (a + 1) b) k 0) (omega (arith, i.from)) e ∙ i.front ∙ sym (ap (take k) (docs_miss w a b inside e));
        })

pub docs-at : (w : Work) (a b m : ℕ) → a ≤ b → m < length (docs_in w a b) → IsAt w a b m (get_or (docs_in w a b) m 0)
docs-at w a b m l h = at_left w b (b - a) a m (omega arith) h

-- how many stand in front of it; behind the first, it is later than a
module _ (w : Work) (a b m t : ℕ) (h : m < length (docs_in w a b)) (i : IsAt w a b m t) where
  pub at_front : length (docs_in w a t) ≡ m
  at_front = ap length i.front ∙ length-take-le m (docs_in w a b) (omega arith)

  pub at-later : 1 ≤ m → a < t
  at-later k =
      ⊎_elim (λ (x : a < t). x)
      (λ (x : t ≤ a). let q : t ≡ a = omega (arith, i.from) in let e = at_front in let z = ap (λ (j : ℕ). length (docs_in w a j)) q ∙ ap length (docs-empty w a) in absurd (let y : ⊥ = omega arith in y))
      (below_or a t)
