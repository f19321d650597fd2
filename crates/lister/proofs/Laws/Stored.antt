-- The laws of `specs/Inner/Stored.antt`: what is stored piece by piece. No contract cites this file.
--     stored-none, stored_one, stored_more     nothing is stored, one element, and more behind it
--     stored-size                  the buffer keeps its length
--     stored-lent                  the same bytes afterwards, behind the reference that was lent
--     stored-front                 what is stored at the front of a buffer
--     length-pieces, pieces_room, pieces_more     pieces g 0, g 1, .. are stored one behind the other
-- Assumes nothing.
use Prim.Native.Nat.{ℕ, zero, suc, ◌+◌, ◌<◌, ◌≤◌}
use native.Mathlib.Numerals.{add-one}
use native.Mathlib.Nat.{add-zero, zero-add}
use native.Mathlib.Omega.{arith}
use mathlib.Core.Path.{◌≡◌, refl, sym, ap, ap₂, ◌∙◌}
use mathlib.Core.List.{List, [], ◌∷◌, ◌++◌, append_assoc, append-nil}
use lib.ListN.{length, take, drop, set, length-append, length-drop, take-append-drop}
use lib.Seq.{length-take-le, take_at, drop-drop, set_split, append_snoc}
use Rattle.seq.specs.Lists.{joined}
use Rattle.seq.specs.Numbers.{run, sum_to}
use Rattle.seq.proofs.Laws.Lists.{joined_append}
use Rattle.seq.proofs.Laws.Numbers.{run-snoc, sum-within}
use Rattle.seq.proofs.Laws.Stores.{drop_past}
use Rattle.lister.specs.Inner.Stored.{put, Stored}

module _ (out : List ℕ) (at : ℕ) (xs : List ℕ) (room : at + length xs ≤ length out) where
  front : length (take at out ++ xs) ≡ at + length xs
  front = length-append (take at out) xs ∙ (let a = length-take-le at out (omega arith) in omega arith)

  length-put : length (put out at xs) ≡ length out
  unfolding put
  length-put = length-append (take at out ++ xs) (drop (at + length xs) out) ∙ (let a = front in let b = length-drop (at + length xs) out in omega arith)

  put-put : (ys : List ℕ) → put (put out at xs) (at + length xs) ys ≡ put out at (xs ++ ys)
  unfolding put
  put-put ys =
      ap₂ (λ (a b : List ℕ). a ++ ys ++ b)
      (take_at (take at out ++ xs) (drop (at + length xs) out) (at + length xs) front)
      (drop_past (take at out ++ xs) (drop (at + length xs) out) (at + length xs) (length ys) front ∙ drop-drop (length ys) (at + length xs) out)
      ∙ ap₂ (λ (a : List ℕ) (n : ℕ). a ++ drop n out) (append_assoc (take at out) xs ys) both
    where
      both : at + length xs + length ys ≡ at + length (xs ++ ys)
      both = let a = length-append xs ys in omega arith

-- nothing is stored
pub stored-none : (out : List ℕ) (at : ℕ) → at ≤ length out → Stored out at [] out at
unfolding put
stored-none out at h = record {
  laid = rw (add-zero at) (sym (ap (λ (l : List ℕ). l ++ drop at out) (append-nil (take at out)) ∙ take-append-drop at out));
  behind = sym (add-zero at);
  fits = h;
}

-- a byte or a word is stored
pub stored_one : (out : List ℕ) (at x : ℕ) → at < length out → Stored out at (x ∷ []) (set out at x) (at + 1)
unfolding put
stored_one out at x h = record {
  laid = set_split out at x h ∙ sym (append_snoc (take at out) x (drop (suc at) out)) ∙ rw (← add-one at);
  behind = refl;
  fits = omega arith;
}

module _ {out : List ℕ} {at : ℕ} {xs out' : List ℕ} {end : ℕ} (s : Stored out at xs out' end) where
  room : at + length xs ≤ length out
  room = let e = s.behind in let f = s.fits in omega arith

  -- the buffer keeps its length
  pub stored-size : length out' ≡ length out
  stored-size = ap length s.laid ∙ length-put out at xs room

  -- more text is stored behind it
  pub stored_more : (ys : List ℕ) {out'' : List ℕ} {end' : ℕ} → Stored out' end ys out'' end' → Stored out at (xs ++ ys) out'' end'
  stored_more ys t = record {
    laid = t.laid ∙ ap₂ (λ (l : List ℕ) (n : ℕ). put l n ys) s.laid s.behind ∙ put-put out at xs room ys;
    behind = let a = t.behind in let b = s.behind in let l = length-append xs ys in omega arith;
    fits = let a = t.fits in let b = stored-size in omega arith;
  }

-- the same bytes afterwards
pub stored-lent : {out : List ℕ} {at : ℕ} {xs out' out'' : List ℕ} {end : ℕ} → out'' ≡ out' → Stored out at xs out' end → Stored out at xs out'' end
stored-lent e s = record { laid = e ∙ s.laid; behind = s.behind; fits = s.fits }

-- what is stored at the front of a buffer
pub stored-front : {out xs out' : List ℕ} {end : ℕ} → Stored out 0 xs out' end → (end ≡ length xs) × (take end out' ≡ xs)
unfolding put
stored-front {out} {xs} {out'} {end} s =
    let e : end ≡ length xs = s.behind ∙ zero-add (length xs) in
    (e, rw (e, s.laid) (take_at xs (drop (0 + length xs) out) (length xs) refl))

-- pieces of text, stored one behind the other
module _ (g : ℕ → List ℕ) where
  pieces-snoc : (i : ℕ) → joined (run g 0 (i + 1)) ≡ joined (run g 0 i) ++ g i
  unfolding joined
  pieces-snoc i =
      ap joined (rw (zero-add i) at (run-snoc g 0 i)) ∙ joined_append (run g 0 i) (g i ∷ [])
      ∙ ap (λ (l : List ℕ). joined (run g 0 i) ++ l) (append-nil (g i))

  pub length-pieces : (n : ℕ) → length (joined (run g 0 n)) ≡ sum_to (λ i. length (g i)) n
  unfolding joined run sum_to
  length-pieces zero = refl
  length-pieces (suc n) =
      ap (λ (k : ℕ). length (joined (run g 0 k))) (sym (add-one n)) ∙ ap length (pieces-snoc n) ∙ length-append (joined (run g 0 n)) (g n)
      ∙ ap (λ (k : ℕ). k + length (g n)) (length-pieces n)

  pieces-within : (i n : ℕ) → i < n → length (joined (run g 0 i)) + length (g i) ≤ length (joined (run g 0 n))
  pieces-within i n h = rw (length-pieces i, length-pieces n) (sum-within (λ j. length (g j)) i n h)

  module _ {out₀ : List ℕ} {at n : ℕ} (room : at + length (joined (run g 0 n)) ≤ length out₀) {out : List ℕ} {end i : ℕ} (h : i < n) (s : Stored out₀ at (joined (run g 0 i)) out end) where
    -- there is room for the next piece
    pub pieces_room : end + length (g i) ≤ length out
    pieces_room = let a = pieces-within i n h in let b = stored-size s in let e = s.behind in omega arith

  -- the next piece is stored
  pub pieces_more : {out₀ : List ℕ} {at : ℕ} {out : List ℕ} {end i : ℕ} → Stored out₀ at (joined (run g 0 i)) out end → {out' : List ℕ} {end' : ℕ}
      → Stored out end (g i) out' end' → Stored out₀ at (joined (run g 0 (i + 1))) out' end'
  pieces_more {i = i} s t = rw (pieces-snoc i) (stored_more s (g i) t)
