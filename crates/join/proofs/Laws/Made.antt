-- Words of a block that are made one behind the other. No contract cites this file.
--     made_none       where none is made they are as they were
--     made_more       one more is stored
--     made_then       some, and then those behind them
--     made_ext        the same words of another stream
--     made_all        all words of a block
--     made_zeros      a rest that is filled with zeros
-- Assumes nothing.
use Prim.Native.Nat.{ℕ, zero, suc, ◌+◌, ◌-◌, ◌<◌, ◌≤◌}
use native.Mathlib.Nat.{sub_self}
use native.Mathlib.Omega.{arith}
use mathlib.Core.Path.{◌≡◌, refl, ap, ◌∙◌}
use mathlib.Core.List.{List, [], ◌∷◌, ◌++◌, append_assoc, append-nil}
use lib.ListN.{length, set, take, drop, replicate, length-append, length-take, length-drop, take-append-drop, drop_of_length-le}
use lib.Seq.{length-take-le}
use borrow.Rule.Slice.PartMut.{put_mid}
use Rattle.seq.specs.Numbers.{run}
use Rattle.seq.proofs.Laws.Numbers.{length_run, run_append, run-snoc, run_ext}
use Rattle.seq.proofs.Laws.Stores.{put_next, put-over}
use Rattle.join.specs.Inner.Reading.{made}

module _ (f : ℕ → ℕ) (i to : ℕ) (words : List ℕ) where
  -- what stands in front of the words that are left
  length_front : (end : ℕ) → to ≤ end → to ≤ length words → length (take to words ++ run f i (end - to)) ≡ end
  length_front end h l = rw (length-append, length-take-le to words l, length_run f i (end - to)) (omega arith)

  pub made_none : made f i to to words ≡ words
  unfolding run
  made_none = rw (sub_self to, append-nil (take to words)) (take-append-drop to words)

  pub made_more : (k end x : ℕ) → end ≡ to + k → end < length words → x ≡ f (i + k)
      → set (made f i to end words) end x ≡ made f i to (end + 1) words
  made_more k end x here l e =
      let less : end - to ≡ k = omega arith in
      let more : end + 1 - to ≡ k + 1 = omega arith in
      put_next (take to words ++ run f i (end - to)) words end x (length_front end (omega arith) (omega arith)) l
      ∙ rw (less, more, e, run-snoc f i k, append_assoc (take to words) (run f i k) (f (i + k) ∷ []))

  pub made_then : (next mid end : ℕ) → next ≡ i + (mid - to) → to ≤ mid → mid ≤ end → to ≤ length words
      → made f next mid end (made f i to mid words) ≡ made f i to end words
  made_then next mid end e a b l =
      let size : mid + (end - mid) ≡ end = omega arith in
      let whole : end - to ≡ mid - to + (end - mid) = omega arith in
      let over = put-over (take to words ++ run f i (mid - to)) words (run f next (end - mid)) mid (end - mid) (length_front mid a l) in
      rw size at over
      ∙ rw (whole, run_append f i (mid - to) (end - mid), ← e, append_assoc (take to words) (run f i (mid - to)) (run f next (end - mid)))

pub made_ext : (f g : ℕ → ℕ) (a b to end : ℕ) (words : List ℕ) → ((k : ℕ) → k < end - to → f (a + k) ≡ g (b + k))
    → made f a to end words ≡ made g b to end words
made_ext f g a b to end words e = ap (λ (l : List ℕ). take to words ++ l ++ drop end words) (run_ext f g a b (end - to) e)

pub made_all : (f : ℕ → ℕ) (i : ℕ) (words : List ℕ) → length words ≡ 126 → made f i 0 126 words ≡ run f i 126
made_all f i words l =
    let behind : length words ≤ 126 = omega arith in
    rw (drop_of_length-le words behind, append-nil)

zeros_run : (n k : ℕ) → replicate {A = ℕ} n 0 ≡ run (λ i. 0) k n
unfolding run
zeros_run zero k = refl
zeros_run (suc n) k = ap (λ (l : List ℕ). 0 ∷ l) (zeros_run n (suc k))

pub made_zeros : (words part : List ℕ) (to n : ℕ) → n ≡ length words - to → length words ≡ 126
    → part ≡ replicate {A = ℕ} (length (take n (drop to words))) 0 → put_mid to n words part ≡ made (λ i. 0) 0 to 126 words
made_zeros words part to n e l p =
    let size : length (take n (drop to words)) ≡ 126 - to = simp (length-take, length-drop) (omega arith) in
    let tail : drop n (drop to words) ≡ [] = drop_of_length-le (drop to words) {i = n} (simp length-drop (omega arith)) in
    let end : drop 126 words ≡ [] = drop_of_length-le words {i = 126} (omega arith) in
    rw (p, size, zeros_run (126 - to) 0, tail, end, append_assoc (take to words) (run (λ i. 0) 0 (126 - to)) [])
