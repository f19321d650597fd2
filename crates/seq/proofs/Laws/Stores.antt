-- A buffer that is written from the front: what is written so far, then the rest of d as it was. No contract cites this file.
--     put_next    one more element is stored
--     put-over    several are stored in the place of n, as a promise says it
--     put-part    a part `&mut out[a..e]` comes back as ys
-- Assumes nothing.
use Prim.Native.Nat.{ℕ, suc, ◌+◌, ◌-◌, ◌<◌, ◌≤◌}
use native.Mathlib.Numerals.{add-one}
use mathlib.Core.Path.{◌≡◌, sym, ap, ap₂, ◌∙◌}
use mathlib.Core.List.{List, [], ◌∷◌, ◌++◌, append_assoc}
use lib.ListN.{length, get_or, set, take, drop}
use lib.Seq.{drop-cons, set_at, append_snoc, take_at, drop-append-add, drop-drop, drop_at}
use borrow.Rule.Slice.PartMut.{put_mid, Post-is}

module _ {A : Type 0} where
  -- past a list as long as n
  pub drop_past : (p q : List A) (n m : ℕ) → length p ≡ n → drop (n + m) (p ++ q) ≡ drop m q
  drop_past p q n m e = rw (← e) (drop-append-add p q m)

  pub put_next : (xs d : List A) (i : ℕ) (x : A) → length xs ≡ i → i < length d → set (xs ++ drop i d) i x ≡ (xs ++ (x ∷ [])) ++ drop (i + 1) d
  put_next xs d i x e h =
      ap (λ (l : List A). set (xs ++ l) i x) (drop-cons d i x h) ∙ set_at xs (get_or d i x) (drop (suc i) d) x i e
      ∙ rw (add-one i) (sym (append_snoc xs x (drop (suc i) d)))

  pub put-over : (xs d vs : List A) (i n : ℕ) → length xs ≡ i → take i (xs ++ drop i d) ++ vs ++ drop (i + n) (xs ++ drop i d) ≡ (xs ++ vs) ++ drop (i + n) d
  put-over xs d vs i n e =
      ap₂ (λ (a b : List A). a ++ vs ++ b) (take_at xs (drop i d) i e) (drop_past xs (drop i d) i n e ∙ drop-drop n i d)

  pub put-part : (p d out ys : List A) (a e : ℕ) → length p ≡ a → a ≤ e → out ≡ p ++ drop a d → put_mid a (e - a) out ys ≡ (p ++ ys) ++ drop e d
  put-part p d out ys a e l h o =
      ap (λ (xs : List A). put_mid a (e - a) xs ys) o
      ∙ ap (λ (xs : List A). xs ++ (ys ++ drop (e - a) (drop a (p ++ drop a d)))) (take_at p (drop a d) a l)
      ∙ ap (λ (xs : List A). p ++ (ys ++ drop (e - a) xs)) (drop_at p (drop a d) a l)
      ∙ ap (λ (xs : List A). p ++ (ys ++ xs)) (Post-is a e d h)
      ∙ sym (append_assoc p ys (drop e d))
