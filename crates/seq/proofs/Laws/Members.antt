-- Elements of a list, and facts of each of them, by recursion on the list. No contract cites this file.
--     Has, Every                     x is an element; a fact of every element
--     has_every, every_of            from the one to the other
--     every_append, every_as, every_any, every_map      a fact of every element: in two parts, from another, of anything, of a mapped list
--     has_left, has_right, has_append, has-map     an element of a list in two parts, of a mapped list
--     has-joined, joined_has         an element of joined lists is one of some list
--     has-index, index_has, every-index      elements by their index
--     any_decides                    `any` decides that some element is so
--     every-keep, keep_has, has-keep     those that pass a test
--     first_has                      the first element is one
--     every_take                     of the first elements
--     joined-even                    lists that all have n elements, joined
--     keep-whole, keep-nothing       every element passes, or none
--     keep-alike                     two tests that say the same of every element
--     keep_narrow                    what passes one test passes the other too
-- Assumes nothing.
use Prim.Native.Nat.{ℕ, zero, suc, ◌*◌, ◌<◌}
use native.Mathlib.Nat.{zero-mul, suc-mul}
use native.Mathlib.Omega.{arith}
use mathlib.Core.Path.{◌≡◌, refl, sym, ap, ◌∙◌, subst}
use mathlib.Core.Bool.{Bool, true, false, true≢false}
use mathlib.Core.Logic.{◌⊎◌, inl, inr, ⊎_elim}
use mathlib.Core.List.{List, [], ◌∷◌, ◌++◌, map}
use mathlib.Core.Option.{some}
use lib.ListN.{length, get_or, take, length-append}
use Rattle.seq.specs.Lists.{cons_if, keep, any, joined, first}
use Rattle.seq.proofs.Laws.Tests.{true_or, contrary}
use Rattle.seq.proofs.Laws.Decides.{Decides, or_decides, same_decides}
use Rattle.seq.proofs.Laws.Lists.{Each}
use Rattle.seq.proofs.Laws.Keep.{keep_pass, keep_fail}

module _ {A : Type 0} where
  -- x is an element
  abbrev pub Has : A → List A → Type 0
  Has x [] = ⊥
  Has x (y ∷ ys) = (y ≡ x) ⊎ Has x ys

  -- P holds of every element
  abbrev pub Every : (A → Type 0) → List A → Type 0
  Every P [] = Unit
  Every P (x ∷ xs) = P x × Every P xs

  pub has_left : (x : A) (xs ys : List A) → Has x xs → Has x (xs ++ ys)
  has_left x [] ys h = absurd h
  has_left x (y ∷ xs) ys h = ⊎_elim (λ (e : y ≡ x). inl e) (λ (k : Has x xs). inr (has_left x xs ys k)) h

  pub has_right : (x : A) (xs ys : List A) → Has x ys → Has x (xs ++ ys)
  has_right x [] ys h = h
  has_right x (y ∷ xs) ys h = inr (has_right x xs ys h)

  pub has_append : (x : A) (xs ys : List A) → Has x (xs ++ ys) → Has x xs ⊎ Has x ys
  has_append x [] ys h = inr h
  has_append x (y ∷ xs) ys h =
      ⊎_elim
      (λ (e : y ≡ x). inl (inl e))
      (λ (k : Has x (xs ++ ys)). ⊎_elim (λ (m : Has x xs). inl (inr m)) (λ (m : Has x ys). inr m) (has_append x xs ys k))
      h

  pub has-joined : (x : A) (xss : List (List A)) (i : ℕ) → Has x (get_or xss i []) → Has x (joined xss)
  unfolding joined
  has-joined x [] i h = absurd h
  has-joined x (xs ∷ xss) zero h = has_left x xs (joined xss) h
  has-joined x (xs ∷ xss) (suc i) h = has_right x xs (joined xss) (has-joined x xss i h)

  pub joined_has : (x : A) (xss : List (List A)) → Has x (joined xss) → (i : ℕ) × (i < length xss) × Has x (get_or xss i [])
  unfolding joined
  joined_has x [] h = absurd h
  joined_has x (xs ∷ xss) h =
      ⊎_elim
      (λ (k : Has x xs). (0, omega arith, k))
      (λ (k : Has x (joined xss)). let w = joined_has x xss k in (suc w.0, omega (arith, w.1), w.2))
      (has_append x xs (joined xss) h)

  pub has-index : (d x : A) (xs : List A) → Has x xs → (i : ℕ) × (i < length xs) × (get_or xs i d ≡ x)
  has-index d x [] h = absurd h
  has-index d x (y ∷ ys) h = ⊎_elim (λ (e : y ≡ x). (0, omega arith, e)) (λ (k : Has x ys). let w = has-index d x ys k in (suc w.0, omega (arith, w.1), w.2)) h

  pub index_has : (d : A) (xs : List A) (i : ℕ) → i < length xs → Has (get_or xs i d) xs
  index_has d [] i l = absurd (omega arith)
  index_has d (x ∷ xs) zero l = inl refl
  index_has d (x ∷ xs) (suc i) l = inr (index_has d xs i (omega arith))

-- some element passes a test
pub any_decides : {A : Type 0} (test : A → Bool) (P : A → Type 0) → ((x : A) → Decides (test x) (P x)) → (xs : List A)
    → Decides (any test xs) ((x : A) × Has x xs × P x)
unfolding any
any_decides test P d [] = record { yes = λ e. absurd (true≢false (sym e)); no = λ e w. w.1 }
any_decides test P d (x ∷ xs) =
    same_decides (or_decides (d x) (any_decides test P d xs))
    (⊎_elim (λ (p : P x). (x, inl refl, p)) (λ w. (w.0, inr w.1, w.2)))
    (λ w. ⊎_elim (λ (e : x ≡ w.0). inl (subst P (sym e) w.2)) (λ (k : Has w.0 xs). inr (w.0, k, w.2)) w.1)

module _ {A : Type 0} (P : A → Type 0) where
  pub has_every : (x : A) (xs : List A) → Every P xs → Has x xs → P x
  has_every x [] a h = absurd h
  has_every x (y ∷ ys) a h = ⊎_elim (λ (e : y ≡ x). subst P e a.0) (λ (k : Has x ys). has_every x ys a.1 k) h

  pub every_of : (xs : List A) → ((x : A) → Has x xs → P x) → Every P xs
  every_of [] f = tt
  every_of (x ∷ xs) f = (f x (inl refl), every_of xs (λ y h. f y (inr h)))

  pub every_any : ((x : A) → P x) → (xs : List A) → Every P xs
  every_any f xs = every_of xs (λ x h. f x)

  pub every-index : (d : A) (xs : List A) → Every P xs → Each P d xs
  every-index d xs a i l = has_every (get_or xs i d) xs a (index_has d xs i l)

  pub every_append : (xs ys : List A) → Every P xs → Every P ys → Every P (xs ++ ys)
  every_append [] ys a b = b
  every_append (x ∷ xs) ys a b = (a.0, every_append xs ys a.1 b)

  pub every_as : (Q : A → Type 0) → ((x : A) → P x → Q x) → (xs : List A) → Every P xs → Every Q xs
  every_as Q f [] a = a
  every_as Q f (x ∷ xs) a = (f x a.0, every_as Q f xs a.1)

  pub every-keep : (test : A → Bool) (xs : List A) → Every P xs → Every P (keep test xs)
  unfolding keep
  every-keep test [] a = a
  every-keep test (x ∷ xs) a = go (test x) (every-keep test xs a.1)
    where
      go : (t : Bool) → Every P (keep test xs) → Every P (cons_if t x (keep test xs))
      go true b = (a.0, b)
      go false b = b

  pub every_take : (n : ℕ) (xs : List A) → Every P xs → Every P (take n xs)
  every_take zero xs a = tt
  every_take (suc n) [] a = tt
  every_take (suc n) (x ∷ xs) a = (a.0, every_take n xs a.1)

module _ {A B : Type 0} (f : A → B) where
  pub every_map : (P : B → Type 0) (xs : List A) → Every (λ x. P (f x)) xs → Every P (map f xs)
  every_map P [] a = a
  every_map P (x ∷ xs) a = (a.0, every_map P xs a.1)

  pub has-map : (x : A) (xs : List A) → Has x xs → Has (f x) (map f xs)
  has-map x [] h = absurd h
  has-map x (y ∷ xs) h = ⊎_elim (λ (e : y ≡ x). inl (ap f e)) (λ (k : Has x xs). inr (has-map x xs k)) h

pub first_has : {A : Type 0} (x : A) (xs : List A) → first xs ≡ some x → Has x xs
first_has x [] e = let z : ◌≡◌ {A = ℕ} 0 1 = cc in absurd (omega arith)
first_has x (y ∷ ys) e = inl (let q : y ≡ x = cc in q)

pub joined-even : {A : Type 0} (n : ℕ) (xss : List (List A)) → Every (λ (xs : List A). length xs ≡ n) xss → length (joined xss) ≡ length xss * n
unfolding joined
joined-even n [] a = sym (zero-mul n)
joined-even n (xs ∷ xss) a =
    length-append xs (joined xss) ∙ (let e = a.0 in let b = joined-even n xss a.1 in let c = suc-mul (length xss) n in omega arith)

module _ {A : Type 0} (test : A → Bool) where
  pub keep_has : (x : A) (xs : List A) → Has x xs → test x ≡ true → Has x (keep test xs)
  unfolding keep
  keep_has x [] h t = absurd h
  keep_has x (y ∷ ys) h t = go (test y) refl (keep_has x ys)
    where
      go : (b : Bool) → test y ≡ b → (Has x ys → test x ≡ true → Has x (keep test ys)) → Has x (cons_if b y (keep test ys))
      go true e rest = ⊎_elim (λ (q : y ≡ x). inl q) (λ (k : Has x ys). inr (rest k t)) h
      go false e rest = ⊎_elim (λ (q : y ≡ x). absurd (contrary (ap test q ∙ t) e)) (λ (k : Has x ys). rest k t) h

  pub has-keep : (x : A) (xs : List A) → Has x (keep test xs) → Has x xs × (test x ≡ true)
  unfolding keep
  has-keep x [] h = absurd h
  has-keep x (y ∷ ys) h = go (test y) refl h (has-keep x ys)
    where
      go : (b : Bool) → test y ≡ b → Has x (cons_if b y (keep test ys)) → (Has x (keep test ys) → Has x ys × (test x ≡ true)) → Has x (y ∷ ys) × (test x ≡ true)
      go true e k rest = ⊎_elim (λ (q : y ≡ x). (inl q, sym (ap test q) ∙ e)) (λ (m : Has x (keep test ys)). let w = rest m in (inr w.0, w.1)) k
      go false e k rest = let w = rest k in (inr w.0, w.1)

  pub keep-whole : (xs : List A) → Every (λ x. test x ≡ true) xs → keep test xs ≡ xs
  unfolding keep
  keep-whole [] a = refl
  keep-whole (x ∷ xs) a = keep_pass test x xs a.0 ∙ ap (λ (l : List A). x ∷ l) (keep-whole xs a.1)

  pub keep-nothing : (xs : List A) → Every (λ x. test x ≡ false) xs → keep test xs ≡ []
  unfolding keep
  keep-nothing [] a = refl
  keep-nothing (x ∷ xs) a = keep_fail test x xs a.0 ∙ keep-nothing xs a.1

  pub keep-alike : (other : A → Bool) (xs : List A) → Every (λ x. test x ≡ other x) xs → keep test xs ≡ keep other xs
  unfolding keep
  keep-alike other [] a = refl
  keep-alike other (x ∷ xs) a = ap (λ (b : Bool). cons_if b x (keep test xs)) a.0 ∙ ap (cons_if (other x) x) (keep-alike other xs a.1)

  pub keep_narrow : (other : A → Bool) (xs : List A) → Every (λ x. test x ≡ true → other x ≡ true) xs → keep test (keep other xs) ≡ keep test xs
  unfolding keep
  keep_narrow other [] a = refl
  keep_narrow other (x ∷ xs) a = go (other x) refl (keep_narrow other xs a.1)
    where
      go : (b : Bool) → other x ≡ b → keep test (keep other xs) ≡ keep test xs → keep test (cons_if b x (keep other xs)) ≡ cons_if (test x) x (keep test xs)
      go true e r = ap (cons_if (test x) x) r
      go false e r = ⊎_elim (λ (t : test x ≡ true). absurd (contrary (a.0 t) e)) (λ (t : test x ≡ false). r ∙ sym (ap (λ (b : Bool). cons_if b x (keep test xs)) t)) (true_or (test x))
