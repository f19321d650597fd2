-- A ladder of tests answers the first refusal that applies, stage by stage. No contract cites this file.
--     ClearOf, clear-next-of     no refusal of an earlier stage applies; nor one of this stage
--     first_by, alone_of         the first refusal, by what applies in its own stage; where that stage has one number
--     searched-of                a rung of such a stage, at the lowest place
--     single_of                  a rung of such a stage, at place 0
--     choice-of                  a rung that tells one of two numbers at a place
--     Clear, clear_next, first-of, searched, single, choice     the same where each number has one stage
-- Assumes nothing.
use Prim.Native.Nat.{ℕ, suc, ◌<◌, ◌≤◌}
use native.Mathlib.Omega.{arith}
use mathlib.Core.Path.{◌≡◌, refl, sym, subst}
use mathlib.Core.Bool.{Bool, true, false, cond}
use mathlib.Core.Logic.{◌⊎◌, ⊎_elim, ◌≢◌}
use Rattle.seq.specs.Refusals.{Said, refused, FirstOf, Staged}
use Rattle.seq.proofs.Laws.Refusals.{SoundOf, told_of, rung-of, First, Sound, staged, unstaged}
use Rattle.seq.proofs.Laws.Decides.{Decides}

module _ (Applies : ℕ → ℕ → ℕ → Type 0) where
  -- no refusal of a stage below k applies
  abbrev pub ClearOf : ℕ → Type 0
  ClearOf k = (s m q : ℕ) → Applies s m q → k ≤ s

  -- nor one of stage k
  pub clear-next-of : (k : ℕ) → ClearOf k → ((m q : ℕ) → Applies k m q → ⊥) → ClearOf (suc k)
  clear-next-of k c none s m q a =
      let h = c s m q a in
      let n : s ≢ k = λ e. none m q (subst (λ (x : ℕ). Applies x m q) e a) in
      omega arith

  -- the first refusal, by what applies in its own stage
  pub first_by : (s n p : ℕ) → ClearOf s → Applies s n p → ((m q : ℕ) → Applies s m q → ((q < p) ⊎ ((q ≡ p) × (m < n))) → ⊥) → FirstOf Applies n p
  first_by s n p c a none = record {
    stage = s;
    applies = a;
    nothing-before = λ t m q x b.
        ⊎_elim (λ (h : t < s). let l = c t m q x in omega arith) (λ e. none m q (subst (λ (y : ℕ). Applies y m q) e.0 x) e.1) b;
  }

  -- the first refusal, where its stage s has one number, n, which applies at the places of P
  pub alone_of : (s n p : ℕ) (P : ℕ → Type 0) → ClearOf s → ((m q : ℕ) → Applies s m q → (m ≡ n) × P q) → Applies s n p → ((q : ℕ) → P q → q < p → ⊥) → FirstOf Applies n p
  alone_of s n p P c only a least =
      first_by s n p c a
      (λ m q x w.
      let o = only m q x in
      ⊎_elim (λ (h : q < p). least q o.1 h) (λ (h : (q ≡ p) × (m < n)). let e : m ≡ n = o.0 in let l : m < n = h.1 in omega arith) w)

module _ {A : Type 0} (Applies : ℕ → ℕ → ℕ → Type 0) (value : A) where
  -- a rung of a stage s with one number n, which applies at the places of P, at the lowest of them
  pub searched-of : (t : Bool) (s n p : ℕ) (rest : Said A) (P : ℕ → Type 0)
      → ClearOf Applies s
      → ((m q : ℕ) → Applies s m q → (m ≡ n) × P q)
      → (t ≡ true → Applies s n p × ((q : ℕ) → P q → q < p → ⊥))
      → (t ≡ false → (q : ℕ) → P q → ⊥)
      → (ClearOf Applies (suc s) → SoundOf Applies value rest)
      → SoundOf Applies value (cond t (refused n p) rest)
  searched-of t s n p rest P c only found none later =
      rung-of Applies value t n p rest
      (λ e. let f = found e in alone_of Applies s n p P c only f.0 f.1)
      (λ e. later (clear-next-of Applies s c (λ m q a. none e q (only m q a).1)))

  -- a rung of a stage s with one number n, which has no place
  pub single_of : (t : Bool) (s n : ℕ) (rest : Said A) (P : Type 0)
      → Decides t P
      → (P → Applies s n 0)
      → ClearOf Applies s
      → ((m q : ℕ) → Applies s m q → (m ≡ n) × ((q ≡ 0) × P))
      → (ClearOf Applies (suc s) → SoundOf Applies value rest)
      → SoundOf Applies value (cond t (refused n 0) rest)
  single_of t s n rest P d make c only later =
      searched-of t s n 0 rest (λ q. (q ≡ 0) × P) c only
      (λ e. (make (d.yes e), λ q w h. let z : q ≡ 0 = w.0 in omega arith))
      (λ e q w. d.no e w.1)
      later

  -- a rung that tells one of two numbers at a place
  pub choice-of : (s t : Bool) (n m p : ℕ) (rest : Said A) → (s ≡ true → t ≡ true → FirstOf Applies n p) → (s ≡ true → t ≡ false → FirstOf Applies m p) → (s ≡ false → SoundOf Applies value rest) → SoundOf Applies value (cond s (cond t (refused n p) (refused m p)) rest)
  choice-of true true n m p rest f g h = told_of Applies value n p (f refl refl)
  choice-of true false n m p rest f g h = told_of Applies value m p (g refl refl)
  choice-of false t n m p rest f g h = h refl

-- where each number has one stage
module _ (stage : ℕ → ℕ) (Applies : ℕ → ℕ → Type 0) where
  -- no refusal of a stage below k applies
  abbrev pub Clear : ℕ → Type 0
  Clear k = (m q : ℕ) → Applies m q → k ≤ stage m

  clear-staged : (k : ℕ) → Clear k → ClearOf (Staged stage Applies) k
  clear-staged k c s m q a = let h = c m q a.1 in let e : s ≡ stage m = a.0 in omega arith

  clear-unstaged : (k : ℕ) → ClearOf (Staged stage Applies) k → Clear k
  clear-unstaged k c m q a = c (stage m) m q (refl, a)

  -- nor one of stage k
  pub clear_next : (k : ℕ) → Clear k → ((m q : ℕ) → Applies m q → stage m ≡ k → ⊥) → Clear (suc k)
  clear_next k c none = clear-unstaged (suc k) (clear-next-of (Staged stage Applies) k (clear-staged k c) (λ m q a. none m q a.1 (sym a.0)))

  -- the first refusal, by what applies in its own stage
  pub first-of : (n p : ℕ) → Clear (stage n) → Applies n p → ((m q : ℕ) → Applies m q → stage m ≡ stage n → ((q < p) ⊎ ((q ≡ p) × (m < n))) → ⊥) → First stage Applies n p
  first-of n p c a none = first_by (Staged stage Applies) (stage n) n p (clear-staged (stage n) c) (refl, a) (λ m q x. none m q x.1 (sym x.0))

module _ {A : Type 0} (stage : ℕ → ℕ) (Applies : ℕ → ℕ → Type 0) (value : A) where
  pub searched : (t : Bool) (n p : ℕ) (rest : Said A) (P : ℕ → Type 0)
      → Clear stage Applies (stage n)
      → ((m q : ℕ) → Applies m q → stage m ≡ stage n → (m ≡ n) × P q)
      → (t ≡ true → Applies n p × ((q : ℕ) → P q → q < p → ⊥))
      → (t ≡ false → (q : ℕ) → P q → ⊥)
      → (Clear stage Applies (suc (stage n)) → Sound stage Applies value rest)
      → Sound stage Applies value (cond t (refused n p) rest)
  searched t n p rest P c only found none later =
      unstaged stage Applies value (cond t (refused n p) rest)
      (searched-of (Staged stage Applies) value t (stage n) n p rest P (clear-staged stage Applies (stage n) c) (λ m q a. only m q a.1 (sym a.0))
      (λ e. ((refl, (found e).0), (found e).1)) none (λ k. staged stage Applies value rest (later (clear-unstaged stage Applies (suc (stage n)) k))))

  pub single : (t : Bool) (n : ℕ) (rest : Said A) (P : Type 0)
      → Decides t P
      → (P → Applies n 0)
      → Clear stage Applies (stage n)
      → ((m q : ℕ) → Applies m q → stage m ≡ stage n → (m ≡ n) × ((q ≡ 0) × P))
      → (Clear stage Applies (suc (stage n)) → Sound stage Applies value rest)
      → Sound stage Applies value (cond t (refused n 0) rest)
  single t n rest P d make c only later =
      unstaged stage Applies value (cond t (refused n 0) rest)
      (single_of (Staged stage Applies) value t (stage n) n rest P d (λ w. (refl, make w)) (clear-staged stage Applies (stage n) c) (λ m q a. only m q a.1 (sym a.0))
      (λ k. staged stage Applies value rest (later (clear-unstaged stage Applies (suc (stage n)) k))))

  pub choice : (s t : Bool) (n m p : ℕ) (rest : Said A) → (s ≡ true → t ≡ true → First stage Applies n p) → (s ≡ true → t ≡ false → First stage Applies m p) → (s ≡ false → Sound stage Applies value rest) → Sound stage Applies value (cond s (cond t (refused n p) (refused m p)) rest)
  choice s t n m p rest f g h =
      unstaged stage Applies value (cond s (cond t (refused n p) (refused m p)) rest)
      (choice-of (Staged stage Applies) value s t n m p rest f g (λ e. staged stage Applies value rest (h e)))
