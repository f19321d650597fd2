-- The laws of `specs/Refusals.antt`: a ladder of tests answers the first refusal that applies. No contract cites this file.
--     SoundOf                        what each rung of a ladder keeps
--     end_of, told_of, rung-of       a ladder's end; a refusal that is told; a ladder by its first test and the rest
--     first-refusal-of               a sound ladder answers the first refusal that applies
--     First, Sound, end, rung, first-refusal     the same where each number has one stage
--     staged, unstaged               what is sound there is sound of the relation, and back
--     before_or      of two refusals one comes before the other, or they are one
--     past           behind a rung that refuses
--     laid-refused, laid-answered
--     not-both, same_answer     an answer is no refusal, and has one value
--     alike          two answers that are told alike are one, where each can be known from what is told
-- Assumes nothing.
use Prim.Native.Nat.{ℕ, ◌<◌, ◌≤◌}
use native.Mathlib.Omega.{arith}
use mathlib.Core.Path.{◌≡◌, refl, sym, ap, ap₂, ◌∙◌, subst}
use mathlib.Core.Bool.{Bool, true, false, cond}
use mathlib.Core.Logic.{◌⊎◌, inl, inr, ⊎_elim}
use mathlib.Core.List.{List, ◌++◌}
use lib.ListN.{length, drop}
use Rattle.seq.specs.Refusals.{Said, refused, answered, laid, Precedes, FirstOf, FirstRefusalOf, Staged, FirstRefusal}
use Rattle.seq.proofs.Laws.Tests.{below_or}

pub laid-refused : {A : Type 0} (s : Said A) (n p : ℕ) (xs out : List ℕ) → s ≡ refused n p → laid s xs out ≡ out
unfolding laid
laid-refused s n p xs out e = rw e

pub laid-answered : {A : Type 0} (s : Said A) (a : A) (xs out : List ℕ) → s ≡ answered a → laid s xs out ≡ xs ++ drop (length xs) out
unfolding laid
laid-answered s a xs out e = rw e

-- two things said alike are heard alike
pub alike : {A B : Type 0} (said : A → B) (heard : B → A) → ((a : A) → heard (said a) ≡ a) → (a b : A) → said a ≡ said b → a ≡ b
alike said heard back a b e = sym (back a) ∙ ap heard e ∙ back b

pub not-both : {A : Type 0} (s : Said A) (a : A) (n p : ℕ) → s ≡ answered a → s ≡ refused n p → ⊥
not-both s a n p x y = let z : ◌≡◌ {A = ℕ} 0 1 = cc in omega arith

-- an answer has one value
pub same_answer : {A : Type 0} (s : Said A) (a b : A) → s ≡ answered a → s ≡ answered b → a ≡ b
same_answer s a b x y = let z : answered a ≡ answered b = sym x ∙ y in cc

-- past a rung that refuses
pub past : {A : Type 0} (t : Bool) (n p : ℕ) (rest : Said A) (a : A) → cond t (refused n p) rest ≡ answered a → (t ≡ false) × (rest ≡ answered a)
past true n p rest a e = absurd (not-both (refused n p) a n p e refl)
past false n p rest a e = (refl, e)

lt_or : (a b : ℕ) → (a < b) ⊎ ((b < a) ⊎ (a ≡ b))
lt_or a b = ⊎_elim (λ (h : a < b). inl h) (λ (h : b ≤ a). inr (⊎_elim (λ (k : b < a). inl k) (λ (k : a ≤ b). inr (omega arith)) (below_or b a))) (below_or a b)

pub before_or : (s m q t n p : ℕ) → Precedes s m q t n p ⊎ (Precedes t n p s m q ⊎ ((m ≡ n) × (q ≡ p)))
before_or s m q t n p = go (lt_or s t) (lt_or q p) (lt_or m n)
  where
    go : ((s < t) ⊎ ((t < s) ⊎ (s ≡ t))) → ((q < p) ⊎ ((p < q) ⊎ (q ≡ p))) → ((m < n) ⊎ ((n < m) ⊎ (m ≡ n)))
        → Precedes s m q t n p ⊎ (Precedes t n p s m q ⊎ ((m ≡ n) × (q ≡ p)))
    go (inl a) b c = inl (inl a)
    go (inr (inl a)) b c = inr (inl (inl a))
    go (inr (inr a)) (inl b) c = inl (inr (a, inl b))
    go (inr (inr a)) (inr (inl b)) c = inr (inl (inr (sym a, inl b)))
    go (inr (inr a)) (inr (inr b)) (inl c) = inl (inr (a, inr (b, c)))
    go (inr (inr a)) (inr (inr b)) (inr (inl c)) = inr (inl (inr (sym a, inr (sym b, c))))
    go (inr (inr a)) (inr (inr b)) (inr (inr c)) = inr (inr (c, b))

module _ {A : Type 0} (Applies : ℕ → ℕ → ℕ → Type 0) (value : A) where
  -- a refusal that is told is the first; where the value is told none applies; and one of the two is told
  pub record SoundOf (said : Said A) : Type 0 where
    pub first : (n p : ℕ) → said ≡ refused n p → FirstOf Applies n p
    pub clear : said ≡ answered value → (s n p : ℕ) → Applies s n p → ⊥
    pub total : (said ≡ answered value) ⊎ ((n : ℕ) × (p : ℕ) × (said ≡ refused n p))

  pub end_of : ((s n p : ℕ) → Applies s n p → ⊥) → SoundOf (answered value)
  end_of none = record { first = λ n p e. absurd (not-both (answered value) value n p refl e); clear = λ e. none; total = inl refl }

  pub told_of : (n p : ℕ) → FirstOf Applies n p → SoundOf (refused n p)
  told_of n p f = record {
    first = λ m q e. subst (λ (x : ℕ). FirstOf Applies x q) (same m q e).0 (subst (λ (x : ℕ). FirstOf Applies n x) (same m q e).1 f);
    clear = λ e. absurd (not-both (refused n p) value n p e refl);
    total = inr (n, p, refl);
  }
    where
      same : (m q : ℕ) → ◌≡◌ {A = Said A} (refused n p) (refused m q) → (n ≡ m) × (p ≡ q)
      same m q e = (cc, cc)

  pub rung-of : (t : Bool) (n p : ℕ) (rest : Said A) → (t ≡ true → FirstOf Applies n p) → (t ≡ false → SoundOf rest) → SoundOf (cond t (refused n p) rest)
  rung-of true n p rest f g = told_of n p (f refl)
  rung-of false n p rest f g = g refl

  pub first-refusal-of : (said : Said A) → SoundOf said → FirstRefusalOf Applies value said
  first-refusal-of said s = record {
    refuses = λ n p. (s.first n p, λ f. found n p f s.total);
    answers = (s.clear, λ none. none_found none s.total);
    either = s.total;
  }
    where
      found : (n p : ℕ) → FirstOf Applies n p → (said ≡ answered value) ⊎ ((m : ℕ) × (q : ℕ) × (said ≡ refused m q)) → said ≡ refused n p
      found n p f (inl e) = absurd (s.clear e f.stage n p f.applies)
      found n p f (inr e) =
          let g = s.first e.0 e.1 e.2 in
          ⊎_elim (λ b. absurd (f.nothing-before g.stage e.0 e.1 g.applies b))
          (λ r. ⊎_elim (λ b. absurd (g.nothing-before f.stage n p f.applies b)) (λ (q : (e.0 ≡ n) × (e.1 ≡ p)). e.2 ∙ ap₂ (λ (x y : ℕ). refused x y) q.0 q.1) r)
          (before_or g.stage e.0 e.1 f.stage n p)

      none_found : ((t n p : ℕ) → Applies t n p → ⊥) → (said ≡ answered value) ⊎ ((m : ℕ) × (q : ℕ) × (said ≡ refused m q)) → said ≡ answered value
      none_found none (inl e) = e
      none_found none (inr e) = let g = s.first e.0 e.1 e.2 in absurd (none g.stage e.0 e.1 g.applies)

-- where each number has one stage: the first refusal
abbrev pub First : (ℕ → ℕ) → (ℕ → ℕ → Type 0) → ℕ → ℕ → Type 0
First stage Applies n p = FirstOf (Staged stage Applies) n p

module _ {A : Type 0} (stage : ℕ → ℕ) (Applies : ℕ → ℕ → Type 0) (value : A) where
  pub record Sound (said : Said A) : Type 0 where
    pub first : (n p : ℕ) → said ≡ refused n p → First stage Applies n p
    pub clear : said ≡ answered value → (n p : ℕ) → Applies n p → ⊥
    pub total : (said ≡ answered value) ⊎ ((n : ℕ) × (p : ℕ) × (said ≡ refused n p))

  pub staged : (said : Said A) → Sound said → SoundOf (Staged stage Applies) value said
  staged said s = record { first = s.first; clear = λ e t n p a. s.clear e n p a.1; total = s.total }

  pub unstaged : (said : Said A) → SoundOf (Staged stage Applies) value said → Sound said
  unstaged said s = record { first = s.first; clear = λ e n p a. s.clear e (stage n) n p (refl, a); total = s.total }

  pub end : ((n p : ℕ) → Applies n p → ⊥) → Sound (answered value)
  end none = unstaged (answered value) (end_of (Staged stage Applies) value (λ s n p a. none n p a.1))

  pub rung : (t : Bool) (n p : ℕ) (rest : Said A) → (t ≡ true → First stage Applies n p) → (t ≡ false → Sound rest) → Sound (cond t (refused n p) rest)
  rung t n p rest f g = unstaged (cond t (refused n p) rest) (rung-of (Staged stage Applies) value t n p rest f (λ e. staged rest (g e)))

  pub first-refusal : (said : Said A) → Sound said → FirstRefusal stage Applies value said
  first-refusal said s = first-refusal-of (Staged stage Applies) value said (staged said s)
