-- What a call answers in the terms of document 01, what it leaves in a lent buffer, and which of several refusals it answers.
-- Assumes nothing.
use Rattle.std.specs.Prelude.{ℕ, suc, ◌<◌, ◌≡◌, cond, ◌⊎◌, ◌↔◌, List, [], ◌∷◌, ◌++◌, length, drop}
use Rattle.seq.specs.Lists.{elem}

-- an answer: the number of a refusal and its place (0 where none is named), or the values
pub data Said (A : Type 0) : Type 0 where
  refused : ℕ → ℕ → Said A
  answered : A → Said A

-- a lent buffer after a call: with xs at the front and the rest as it was; on a refusal as it was
unfoldable pub laid : {A : Type 0} → Said A → List ℕ → List ℕ → List ℕ
laid (refused n p) xs out = out
laid (answered a) xs out = xs ++ drop (length xs) out

-- the stage of refusal n, where each stage of a call has its numbers in a group: how many groups stand in front of the one with n
unfoldable pub stage_in : List (List ℕ) → ℕ → ℕ
unfolding elem
stage_in [] n = 0
stage_in (g ∷ gs) n = let rest = suc (stage_in gs n) in cond (elem n g) 0 rest

-- refusal m at place q of stage s comes before refusal n at place p of stage t: by the stage of the call, in a stage by place, at a place
-- by number
abbrev pub Precedes : ℕ → ℕ → ℕ → ℕ → ℕ → ℕ → Type 0
Precedes s m q t n p = (s < t) ⊎ ((s ≡ t) × ((q < p) ⊎ ((q ≡ p) × (m < n))))

-- the refusals of a call are a relation: `Applies s n p`, refusal n applies at stage s and place p. One number may stand at several stages.
-- Refusal n at p is the first: it applies, and none that comes before it applies
pub record FirstOf (Applies : ℕ → ℕ → ℕ → Type 0) (n p : ℕ) : Type 0 where
  pub stage : ℕ
  pub applies : Applies stage n p
  pub nothing-before : (s m q : ℕ) → Applies s m q → Precedes s m q stage n p → ⊥

-- a call answers the first refusal that applies, and its value exactly if none applies
pub record FirstRefusalOf {A : Type 0} (Applies : ℕ → ℕ → ℕ → Type 0) (value : A) (said : Said A) : Type 0 where
  pub refuses : (n p : ℕ) → (said ≡ refused n p) ↔ FirstOf Applies n p
  pub answers : (said ≡ answered value) ↔ ((s n p : ℕ) → Applies s n p → ⊥)
  pub either : (said ≡ answered value) ⊎ ((n : ℕ) × (p : ℕ) × (said ≡ refused n p))

-- the relation where each number has one stage: refusal n, which applies at p, stands at stage s
abbrev pub Staged : (ℕ → ℕ) → (ℕ → ℕ → Type 0) → ℕ → ℕ → ℕ → Type 0
Staged stage Applies s n p = (s ≡ stage n) × Applies n p

-- a call that answers the first refusal there
abbrev pub FirstRefusal : {A : Type 0} → (ℕ → ℕ) → (ℕ → ℕ → Type 0) → A → Said A → Type 0
FirstRefusal stage Applies value said = FirstRefusalOf (Staged stage Applies) value said
