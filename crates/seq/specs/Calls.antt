-- Calls with a lent buffer as they were made, and the form of their answers. Assumes nothing.
use Rattle.std.specs.Prelude.{ℕ, ◌≡◌, Bool, true, false, List}
use Rattle.seq.specs.Lists.{keep}
use Rattle.seq.specs.Refusals.{Said, refused, answered}

-- a form of answers: how one is made of document 01's number and values, and what one says
pub record Form (B A : Type 0) : Type 0 where
  pub make : Said B → A
  pub said : A → Said B

-- the number and values themselves
abbrev pub plain : {B : Type 0} → Form B (Said B)
plain = record { make = λ s. s; said = λ s. s }

-- one call: the buffer lent, the answer, and the buffer as it returned
pub record Call (A : Type 0) : Type 0 where
  pub lent : List ℕ
  pub says : A
  pub back : List ℕ

-- an answer is no refusal
abbrev pub is_answered : {B : Type 0} → Said B → Bool
is_answered (refused n q) = false
is_answered (answered b) = true

module _ {B A : Type 0} (form : Form B A) where
  -- a call is refused
  abbrev pub IsRefused : Call A → Type 0
  IsRefused c = (n q : ℕ) × (form.said c.says ≡ refused n q)

  -- the calls that are not refused
  abbrev pub unrefused : List (Call A) → List (Call A)
  unrefused calls = keep (λ (c : Call A). is_answered (form.said c.says)) calls
