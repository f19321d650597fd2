-- The laws of `specs/Calls.antt`: calls one after another, and the one of them that closes. No contract cites this file.
--     heard_call                  a call of any form, as what it says
--     Closes                      a fact of each call behind enough others that are not refused
--     closes-none                 of no calls
--     closes-refused              a refused call in front
--     closes-last, closes-next    a call in front that is answered: it is the last one, or others come behind it
-- Assumes nothing.
use Prim.Native.Nat.{ℕ, ◌+◌, ◌≤◌, max}
use native.Mathlib.Omega.{arith}
use mathlib.Core.Path.{◌≡◌, sym, ap, ◌∙◌, subst}
use mathlib.Core.Bool.{Bool}
use mathlib.Core.List.{List, [], ◌∷◌, ◌++◌}
use lib.ListN.{length, length-append}
use Rattle.seq.specs.Lists.{keep}
use Rattle.seq.specs.Refusals.{Said, refused, answered}
use Rattle.seq.specs.Calls.{Form, Call, is_answered, unrefused}
use Rattle.seq.proofs.Laws.Keep.{keep_pass, keep_fail}

-- a part of a list that has no element, or one more
nothing_in : {A : Type 0} (front rest : List A) (c : A) → [] ≡ front ++ (c ∷ rest) → ⊥
nothing_in front rest c e = let a = ap length e in let b = length-append front (c ∷ rest) in omega arith

same_head : {A : Type 0} (x y : A) (xs ys : List A) → x ∷ xs ≡ y ∷ ys → x ≡ y
same_head x y xs ys e = cc

same-tail : {A : Type 0} (x y : A) (xs ys : List A) → x ∷ xs ≡ y ∷ ys → xs ≡ ys
same-tail x y xs ys e = cc

module _ {B A : Type 0} (form : Form B A) where
  -- a call as what it says
  abbrev pub heard_call : Call A → Call (Said B)
  heard_call c = record { lent = c.lent; says = form.said c.says; back = c.back }

  -- the test of `unrefused`
  abbrev passes : Call A → Bool
  passes c = is_answered (form.said c.says)

  module _ (P : Call A → Type 0) where
    -- P holds of the k-th call that is not refused, or the first where k is 0, and of those behind it
    abbrev pub Closes : ℕ → List (Call A) → Type 0
    Closes k calls = (front rest : List (Call A)) (c : Call A) → unrefused form calls ≡ front ++ (c ∷ rest) → max 1 k ≤ length front + 1 → P c

    pub closes-none : (k : ℕ) → Closes k []
    unfolding keep
    closes-none k front rest c e l = absurd (nothing_in front rest c e)

    -- a refused call does not count
    pub closes-refused : (k n q : ℕ) (c : Call A) (cs : List (Call A)) → form.said c.says ≡ refused n q → Closes k cs → Closes k (c ∷ cs)
    closes-refused k n q c cs r closes front rest d e l = closes front rest d (sym (keep_fail passes c cs (ap is_answered r)) ∙ e) l

    module _ (b : B) (c : Call A) (cs : List (Call A)) (a : form.said c.says ≡ answered b) where
      -- it is the last one
      pub closes-last : (k : ℕ) → cs ≡ [] → P c → Closes k (c ∷ cs)
      unfolding keep
      closes-last k last holds front rest d e l = go front (sym (keep_pass passes c cs (ap is_answered a)) ∙ e)
        where
          empty : unrefused form cs ≡ []
          empty = ap (unrefused form) last

          go : (xs : List (Call A)) → c ∷ unrefused form cs ≡ xs ++ (d ∷ rest) → P d
          go [] q = subst P (same_head c d (unrefused form cs) rest q) holds
          go (x ∷ xs) q = absurd (nothing_in xs rest d (sym empty ∙ same-tail c x (unrefused form cs) (xs ++ (d ∷ rest)) q))

      -- others come behind it, and at least one is taken from k
      pub closes-next : (k m : ℕ) → max 1 m + 1 ≤ k → Closes m cs → Closes k (c ∷ cs)
      closes-next k m less closes front rest d e l = go front l (sym (keep_pass passes c cs (ap is_answered a)) ∙ e)
        where
          go : (xs : List (Call A)) → max 1 k ≤ length xs + 1 → c ∷ unrefused form cs ≡ xs ++ (d ∷ rest) → P d
          go [] h q = absurd (omega arith)
          go (x ∷ xs) h q = closes xs rest d (same-tail c x (unrefused form cs) (xs ++ (d ∷ rest)) q) (omega arith)
