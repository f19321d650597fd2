-- A call that first does what another call does: its refusals are those of the other, then its own. No contract cites this file.
--     OverOf              the refusals of a call over another
--     over-first-of       the first refusal of the other call is the first of this one
--     over-clear-of       where the other call refuses nothing, its stages are clear
--     over-refused-of     an answer that is the other call's refusal
--     stage-front         the stage of a number among the first groups
--     Over, over-clear, over-refused     the same where each number has one stage
-- Assumes nothing.
use Prim.Native.Nat.{ℕ, suc, ◌<◌, ◌≤◌}
use native.Mathlib.Omega.{arith}
use mathlib.Core.Path.{◌≡◌, refl, sym, ap, ◌∙◌}
use mathlib.Core.Bool.{Bool, true, false, cond}
use mathlib.Core.Logic.{◌⊎◌, inl, inr, ⊎_elim}
use mathlib.Core.List.{List, [], ◌∷◌, ◌++◌}
use lib.ListN.{length}
use Rattle.seq.specs.Lists.{elem}
use Rattle.seq.specs.Refusals.{Said, refused, stage_in, Precedes, FirstOf, Staged}
use Rattle.seq.proofs.Laws.Refusals.{SoundOf, told_of, Sound, staged, unstaged}
use Rattle.seq.proofs.Laws.Ladder.{ClearOf, Clear}

-- a call with refusals B, over one with refusals A: those of A have stages below k, the same in B, and any other of B has a stage behind them
pub record OverOf (k : ℕ) (A B : ℕ → ℕ → ℕ → Type 0) : Type 0 where
  pub early : (s m q : ℕ) → A s m q → s < k
  pub joins : (s m q : ℕ) → A s m q → B s m q
  pub splits : (s m q : ℕ) → B s m q → A s m q ⊎ (k ≤ s)

module _ (k : ℕ) (A B : ℕ → ℕ → ℕ → Type 0) (o : OverOf k A B) where
  -- the first refusal of A is the first of B
  over-first-of : (n p : ℕ) → FirstOf A n p → FirstOf B n p
  over-first-of n p f = record {
    stage = f.stage;
    applies = o.joins f.stage n p f.applies;
    nothing-before = λ s m q x b. ⊎_elim (λ a. f.nothing-before s m q a b) (λ h. late s m q h b) (o.splits s m q x);
  }
    where
      late : (s m q : ℕ) → k ≤ s → Precedes s m q f.stage n p → ⊥
      late s m q h b =
          let l = o.early f.stage n p f.applies in
          ⊎_elim (λ (x : s < f.stage). omega arith) (λ x. let e : s ≡ f.stage = x.0 in omega arith) b

  -- where no refusal of A applies, those of B have later stages
  pub over-clear-of : ((s m q : ℕ) → A s m q → ⊥) → ClearOf B k
  over-clear-of none s m q x = ⊎_elim (λ a. absurd (none s m q a)) (λ h. h) (o.splits s m q x)

  -- a refusal of the other call is that of this one
  pub over-refused-of : {X Y : Type 0} (x : X) (y : Y) (n p : ℕ) (said : Said X) → SoundOf A x said → said ≡ refused n p → SoundOf B y (refused n p)
  over-refused-of x y n p said s e = told_of B y n p (over-first-of n p (s.first n p e))

-- a number of the first groups has its stage there
pub stage-front : (gs hs : List (List ℕ)) (n : ℕ) → stage_in gs n < length gs → stage_in (gs ++ hs) n ≡ stage_in gs n
unfolding stage_in
stage-front [] hs n h = absurd (let z : ⊥ = omega arith in z)
stage-front (g ∷ gs) hs n h = go (elem n g) h (stage-front gs hs n)
  where
    go : (t : Bool) → cond t 0 (suc (stage_in gs n)) < suc (length gs) → (stage_in gs n < length gs → stage_in (gs ++ hs) n ≡ stage_in gs n) → cond t 0 (suc (stage_in (gs ++ hs) n)) ≡ cond t 0 (suc (stage_in gs n))
    go true k rest = refl
    go false k rest = ap suc (rest (omega arith))

-- where each number has one stage: that of A among gs, and any other of B among hs
pub record Over (gs hs : List (List ℕ)) (A B : ℕ → ℕ → Type 0) : Type 0 where
  pub early : (m q : ℕ) → A m q → stage_in gs m < length gs
  pub joins : (m q : ℕ) → A m q → B m q
  pub splits : (m q : ℕ) → B m q → A m q ⊎ (length gs ≤ stage_in (gs ++ hs) m)

module _ (gs hs : List (List ℕ)) (A B : ℕ → ℕ → Type 0) (o : Over gs hs A B) where
  over-staged : OverOf (length gs) (Staged (stage_in gs) A) (Staged (stage_in (gs ++ hs)) B)
  over-staged = record {
    early = λ s m q a. let h = o.early m q a.1 in let e : s ≡ stage_in gs m = a.0 in omega arith;
    joins = λ s m q a. (a.0 ∙ sym (same m q a.1), o.joins m q a.1);
    splits = λ s m q x.
        let e : s ≡ stage_in (gs ++ hs) m = x.0 in
        ⊎_elim (λ a. inl (e ∙ same m q a, a)) (λ (h : length gs ≤ stage_in (gs ++ hs) m). inr (omega arith)) (o.splits m q x.1);
  }
    where
      -- the refusals of A keep their stages
      same : (m q : ℕ) → A m q → stage_in (gs ++ hs) m ≡ stage_in gs m
      same m q a = stage-front gs hs m (o.early m q a)

  pub over-clear : ((m q : ℕ) → A m q → ⊥) → Clear (stage_in (gs ++ hs)) B (length gs)
  over-clear none m q x = over-clear-of _ _ _ over-staged (λ s n p a. none n p a.1) (stage_in (gs ++ hs) m) m q (refl, x)

  pub over-refused : {X Y : Type 0} (x : X) (y : Y) (n p : ℕ) (said : Said X) → Sound (stage_in gs) A x said → said ≡ refused n p → Sound (stage_in (gs ++ hs)) B y (refused n p)
  over-refused x y n p said s e =
      unstaged (stage_in (gs ++ hs)) B y (refused n p) (over-refused-of _ _ _ over-staged x y n p said (staged (stage_in gs) A x said s) e)
