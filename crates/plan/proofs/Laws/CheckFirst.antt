-- Checking a plan answers the first refusal that applies. No contract cites this file.
--     check_sound, check-first     the verdict is the first refusal that applies
-- Assumes nothing.
use Prim.Native.Nat.{ℕ, ◌-◌, ◌<◌, ◌≤◌}
use native.Mathlib.Omega.{arith}
use mathlib.Core.Path.{◌≡◌, refl, sym, ◌∙◌, subst}
use mathlib.Core.Bool.{Bool, true, false, cond}
use mathlib.Core.Logic.{◌⊎◌, inl, inr, ⊎_elim}
use mathlib.Core.List.{List, [], ◌∷◌}
use lib.ListN.{get_or}
use Rattle.seq.specs.Lists.{elem}
use Rattle.seq.specs.Refusals.{Said, refused, answered, stage_in, FirstRefusal}
use Rattle.seq.proofs.Laws.Tests.{contrary}
use Rattle.seq.proofs.Laws.Decides.{Decides}
use Rattle.seq.proofs.Laws.Numbers.{first-before, search-found, search-clear}
use Rattle.seq.proofs.Laws.Refusals.{First, Sound, end, rung, first-refusal}
use Rattle.seq.proofs.Laws.Ladder.{Clear, clear_next, first-of, single}
use Rattle.seq.proofs.Laws.Stages.{Over, over-clear, over-refused}
use Rattle.volume.specs.Layout.{list_count}
use Rattle.volume.specs.Check as volume
use Rattle.volume.specs.Refusals.{VolumeApplies, volume_stages}
use Rattle.volume.proofs.Laws.CheckFirst as below
use Rattle.plan.specs.Answers.{Sizes}
use Rattle.plan.specs.Rows.{row_count, kind_at, a_at, b_at, c_at, row_at, rows_before, rows_of, form_wrong_at}
use Rattle.plan.specs.State.{list_wrong, too_many, order_wrong, state_at}
use Rattle.plan.specs.Check.{length_wrong, row_wrong, row_fault, bad_row, rows_wrong, unfinished, sizes, rows_verdict, plan_verdict, verdict_by, verdict}
use Rattle.plan.specs.Counts.{counted}
use Rattle.plan.specs.Refusals.{WrongLength, WrongForm, WrongList, Ninth, WrongOrder, Unfinished, PlanApplies, of_volume, wrong_length, wrong_form, wrong_list, ninth, wrong_order, plan_stages}
use Rattle.plan.specs.Refusals as refusals
use Rattle.plan.proofs.Laws.Rows.{form_wrong_decides}
use Rattle.plan.proofs.Laws.State.{step_form, step-list, step-many, step-order, step-stands, list_wrong_decides, too_many_decides, order_wrong_decides}
use Rattle.plan.proofs.Laws.Counts.{counted_is}
use Rattle.plan.proofs.Laws.Check.{row-stands, row-faulty, row-right, length_wrong_decides, unfinished_decides}

module _ (v p : List ℕ) where
  -- what each of 10 to 13 says of row q
  abbrev FormAt : ℕ → Type 0
  FormAt q = WrongForm (kind_at p q) (a_at p q) (b_at p q) (c_at p q)

  abbrev ListAt : ℕ → Type 0
  ListAt q = WrongList (list_count v) (row_at p q).kind

  abbrev NinthAt : ℕ → Type 0
  NinthAt q = Ninth (counted (rows_before p q)) (row_at p q).kind

  abbrev OrderAt : ℕ → Type 0
  OrderAt q = WrongOrder (counted (rows_before p q)) (row_at p q).kind

  abbrev InRow : ℕ → ℕ → Type 0
  InRow m q = ((m ≡ 10) × FormAt q) ⊎ (((m ≡ 11) × ListAt q) ⊎ (((m ≡ 12) × NinthAt q) ⊎ ((m ≡ 13) × OrderAt q)))

  -- what a refusal of the plan's own stages says, by its number m and place q
  abbrev AtStage : ℕ → ℕ → ℕ → Type 0
  AtStage m q k =
      get_or
      (((m ≡ 9) × ((q ≡ 0) × WrongLength p)) ∷ ((q < row_count p) × InRow m q) ∷ ((m ≡ 14) × ((q ≡ 0) × Unfinished (counted (rows_of p)))) ∷ [])
      (k - 7)
      ⊥

  -- each refusal is one of the volume, or of one of the plan's stages, and says what that stage does
  of_call : (m q : ℕ) → PlanApplies v p m q → VolumeApplies v m q ⊎ ((7 ≤ stage_in plan_stages m) × (stage_in plan_stages m ≤ 9) × AtStage m q (stage_in plan_stages m))
  unfolding stage_in elem
  of_call m q (of_volume n i a) = inl a
  of_call m q (wrong_length h) = inr (omega arith, omega arith, (refl, (refl, h)))
  of_call m q (wrong_form i l h) = inr (omega arith, omega arith, (l, inl (refl, h)))
  of_call m q (wrong_list i l h) = inr (omega arith, omega arith, (l, inr (inl (refl, h))))
  of_call m q (ninth i l h) = inr (omega arith, omega arith, (l, inr (inr (inl (refl, h)))))
  of_call m q (wrong_order i l h) = inr (omega arith, omega arith, (l, inr (inr (inr (refl, h)))))
  of_call m q (refusals.unfinished h) = inr (omega arith, omega arith, (refl, (refl, h)))

  -- the refusals of the volume, then those of the plan
  over : Over volume_stages ((9 ∷ []) ∷ (10 ∷ 11 ∷ 12 ∷ 13 ∷ []) ∷ (14 ∷ []) ∷ []) (VolumeApplies v) (PlanApplies v p)
  over = record {
    early = λ m q a. let h = below.stage-le v m q a in omega arith;
    joins = λ m q a. of_volume m q a;
    splits = λ m q x. ⊎_elim (λ a. inl a) (λ w. inr w.0) (of_call m q x);
  }

  -- the words of this call: no earlier stage applies, the first refusal, a sound answer
  abbrev IsClear : ℕ → Type 0
  IsClear k = Clear (stage_in plan_stages) (PlanApplies v p) k

  abbrev IsFirst : ℕ → ℕ → Type 0
  IsFirst n q = First (stage_in plan_stages) (PlanApplies v p) n q

  abbrev IsSound : Said Sizes → Type 0
  IsSound said = Sound (stage_in plan_stages) (PlanApplies v p) (sizes p) said

  -- behind an accepted volume
  module _ (none : (n q : ℕ) → VolumeApplies v n q → ⊥) where
    at_this : (k m q : ℕ) → PlanApplies v p m q → stage_in plan_stages m ≡ k → AtStage m q k
    at_this k m q a e = ⊎_elim (λ x. absurd (none m q x)) (λ w. subst (λ (s : ℕ). AtStage m q s) e w.2) (of_call m q a)

    stage-le : (m q : ℕ) → PlanApplies v p m q → stage_in plan_stages m ≤ 9
    stage-le m q a = ⊎_elim (λ x. absurd (none m q x)) (λ w. w.1) (of_call m q a)

    -- in front of a row, where those before it are not refused, counting gives the state
    counts : (q : ℕ) → ((j : ℕ) → j < q → row_wrong (list_count v) p j ≡ false) → counted (rows_before p q) ≡ state_at p q
    counts q right = counted_is p q (λ j l. (row-right (list_count v) p j (right j l)).3)

    -- the tests of 12 and 13 there
    many_decides : (q : ℕ) → ((j : ℕ) → j < q → row_wrong (list_count v) p j ≡ false) → Decides (too_many (state_at p q) (row_at p q).kind) (NinthAt q)
    many_decides q right = rw (counts q right) (too_many_decides (state_at p q) (row_at p q).kind)

    order_decides : (q : ℕ) → ((j : ℕ) → j < q → row_wrong (list_count v) p j ≡ false) → Decides (order_wrong (state_at p q) (row_at p q).kind) (OrderAt q)
    order_decides q right = rw (counts q right) (order_wrong_decides (state_at p q) (row_at p q).kind)

    -- a row that is not refused, nor any before it, has none of 10 to 13
    in_order : (m q : ℕ) → ((j : ℕ) → j ≤ q → row_wrong (list_count v) p j ≡ false) → InRow m q → ⊥
    in_order m q right w =
        let r = row-right (list_count v) p q (right q (omega arith)) in
        let before : (j : ℕ) → j < q → row_wrong (list_count v) p j ≡ false = λ j l. right j (omega arith) in
        ⊎_elim (λ (x : (m ≡ 10) × FormAt q). (form_wrong_decides (kind_at p q) (a_at p q) (b_at p q) (c_at p q)).no r.0 x.1)
        (⊎_elim (λ (x : (m ≡ 11) × ListAt q). (list_wrong_decides (list_count v) (row_at p q).kind).no r.1 x.1)
        (⊎_elim (λ (x : (m ≡ 12) × NinthAt q). (many_decides q before).no r.2 x.1)
        (λ (x : (m ≡ 13) × OrderAt q). (order_decides q before).no r.3 x.1)))
        w

    -- the lowest row that is refused
    module _ (c : IsClear 8) (e : rows_wrong (list_count v) p ≡ true) where
      abbrev bad : ℕ
      bad = bad_row (list_count v) p

      found : (bad < row_count p) × (row_wrong (list_count v) p bad ≡ true)
      unfolding rows_wrong
      found = search-found (row_wrong (list_count v) p) 0 (row_count p) (row_count p) (omega arith) e

      before-bad : (j : ℕ) → j < bad → row_wrong (list_count v) p j ≡ false
      before-bad j h = first-before (row_wrong (list_count v) p) 0 (row_count p) j (omega arith) h

      -- a number of its stage that applies there, with none below it
      first-here : (n : ℕ) → stage_in plan_stages n ≡ 8 → PlanApplies v p n bad → ((m : ℕ) → InRow m bad → m < n → ⊥) → IsFirst n bad
      first-here n s a least =
          first-of (stage_in plan_stages) (PlanApplies v p) n bad (rw s c) a
          (λ m q x y w.
          let z = at_this 8 m q x (y ∙ s) in
          ⊎_elim (λ (h : q < bad). in_order m q (λ j l. before-bad j (omega arith)) z.1)
          (λ (h : (q ≡ bad) × (m < n)). least m (rw h.0 at z.1) h.1)
          w)

      -- a number of the row is not below n, where none of the earlier ones applies
      not-below : (n : ℕ) → n ≤ 13 → (10 < n → FormAt bad → ⊥) → (11 < n → ListAt bad → ⊥) → (12 < n → NinthAt bad → ⊥) → (m : ℕ) → InRow m bad → m < n → ⊥
      not-below n top form list many m w h =
          ⊎_elim (λ (x : (m ≡ 10) × FormAt bad). let y = x.0 in form (omega arith) x.1)
          (⊎_elim (λ (x : (m ≡ 11) × ListAt bad). let y = x.0 in list (omega arith) x.1)
          (⊎_elim (λ (x : (m ≡ 12) × NinthAt bad). let y = x.0 in many (omega arith) x.1) (λ (x : (m ≡ 13) × OrderAt bad). let y = x.0 in omega arith)))
          w

      first-row : IsFirst (row_fault (list_count v) p bad) bad
      unfolding stage_in elem
      first-row = go (form_wrong_at p bad) (list_wrong (list_count v) (row_at p bad).kind) (too_many (state_at p bad) (row_at p bad).kind) (order_wrong (state_at p bad) (row_at p bad).kind) refl refl refl refl
        where
          named : (n : ℕ) → row_fault (list_count v) p bad ≡ n → IsFirst n bad → IsFirst (row_fault (list_count v) p bad) bad
          named n q f = subst (λ (k : ℕ). IsFirst k bad) (sym q) f

          form_decides : Decides (form_wrong_at p bad) (FormAt bad)
          form_decides = form_wrong_decides (kind_at p bad) (a_at p bad) (b_at p bad) (c_at p bad)

          list_decides : Decides (list_wrong (list_count v) (row_at p bad).kind) (ListAt bad)
          list_decides = list_wrong_decides (list_count v) (row_at p bad).kind

          go : (f l t o : Bool) → form_wrong_at p bad ≡ f → list_wrong (list_count v) (row_at p bad).kind ≡ l → too_many (state_at p bad) (row_at p bad).kind ≡ t → order_wrong (state_at p bad) (row_at p bad).kind ≡ o → IsFirst (row_fault (list_count v) p bad) bad
          go true l t o ef el et eo =
              named 10 (row-faulty (list_count v) p bad _ (step_form (list_count v) (state_at p bad) p bad ef)).1
              (first-here 10 refl (wrong_form bad found.0 (form_decides.yes ef)) (not-below 10 (omega arith) (λ h. absurd (omega arith)) (λ h. absurd (omega arith)) (λ h. absurd (omega arith))))
          go false true t o ef el et eo =
              named 11 (row-faulty (list_count v) p bad _ (step-list (list_count v) (state_at p bad) p bad ef el)).1
              (first-here 11 refl (wrong_list bad found.0 (list_decides.yes el)) (not-below 11 (omega arith) (λ h. form_decides.no ef) (λ h. absurd (omega arith)) (λ h. absurd (omega arith))))
          go false false true o ef el et eo =
              named 12 (row-faulty (list_count v) p bad _ (step-many (list_count v) (state_at p bad) p bad ef el et)).1
              (first-here 12 refl (ninth bad found.0 ((many_decides bad before-bad).yes et)) (not-below 12 (omega arith) (λ h. form_decides.no ef) (λ h. list_decides.no el) (λ h. absurd (omega arith))))
          go false false false true ef el et eo =
              named 13 (row-faulty (list_count v) p bad _ (step-order (list_count v) (state_at p bad) p bad ef el et eo)).1
              (first-here 13 refl (wrong_order bad found.0 ((order_decides bad before-bad).yes eo)) (not-below 13 (omega arith) (λ h. form_decides.no ef) (λ h. list_decides.no el) (λ h. (many_decides bad before-bad).no et)))
          go false false false false ef el et eo =
              absurd (contrary found.1 (row-stands (list_count v) p bad _ (step-stands (list_count v) (state_at p bad) p bad ef el et eo)))

    -- the rungs, from the last one up
    from_end : ((j : ℕ) → j < row_count p → row_wrong (list_count v) p j ≡ false) → IsClear 9 → IsSound (cond (unfinished p) (refused 14 0) (answered (sizes p)))
    unfolding stage_in elem
    from_end right c =
        single (stage_in plan_stages) (PlanApplies v p) (sizes p) (unfinished p) 14 _ _ (rw (counts (row_count p) right) (unfinished_decides p)) refusals.unfinished c (at_this 9)
        (λ d. end (stage_in plan_stages) (PlanApplies v p) (sizes p) (λ m q a. let h = d m q a in let l = stage-le m q a in omega arith))

    from-rows : IsClear 8 → IsSound (rows_verdict (list_count v) p)
    unfolding rows_verdict rows_wrong
    from-rows c =
        rung (stage_in plan_stages) (PlanApplies v p) (sizes p) (rows_wrong (list_count v) p) _ _ _ (first-row c)
        (λ e. from_end (right e)
        (clear_next (stage_in plan_stages) (PlanApplies v p) 8 c (λ m q a s. let w = at_this 8 m q a s in let l : q < row_count p = w.0 in in_order m q (λ j h. right e j (omega arith)) w.1)))
      where
        right : rows_wrong (list_count v) p ≡ false → (j : ℕ) → j < row_count p → row_wrong (list_count v) p j ≡ false
        right e j h = search-clear (row_wrong (list_count v) p) 0 (row_count p) (row_count p) e j (omega arith) h

    from_plan : IsSound (plan_verdict (list_count v) p)
    unfolding plan_verdict stage_in elem
    from_plan =
        single (stage_in plan_stages) (PlanApplies v p) (sizes p) (length_wrong p) 9 _ _ (length_wrong_decides p) wrong_length (over-clear _ _ _ _ over none) (at_this 7) from-rows

  -- the whole ladder
  pub check_sound : IsSound (verdict v p)
  unfolding verdict
  check_sound = ⊎_elim accepted refusal (below.check_sound v).total
    where
      accepted : volume.verdict v ≡ answered (volume.sizes v) → IsSound (verdict_by (volume.verdict v) p)
      accepted e = rw e (from_plan ((below.check_sound v).clear e))

      refusal : ((n : ℕ) × (q : ℕ) × (volume.verdict v ≡ refused n q)) → IsSound (verdict_by (volume.verdict v) p)
      refusal w = rw w.2 (over-refused _ _ _ _ over (volume.sizes v) (sizes p) w.0 w.1 (volume.verdict v) (below.check_sound v) w.2)

  pub check-first : FirstRefusal (stage_in plan_stages) (PlanApplies v p) (sizes p) (verdict v p)
  check-first = first-refusal (stage_in plan_stages) (PlanApplies v p) (sizes p) (verdict v p) check_sound
