-- Reading a list answers the first refusal that applies. No contract cites this file.
--     read-sound, read_first     the answer is the first refusal that applies
-- Assumes nothing.
use Prim.Native.Nat.{ℕ, ◌<◌, ◌≤◌}
use native.Mathlib.Omega.{arith}
use mathlib.Core.Path.{◌≡◌, refl}
use mathlib.Core.Bool.{cond}
use mathlib.Core.Logic.{◌⊎◌, inl, inr, ⊎_elim}
use mathlib.Core.List.{List, [], ◌∷◌}
use lib.Dec.{leb, ltb}
use Rattle.seq.specs.Lists.{elem}
use Rattle.seq.specs.Refusals.{Said, refused, answered, stage_in, FirstRefusal}
use Rattle.seq.proofs.Laws.Tests.{below_or}
use Rattle.seq.proofs.Laws.Refusals.{Sound, end, first-refusal}
use Rattle.seq.proofs.Laws.Decides.{Decides, same_decides, leb_decides, ltb_decides}
use Rattle.seq.proofs.Laws.Ladder.{Clear, single}
use Rattle.seq.proofs.Laws.Stages.{Over, over-clear, over-refused}
use Rattle.volume.specs.Layout.{list_count, count}
use Rattle.volume.specs.Check.{sizes, verdict}
use Rattle.volume.specs.Read.{read_by, read_answer}
use Rattle.volume.specs.Refusals.{VolumeApplies, ReadApplies, of_volume, no_list, short_buffer, volume_stages, read_stages}
use Rattle.volume.proofs.Laws.CheckFirst.{stage-le, check_sound}

module _ (v : List ℕ) (i room : ℕ) where
  -- what a refusal of the call says, by its number and place
  abbrev OfCall : ℕ → ℕ → Type 0
  OfCall m q = VolumeApplies v m q ⊎ (((m ≡ 17) × ((q ≡ 0) × (list_count v ≤ i))) ⊎ ((m ≡ 16) × ((q ≡ 0) × ((i < list_count v) × (room < count v i)))))

  -- each refusal says what the call's do
  of_call : (m q : ℕ) → ReadApplies v i room m q → OfCall m q
  of_call m q (of_volume n p a) = inl a
  of_call m q (no_list h) = inr (inl (refl, (refl, h)))
  of_call m q (short_buffer l h) = inr (inr (refl, (refl, (l, h))))

  -- the refusals of the volume, then 17 and 16
  over : Over volume_stages ((17 ∷ []) ∷ (16 ∷ []) ∷ []) (VolumeApplies v) (ReadApplies v i room)
  unfolding stage_in elem
  over = record {
    early = λ m q a. let h = stage-le v m q a in omega arith;
    joins = λ m q a. of_volume m q a;
    splits = λ m q x.
        ⊎_elim (λ a. inl a) (⊎_elim (λ (w : (m ≡ 17) × ((q ≡ 0) × (list_count v ≤ i))). inr (rw w.0 (omega arith))) (λ w. inr (rw w.0 (omega arith)))) (of_call m q x);
  }

  -- a sound answer of this call
  abbrev IsSound : Said ℕ → Type 0
  IsSound said = Sound (stage_in read_stages) (ReadApplies v i room) (count v i) said

  -- the rungs behind an accepted volume
  from_list : ((n p : ℕ) → VolumeApplies v n p → ⊥) → IsSound (cond (leb (list_count v) i) (refused 17 0) (cond (ltb room (count v i)) (refused 16 0) (answered (count v i))))
  unfolding stage_in elem
  from_list none =
      single (stage_in read_stages) (ReadApplies v i room) (count v i) (leb (list_count v) i) 17 _ _ (leb_decides (list_count v) i) no_list (over-clear _ _ _ _ over none) seventeen
      (λ c. single (stage_in read_stages) (ReadApplies v i room) (count v i) (ltb room (count v i)) 16 _ _ (fits c) (λ w. short_buffer w.0 w.1) c sixteen
      (λ d. end (stage_in read_stages) (ReadApplies v i room) (count v i) (last d)))
    where
      seventeen : (m q : ℕ) → ReadApplies v i room m q → stage_in read_stages m ≡ 7 → (m ≡ 17) × ((q ≡ 0) × (list_count v ≤ i))
      seventeen m q a e =
          ⊎_elim (λ w. absurd (none m q w)) (⊎_elim (λ w. w) (λ w. let z : 8 ≡ 7 = rw w.0 at e in absurd (omega arith))) (of_call m q a)

      sixteen : (m q : ℕ) → ReadApplies v i room m q → stage_in read_stages m ≡ 8 → (m ≡ 16) × ((q ≡ 0) × ((i < list_count v) × (room < count v i)))
      sixteen m q a e =
          ⊎_elim (λ w. absurd (none m q w)) (⊎_elim (λ w. let z : 7 ≡ 8 = rw w.0 at e in absurd (omega arith)) (λ w. w)) (of_call m q a)

      fits : Clear (stage_in read_stages) (ReadApplies v i room) 8 → Decides (ltb room (count v i)) ((i < list_count v) × (room < count v i))
      fits c =
          same_decides (ltb_decides room (count v i))
          (λ h. (⊎_elim (λ (l : i < list_count v). l) (λ l. let z : 8 ≤ 7 = c 17 0 (no_list l) in absurd (omega arith)) (below_or i (list_count v)), h))
          (λ w. w.1)

      last : Clear (stage_in read_stages) (ReadApplies v i room) 9 → (m q : ℕ) → ReadApplies v i room m q → ⊥
      last d m q a =
          let h = d m q a in
          ⊎_elim (none m q) (⊎_elim (λ w. let z : 9 ≤ 7 = rw w.0 at h in omega arith) (λ w. let z : 9 ≤ 8 = rw w.0 at h in omega arith)) (of_call m q a)

  -- the whole ladder
  read-sound : IsSound (read_answer v i room)
  unfolding read_answer
  read-sound = ⊎_elim accepted refusal (check_sound v).total
    where
      accepted : verdict v ≡ answered (sizes v) → IsSound (read_by (verdict v) i (count v i) room)
      accepted e = rw e (from_list ((check_sound v).clear e))

      refusal : ((n : ℕ) × (p : ℕ) × (verdict v ≡ refused n p)) → IsSound (read_by (verdict v) i (count v i) room)
      refusal w = rw w.2 (over-refused _ _ _ _ over (sizes v) (count v i) w.0 w.1 (verdict v) (check_sound v) w.2)

  pub read_first : FirstRefusal (stage_in read_stages) (ReadApplies v i room) (count v i) (read_answer v i room)
  read_first = first-refusal (stage_in read_stages) (ReadApplies v i room) (count v i) (read_answer v i room) read-sound
