-- What the pass over the blocks answers, by the blocks that are wrong. No contract cites this file.
--     block-right, block-refused     the test of one block
--     pass_refused, pass_done        the pass ends at the lowest wrong block, or behind the last one
--     pass-falls, pass-verdict       what its answer says of the volume
-- Assumes nothing.
use Prim.Native.Nat.{ℕ}
use mathlib.Core.Path.{◌≡◌, refl, sym}
use mathlib.Core.Bool.{Bool, true, false, cond}
use mathlib.Core.List.{List}
use Rattle.std.specs.Prelude.{Result, Ok, Err, ⊤}
use Rattle.volume.specs.declared.answers.Refusal.{Refusal}
use Rattle.volume.specs.declared.answers.Refusal.TheVariants.{Number, Checksum}
use Rattle.volume.specs.Layout.{stream_length}
use Rattle.volume.specs.Answers.{Sizes, said_refusal}
use Rattle.volume.specs.Check.{length_wrong, number_wrong, block_wrong, bad_block, blocks_wrong, verdict}
use Rattle.volume.specs.Inner.Falls.{falls_before, block_refusal, block_answer, blocks_answer}
use Rattle.volume.proofs.Laws.Check.{verdict-number, verdict_checksum}

-- an answer by a test t
module _ {A : Type 0} (why : Refusal) (x : A) where
  ok-by : (t : Bool) (y : A) → ◌≡◌ {A = Result A Refusal} (Ok y) (cond t (Err why) (Ok x)) → (t ≡ false) × (y ≡ x)
  ok-by true y e = absurd (cc)
  ok-by false y e = (refl, (cc))

  err_by : (t : Bool) (r : Refusal) → ◌≡◌ {A = Result A Refusal} (Err r) (cond t (Err why) (Ok x)) → (t ≡ true) × (r ≡ why)
  err_by true r e = (refl, (cc))
  err_by false r e = absurd (cc)

module _ (v : List ℕ) where
  pub block-right : (k : ℕ) (x : ⊤) → Ok x ≡ block_answer v k → block_wrong v k ≡ false
  unfolding block_answer
  block-right k x e = (ok-by _ _ (block_wrong v k) x e).0

  pub block-refused : (k : ℕ) (why : Refusal) → Err why ≡ block_answer v k → (block_wrong v k ≡ true) × (why ≡ block_refusal v k)
  unfolding block_answer
  block-refused k why e = err_by _ _ (block_wrong v k) why e

  pub pass_refused : blocks_wrong v ≡ true → blocks_answer v ≡ Err (block_refusal v (bad_block v))
  unfolding blocks_answer
  pass_refused b = rw b

  pub pass_done : blocks_wrong v ≡ false → blocks_answer v ≡ Ok (falls_before v (stream_length v))
  unfolding blocks_answer
  pass_done b = rw b

  pub pass-falls : (n : ℕ) → Ok n ≡ blocks_answer v → (blocks_wrong v ≡ false) × (n ≡ falls_before v (stream_length v))
  unfolding blocks_answer
  pass-falls n e = ok-by _ _ (blocks_wrong v) n e

  pub pass-verdict : (why : Refusal) → length_wrong v ≡ false → Err why ≡ blocks_answer v → said_refusal {A = Sizes} why ≡ verdict v
  unfolding blocks_answer
  pass-verdict why l e = let w = err_by _ _ (blocks_wrong v) why e in rw w.1 (go (number_wrong v (bad_block v)) refl w.0)
    where
      go : (t : Bool) → number_wrong v (bad_block v) ≡ t → blocks_wrong v ≡ true → said_refusal {A = Sizes} (cond t (Number (bad_block v)) (Checksum (bad_block v))) ≡ verdict v
      go true n b = sym (verdict-number v l b n)
      go false n b = sym (verdict_checksum v l b n)
