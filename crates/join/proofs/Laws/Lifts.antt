-- Raising a posting by documents is adding one number to it. No contract cites this file.
--     LiftOf                     the number, where some posting can be raised
--     lifted-is                  the joined lists are those where it is added
--     lifts                      it can be added to each posting of the second in 32 bits
--     lifted-volume              the blocks of the joined volume
-- Assumes nothing.
use Prim.Native.Nat.{ℕ, ◌+◌, ◌*◌, ◌-◌, ◌<◌, ◌≤◌}
use native.Mathlib.Omega.{arith}
use mathlib.Core.Path.{◌≡◌, refl, sym, ap, ap₂, ◌∙◌, subst}
use mathlib.Core.Bool.{false}
use mathlib.Core.List.{List, [], ◌++◌, map}
use lib.ListN.{length, get_or}
use Rattle.seq.specs.Lists.{at, joined}
use Rattle.seq.specs.Numbers.{run}
use Rattle.seq.proofs.Laws.Members.{Has, index_has}
use Rattle.seq.proofs.Laws.Numbers.{run_ext, length_run, get_or-run}
use Rattle.seq.proofs.Laws.Runs.{map-run}
use Rattle.volume.specs.Posting.{doc_of}
use Rattle.volume.specs.Layout.{word, list_count, count, lead, posting_count, extent, extent_of, blocks_for, start, lists_of}
use Rattle.volume.specs.Write.{blocks_from, written, volume_of}
use Rattle.volume.proofs.Laws.Volume.{join-of, length-lists_of, list-of}
use Rattle.join.specs.Joined.{raised, joined_at, joined_by}
use Rattle.join.specs.Join.{docs_wrong, lists_of_both}
use Rattle.join.specs.Refusals.{HasDoc, extent_of_both}
use Rattle.join.specs.Inner.Reading.{lifted_lists, joined_word, Lifts}
use Rattle.join.proofs.Laws.Joined.{length_both}
use Rattle.join.proofs.Laws.Docs.{posting_doc, docs-passes}
use Rattle.join.proofs.Laws.Limits.{length-counts}

-- what is added to a posting that is raised by h documents, where some posting can be
abbrev pub LiftOf : ℕ → ℕ → Type 0
LiftOf h lift = h ≤ 65535 → lift ≡ 65536 * h

module _ (h lift : ℕ) (is : LiftOf h lift) (v w : List ℕ) (same : list_count w ≡ list_count v) (right : docs_wrong h v w ≡ false) where
  -- each posting of the second is raised by adding the number
  raised-lifts : (i j : ℕ) → i < list_count w → j < count w i → raised h (word w (start w i + j)) ≡ word w (start w i + j) + lift
  raised-lifts i j k l =
      let e = get_or-run (word w) (start w i) (count w i) j 0 l in
      let d : HasDoc w (doc_of (word w (start w i + j))) = record { list = i; inside = k; index = j; below = l; is = ap doc_of e } in
      let u = docs-passes h v w right _ d in
      let z = is (omega arith) in
      omega arith

  pub lifted-is : lists_of_both h v w ≡ lifted_lists lift v w
  unfolding joined_by
  lifted-is = run_ext (joined_at (raised h) (lists_of v) (lists_of w)) (joined_at (λ p. p + lift) (lists_of v) (lists_of w)) 0 0 (length (lists_of v)) (λ i k. ap (λ (xs : List ℕ). get_or (lists_of v) (0 + i) [] ++ xs) (each (0 + i) (let n = length-lists_of v in omega arith)))
    where
      each : (i : ℕ) → i < list_count w → map (raised h) (get_or (lists_of w) i []) ≡ map (λ p. p + lift) (get_or (lists_of w) i [])
      each i k =
          let run_is : get_or (lists_of w) i [] ≡ run (word w) (start w i) (count w i) = list-of w i k in
          ap (map (raised h)) run_is
          ∙ map-run (raised h) (word w) (start w i) (count w i)
          ∙ run_ext (λ j. raised h (word w j)) (λ j. word w j + lift) (start w i) (start w i) (count w i) (λ j l. raised-lifts i j k l)
          ∙ sym (map-run (λ p. p + lift) (word w) (start w i) (count w i))
          ∙ ap (map (λ p. p + lift)) (sym run_is)

  -- a stream index of a posting of the second
  lift-at : (i : ℕ) → lead (list_count w) ≤ i → i < extent w → word w i + lift < 4294967296
  lift-at i k l =
      let j = i - lead (list_count w) in
      let f : word w (lead (list_count w) + j) ≡ word w i = ap (word w) (let z : lead (list_count w) + j ≡ i = omega arith in z) in
      let e = get_or-run (word w) (lead (list_count w)) (posting_count w) j 0 (omega arith) ∙ f in
      let n : j < length (joined (lists_of w)) = (let m = ap length (join-of w) ∙ length_run (word w) (lead (list_count w)) (posting_count w) in omega arith) in
      let x : Has (word w i) (joined (lists_of w)) = subst (λ (p : ℕ). Has p (joined (lists_of w))) (ap (λ (xs : List ℕ). at xs j) (join-of w) ∙ e) (index_has 0 (joined (lists_of w)) j n) in
      let u = docs-passes h v w right (doc_of (word w i)) (posting_doc w (doc_of (word w i)) (word w i) x refl) in
      let z = is (omega arith) in
      omega arith

  pub lifts : Lifts lift w
  lifts = record { each = lift-at }

  -- the blocks of the joined volume
  pub lifted-volume : volume_of (lists_of_both h v w) ≡ blocks_from (joined_word lift v w) 0 (blocks_for (extent_of_both v w))
  unfolding volume_of written joined_word
  lifted-volume =
      ap volume_of lifted-is
      ∙ ap (λ (n : ℕ). blocks_from (joined_word lift v w) 0 n)
      (ap₂ (λ (a b : ℕ). blocks_for (extent_of a b)) (length-counts (λ p. p + lift) v w same) (length_both (λ p. p + lift) v w same))
