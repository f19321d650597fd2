-- Each way out of joining: its answer, with the output afterwards. No contract cites this file.
--     Leaves                                        behind the checks of both volumes: an answer, and the output
--     refuses-docs, refuses_large, refuses-short    25, 19 and 20
--     answers                                       the blocks
--     Ends                                          the same of the whole call
--     refuses-first, refuses-second                 1 to 8 of the first and of the second volume
--     refuses-counts, goes_on                       24; and what comes behind
-- Assumes nothing.
use Prim.Native.Nat.{ℕ, ◌*◌, ◌<◌, ◌≤◌}
use mathlib.Core.Path.{◌≡◌, sym, ap, ◌∙◌}
use mathlib.Core.Bool.{Bool, true, false, cond}
use mathlib.Core.Logic.{◌≢◌}
use mathlib.Core.List.{List}
use lib.ListN.{length}
use lib.Dec.{ltb}
use borrow.Author.Tests.{lt-ltb, le-ltb}
use Rattle.seq.specs.Lists.{joined}
use Rattle.seq.specs.Refusals.{Said, refused, answered, laid}
use Rattle.seq.proofs.Laws.Decides.{holds, fails}
use Rattle.seq.proofs.Laws.Refusals.{laid-refused, laid-answered}
use Rattle.volume.specs.Layout.{list_count, blocks_for, lists_of}
use Rattle.volume.specs.Answers.{Sizes}
use Rattle.volume.specs.Check.{sizes, verdict, Accepted}
use Rattle.volume.specs.Write.{volume_of}
use Rattle.volume.specs.Inner.Storing.{stored_first}
use Rattle.volume.proofs.Laws.Check.{sizes_are}
use Rattle.join.specs.Answers.{JoinSaid}
use Rattle.join.specs.Joined.{raised}
use Rattle.join.specs.Join.{list_counts_wrong, docs_wrong, lists_of_both, join_rest, join_answer, join_out}
use Rattle.join.specs.Refusals.{extent_of_both}
use Rattle.join.specs.Inner.Docs.{range_of, clash}
use Rattle.join.specs.Inner.Reading.{joined_word, Lifts, Joinable}
use Rattle.join.specs.Inner.Joining.{rest_out}
use Rattle.join.proofs.Laws.Docs.{docs-clash}
use Rattle.join.proofs.Laws.Limits.{length-volume, write_rungs}
use Rattle.join.proofs.Laws.JoinFirst.{list_counts_decides}
use Rattle.join.proofs.Laws.Lifts.{LiftOf, lifts, lifted-volume}

-- an answer that is of neither volume
abbrev own : Said ℕ → JoinSaid
own said = record { volume = 0; said = said }

module _ (h : ℕ) (v w out : List ℕ) where
  -- what is answered behind the checks of both volumes, with the output afterwards
  abbrev pub Leaves : JoinSaid → List ℕ → Type 0
  Leaves said after = (said ≡ own (join_rest h v w (length out))) × (after ≡ rest_out h v w out)

  leaves-refused : (n : ℕ) → join_rest h v w (length out) ≡ refused n 0 → Leaves (own (refused n 0)) out
  unfolding rest_out
  leaves-refused n e = (ap own (sym e), sym (laid-refused _ n 0 (volume_of (lists_of_both h v w)) out e))

  -- the documents clash, as the code finds it
  abbrev pub found : Bool
  found = clash h (range_of (joined (lists_of v))) (range_of (joined (lists_of w)))

  module _ (a : Accepted v) (b : Accepted w) (same : list_count w ≡ list_count v) where
    counts-right : list_counts_wrong v w ≡ false
    counts-right = fails (list_counts_decides h v w) (λ n. n (sym same))

    rest-docs : found ≡ true → join_rest h v w (length out) ≡ refused 25 0
    unfolding join_rest
    rest-docs e = rw (counts-right, docs-clash h v w ∙ e)

    pub refuses-docs : found ≡ true → Leaves (own (refused 25 0)) out
    refuses-docs e = leaves-refused 25 (rest-docs e)

    module _ (clear : found ≡ false) where
      docs-right : docs_wrong h v w ≡ false
      docs-right = docs-clash h v w ∙ clear

      rest_rungs : join_rest h v w (length out)
          ≡ cond (ltb 1032192 (extent_of_both v w)) (refused 19 0) (cond (ltb (length out) (512 * blocks_for (extent_of_both v w))) (refused 20 0) (answered (blocks_for (extent_of_both v w))))
      unfolding join_rest
      rest_rungs = rw (counts-right, docs-right) (write_rungs h v w a b same docs-right (length out))

      pub refuses_large : 1032192 < extent_of_both v w → Leaves (own (refused 19 0)) out
      refuses_large l = leaves-refused 19 (rest_rungs ∙ rw (lt-ltb 1032192 (extent_of_both v w) l))

      module _ (fits : extent_of_both v w ≤ 1032192) where
        pub refuses-short : length out < 512 * blocks_for (extent_of_both v w) → Leaves (own (refused 20 0)) out
        refuses-short l = leaves-refused 20 (rest_rungs ∙ rw (le-ltb 1032192 (extent_of_both v w) fits, lt-ltb (length out) (512 * blocks_for (extent_of_both v w)) l))

        pub can-join : Joinable v w
        can-join = record { first = a; second = b; same = same; fits = fits }

        module _ (lift : ℕ) (is : LiftOf h lift) where
          pub can_lift : Lifts lift w
          can_lift = lifts h lift is v w same docs-right

          pub answers : (n : ℕ) (after : List ℕ) → n ≡ blocks_for (extent_of_both v w) → 512 * n ≤ length out → after ≡ stored_first (joined_word lift v w) n out
              → Leaves (own (answered n)) after
          unfolding rest_out
          answers n after e l x =
              let m : 512 * blocks_for (extent_of_both v w) ≤ length out = rw e at l in
              let y : join_rest h v w (length out) ≡ answered n = rest_rungs ∙ rw (le-ltb 1032192 (extent_of_both v w) fits, le-ltb (length out) (512 * blocks_for (extent_of_both v w)) m, e) in
              (ap own (sym y), x ∙ sym (laid-answered _ n (volume_of (lists_of_both h v w)) out y ∙ rw (length-volume (raised h) v w same, lifted-volume h lift is v w same docs-right, ← e)))

  -- what the call answers, with the output afterwards
  abbrev pub Ends : JoinSaid → List ℕ → Type 0
  Ends said after = (said ≡ join_answer h v w (length out)) × (after ≡ join_out h v w out)

  ends-refused : (volume n p : ℕ) → join_answer h v w (length out) ≡ record { volume = volume; said = refused n p } → Ends (record { volume = volume; said = refused n p }) out
  unfolding join_out
  ends-refused volume n p e = (sym e, sym (laid-refused _ n p (volume_of (lists_of_both h v w)) out (ap (λ (s : JoinSaid). s.said) e)))

  answer-first : (n p : ℕ) → refused n p ≡ verdict v → join_answer h v w (length out) ≡ record { volume = 1; said = refused n p }
  unfolding join_answer
  answer-first n p e = rw (← e)

  pub refuses-first : (n p : ℕ) → refused n p ≡ verdict v → Ends (record { volume = 1; said = refused n p }) out
  refuses-first n p e = ends-refused 1 n p (answer-first n p e)

  module _ (s : Sizes) (one : answered s ≡ verdict v) where
    answer-second : (n p : ℕ) → refused n p ≡ verdict w → join_answer h v w (length out) ≡ record { volume = 2; said = refused n p }
    unfolding join_answer
    answer-second n p e = rw (← one, ← e)

    pub refuses-second : (n p : ℕ) → refused n p ≡ verdict w → Ends (record { volume = 2; said = refused n p }) out
    refuses-second n p e = ends-refused 2 n p (answer-second n p e)

    module _ (t : Sizes) (two : answered t ≡ verdict w) where
      answer-rest : join_answer h v w (length out) ≡ own (join_rest h v w (length out))
      unfolding join_answer
      answer-rest = rw (← one, ← two)

      -- the sizes that are told are those of the volumes
      first-sizes : s ≡ sizes v
      first-sizes = sizes_are v s (sym one)

      second-sizes : t ≡ sizes w
      second-sizes = sizes_are w t (sym two)

      rest-counts : s.lists ≢ t.lists → join_rest h v w (length out) ≡ refused 24 0
      unfolding join_rest
      rest-counts n = rw (holds (list_counts_decides h v w) (λ e. n (ap (λ (x : Sizes). x.lists) first-sizes ∙ e ∙ ap (λ (x : Sizes). x.lists) (sym second-sizes))))

      pub refuses-counts : s.lists ≢ t.lists → Ends (own (refused 24 0)) out
      refuses-counts n = ends-refused 0 24 0 (answer-rest ∙ ap own (rest-counts n))

      pub goes_on : (said : JoinSaid) (after : List ℕ) → said ≡ own (join_rest h v w (length out)) → after ≡ rest_out h v w out → Ends said after
      unfolding rest_out join_out
      goes_on said after x y = (x ∙ sym answer-rest, y ∙ ap (λ (z : JoinSaid). laid z.said (volume_of (lists_of_both h v w)) out) (sym answer-rest))
