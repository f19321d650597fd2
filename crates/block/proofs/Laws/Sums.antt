-- The laws of `specs/Inner/Sums.antt`. No contract cites this file.
--     columns-plus, slope-plus, at_most-plus, at_most-up, room_of     two rows added: their sums, bounds and room
--     at_most-zeros                                                   the columns of zeros
--     row_is, bytes_are                                               a row, by its columns
--     tot-row, weigh-row                                              eight bytes of a list, as a row, in front of the rest
--     rows-first, rows_again                                          `Rows` with no row, and with one more
--     rows-room-more, rows-room-near                                  the two additions of that row have room
--     eights-first, eights_again                                      `Eights` with seven rows, and with eight more
--     eights-near, eights-room-far, eights-room-all                   these eight start small enough, and their additions have room
-- Assumes nothing.
use Prim.Native.Nat.{ℕ, ◌+◌, ◌*◌, ◌-◌, ◌<◌, ◌≤◌}
use native.Mathlib.Nat.{zero-add, suc-mul}
use native.Mathlib.Omega.{arith}
use mathlib.Core.Path.{◌≡◌, refl, sym, ap, ap₂, ◌∙◌}
use mathlib.Core.List.{List, ◌++◌}
use lib.ListN.{length, drop, length-drop, take-append-drop}
use lib.Seq.{drop-drop}
use Rattle.seq.specs.Numbers.{run, sum_to}
use Rattle.seq.proofs.Laws.Runs.{run-get_or}
use Rattle.seq.proofs.Laws.Slices.{slice-run}
use Rattle.std.proofs.lemmas.List.{get_or-replicate}
use Rattle.seq.proofs.Laws.Numbers.{run_append, run_ext, get_or-run, sum_step, sum_mono}
use Rattle.seq.specs.Lists.{at, total}
use Rattle.block.specs.declared.rows.Row.{Row}
use Rattle.block.specs.Inner.Sums.{tot, weigh, row_of, column, row_at, zeros, plus, tilted, columns, slope, AtMost, Room, tri, Rows, Eights}

columns-zeros : columns zeros ≡ 0
unfolding columns sum_to
columns-zeros = refl

slope-zeros : slope zeros ≡ 0
unfolding columns tilted run sum_to
slope-zeros = refl

-- a row, by its columns
pub row_is : (f : ℕ → ℕ) (xs : List ℕ) → length xs ≡ 8 → ((c : ℕ) → c < 8 → at xs c ≡ f c) → record { 0 = xs } ≡ row_of f
row_is f xs l e =
    ap (λ (ys : List ℕ). record { 0 = ys })
    (sym (rw l at (run-get_or 0 xs)) ∙ run_ext (at xs) f 0 0 8 (λ j h. rw (zero-add j) (e j h)))

pub bytes_are : (n : ℕ) (s xs : List ℕ) (o : ℕ) → n ≤ 8 → length xs ≡ 8 → ((k : ℕ) → k < 8 - n → at xs k ≡ 0)
    → ((k : ℕ) → k < n → at xs (8 - n + k) ≡ at s (o + k)) → record { 0 = xs } ≡ row_at n s o
bytes_are n s xs o h l z e =
    let parts : 8 - n + n ≡ 8 = omega arith in
    ap (λ (ys : List ℕ). record { 0 = ys })
    (sym (rw l at (run-get_or 0 xs))
    ∙ rw parts at (run_append (at xs) 0 (8 - n) n)
    ∙ ap₂ (λ (a b : List ℕ). a ++ b)
    (run_ext (at xs) (λ c. 0) 0 0 (8 - n) (λ j i. rw (zero-add j) (z j i)))
    (run_ext (at xs) (λ c. at s (o + c)) (0 + (8 - n)) 0 n (λ j i. rw (zero-add (8 - n), zero-add j) (e j i))))

column-is : (f : ℕ → ℕ) (c : ℕ) → c < 8 → column (row_of f) c ≡ f c
column-is f c h = get_or-run f 0 8 c 0 h ∙ ap f (zero-add c)

module _ (x y : Row) where
  columns-plus : columns (plus x y) ≡ columns x + columns y
  unfolding columns plus run sum_to
  columns-plus = omega arith

  slope-plus : slope (plus x y) ≡ slope x + slope y
  unfolding columns tilted plus run sum_to
  slope-plus = omega arith

module _ {x : Row} {m n : ℕ} where
  at_most-up : m ≤ n → AtMost m x → AtMost n x
  at_most-up h v = record { each = λ c i. let e = v.each c i in omega arith }

  at_most-plus : {y : Row} → AtMost m x → AtMost n y → AtMost (m + n) (plus x y)
  unfolding plus
  at_most-plus {y} v w = record { each = λ c i. let e = v.each c i in let d = w.each c i in rw (column-is (λ k. column x k + column y k) c i) (omega arith) }

  room_of : {y : Row} → AtMost m x → AtMost n y → m + n < 65536 → Room x y
  room_of v w h = record { each = λ c i. let e = v.each c i in let d = w.each c i in omega arith }

pub at_most-zeros : {n : ℕ} → AtMost n zeros
at_most-zeros = record { each = λ c i. let z : ℕ = 0 in rw (get_or-replicate 8 c z z i) (omega arith) }

module _ (s : List ℕ) (o : ℕ) (h : o + 8 ≤ length s) where
  drop-row : drop o s ≡ (row_at 8 s o).0 ++ drop (o + 8) s
  unfolding run
  drop-row =
      sym (take-append-drop 8 (drop o s))
      ∙ ap₂ (λ (a b : List ℕ). a ++ b) (slice-run 0 s o 8 h ∙ run_ext (at s) (λ c. at s (o + c)) o 0 8 (λ j i. ap (λ (n : ℕ). at s (o + n)) (sym (zero-add j)))) (drop-drop 8 o s)

  module _ {row : Row} (row-is : row ≡ row_at 8 s o) where
    tot-row : tot (drop o s) ≡ columns row + tot (drop (o + 8) s)
    unfolding columns total run sum_to
    tot-row = rw (drop-row, row-is) (omega arith)

    weigh-row : weigh (drop o s) ≡ slope row + (length s - (o + 8)) * columns row + weigh (drop (o + 8) s)
    unfolding columns tilted weigh run sum_to
    weigh-row = rw (drop-row, row-is) (simp (length-drop, suc-mul) (omega arith))

tri-step : (i : ℕ) → tri (i + 1) ≡ tri i + i
tri-step i = sum_step (λ j. j) i

tri-le : (i k : ℕ) → i ≤ k → tri i ≤ tri k
tri-le i k h = sum_mono (λ j. j) i k h

module _ {s : List ℕ} {o : ℕ} {near₀ : Row} where
  pub rows-first : Rows s o near₀ 0 zeros near₀
  unfolding sum_to
  rows-first =
      let e : o + 8 * 0 ≡ o = omega arith in
      record {
        more_within = at_most-zeros;
        near_within = λ q w. at_most-up (omega arith) w;
        tot-is = rw (e, columns-zeros) (omega arith);
        weigh-is = rw (e, columns-zeros, slope-zeros) (omega arith);
      }

  module _ {j : ℕ} {more near : Row} (r : Rows s o near₀ j more near) where
    pub rows_again : {row more' near' : Row} → row ≡ row_at 8 s (o + 8 * j) → AtMost 255 row → near' ≡ plus near more → more' ≡ plus more row → o + 8 * j + 8 ≤ length s → Rows s o near₀ (j + 1) more' near'
    rows_again row-is w near-is more-is h =
        let e : o + 8 * (j + 1) ≡ o + 8 * j + 8 = omega arith in
        let l : length s - (o + 8 * j) ≡ length s - (o + 8 * j + 8) + 8 = omega arith in
        rw (near-is, more-is)
        (record {
          more_within = at_most-up (omega arith) (at_most-plus r.more_within w);
          near_within = λ q v. at_most-up (omega (arith, tri-step j)) (at_most-plus (r.near_within q v) r.more_within);
          tot-is = rw (e, columns-plus) (omega (arith, tot-row s (o + 8 * j) h row-is));
          weigh-is = simp (e, columns-plus, slope-plus) (omega (arith, rw l at r.weigh-is, weigh-row s (o + 8 * j) h row-is));
        })

    pub rows-room-more : {row : Row} → j < 8 → AtMost 255 row → Room more row
    rows-room-more h w = room_of r.more_within w (omega arith)

    pub rows-room-near : j < 8 → AtMost 58140 near₀ → Room near more
    unfolding sum_to
    rows-room-near h v = room_of (r.near_within _ v) r.more_within (omega (arith, tri-le j 7 (omega arith)))

module _ {s : List ℕ} {o : ℕ} where
  pub eights-first : {more near far : Row} → far ≡ zeros → Rows s o zeros 7 more near → Eights s o 0 (record { all = more; near = near; far = far })
  unfolding sum_to
  eights-first z r =
      let e : o + 8 * 7 ≡ o + 56 = omega arith in
      let f : o + 56 + 64 * 0 ≡ o + 56 = omega arith in
      rw z
      (record {
        all-within = at_most-up (omega arith) r.more_within;
        near_within = at_most-up (omega arith) (r.near_within 0 at_most-zeros);
        far_within = at_most-zeros;
        tot-is = rw f (omega (arith, rw e at r.tot-is));
        weigh-is = rw (f, columns-zeros) (omega (arith, rw (e, columns-zeros) at r.weigh-is));
      })

  module _ {i : ℕ} {all near far : Row} (t : Eights s o i (record { all = all; near = near; far = far })) where
    pub eights_again : {more all' near' far' : Row} → Rows s (o + 56 + 64 * i) near 8 more near' → all' ≡ plus all more → far' ≡ plus far all → o + 56 + 64 * i + 64 ≤ length s → Eights s o (i + 1) (record { all = all'; near = near'; far = far' })
    unfolding sum_to
    eights_again r all-is far-is h =
        let e : o + 56 + 64 * (i + 1) ≡ o + 56 + 64 * i + 64 = omega arith in
        let g : o + 56 + 64 * i + 8 * 8 ≡ o + 56 + 64 * i + 64 = omega arith in
        let l : length s - (o + 56 + 64 * i) ≡ length s - (o + 56 + 64 * i + 64) + 64 = omega arith in
        rw (all-is, far-is)
        (record {
          all-within = at_most-up (omega arith) (at_most-plus t.all-within r.more_within);
          near_within = at_most-up (omega arith) (r.near_within (5355 + 7140 * i) t.near_within);
          far_within = at_most-up (omega (arith, tri-step i)) (at_most-plus t.far_within t.all-within);
          tot-is = rw (e, columns-plus) (omega (arith, t.tot-is, rw g at r.tot-is));
          weigh-is = simp (e, columns-plus, slope-plus) (omega (arith, rw l at t.weigh-is, rw g at r.weigh-is));
        })

    pub eights-near : i ≤ 2 → AtMost 58140 near
    eights-near h = at_most-up (omega arith) t.near_within

    pub eights-room-far : i ≤ 2 → Room far all
    unfolding sum_to
    eights-room-far h = room_of t.far_within t.all-within (omega (arith, tri-le i 2 h))

    pub eights-room-all : {more : Row} → i ≤ 2 → AtMost 2040 more → Room all more
    eights-room-all h w = room_of t.all-within w (omega arith)
