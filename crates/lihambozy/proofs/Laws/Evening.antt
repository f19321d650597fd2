-- A plan over two volumes, and over one in which they are joined. No contract cites this file.
--     first-same, second-same     below the cut a document of both is the first's, and from it on the second's, raised
--     rows_are, tally-is          the rows and the postings of both below a document
--     rows_end, tally-end         the second has none behind the last document
--     answered-flat               refusal 0 is an answer
--     evening                     what is written is an evening of both
-- Assumes nothing.
use Prim.Native.Nat.{ℕ, ◌+◌, ◌*◌, ◌-◌, ◌≤◌, ◌<◌}
use native.Mathlib.Nat.{add-zero}
use native.Mathlib.Omega.{arith}
use mathlib.Core.Path.{◌≡◌, sym, ap, ap₂, ◌∙◌}
use mathlib.Core.Logic.{⊎_elim}
use mathlib.Core.List.{List, [], ◌∷◌, ◌++◌, map, append-nil}
use lib.ListN.{length, take}
use Rattle.seq.specs.Lists.{keep, joined}
use Rattle.seq.specs.Numbers.{run}
use Rattle.seq.specs.Refusals.{refused, answered}
use Rattle.seq.specs.Calls.{Call}
use Rattle.seq.proofs.Laws.Tests.{below_or}
use Rattle.seq.proofs.Laws.Totals.{total_add, total_ext}
use Rattle.block.specs.Bytes.{IsBytes}
use Rattle.volume.specs.Layout.{list_count, blocks_for, lists_of}
use Rattle.volume.specs.Check as volume
use Rattle.volume.proofs.Laws.Volume.{length-lists_of}
use Rattle.join.specs.Joined.{raised, joined_at}
use Rattle.join.specs.Join.{join_answer, join_out, lists_of_both}
use Rattle.join.specs.Refusals.{extent_of_both}
use Rattle.join.proofs.Laws.JoinFirst.{join-number, join-sound, Answered, answered-of}
use Rattle.join.proofs.Laws.Joined.{length-lists}
use Rattle.join.proofs.Laws.Joins.{joining}
use Rattle.plan.specs.Check.{verdict, verdict_by, plan_verdict}
use Rattle.plan.specs.Check as plan
use Rattle.plan.specs.Patterns.{vars_of}
use Rattle.plan.specs.Rows.{rows_of}
use Rattle.fulltext.specs.Positions.{limit, list_of, positions_in, count_in}
use Rattle.fulltext.specs.Documents.{row_in, postings_in, docs_in, rows_of_docs, work_of, work}
use Rattle.fulltext.proofs.Laws.Positions.{positions_append}
use Rattle.fulltext.proofs.Laws.Skips.{positions-none, skip}
use Rattle.fulltext.proofs.Laws.Same.{matching-same, patterns-same, rows_shift}
use Rattle.fulltext.proofs.Laws.Docs.{docs-parts, docs-none, rows_append}
use Rattle.fulltext.proofs.Laws.Counts.{work_add, count_append, postings-zero}
use Rattle.search.specs.Search.{IsSearch, outcome}
use Rattle.lihambozy.specs.declared.answers.ListAnswer.{ListAnswer}
use Rattle.lihambozy.specs.Flat.{flat_plan, flat_join}
use Rattle.lihambozy.specs.Search.{structs}
use Rattle.lihambozy.specs.Evening.{raised_row, raised_rows, rows_of_both, Evening}
use Rattle.lihambozy.proofs.Laws.Search.{accepted, holds3}
use Rattle.lihambozy.proofs.Laws.Raised.{raised-positions, raised_below, raised-count, both-list}
use Rattle.lihambozy.proofs.Laws.Parted.{Parted, cut, parted}

-- u has the lists of both, parted by document c
module _ (h c : ℕ) (v w u p : List ℕ) (part : Parted h (lists_of v) (lists_of w) c)
    (lists : (l : ℕ) → list_of (lists_of u) l ≡ joined_at (raised h) (lists_of v) (lists_of w) l) where
  first-same : (d : ℕ) → d < c → (l : ℕ) → positions_in d (list_of (lists_of u) l) ≡ positions_in d (list_of (lists_of v) l)
  first-same d k l =
      ap (positions_in d) (lists l) ∙ positions_append d (list_of (lists_of v) l) (map (raised h) (list_of (lists_of w) l))
      ∙ ap (λ (ps : List ℕ). positions_in d (list_of (lists_of v) l) ++ ps) (⊎_elim (raised_below h (list_of (lists_of w) l) d) none (below_or d h))
      ∙ append-nil (positions_in d (list_of (lists_of v) l))
    where
      none : h ≤ d → positions_in d (map (raised h) (list_of (lists_of w) l)) ≡ []
      none m =
          let e : d ≡ d - h + h = omega arith in
          ap (λ (n : ℕ). positions_in n (map (raised h) (list_of (lists_of w) l))) e ∙ raised-positions h (list_of (lists_of w) l) (d - h)
          ∙ positions-none 0 (c - h) (d - h) (list_of (lists_of w) l) (omega arith) (omega arith) (part.high l)

  second-same : (d : ℕ) → c ≤ d + h → (l : ℕ) → positions_in (d + h) (list_of (lists_of u) l) ≡ positions_in d (list_of (lists_of w) l)
  second-same d k l =
      ap (positions_in (d + h)) (lists l) ∙ positions_append (d + h) (list_of (lists_of v) l) (map (raised h) (list_of (lists_of w) l))
      ∙ ap₂ (λ (ps qs : List ℕ). ps ++ qs)
      (positions-none c (d + h + 1) (d + h) (list_of (lists_of v) l) k (omega arith) (part.low (d + h + 1) l))
      (raised-positions h (list_of (lists_of w) l) d)

  tally-is : (r : ℕ) → (work u p).postings 0 r ≡ (work v p).postings 0 r + (work w p).postings 0 (r - h)
  unfolding work work_of postings_in
  tally-is r =
      let one : ℕ → ℕ = λ l. count_in 0 r (list_of (lists_of v) l) in
      let two : ℕ → ℕ = λ l. count_in 0 (r - h) (list_of (lists_of w) l) in
      total_ext (λ l. count_in 0 r (list_of (lists_of u) l)) (λ l. one l + two l) (vars_of (rows_of p))
      (λ l.
      ap (count_in 0 r) (lists l) ∙ count_append 0 r (list_of (lists_of v) l) (map (raised h) (list_of (lists_of w) l))
      ∙ ap (λ (n : ℕ). count_in 0 r (list_of (lists_of v) l) + n) (raised-count h (list_of (lists_of w) l) r))
      ∙ sym (total_add one two (vars_of (rows_of p)))

  -- the second's postings are all below the document that is raised to the limit
  no_end : (work w p).postings (limit - h) limit ≡ 0
  no_end = postings-zero w p (limit - h) limit part.top

  tally-end : (work w p).postings 0 (limit - h) ≡ (work w p).postings 0 limit
  tally-end = let e = work_add w p 0 (limit - h) limit (omega arith) (omega arith) in let z = no_end in omega arith

  rows-below : (r : ℕ) → r ≤ c → rows_of_docs (work u p) (docs_in (work u p) 0 r) ≡ rows_of_docs (work v p) (docs_in (work v p) 0 r)
  unfolding rows_of_docs docs_in work work_of row_in
  rows-below r k =
      rows_shift (work u p) (work v p) (work v p).row_of 0 0 (r - 0)
      (λ j x y. ap (work u p).is_true (add-zero j) ∙ matching-same (lists_of u) (lists_of v) j j (first-same j (omega arith)) (rows_of p))
      (λ j x y. ap (work u p).row_of (add-zero j) ∙ ap (λ (ws : List ℕ). j ∷ ws) (patterns-same (lists_of u) (lists_of v) j j (first-same j (omega arith)) (rows_of p)))

  rows-from : (r : ℕ) → c ≤ r → rows_of_docs (work u p) (docs_in (work u p) c r) ≡ raised_rows h (work w p) (docs_in (work w p) (c - h) (r - h))
  unfolding rows_of_docs raised_rows docs_in work work_of row_in
  rows-from r k =
      let l = part.from in
      let a : c ≡ c - h + h = omega arith in
      let m : r - c ≡ r - h - (c - h) = omega arith in
      ap₂ (λ (s n : ℕ). joined (map (work u p).row_of (keep (work u p).is_true (run (λ d. d) s n)))) a m
      ∙ rows_shift (work u p) (work w p) (λ d. raised_row h ((work w p).row_of d)) h (c - h) (r - h - (c - h))
      (λ j x y. matching-same (lists_of u) (lists_of w) (j + h) j (second-same j (omega arith)) (rows_of p))
      (λ j x y. ap (λ (ws : List ℕ). (j + h) ∷ ws) (patterns-same (lists_of u) (lists_of w) (j + h) j (second-same j (omega arith)) (rows_of p)))

  -- an accepted plan has no true document where its variables have no postings
  module _ (one : plan.Accepted v p) (two : plan.Accepted w p) where
    no-first : (r : ℕ) → docs_in (work v p) c r ≡ []
    no-first r = docs-none (work v p) c r (λ d x y. skip v p one c r (postings-zero v p c r (part.low r)) d x y)

    no_second : (b : ℕ) → b ≤ c - h → docs_in (work w p) 0 b ≡ []
    no_second b k = docs-none (work w p) 0 b (λ d x y. skip w p two 0 (c - h) (postings-zero w p 0 (c - h) part.high) d x (omega arith))

    no_last : docs_in (work w p) 0 (limit - h) ≡ docs_in (work w p) 0 limit
    no_last =
        sym (docs-parts (work w p) 0 (limit - h) limit (omega arith) (omega arith)
        ∙ ap (λ (ds : List ℕ). docs_in (work w p) 0 (limit - h) ++ ds) (docs-none (work w p) (limit - h) limit (λ d x y. skip w p two (limit - h) limit no_end d x y))
        ∙ append-nil (docs_in (work w p) 0 (limit - h)))

    rows_end : rows_of_both h (work v p) (work w p) limit ≡ rows_of_docs (work v p) (docs_in (work v p) 0 limit) ++ raised_rows h (work w p) (docs_in (work w p) 0 limit)
    unfolding rows_of_both
    rows_end = ap (λ (ds : List ℕ). rows_of_docs (work v p) (docs_in (work v p) 0 limit) ++ raised_rows h (work w p) ds) no_last

    rows_are : (r : ℕ) → rows_of_docs (work u p) (docs_in (work u p) 0 r) ≡ rows_of_both h (work v p) (work w p) r
    unfolding rows_of_both raised_rows joined
    rows_are r = ⊎_elim below from (below_or r c)
      where
        firsts : ℕ → List ℕ
        firsts b = rows_of_docs (work v p) (docs_in (work v p) 0 b)

        seconds : List ℕ → List ℕ
        seconds ds = raised_rows h (work w p) ds

        below : r < c → rows_of_docs (work u p) (docs_in (work u p) 0 r) ≡ firsts r ++ seconds (docs_in (work w p) 0 (r - h))
        below k =
            rows-below r (omega arith) ∙ sym (append-nil (firsts r))
            ∙ sym (ap (λ (ds : List ℕ). firsts r ++ seconds ds) (no_second (r - h) (omega arith)))

        from : c ≤ r → rows_of_docs (work u p) (docs_in (work u p) 0 r) ≡ firsts r ++ seconds (docs_in (work w p) 0 (r - h))
        from k =
            ap (rows_of_docs (work u p)) (docs-parts (work u p) 0 c r (omega arith) k)
            ∙ rows_append (work u p) (docs_in (work u p) 0 c) (docs_in (work u p) c r)
            ∙ ap₂ (λ (xs ys : List ℕ). xs ++ ys) (rows-below c (omega arith)) (rows-from r k)
            ∙ sym (ap₂ (λ (ds es : List ℕ). rows_of_docs (work v p) ds ++ seconds es) first_part second-part)
          where
            first_part : docs_in (work v p) 0 r ≡ docs_in (work v p) 0 c
            first_part =
                docs-parts (work v p) 0 c r (omega arith) k
                ∙ ap (λ (ds : List ℕ). docs_in (work v p) 0 c ++ ds) (no-first r) ∙ append-nil (docs_in (work v p) 0 c)

            second-part : docs_in (work w p) 0 (r - h) ≡ docs_in (work w p) (c - h) (r - h)
            second-part =
                docs-parts (work w p) 0 (c - h) (r - h) (omega arith) (omega arith)
                ∙ ap (λ (ds : List ℕ). ds ++ docs_in (work w p) (c - h) (r - h)) (no_second (c - h) (omega arith))

-- a plan over two accepted volumes of as many lists
same-verdict : (v u p : List ℕ) → volume.Accepted v → volume.Accepted u → list_count v ≡ list_count u → verdict v p ≡ verdict u p
unfolding verdict
same-verdict v u p a b e = ap (λ s. verdict_by s p) a ∙ ap (λ (t : ℕ). plan_verdict t p) e ∙ sym (ap (λ s. verdict_by s p) b)

-- u is accepted and has the lists of both
module _ (h : ℕ) (v w u p : List ℕ) (room n : ℕ) (ok : Answered h v w room n) (good : volume.Accepted u) (lists : lists_of u ≡ lists_of_both h v w) where
  lengths : length (lists_of w) ≡ length (lists_of v)
  lengths = length-lists_of w ∙ ok.same ∙ sym (length-lists_of v)

  counts : list_count u ≡ list_count v
  counts = sym (length-lists_of u) ∙ ap length lists ∙ length-lists (raised h) v w ok.same

  part : Parted h (lists_of v) (lists_of w) (cut h v)
  part = parted h v w ok.right

  list-is : (l : ℕ) → list_of (lists_of u) l ≡ joined_at (raised h) (lists_of v) (lists_of w) l
  list-is l = ap (λ (ls : List (List ℕ)). list_of ls l) lists ∙ both-list h (lists_of v) (lists_of w) lengths l

  evening-of : Evening h v w u p
  evening-of = record {
    first = first;
    second = second;
    searched = holds3 u p;
    rows = rows;
    tally = tally;
    done = λ e calls s q. (
      rows e calls s ∙ ap (rows_of_both h (work v p) (work w p)) q ∙ rows_end h (cut h v) v w u p part list-is (first ∙ accepted u p e) (second ∙ accepted u p e),
      tally e calls s ∙ ap (λ (r : ℕ). (work v p).postings 0 r + (work w p).postings 0 (r - h)) q
          ∙ ap (λ (n : ℕ). (work v p).postings 0 limit + n) (tally-end h (cut h v) v w u p part list-is),
    );
  }
    where
      first : verdict v p ≡ verdict u p
      first = same-verdict v u p ok.first good (sym counts)

      second : verdict w p ≡ verdict u p
      second = same-verdict w u p ok.second good (ok.same ∙ sym counts)

      rows : (flat_plan (verdict u p)).refusal ≡ 0 → (calls : List (Call ListAnswer)) → IsSearch structs u p 0 calls
          → (outcome structs u p calls).rows ≡ rows_of_both h (work v p) (work w p) (outcome structs u p calls).reached
      rows e calls s =
          ((holds3 u p e).searched calls s).rows
          ∙ rows_are h (cut h v) v w u p part list-is (first ∙ accepted u p e) (second ∙ accepted u p e) (outcome structs u p calls).reached

      tally : (flat_plan (verdict u p)).refusal ≡ 0 → (calls : List (Call ListAnswer)) → IsSearch structs u p 0 calls
          → (outcome structs u p calls).tally ≡ (work v p).postings 0 (outcome structs u p calls).reached + (work w p).postings 0 ((outcome structs u p calls).reached - h)
      tally e calls s = ((holds3 u p e).searched calls s).tally ∙ tally-is h (cut h v) v w u p part list-is (outcome structs u p calls).reached

-- refusal 0 is an answer, and the blocks told are its value
answered-flat : (h : ℕ) (v w : List ℕ) (room : ℕ) → (flat_join (join_answer h v w room)).refusal ≡ 0
    → (join_answer h v w room).said ≡ answered (flat_join (join_answer h v w room)).blocks
answered-flat h v w room e = ⊎_elim told never (join-sound h v w room).total
  where
    told : (join_answer h v w room).said ≡ answered (blocks_for (extent_of_both v w)) → (join_answer h v w room).said ≡ answered (flat_join (join_answer h v w room)).blocks
    told q = rw q

    never : (n : ℕ) × (p : ℕ) × ((join_answer h v w room).said ≡ refused n p) → (join_answer h v w room).said ≡ answered (flat_join (join_answer h v w room)).blocks
    never r =
        let z : r.0 ≡ 0 = rw r.2 at e in
        let f = (join-sound h v w room).first r.0 r.1 r.2 in
        let m = join-number h v w room f.stage r.0 r.1 f.applies in
        absurd (let y : ⊥ = omega arith in y)

pub evening : (h : ℕ) (v w out : List ℕ) → IsBytes v → IsBytes w → (flat_join (join_answer h v w (length out))).refusal ≡ 0
    → (p : List ℕ) → Evening h v w (take (512 * (flat_join (join_answer h v w (length out))).blocks) (join_out h v w out)) p
evening h v w out bv bw e p =
    let n = (flat_join (join_answer h v w (length out))).blocks in
    let q = answered-flat h v w (length out) e in
    let j = joining h v w out n q bv bw in
    evening-of h v w (take (512 * n) (join_out h v w out)) p (length out) n (answered-of h v w (length out) n q) j.accepted j.lists
