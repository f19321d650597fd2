-- The start of a position's paragraph and the first start, by a cursor on list 0. No contract cites this file.
--     starts-below                    no start is behind the last position
--     stands-stretch                  the postings of list 0 from the cursor on
--     past-from, past_to              the first posting behind position p of the document
--     para-first, para-other, para-last, para_in     the paragraph's start, by the posting in front of that one
--     first-none, first-other, first-here     the first start, by that one, where p stands in no paragraph
-- Assumes nothing.
use Prim.Native.Nat.{ℕ, ◌+◌, ◌-◌, ◌*◌, ◌/◌, ◌%◌, ◌<◌, ◌≤◌}
use native.Mathlib.Omega.{arith}
use mathlib.Core.Path.{◌≡◌, refl, ap, ◌∙◌}
use mathlib.Core.Bool.{Bool, true, false, cond}
use mathlib.Core.Logic.{inl, inr, ⊎_elim, ◌≢◌}
use mathlib.Core.List.{List}
use lib.Dec.{eqb}
use Rattle.seq.proofs.Laws.Tests.{below_or}
use Rattle.seq.proofs.Laws.Decides.{Decides, eqb_decides}
use Rattle.volume.specs.Layout.{word, start, list_count, lists_of}
use Rattle.volume.specs.Check.{Accepted}
use Rattle.volume.proofs.Laws.Check.{good}
use Rattle.fulltext.specs.Positions.{limit, list_of}
use Rattle.fulltext.specs.Calculus.{In}
use Rattle.fulltext.specs.Matches.{starts_in}
use Rattle.fulltext.specs.Paragraphs.{para_start}
use Rattle.fulltext.specs.Inner.Paragraphs.{first_start}
use Rattle.matcher.specs.declared.cursor.Document.{Document}
use Rattle.matcher.specs.Inner.Blocks.{start_in}
use Rattle.matcher.specs.Inner.Cursors.{seek_from, Stretch, list_end, Stands, AtDocument}
use Rattle.fulltext.proofs.Laws.Positions.{in-positions, positions_in_lem}
use Rattle.matcher.proofs.Laws.Cursors.{seek_ge, seek-le, seek-at, seek-below, stretch-within}
use Rattle.matcher.proofs.Laws.Volume.{list-stretch, held, holds_at}
use Rattle.fulltext.proofs.Laws.Paragraphs.{para-is, para-none}
use Rattle.matcher.proofs.Laws.Paragraphs.{first-is}

pub starts-below : (lists : List (List ℕ)) (d s : ℕ) → In s (starts_in lists d) → s < limit
starts-below lists d s i = (positions_in_lem d s (list_of lists 0) i).0

-- the starts of an accepted volume from a document's cursor on
module _ {v : List ℕ} {doc : Document} (ok : Accepted v) (placed : AtDocument v doc) where
  abbrev d : ℕ
  d = doc.doc

  abbrev i : ℕ
  i = doc.starts.at

  abbrev end : ℕ
  end = doc.starts.end

  st : Stands v 0 doc.doc doc.starts.at
  st = placed.starts-at

  some : 0 < list_count v
  some = (good v ok).lists-some

  whole : Stretch v (start v 0) (list_end v 0)
  whole = list-stretch v ok 0 some

  rest : Stretch v i (list_end v 0)
  rest = stretch-within v (start v 0) (list_end v 0) i (list_end v 0) whole st.from st.to (omega arith)

  pub stands-stretch : Stretch v i end
  stands-stretch = rw placed.starts-end rest

  -- the words do not fall
  up_to : (j k : ℕ) → i ≤ j → j ≤ k → k < list_end v 0 → word v j ≤ word v k
  up_to j k a h l = ⊎_elim (λ (q : j < k). let r = rest.rising j k a q l in omega arith) (λ (q : k ≤ j). let f : j ≡ k = omega arith in let g = ap (word v) f in omega arith) (below_or j k)

  -- a start of the document stands at the cursor or behind it
  ahead : (s : ℕ) → In s (starts_in (lists_of v) d) → (j : ℕ) × ((i ≤ j) × ((j < list_end v 0) × (word v j ≡ d * 65536 + s)))
  ahead s m = (j, (after, (to, same)))
    where
      here : (s < limit) × ((j : ℕ) × ((start v 0 ≤ j) × ((j < list_end v 0) × (word v j ≡ d * 65536 + s))))
      here = held v ok 0 some d s (positions_in_lem d s (list_of (lists_of v) 0) m)

      j : ℕ
      j = here.1.0

      from : start v 0 ≤ j
      from = here.1.1.0

      to : j < list_end v 0
      to = here.1.1.1.0

      same : word v j ≡ d * 65536 + s
      same = here.1.1.1.1

      after : i ≤ j
      after = ⊎_elim (λ (k : j < i). let b = st.behind j from k in let e = same in absurd (let z : ⊥ = omega arith in z)) (λ k. k) (below_or j i)

  -- the first index from the cursor on whose word is not below t
  module _ (t : ℕ) where
    abbrev sought-at : ℕ
    sought-at = seek_from v t i (list_end v 0)

    sought_ge : i ≤ sought-at
    sought_ge = seek_ge v t i (list_end v 0)

    sought-le : sought-at ≤ list_end v 0
    sought-le = seek-le v t i (list_end v 0) st.to

    -- a start at or behind t stands there or further on
    from-there : (s : ℕ) (m : In s (starts_in (lists_of v) d)) → t ≤ d * 65536 + s → sought-at ≤ (ahead s m).0
    from-there s m h = ⊎_elim (λ k. absurd (early k)) (λ k. k) (below_or (ahead s m).0 sought-at)
      where
        early : (ahead s m).0 < sought-at → ⊥
        early k =
            let e = (ahead s m).1.1.1 in
            let b = seek-below v t i (list_end v 0) (ahead s m).0 (ahead s m).1.0 k in
            omega arith

    -- and one in front of t in front of it
    before-there : (s : ℕ) (m : In s (starts_in (lists_of v) d)) → d * 65536 + s < t → (ahead s m).0 < sought-at
    before-there s m h = ⊎_elim (λ k. k) (λ k. absurd (late k)) (below_or (ahead s m).0 sought-at)
      where
        late : sought-at ≤ (ahead s m).0 → ⊥
        late k =
            let e = (ahead s m).1.1.1 in
            let l = (ahead s m).1.1.0 in
            let a = seek-at v t i (list_end v 0) st.to (omega arith) in
            let r = up_to sought-at (ahead s m).0 sought_ge k l in
            omega arith

  -- the first index behind position p of the document
  module _ {p : ℕ} (small : p ≤ 65535) {stop : ℕ} (found : stop ≡ seek_from v (d * 65536 + p + 1) i end) where
    abbrev past : ℕ
    past = sought-at (d * 65536 + p + 1)

    at-past : stop ≡ past
    at-past = found ∙ ap (seek_from v (d * 65536 + p + 1) i) placed.starts-end

    past_ge : i ≤ past
    past_ge = sought_ge (d * 65536 + p + 1)

    past-le : past ≤ list_end v 0
    past-le = sought-le (d * 65536 + p + 1)

    -- a start that is not above p stands between the cursor and that index
    passed : (s : ℕ) (m : In s (starts_in (lists_of v) d)) → s ≤ p → (ahead s m).0 < past
    passed s m h = before-there (d * 65536 + p + 1) s m (omega arith)

    pub past-from : i ≤ stop
    past-from = let q = at-past in let g = past_ge in omega arith

    pub past_to : stop ≤ end
    past_to = let q = at-past in let a = past-le in let e = placed.starts-end in omega arith

    -- nothing stands between
    pub para-first : stop ≡ i → 65536 ≡ para_start (starts_in (lists_of v) d) p
    para-first h = let q = at-past in para-is (starts_in (lists_of v) d) p 65536 (inl (refl, λ s m l. let a : i ≤ (ahead s m).0 = (ahead s m).1.0 in let b : (ahead s m).0 < past = passed s m l in omega arith))

    -- w is the last word that was passed
    module _ {w : ℕ} (more : stop ≢ i) (x : w ≡ word v (stop - 1)) where
      last : w ≡ word v (past - 1)
      last = x ∙ ap (λ (n : ℕ). word v (n - 1)) at-past

      last-below : w < d * 65536 + p + 1
      last-below =
          let g = past_ge in
          let q = at-past in
          let b = seek-below v (d * 65536 + p + 1) i (list_end v 0) (past - 1) (omega arith) (omega arith) in
          let l = last in
          omega arith

      -- a start that is not above p is not behind it
      up-to-last : (s : ℕ) → In s (starts_in (lists_of v) d) → s ≤ p → d * 65536 + s ≤ w
      up-to-last s m h =
          let j = (ahead s m).0 in
          let a : j < past = passed s m h in
          let e : word v j ≡ d * 65536 + s = (ahead s m).1.1.1 in
          let t = past-le in
          let r = up_to j (past - 1) (ahead s m).1.0 (omega arith) (omega arith) in
          let l = last in
          omega arith

      -- it is of another document
      para-other : w / 65536 ≢ d → 65536 ≡ para_start (starts_in (lists_of v) d) p
      para-other n = para-is (starts_in (lists_of v) d) p 65536 (inl (refl, λ s m h. let u = up-to-last s m h in let b = last-below in n (omega arith)))

      -- it is of this document
      para-last : w / 65536 ≡ d → w % 65536 ≡ para_start (starts_in (lists_of v) d) p
      para-last e =
          let b = last-below in
          let g = past_ge in
          let q = at-past in
          let t = past-le in
          let f = st.from in
          let l = last in
          para-is (starts_in (lists_of v) d) p (w % 65536)
          (inr (
            in-positions d (w % 65536) (list_of (lists_of v) 0) (holds_at v ok 0 some d (w % 65536) (past - 1) (omega arith) (omega arith) (omega arith) (omega arith)),
            (omega arith, λ s m h. let u = up-to-last s m h in omega arith),
          ))

      -- of either
      pub para_in : start_in d w ≡ para_start (starts_in (lists_of v) d) p
      para_in = go (eqb (w / 65536) d) (eqb_decides (w / 65536) d)
        where
          go : (t : Bool) → Decides t (w / 65536 ≡ d) → cond t (w % 65536) limit ≡ para_start (starts_in (lists_of v) d) p
          go true e = para-last (e.yes refl)
          go false e = para-other (e.no refl)

    -- p stands in no paragraph
    module _ (bare : para_start (starts_in (lists_of v) d) p ≡ limit) where
      -- each start of the document stands at that index or behind it
      from_first : (s : ℕ) (m : In s (starts_in (lists_of v) d)) → past ≤ (ahead s m).0
      from_first s m =
          let b = para-none (starts_in (lists_of v) d) p (omega arith) bare s m in
          from-there (d * 65536 + p + 1) s m (omega arith)

      -- no start follows
      pub first-none : stop ≡ end → 65536 ≡ first_start (starts_in (lists_of v) d)
      first-none h = first-is (starts_in (lists_of v) d) 65536 (inl (
        refl,
        λ s m.
            let e = placed.starts-end in
            let q = at-past in
            let a = from_first s m in
            let l = (ahead s m).1.1.0 in
            omega arith,
      ))

      -- w is the word there
      module _ {w : ℕ} (more : stop ≢ end) (x : w ≡ word v stop) where
        inside : past < list_end v 0
        inside = let e = placed.starts-end in let q = at-past in let l = past-le in omega (arith, more)

        here : w ≡ word v past
        here = x ∙ ap (word v) at-past

        from_doc : d * 65536 ≤ w
        from_doc = let e = here in let a = seek-at v (d * 65536 + p + 1) i (list_end v 0) st.to inside in omega arith

        -- no start of the document is in front of it
        up_from : (s : ℕ) → In s (starts_in (lists_of v) d) → w ≤ d * 65536 + s
        up_from s m =
            let e : word v (ahead s m).0 ≡ d * 65536 + s = (ahead s m).1.1.1 in
            let f = here in
            let r = up_to past (ahead s m).0 past_ge (from_first s m) (ahead s m).1.1.0 in
            omega arith

        -- it is of another document
        pub first-other : w / 65536 ≢ d → 65536 ≡ first_start (starts_in (lists_of v) d)
        first-other n = first-is (starts_in (lists_of v) d) 65536 (inl (
          refl,
          λ s m.
              let a = from_doc in
              let u = up_from s m in
              let l = starts-below (lists_of v) d s m in
              n (omega arith),
        ))

        -- it is of this document
        pub first-here : w / 65536 ≡ d → w % 65536 ≡ first_start (starts_in (lists_of v) d)
        first-here e =
            let a = from_doc in
            let f = here in
            let g = past_ge in
            let k = st.from in
            let m = holds_at v ok 0 some d (w % 65536) past (omega arith) (omega arith) inside (omega arith) in
            first-is (starts_in (lists_of v) d) (w % 65536)
            (inr (
              in-positions d (w % 65536) (list_of (lists_of v) 0) m,
              λ s m. let u = up_from s m in omega arith,
            ))
