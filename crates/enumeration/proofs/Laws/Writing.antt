-- How matches are written one behind another. No contract cites this file.
--     put-length, put-at               positions stored at the front of a list
--     stepped                          the bounds behind a match
--     padded-zeros                     a tuple in front of zeros
--     fits_more                        one more of n words fits
--     mark-later, match-marked         marks in front of larger bounds; the cursors at a match are marks in front of the bounds behind it
--     Writing                          so many matches are written, and those left are the matches from the bounds on
--     room-count                       no more are written than fit
--     next_small                       the positions of the next match are those of a document
--     begins, wrote, stops, ends_there     before the first; one more; MORE; DONE
--     wrote_kept                       what the call promises, from the page and the words
-- Assumes nothing.
use Prim.Native.Nat.{ℕ, zero, suc, ◌+◌, ◌-◌, ◌*◌, ◌/◌, ◌<◌, ◌≤◌}
use native.Mathlib.Nat.{zero-mul, add-mul, one-mul, le-div_iff_mul-le}
use native.Mathlib.Omega.{arith}
use mathlib.Core.Path.{◌≡◌, refl, sym, ap, ap₂, subst, ◌∙◌}
use mathlib.Core.Bool.{true}
use mathlib.Core.Logic.{⊎_elim}
use mathlib.Core.List.{List, [], ◌∷◌, ◌++◌, append-nil}
use mathlib.Core.Option.{Option, none, some}
use lib.ListN.{length, get_or, set, take, drop, replicate, length-set, length-append, length-drop, drop_of_length-le}
use lib.Seq.{get_or-set_same, get_or-set_other, get_or-take, length-take-le, take_at, take_all, take-suc, drop-cons}
use Rattle.seq.specs.Lists.{joined, first, rises}
use Rattle.seq.specs.Refusals.{answered}
use Rattle.seq.proofs.Laws.Decides as decides
use Rattle.seq.proofs.Laws.Tests.{below_or}
use Rattle.seq.proofs.Laws.Lists.{joined_append}
use Rattle.seq.proofs.Laws.Stores.{put-over}
use Rattle.seq.proofs.Laws.Members.{Every, every_take, joined-even}
use Rattle.volume.specs.Layout.{lists_of}
use Rattle.plan.specs.declared.outline.Outline.{Outline}
use Rattle.plan.specs.Patterns.{Pattern}
use Rattle.plan.specs.Check.{sizes}
use Rattle.plan.specs.Accepted.{pattern_at}
use Rattle.fulltext.specs.Positions.{list_of}
use Rattle.fulltext.specs.Order.{matches_from}
use Rattle.fulltext.proofs.Laws.Enumeration.{behind-next}
use Rattle.matcher.specs.declared.cursor.Document.{Document}
use Rattle.matcher.specs.Inner.Shortfall.{InDocument}
use Rattle.matcher.specs.Inner.Settling.{Standing}
use Rattle.matcher.proofs.Laws.Range.{range_small}
use Rattle.matcher.proofs.Laws.Testing.{small_decides}
use Rattle.enumeration.specs.Answers.{Page, padded}
use Rattle.enumeration.specs.Enumerating.{next_by, matches_of, page_of, words_of, matches_answer}
use Rattle.enumeration.specs.Enumeration.{Kept}
use Rattle.enumeration.specs.Inner.Attempts.{Mark, Marked, Sought, Stepped}
use Rattle.enumeration.proofs.Laws.Attempts.{posed-vars, posed-some, posed-few, posed-rise, whole-stretch}
use Rattle.enumeration.proofs.Laws.Matches as matches
use Rattle.enumeration.proofs.Laws.Enumerating.{matched-page, told-page}

-- n positions stored at the front of d
module _ (ps d : List ℕ) (n : ℕ) (size : length ps ≡ n) (l : n ≤ length d) where
  put-length : length (ps ++ drop n d) ≡ length d
  put-length = length-append ps (drop n d) ∙ (let b = length-drop n d in omega arith)

  pub put-at : (x : ℕ) → x < n → get_or (ps ++ drop n d) x 0 ≡ get_or ps x 0
  put-at x k = sym (get_or-take n (ps ++ drop n d) x 0 k) ∙ ap (λ (xs : List ℕ). get_or xs x 0) (take_at ps (drop n d) n size)

pub stepped : (ps d : List ℕ) (n : ℕ) → 1 ≤ n → n ≤ length ps → n ≤ length d → (front : List ℕ) → front ≡ take n ps
    → Stepped ps n d (set (front ++ drop n d) (n - 1) (get_or (front ++ drop n d) (n - 1) 0 + 1))
stepped ps d n vars h l front is = record {
  same_length = length-set e (n - 1) (get_or e (n - 1) 0 + 1) ∙ put-length front d n size l;
  front = λ x k. get_or-set_other e (n - 1) x (get_or e (n - 1) 0 + 1) 0 (λ q. omega arith) ∙ value x (omega arith);
  last = λ x k.
      let q : x ≡ n - 1 = omega arith in
      rw q (get_or-set_same e (n - 1) (get_or e (n - 1) 0 + 1) 0 (let a = put-length front d n size l in omega arith) ∙ ap (λ (i : ℕ). i + 1) (value (n - 1) (omega arith)));
}
  where
    e : List ℕ
    e = front ++ drop n d

    size : length front ≡ n
    size = ap length is ∙ length-take-le n ps h

    value : (x : ℕ) → x < n → get_or e x 0 ≡ get_or ps x 0
    value x k = put-at front d n size l x k ∙ ap (λ (xs : List ℕ). get_or xs x 0) is ∙ get_or-take n ps x 0 k

drop-zeros : (n m : ℕ) → drop {A = ℕ} n (replicate m 0) ≡ replicate (m - n) 0
drop-zeros zero m = ap (λ (i : ℕ). replicate i 0) (let e : m ≡ m - 0 = omega arith in e)
drop-zeros (suc n) zero = ap (λ (i : ℕ). replicate i 0) (let e : 0 ≡ 0 - suc n = omega arith in e)
drop-zeros (suc n) (suc m) = drop-zeros n m ∙ ap (λ (i : ℕ). replicate i 0) (let e : m - n ≡ suc m - suc n = omega arith in e)

pub padded-zeros : (ps : List ℕ) (n : ℕ) → length ps ≡ n → ps ++ drop n (replicate 8 0) ≡ padded ps
padded-zeros ps n e = ap (λ (xs : List ℕ). ps ++ xs) (drop-zeros n 8 ∙ ap (λ (i : ℕ). replicate (8 - i) 0) (sym e))

nothing-first : (qs : List (List ℕ)) → first qs ≡ none → qs ≡ []
nothing-first [] e = refl
nothing-first (q ∷ qs) e = let z : ◌≡◌ {A = ℕ} 0 1 = cc in absurd (let w : ⊥ = omega arith in w)

one-joined : (q : List ℕ) → q ≡ joined (q ∷ [])
unfolding joined
one-joined q = sym (append-nil q)

pub fits_more : (count n m : ℕ) → 1 ≤ n → count < m / n → count * n + n ≤ m
fits_more count n m h l =
    let a : (count + 1) * n ≤ m = (le-div_iff_mul-le h).0 (let z : count + 1 ≤ m / n = omega arith in z) in
    let b = add-mul count 1 n in
    let c = one-mul n in
    omega arith

mark-later : (v : List ℕ) (l d b c i : ℕ) → b ≤ c → Mark v l d b i → Mark v l d c i
mark-later v l d b c i h m = record { from = m.from; to = m.to; behind = λ j a k. let r = m.behind j a k in omega arith }

-- the first `count` matches are written, and those left are the matches from lows on
pub record Writing (v : List ℕ) (d : ℕ) (f : Pattern) (n : ℕ) (from out₀ lows marks out : List ℕ) (count : ℕ) : Type 0 where
  pub lows-length : length lows ≡ 8
  pub small : (x : ℕ) → x < n → get_or lows x 0 ≤ 65536
  pub marked : Marked v d f lows marks
  pub left : matches_from (lists_of v) d f (take n lows) ≡ drop count (matches_from (lists_of v) d f from)
  pub within : count ≤ length (matches_from (lists_of v) d f from)
  pub room : count * n ≤ length out₀
  pub laid : out ≡ joined (take count (matches_from (lists_of v) d f from)) ++ drop (count * n) out₀

module _ (v p : List ℕ) (o : Outline) (doc : Document) (order firsts ends : List ℕ)
    (s : Sought v p o doc order firsts ends) (from out₀ : List ℕ) where
  abbrev d : ℕ
  d = doc.doc

  abbrev f : Pattern
  f = pattern_at p o.pattern

  abbrev n : ℕ
  n = o.vars

  abbrev all : List (List ℕ)
  all = matches_from (lists_of v) d f from

  many : n ≡ length f.vars
  many = posed-vars v p o doc ends s.posed

  up : (l : ℕ) → rises (list_of (lists_of v) l) ≡ true
  up = posed-rise v p o doc ends s.posed

  some-vars : 1 ≤ n
  some-vars = posed-some v p o doc ends s.posed

  even : Every (λ (q : List ℕ). length q ≡ n) all
  unfolding matches_of
  even = rw many (matches.even v p s.posed.accepted o.pattern d from)

  -- the cursors at a match are marks in front of the bounds behind it
  match-marked : (here ps lows lows' : List ℕ) → Standing v d f here ps → Stepped ps n lows lows' → Marked v d f lows' here
  match-marked here ps lows lows' t w x h = record {
    from = (t.each x h).from;
    to = let a = (t.each x h).inside in omega arith;
    behind = λ j a b.
        let r = (whole-stretch v p o doc ends s.posed x h).rising j (get_or here x 0) a b (t.each x h).inside in
        let e = (t.each x h).word-is in
        let g : get_or ps x 0 ≤ get_or lows' x 0 = ⊎_elim
        (λ (k : x + 1 < n). let z = w.front x k in omega arith)
        (λ (k : n ≤ x + 1). let z = w.last x (let q = many in omega arith) in omega arith)
        (below_or (x + 1) n) in
        omega arith;
  }

  pub begins : (lows : List ℕ) → length from ≡ n → n ≤ 8 → InDocument from → lows ≡ from ++ drop n (replicate 8 0) → Writing v d f n from out₀ lows firsts out₀ 0
  unfolding joined
  begins lows e m inside is = record {
    lows-length = ap length is ∙ put-length from (replicate 8 0) n e m;
    small = λ x h.
        let k = ap (λ (xs : List ℕ). get_or xs x 0) is ∙ put-at from (replicate 8 0) n e m x h in
        let g = inside x (omega arith) in
        omega arith;
    marked = λ x h. mark-later v (get_or f.vars x 0) d 0 (get_or lows x 0) (get_or firsts x 0) (omega arith) (s.firsts_are x (let q = many in omega arith));
    left = ap (matches_from (lists_of v) d f) (ap (take n) is ∙ take_at from (drop n (replicate 8 0)) n e);
    within = omega arith;
    room = let z = zero-mul n in omega arith;
    laid = ap (λ (i : ℕ). drop i out₀) (sym (zero-mul n));
  }

  module _ (lows marks out : List ℕ) (count : ℕ) (g : Writing v d f n from out₀ lows marks out count) where
    words : length (joined (take count all)) ≡ count * n
    words = joined-even n (take count all) (every_take (λ (q : List ℕ). length q ≡ n) count all even) ∙ ap (λ (i : ℕ). i * n) (length-take-le count all g.within)

    pub room-count : count ≤ length out₀ / n
    room-count = (le-div_iff_mul-le some-vars).1 g.room

    -- the next match is sought: positions ps'
    module _ (ps' : List ℕ) (long : length ps' ≡ 8) (e : first (matches_from (lists_of v) d f (take n lows)) ≡ some (take n ps')) where
      more : count < length all
      more = ⊎_elim (λ (h : count < length all). h) (λ (h : length all ≤ count). absurd (nothing h)) (below_or count (length all))
        where
          empty : (qs : List (List ℕ)) → length qs ≡ 0 → first qs ≡ some (take n ps') → ⊥
          empty [] l q = let z : ◌≡◌ {A = ℕ} 0 1 = cc in omega arith
          empty (x ∷ qs) l q = omega arith

          nothing : length all ≤ count → ⊥
          nothing h = empty (drop count all) (let a = length-drop count all in omega arith) (ap first (sym g.left) ∙ e)

      the-next : get_or all count [] ≡ take n ps'
      the-next = same (ap first (sym (drop-cons all count [] more) ∙ sym g.left) ∙ e)
        where
          same : some (get_or all count []) ≡ some (take n ps') → get_or all count [] ≡ take n ps'
          same q = cc

      -- its positions are those of a document
      pub next_small : (x : ℕ) → x < n → get_or ps' x 0 ≤ 65535
      unfolding matches_of
      next_small x h =
          let w : InDocument (take n ps') = subst InDocument the-next (matches.match-small v p s.posed.accepted o.pattern d from count more) in
          let b = w x (let q = length-take-le n ps' (let k = posed-few v p o doc ends s.posed in omega arith) in omega arith) in
          let a = get_or-take n ps' x 0 h in
          omega arith

      pub wrote : n ≤ 8 → (here' marks' : List ℕ) → Standing v d f here' ps' → ((x : ℕ) → x < n → get_or marks' x 0 ≡ get_or here' x 0) → count < length out₀ / n → (out' lows'' lows' : List ℕ)
          → out' ≡ take (count * n) out ++ take n ps' ++ drop (count * n + n) out → length lows'' ≡ length lows → Stepped ps' n lows'' lows'
          → Writing v d f n from out₀ lows' marks' out' (count + 1)
      wrote few here' marks' stands same r out' lows'' lows' put kept s' = record {
        lows-length = lows-long;
        small = λ x h.
            ⊎_elim
            (λ (k : x + 1 < n). let a = s'.front x k in let b = next_small x h in omega arith)
            (λ (k : n ≤ x + 1). let a = s'.last x (omega arith) in let b = next_small x h in omega arith)
            (below_or (x + 1) n);
        marked = λ x h.
            subst (λ (i : ℕ). Mark v (get_or f.vars x 0) d (get_or lows' x 0) i) (sym (same x (let q = many in omega arith)))
            (match-marked here' ps' lows'' lows' stands s' x h);
        left = rest;
        within = let a = more in omega arith;
        room = (le-div_iff_mul-le some-vars).0 (omega arith);
        laid =
            put
            ∙ ap (λ (xs : List ℕ). take (count * n) xs ++ take n ps' ++ drop (count * n + n) xs) g.laid
            ∙ put-over (joined (take count all)) out₀ (take n ps') (count * n) n words
            ∙ ap₂ (λ (xs : List ℕ) (i : ℕ). xs ++ drop i out₀) more-joined more-words;
      }
        where
          lows-long : length lows' ≡ 8
          lows-long = s'.same_length ∙ kept ∙ g.lows-length

          size-next : length (take n lows') ≡ length f.vars
          size-next = length-take-le n lows' (let a = lows-long in omega arith) ∙ many

          split : matches_from (lists_of v) d f (take n lows) ≡ take n ps' ∷ matches_from (lists_of v) d f (take n lows')
          split =
              behind-next (lists_of v) up d f (take n lows) (take n ps') (take n lows') (n - 1) (let a = many in let b = some-vars in omega arith) e size-next
              (λ x h. get_or-take n lows' x 0 (omega arith) ∙ s'.front x (omega arith) ∙ sym (get_or-take n ps' x 0 (omega arith)))
              (let b = some-vars in
              get_or-take n lows' (n - 1) 0 (omega arith) ∙ s'.last (n - 1) (omega arith) ∙ ap (λ (i : ℕ). i + 1) (sym (get_or-take n ps' (n - 1) 0 (omega arith))))

          rest : matches_from (lists_of v) d f (take n lows') ≡ drop (count + 1) all
          rest = ap (drop 1) (sym split ∙ g.left ∙ drop-cons all count [] more) ∙ ap (λ (i : ℕ). drop i all) (let q : suc count ≡ count + 1 = omega arith in q)

          more-joined : joined (take count all) ++ take n ps' ≡ joined (take (count + 1) all)
          more-joined =
              ap (λ (xs : List ℕ). joined (take count all) ++ xs) (one-joined (take n ps') ∙ ap (λ (q : List ℕ). joined (q ∷ [])) (sym the-next))
              ∙ sym (joined_append (take count all) (get_or all count [] ∷ []))
              ∙ ap joined (sym (take-suc all count [] more) ∙ ap (λ (i : ℕ). take i all) (let q : suc count ≡ count + 1 = omega arith in q))

          more-words : count * n + n ≡ (count + 1) * n
          more-words = let a = add-mul count 1 n in let b = one-mul n in omega arith

      -- MORE: no further match fits
      pub stops : count ≡ length out₀ / n → (front : List ℕ) → front ≡ take n ps'
          → (page_of (length out₀ / n) all ≡ record { count = count; next = some (front ++ drop n (replicate 8 0)) })
          × (out ≡ words_of (length out₀ / n) all ++ drop (length (words_of (length out₀ / n) all)) out₀)
      unfolding page_of words_of
      stops r front is = rw (← r, is, padded-zeros (take n ps') n (length-take-le n ps' (let q = posed-few v p o doc ends s.posed in omega arith))) (
        ap₂ (λ (i : ℕ) (l : Option (List ℕ)). record { count = i; next = next_by l }) (length-take-le count all g.within) (ap first (sym g.left) ∙ e),
        g.laid ∙ ap (λ (i : ℕ). joined (take count all) ++ drop i out₀) (sym words),
      )

    -- DONE: none is left
    pub ends_there : first (matches_from (lists_of v) d f (take n lows)) ≡ none
        → (page_of (length out₀ / n) all ≡ record { count = count; next = none })
        × (out ≡ words_of (length out₀ / n) all ++ drop (length (words_of (length out₀ / n) all)) out₀)
    unfolding page_of words_of
    ends_there e = (
      ap₂ (λ (i : ℕ) (l : Option (List ℕ)). record { count = i; next = next_by l }) (ap length whole ∙ length-take-le count all g.within) (ap first (over (length out₀ / n) room-count)),
      g.laid ∙ ap₂ (λ (qs : List (List ℕ)) (i : ℕ). joined qs ++ drop i out₀) (sym whole) (sym words ∙ ap (λ (qs : List (List ℕ)). length (joined qs)) (sym whole)),
    )
      where
        last : length all ≤ count
        last = let a = ap length (sym g.left ∙ nothing-first (matches_from (lists_of v) d f (take n lows)) e) in let b = length-drop count all in omega arith

        whole_by : (m : ℕ) → count ≤ m → take m all ≡ all
        whole_by m h = take_all m all (let a = last in omega arith)

        whole : take (length out₀ / n) all ≡ take count all
        whole = whole_by (length out₀ / n) room-count ∙ sym (whole_by count (omega arith))

        over : (m : ℕ) → count ≤ m → drop m all ≡ []
        over m h = let z : length all ≤ m = let a = last in omega arith in drop_of_length-le all z

  -- what the call promises, from the page and the words
  module _ (number : length from ≡ n) (inside : InDocument from) (room : n ≤ length out₀) where
    answer-is : matches_answer v p o.pattern d from (length out₀) ≡ answered (page_of (length out₀ / n) all)
    unfolding matches_of
    answer-is =
        let q = s.posed in
        let fine = range_small (sizes p).patterns o.pattern f d from q.pattern (number ∙ many) q.document.small true (decides.holds (small_decides from) inside) in
        matched-page v p o.pattern d from (length out₀) (sizes p) q.accepted fine (let e = many in omega arith)
        ∙ ap (λ (i : ℕ). answered (page_of (length out₀ / i) all)) (sym many)

    pub wrote_kept : (back : List ℕ) (page : Page) → (page_of (length out₀ / n) all ≡ page) × (back ≡ words_of (length out₀ / n) all ++ drop (length (words_of (length out₀ / n) all)) out₀)
        → Kept v p o.pattern d from (record { lent = out₀; says = answered page; back = back })
    unfolding matches_of
    wrote_kept back page w =
        told-page v p o.pattern d from out₀ back page (answer-is ∙ ap answered w.0)
        (w.1 ∙ ap (λ (i : ℕ). words_of (length out₀ / i) all ++ drop (length (words_of (length out₀ / i) all)) out₀) many)
