-- The search for the least match of a pattern, its predicates in turn. No contract cites this file.
--     Passed                   the predicates that hold: all but so many in turn
--     Tried                    where the search stands: these hold, and no match is in front of the positions
--     tried-turn               the predicate that is tried is one of the pattern's
--     tried-first              before the first predicate
--     tried_asks               what is asked of a predicate's row
--     Asks, predicate_asks     what is asked of it on the positions
--     tried-holds              a predicate holds
--     tried-held               a variable that must stay is left short
--     tried-jump, tried-out    a variable that is left short jumps; it finds no position
--     tried-done               all predicates hold
--     jumped-out, jumped-away, jumped-there     where a cursor has come to
--     slack                    what the positions still may move
-- Assumes nothing.
use Prim.Native.Nat.{ℕ, zero, suc, ◌+◌, ◌-◌, ◌*◌, ◌<◌, ◌≤◌, max}
use native.Mathlib.Omega.{arith}
use mathlib.Core.Path.{◌≡◌, refl, sym, ap, subst, ◌∙◌}
use mathlib.Core.Bool.{Bool, true, false, true≢false, cond}
use mathlib.Core.Logic.{◌⊎◌, inl, inr, ⊎_elim, ◌≢◌}
use mathlib.Core.List.{List, [], ◌∷◌}
use mathlib.Core.Option.{none, some}
use Rattle.std.proofs.Common.{Some, None}
use lib.ListN.{length, get_or, set, take, length-set}
use lib.Dec.{eqb}
use lib.Seq.{get_or-set_same, get_or-set_other, get_or-take, length-take-le}
use borrow.Author.Tests.{eqb-true, eqb-false}
use Rattle.seq.proofs.Laws.Tests.{below_or}
use Rattle.seq.proofs.Laws.Decides.{decided, eqb_decides}
use Rattle.volume.specs.declared.posting.Posting.{Posting}
use Rattle.volume.specs.Posting.{doc_of, pos_of}
use Rattle.volume.specs.Layout.{word, list_count, lists_of}
use Rattle.volume.specs.Check as volume
use Rattle.plan.specs.declared.row.Predicate.{Predicate}
use Rattle.plan.specs.declared.row.Predicate.TheVariants.{Window}
use Rattle.plan.specs.declared.row.Kind.{Kind}
use Rattle.plan.specs.declared.row.Kind.TheVariants as kind
use Rattle.plan.specs.Limits.{most_rows}
use Rattle.plan.specs.Rows.{row_count, row_at, form_wrong_at, InRange}
use Rattle.plan.specs.State.{names_below}
use Rattle.plan.specs.Accepted.{pattern_at, Given, WellMade}
use Rattle.plan.proofs.Laws.Accepted.{given}
use Rattle.plan.specs.declared.outline.Outline.{Outline}
use Rattle.matcher.specs.declared.cursor.Document.{Document}
use Rattle.matcher.specs.declared.cursor.Reached.{Reached}
use Rattle.fulltext.specs.Matches.{holds, starts_in}
use Rattle.fulltext.specs.Inner.Bounds.{least_from, HeldMatch}
use Rattle.fulltext.proofs.Laws.Positions.{lists-rise}
use Rattle.fulltext.proofs.Laws.Least.{unfound_from_iff}
use Rattle.matcher.specs.Inner.Shortfall.{InDocument, Largest, LeftShort}
use Rattle.matcher.specs.Inner.Cursors.{seek_from, Stretch, Arrived, list_end, AtDocument}
use Rattle.matcher.specs.Inner.Settling.{Jumped, Standing, Within, turned, Low, Posed}
use Rattle.matcher.specs.Inner.Order.{Order}
use Rattle.matcher.proofs.Laws.Cursors.{arrived-some, arrived-none}
use Rattle.matcher.proofs.Laws.Shortfall.{largest-tuple}
use Rattle.matcher.proofs.Laws.Settling.{low_first, low-done, low-var, low-before, low_needed, low-stretch, low_end, low-out, low-later, low_jump}

-- how far positions are from the end of a document, added up
abbrev pub slack : List ℕ → ℕ
slack [] = 0
slack (p ∷ ps) = (65536 - p) + slack ps

-- a position that moves on
slack-set : (ps : List ℕ) (x q : ℕ) → x < length ps → get_or ps x 0 < q → q ≤ 65535 → slack (set ps x q) < slack ps
slack-set [] x q h l m = absurd (let z : ⊥ = omega arith in z)
slack-set (p ∷ ps) zero q h l m = omega arith
slack-set (p ∷ ps) (suc x) q h l m = let r = slack-set ps x q (omega arith) l m in omega arith

-- a cursor that reaches position b of document d, or a later posting
module _ (v : List ℕ) (d e b x : ℕ) (here ps : List ℕ) (r : Reached) (a : Arrived v (d * 65536 + b) (get_or here x 0) e r) where
  -- it is at the list's end
  pub jumped-out : r.posting ≡ None → Jumped v d e b x here ps false here ps
  jumped-out h = (inl (rw (← a.at-is) (arrived-none a h)), (refl, refl))

  module _ (p : Posting) (h : r.posting ≡ Some p) where
    there-is : (r.at < e) × (p.bits ≡ word v r.at)
    there-is = arrived-some a h

    -- it is in another document
    pub jumped-away : doc_of p.bits ≢ d → Jumped v d e b x here ps false here ps
    jumped-away n = (inr (rw (← a.at-is) (there-is.0, λ q. n (ap doc_of there-is.1 ∙ q))), (refl, refl))

    -- it is in this one
    pub jumped-there : doc_of p.bits ≡ d → Jumped v d e b x here ps true (set here x r.at) (set ps x (pos_of p.bits))
    jumped-there q = rw (← a.at-is) (there-is.0, (ap doc_of (sym there-is.1) ∙ q, (refl, ap (λ (i : ℕ). set ps x i) (ap pos_of there-is.1))))

-- the predicate of a condition
abbrev condition_of : Kind → Predicate
condition_of (kind.Voice list) = Window 1
condition_of (kind.Condition c) = c
condition_of kind.End = Window 1
condition_of (kind.Operator o) = Window 1

-- of n in turn, j is not among the next `left` from `turn` on
abbrev Passed : ℕ → ℕ → ℕ → ℕ → Type 0
Passed n turn left j = (turn + left ≤ j) ⊎ ((j < turn) × (turn + left ≤ j + n))

-- the one that is next is passed: it is that one, or it was passed before
passed-next : (n turn left j : ℕ) → turn < n → 1 ≤ left → j < n → Passed n (turned turn n) (left - 1) j → (j ≡ turn) ⊎ Passed n turn left j
passed-next n turn left j h more l = go (eqb (turn + 1) n) refl
  where
    go : (t : Bool) → eqb (turn + 1) n ≡ t → Passed n (cond t 0 (turn + 1)) (left - 1) j → (j ≡ turn) ⊎ Passed n turn left j
    go true e q =
        let k = eqb-true (turn + 1) n e in
        ⊎_elim
        (λ (a : 0 + (left - 1) ≤ j). ⊎_elim (λ (b : j < turn). inr (inr (b, omega arith))) (λ (b : turn ≤ j). inl (omega arith)) (below_or j turn))
        (λ (a : (j < 0) × (0 + (left - 1) ≤ j + n)). absurd (let z : ⊥ = omega arith in z))
        q
    go false e q =
        ⊎_elim
        (λ (a : turn + 1 + (left - 1) ≤ j). inr (inl (omega arith)))
        (λ (a : (j < turn + 1) × (turn + 1 + (left - 1) ≤ j + n)). ⊎_elim (λ (b : j < turn). inr (inr (b, omega arith))) (λ (b : turn ≤ j). inl (omega arith)) (below_or j turn))
        q

-- none is passed where all are next
passed_none : (n turn j : ℕ) → j < n → Passed n turn n j → ⊥
passed_none n turn j h q = ⊎_elim (λ (a : turn + n ≤ j). let z : ⊥ = omega arith in z) (λ (a : (j < turn) × (turn + n ≤ j + n)). let z : ⊥ = omega arith in z) q

-- all are passed where none is next
passed-all : (n turn j : ℕ) → turn ≤ n → Passed n turn 0 j
passed-all n turn j h = ⊎_elim (λ (a : j < turn). inr (a, omega arith)) (λ (a : turn ≤ j). inl (omega arith)) (below_or j turn)

turned-below : (i n : ℕ) → i < n → turned i n < n
turned-below i n h = go (eqb (i + 1) n) refl
  where
    go : (t : Bool) → eqb (i + 1) n ≡ t → cond t 0 (i + 1) < n
    go true e = omega arith
    go false e = let k : (i + 1) ≢ n = eqb-false (i + 1) n e in omega arith

-- a position that moves on, and the largest
largest-set : (ps : List ℕ) (n x q m : ℕ) → x < n → x < length ps → get_or ps x 0 < q → Largest ps n m → Largest (set ps x q) n (max m q)
largest-set ps n x q m h l up g = record {
  most = λ y k. ⊎_elim (λ (e : y ≡ x). rw (e, get_or-set_same ps x q 0 l) (omega arith)) (λ (e : y ≢ x). rw (get_or-set_other ps x y q 0 e) (let a = g.most y k in omega arith)) (decided (eqb_decides y x));
  one = ⊎_elim
      (λ (a : m < q). (x, (h, get_or-set_same ps x q 0 l ∙ let e : q ≡ max m q = omega arith in e)))
      (λ (a : q ≤ m).
      let w = g.one in
      let at : get_or ps w.0 0 ≡ m = w.1.1 in
      let other : w.0 ≢ x = λ e. let z = ap (λ (i : ℕ). get_or ps i 0) e in omega arith in
      (w.0, (w.1.0, get_or-set_other ps x w.0 q 0 other ∙ at ∙ let e : m ≡ max m q = omega arith in e)))
      (below_or m q);
}

pub record Tried (v p : List ℕ) (o : Outline) (d held : ℕ) (here₀ ps₀ here ps : List ℕ) (largest turn left : ℕ) : Type 0 where
  pub most : left ≤ o.last - o.condition
  pub next : 1 ≤ o.last - o.condition → turn < o.last - o.condition
  pub here-within : Within o.vars here₀ here
  pub ps-within : Within o.vars ps₀ ps
  pub front : (x : ℕ) → x < held → get_or ps x 0 ≡ get_or ps₀ x 0
  pub low : Low v d (pattern_at p o.pattern) (take o.vars ps₀) here ps
  pub greatest : Largest ps o.vars largest
  pub holding : (j : ℕ) → j < o.last - o.condition → Passed (o.last - o.condition) turn left j
      → holds (starts_in (lists_of v) d) (get_or (pattern_at p o.pattern).predicates j (Window 1)) (take o.vars ps) ≡ true

-- the predicate that is tried is one of the pattern's
pub tried-turn : {v p : List ℕ} {o : Outline} {d held : ℕ} {here₀ ps₀ here ps : List ℕ} {largest turn left : ℕ} → Tried v p o d held here₀ ps₀ here ps largest turn left → 1 ≤ left → turn < o.last - o.condition
tried-turn m h = let l = m.most in m.next (omega arith)

-- what is asked of a predicate on the positions of a pattern
pub record Asks (v : List ℕ) (doc : Document) (vars ps : List ℕ) (most : ℕ) (c : Predicate) : Type 0 where
  pub accepted : volume.Accepted v
  pub at_document : AtDocument v doc
  pub in_document : InDocument ps
  pub names : names_below (length ps) c ≡ true
  pub range : InRange (kind.Condition c)
  pub order : Order (length ps) vars
  pub largest : Largest ps (length ps) most

module _ (v p : List ℕ) (o : Outline) (doc : Document) (ends : List ℕ) (q : Posed v p o doc ends) where
  abbrev k : ℕ
  k = o.pattern

  abbrev n : ℕ
  n = o.vars

  abbrev condition : ℕ
  condition = o.condition

  abbrev last : ℕ
  last = o.last

  abbrev d : ℕ
  d = doc.doc

  g : Given v p
  g = given v p q.accepted

  made : WellMade (list_count v) (pattern_at p k)
  made = g.well-made k q.pattern

  ok : volume.Accepted v
  ok = g.volume-accepted

  there : (x : ℕ) → x < length (pattern_at p k).vars → get_or (pattern_at p k).vars x 0 < list_count v
  there x h = (made.lists x h).1

  many : n ≡ length (pattern_at p k).vars
  many = q.outlines.vars_are

  abbrev count : ℕ
  count = last - condition

  count-is : count ≡ length (pattern_at p k).predicates
  count-is = let e = q.outlines.last-is in omega arith

  pub some-vars : 1 ≤ n
  some-vars = let a = made.some-vars in let e = many in omega arith

  pub few-vars : n ≤ 8
  few-vars = let a = made.most-vars in let e = many in omega arith

  pub tried-first : (held : ℕ) (here₀ ps₀ : List ℕ) → n ≤ length ps₀ → Standing v d (pattern_at p k) here₀ ps₀ → (largest : ℕ) → Largest ps₀ n largest
      → Tried v p o doc.doc held here₀ ps₀ here₀ ps₀ largest 0 count
  tried-first held here₀ ps₀ room l largest great = record {
    most = omega arith;
    next = λ h. h;
    here-within = record { same_length = refl; rest = λ x h. refl };
    ps-within = record { same_length = refl; rest = λ x h. refl };
    front = λ x h. refl;
    low = rw many (low_first v ok d (pattern_at p k) there here₀ ps₀ (let e = many in omega arith) l);
    greatest = great;
    holding = λ j h w. absurd (passed_none count 0 j h w);
  }

  -- the rows of the predicates
  pub tried-last : last ≤ most_rows
  tried-last = let a = q.outlines.inside in let b = g.most-rows in omega arith

  module _ (turn : ℕ) (l : turn < count) where
    inside : turn < length (pattern_at p k).predicates
    inside = let e = count-is in omega arith

    row_is : (row_at p (condition + turn)).kind ≡ kind.Condition (get_or (pattern_at p k).predicates turn (Window 1))
    row_is = q.outlines.conditions turn inside

    pub tried_asks : (condition + turn < row_count p) × ((form_wrong_at p (condition + turn) ≡ false) × ((c : Predicate) × ((row_at p (condition + turn)).kind ≡ kind.Condition c)))
    tried_asks = let a = q.outlines.inside in (omega arith, (g.formed (condition + turn) (omega arith), (get_or (pattern_at p k).predicates turn (Window 1), row_is)))

    module _ (c : Predicate) (e : (row_at p (condition + turn)).kind ≡ kind.Condition c) where
      predicate-is : c ≡ get_or (pattern_at p k).predicates turn (Window 1)
      predicate-is = ap condition_of (sym e ∙ row_is)

      predicate-names : names_below n c ≡ true
      predicate-names = rw (many, predicate-is) (made.names turn inside)

      predicate-range : InRange (kind.Condition c)
      predicate-range = rw predicate-is (made.ranges turn inside)

      module _ (held : ℕ) (here₀ ps₀ here ps : List ℕ) (largest left : ℕ) (m : Tried v p o doc.doc held here₀ ps₀ here ps largest turn left) where
        -- what is asked of its predicate
        module _ (room : n ≤ length ps₀) where
          ps-there : n ≤ length ps
          ps-there = let w = m.ps-within.same_length in omega arith

          tuple-size : length (take n ps) ≡ n
          tuple-size = length-take-le n ps ps-there

          pub predicate_asks : (order : List ℕ) → Order n order → Asks v doc order (take n ps) largest c
          predicate_asks order ordered = record {
            accepted = ok;
            at_document = q.document;
            in_document = λ x s.
                let e = tuple-size in
                let t = get_or-take n ps x 0 (omega arith) in
                let l = (m.low.standing x (let k = many in omega arith)).small in
                omega arith;
            names = rw tuple-size predicate-names;
            range = predicate-range;
            order = rw tuple-size ordered;
            largest = largest-tuple ps n largest ps-there m.greatest;
          }

        pub tried-holds : 1 ≤ left → holds (starts_in (lists_of v) d) c (take n ps) ≡ true → Tried v p o doc.doc held here₀ ps₀ here ps largest (turned turn count) (left - 1)
        tried-holds more t = record {
          most = let a = m.most in omega arith;
          next = λ h. turned-below turn count l;
          here-within = m.here-within;
          ps-within = m.ps-within;
          front = m.front;
          low = m.low;
          greatest = m.greatest;
          holding = λ j s w. ⊎_elim (λ (a : j ≡ turn). rw (a, ← predicate-is) t) (λ (a : Passed count turn left j). m.holding j s a) (passed-next count turn left j l more s w);
        }

        module _ (room : n ≤ length here₀) (room-ps : n ≤ length ps₀) (x b : ℕ) (short : LeftShort (starts_in (lists_of v) d) c (take n ps) x b) where
          here-room : length (pattern_at p k).vars ≤ length here
          here-room = let e = many in let w = m.here-within.same_length in omega arith

          ps-room : length (pattern_at p k).vars ≤ length ps
          ps-room = let e = many in let w = m.ps-within.same_length in omega arith

          left-short : LeftShort (starts_in (lists_of v) d) (get_or (pattern_at p k).predicates turn (Window 1)) (take (length (pattern_at p k).vars) ps) x b
          left-short = subst (λ (i : ℕ). LeftShort (starts_in (lists_of v) d) (get_or (pattern_at p k).predicates turn (Window 1)) (take i ps) x b) many (subst (λ (r : Predicate). LeftShort (starts_in (lists_of v) d) r (take n ps) x b) predicate-is short)

          pub jump-var : x < n
          jump-var = let w = low-var v ok d (pattern_at p k) there (take n ps₀) here ps ps-room here-room m.low turn inside x b left-short in let e = many in omega arith

          the_end : get_or ends x 0 ≡ list_end v (get_or (pattern_at p k).vars x 0)
          the_end = q.ends_are x jump-var

          pub jump-stretch : Stretch v (get_or here x 0) (get_or ends x 0)
          jump-stretch = rw the_end (low-stretch v ok d (pattern_at p k) there (take n ps₀) here ps ps-room here-room m.low turn inside x b left-short _ refl)

          -- a variable that must stay is left short: no match has it there
          pub tried-held : x < held → (ps' : List ℕ) → HeldMatch (lists_of v) d (pattern_at p k) (take n ps₀) held false ps'
          tried-held h ps' = record {
            least = λ t. absurd (true≢false (sym t));
            same = λ t. absurd (true≢false (sym t));
            missed = λ t qs w same.
                let a = low_needed v ok d (pattern_at p k) there (take n ps₀) here ps ps-room here-room m.low turn inside x b left-short qs w in
                let c = low-before v ok d (pattern_at p k) there (take n ps₀) here ps ps-room here-room m.low turn inside x b left-short in
                let e = m.front x h in
                let s = same x h in
                let i = get_or-take n ps₀ x 0 jump-var in
                omega arith;
          }

          -- a variable that finds no position
          pub tried-out : (here' ps' : List ℕ) → Jumped v d (get_or ends x 0) b x here ps false here' ps' → (qs : List ℕ) → HeldMatch (lists_of v) d (pattern_at p k) (take n ps₀) held false qs
          tried-out here' ps' j qs = record {
            least = λ t. absurd (true≢false (sym t));
            same = λ t. absurd (true≢false (sym t));
            missed = λ t rs w same. (unfound_from_iff (lists_of v) (lists-rise v ok) d (pattern_at p k) (take n ps₀)).0 nothing rs w;
          }
            where
              out : get_or ends x 0 ≤ seek_from v (d * 65536 + b) (get_or here x 0) (get_or ends x 0) → least_from (lists_of v) d (pattern_at p k) (take n ps₀) ≡ none
              out o = low_end v ok d (pattern_at p k) there (take n ps₀) here ps ps-room here-room m.low turn inside x b left-short _ refl (rw (← the_end) o)

              away : (seek_from v (d * 65536 + b) (get_or here x 0) (get_or ends x 0) < get_or ends x 0) × (doc_of (word v (seek_from v (d * 65536 + b) (get_or here x 0) (get_or ends x 0))) ≡ d → ⊥) → least_from (lists_of v) d (pattern_at p k) (take n ps₀) ≡ none
              away o = low-out v ok d (pattern_at p k) there (take n ps₀) here ps ps-room here-room m.low turn inside x b left-short _ refl (rw (← the_end) o.0) (λ e. o.1 (rw the_end e))

              nothing : least_from (lists_of v) d (pattern_at p k) (take n ps₀) ≡ none
              nothing = ⊎_elim out away j.0

          pub tried-jump : held ≤ x → (here' ps' : List ℕ) → Jumped v d (get_or ends x 0) b x here ps true here' ps' → Tried v p o doc.doc held here₀ ps₀ here' ps' (max largest (get_or ps' x 0)) turn count × (slack ps' < slack ps)
          tried-jump free here' ps' j = (
            record {
              most = omega arith;
              next = λ h. l;
              here-within = record { same_length = ap length j.1.1.0 ∙ length-set here x _ ∙ m.here-within.same_length; rest = λ y h. rw j.1.1.0 (get_or-set_other here x y _ 0 (λ z. let w = jump-var in let t : ⊥ = omega arith in t) ∙ m.here-within.rest y h) };
              ps-within = record { same_length = ap length j.1.1.1 ∙ length-set ps x _ ∙ m.ps-within.same_length; rest = λ y h. rw j.1.1.1 (get_or-set_other ps x y _ 0 (λ z. let w = jump-var in let t : ⊥ = omega arith in t) ∙ m.ps-within.rest y h) };
              front = λ y h. rw j.1.1.1 (get_or-set_other ps x y _ 0 (λ z. let w : ⊥ = omega arith in w) ∙ m.front y h);
              low = rw (j.1.1.0, j.1.1.1) (low_jump v ok d (pattern_at p k) there (take n ps₀) here ps ps-room here-room m.low turn inside x b left-short (seek_from v (d * 65536 + b) (get_or here x 0) (get_or ends x 0)) (rw the_end refl) (rw (← the_end) j.0) j.1.0);
              greatest = rw (j.1.1.1, get_or-set_same ps x pos 0 there-ps) (largest-set ps n x pos largest jump-var there-ps later m.greatest);
              holding = λ i s w. absurd (passed_none count turn i s w);
            },
            less,
          )
            where
              pos : ℕ
              pos = pos_of (word v (seek_from v (d * 65536 + b) (get_or here x 0) (get_or ends x 0)))

              there-ps : x < length ps
              there-ps = let w = m.ps-within.same_length in let y = jump-var in omega arith

              later : get_or ps x 0 < pos
              later = low-later v ok d (pattern_at p k) there (take n ps₀) here ps ps-room here-room m.low turn inside x b left-short (seek_from v (d * 65536 + b) (get_or here x 0) (get_or ends x 0)) (rw the_end refl) (rw (← the_end) j.0) j.1.0

              less : slack ps' < slack ps
              less = rw j.1.1.1 (slack-set ps x pos there-ps later (omega arith))

  pub tried-done : (held : ℕ) (here₀ ps₀ here ps : List ℕ) (largest turn left : ℕ) → held ≤ n → n ≤ length ps₀ → Tried v p o doc.doc held here₀ ps₀ here ps largest turn left → left ≤ 0 → HeldMatch (lists_of v) d (pattern_at p k) (take n ps₀) held true (take n ps)
  tried-done held here₀ ps₀ here ps largest turn left few room m h = record {
    least = λ t.
        low-done v ok d (pattern_at p k) there (take n ps₀) here ps (length-take-le n ps₀ room ∙ many) (let e = many in let w = m.ps-within.same_length in omega arith) m.low
        (λ j s. subst (λ (i : ℕ). holds (starts_in (lists_of v) d) (get_or (pattern_at p k).predicates j (Window 1)) (take i ps) ≡ true) many (all j (let e = count-is in omega arith)))
        ∙ ap (λ (i : ℕ). some (take i ps)) (sym many);
    same = λ t x l. get_or-take n ps x 0 (omega arith) ∙ m.front x l ∙ sym (get_or-take n ps₀ x 0 (omega arith));
    missed = λ t. absurd (true≢false t);
  }
    where
      none_left : left ≡ 0
      none_left = omega arith

      all : (j : ℕ) → j < count → holds (starts_in (lists_of v) d) (get_or (pattern_at p k).predicates j (Window 1)) (take n ps) ≡ true
      all j s = m.holding j s (rw none_left (passed-all count turn j (let w = m.next (omega arith) in omega arith)))
