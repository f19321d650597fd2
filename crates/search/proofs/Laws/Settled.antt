-- A pattern that stands in a document and is settled there. No contract cites this file.
--     ready-within, ready-first               its variables are among those of the plan; the buffers reach its first one
--     ready-order, ready-posed, ready-standing     what its parts of the buffers have: an order, the ends of its lists, its cursors
--     settled-bare                            without predicates it is found where it stands
--     settled-moved                           its cursors are brought to its least match, or there is none
-- Assumes nothing.
use Prim.Native.Nat.{ℕ, ◌+◌, ◌-◌, ◌*◌, ◌<◌, ◌≤◌}
use native.Mathlib.Omega.{arith}
use mathlib.Core.Path.{◌≡◌, refl, sym, ap, subst, ◌∙◌}
use mathlib.Core.Bool.{Bool, true, false, true≢false}
use mathlib.Core.List.{List, []}
use mathlib.Core.Option.{some}
use lib.ListN.{length, get_or, take, drop, length-drop}
use lib.Seq.{get_or-drop, length-take-le}
use Rattle.seq.specs.Lists.{rises}
use Rattle.volume.specs.Layout.{word, list_count, start, lists_of}
use Rattle.plan.specs.declared.outline.Outline.{Outline}
use Rattle.plan.specs.Patterns.{Pattern}
use Rattle.plan.specs.Check.{sizes}
use Rattle.plan.specs.Accepted.{pattern_at, Given, WellMade}
use Rattle.plan.specs.Inner.Outline.{vars_before}
use Rattle.plan.proofs.Laws.Accepted.{given}
use Rattle.plan.proofs.Laws.Outline.{vars-within}
use Rattle.fulltext.specs.Positions.{list_of}
use Rattle.fulltext.specs.Matches.{least_in}
use Rattle.fulltext.specs.Documents.{present, found}
use Rattle.fulltext.specs.Inner.Bounds.{least_from, HeldMatch}
use Rattle.fulltext.proofs.Laws.Positions.{lists-rise}
use Rattle.fulltext.proofs.Laws.Least.{least_from-all, unfound_from_iff}
use Rattle.matcher.specs.declared.cursor.Document.{Document}
use Rattle.matcher.specs.Inner.Cursors.{list_end, Stands}
use Rattle.matcher.specs.Inner.Tables.{var_at}
use Rattle.matcher.specs.Inner.Order.{Order}
use Rattle.matcher.specs.Inner.Settling.{AtPos, Standing, Within, given_if, Posed}
use Rattle.matcher.proofs.Laws.Volume.{list-stretch}
use Rattle.matcher.proofs.Laws.Placed.{var_at-is}
use Rattle.matcher.proofs.Laws.Settling.{first-low, low_first, low-done}
use Rattle.search.specs.Inner.Walk.{Among, Stood, Ready, Settled}
use Rattle.search.proofs.Laws.Lent.{lent, lent-whole, lent_length, back, back-drop, back-length, back-others}

-- a search in which no variable is held gives the least match, or nothing
held-least : (lists : List (List ℕ)) → ((l : ℕ) → rises (list_of lists l) ≡ true) → (d : ℕ) (f : Pattern) (ls : List ℕ) (r : Bool) (ps : List ℕ) → HeldMatch lists d f ls 0 r ps → least_from lists d f ls ≡ given_if r ps
held-least lists up d f ls true ps h = h.least refl
held-least lists up d f ls false ps h = (unfound_from_iff lists up d f ls).1 (λ qs m. h.missed refl qs m (λ x l. absurd (let z : ⊥ = omega arith in z)))

-- whether it is found, by what a search with no variable held leaves
settled-found : (v p : List ℕ) (k d n : ℕ) (ps : List ℕ) (b : Bool) → least_in (lists_of v) d (pattern_at p k) ≡ given_if b (take n ps) → b ≡ found (lists_of v) d (pattern_at p k)
unfolding found
settled-found v p k d n ps true e = sym (ap present e)
settled-found v p k d n ps false e = sym (ap present e)

module _ (v p : List ℕ) (o : Outline) (doc : Document) (orders ends ats ps : List ℕ) (r : Ready v p o doc orders ends ats ps) where
  abbrev k : ℕ
  k = o.pattern

  abbrev d : ℕ
  d = doc.doc

  abbrev first : ℕ
  first = o.first

  abbrev f : Pattern
  f = pattern_at p k

  g : Given v p
  g = given v p r.accepted

  made : WellMade (list_count v) f
  made = g.well-made k r.pattern

  number : o.vars ≡ length f.vars
  number = r.entry.outlines.vars_are

  pub ready-within : first + o.vars ≤ (sizes p).vars
  ready-within = let a = r.entry.first-is in let b = number in let w = vars-within p k r.pattern in omega arith

  pub ready-first : (first ≤ length orders) × ((first ≤ length ends) × ((first ≤ length ats) × (first ≤ length ps)))
  ready-first =
      let w = ready-within in
      let a = r.ordered.room in
      let e = length-drop first orders in
      let n = number in
      let m = made.some-vars in
      let b = r.ends-room in
      let c = r.ats-room in
      let d = r.positions-room in
      (omega arith, (omega arith, (omega arith, omega arith)))

  -- variable x of the pattern is variable first + x of the plan
  among : (x : ℕ) → x < length f.vars → Among (vars_before p k) (length f.vars) (first + x)
  among x h = let e = r.entry.first-is in (omega arith, omega arith)

  list-is : (x : ℕ) → x < length f.vars → var_at p (first + x) ≡ get_or f.vars x 0
  list-is x h = ap (λ (i : ℕ). var_at p (i + x)) r.entry.first-is ∙ var_at-is p k x r.pattern h

  stands : (x : ℕ) → x < length f.vars → Stands v (get_or f.vars x 0) d (get_or ats (first + x) 0)
  stands x h = subst (λ (l : ℕ). Stands v l d (get_or ats (first + x) 0)) (list-is x h) (r.candidate.stands (first + x) (among x h)).0

  ends_is : (x : ℕ) → x < length f.vars → get_or ends (first + x) 0 ≡ list_end v (get_or f.vars x 0)
  ends_is x h = (r.candidate.stands (first + x) (among x h)).1 ∙ ap (list_end v) (list-is x h)

  pub ready-order : Order o.vars (lent first orders)
  ready-order = rw (lent-whole first orders) r.ordered

  pub ready-posed : Posed v p o doc (lent first ends)
  ready-posed = record {
    accepted = r.accepted;
    pattern = r.pattern;
    outlines = r.entry.outlines;
    document = r.document;
    room = let w = ready-within in let b = r.ends-room in let e = lent_length first ends in omega arith;
    ends_are = λ x h.
        ap (λ (xs : List ℕ). get_or xs x 0) (lent-whole first ends) ∙ get_or-drop first ends x 0 ∙ ends_is x (let e = number in omega arith);
  }

  standing : Standing v d f (drop first ats) (drop first ps)
  standing = record {
    each = λ x h.
        let s = stands x h in
        let small : d < 65536 = let b = r.document.small in omega arith in
        let t = r.candidate.here small (first + x) (among x h) in
        let q = r.candidate.pos small (first + x) (among x h) in
        let l = t.0 in
        let w = t.1 in
        let e = ends_is x h in
        rw (get_or-drop first ats x 0, get_or-drop first ps x 0)
        (record { from = s.from; inside = omega arith; small = omega arith; word-is = omega arith });
  }

  pub ready-standing : Standing v d f (lent first ats) (lent first ps)
  ready-standing = rw (lent-whole first ats, lent-whole first ps) standing

  -- the least match from there on is the least of all
  room : length f.vars ≤ length (drop first ps)
  room = let w = ready-within in let b = r.positions-room in let e = length-drop first ps in let n = number in omega arith

  least-all : least_from (lists_of v) d f (take (length f.vars) (drop first ps)) ≡ least_in (lists_of v) d f
  least-all =
      least_from-all (lists_of v) (lists-rise v g.volume-accepted) d f (take (length f.vars) (drop first ps))
      (λ qs m. first-low v g.volume-accepted d f (λ x h. (made.lists x h).1) [] (drop first ats) (drop first ps) room standing
      (λ x h j a b. let l = (stands x h).behind j a (let e = get_or-drop first ats x 0 in omega arith) in omega arith)
      qs (m, λ x. omega arith))

  -- cursors that stand at a document's positions have passed no later document
  passed : (nexts qs : List ℕ) → Standing v d f (drop first nexts) (drop first qs) → Stood v p nexts ends k (d + 1)
  passed nexts qs s x a =
      let i = w.inside in
      (rw var_at-x (record { from = w.from; to = omega arith; behind = behind }), (r.candidate.stands x a).1)
    where
      y : ℕ
      y = x - vars_before p k

      inside : y < length f.vars
      inside = omega arith

      x-is : first + y ≡ x
      x-is = let e = r.entry.first-is in omega arith

      var_at-x : var_at p x ≡ get_or f.vars y 0
      var_at-x = ap (var_at p) (sym x-is) ∙ list-is y inside

      w : AtPos v (get_or f.vars y 0) d (get_or nexts x 0) (get_or (drop first qs) y 0)
      w = rw (get_or-drop first nexts y 0 ∙ ap (λ (i : ℕ). get_or nexts i 0) x-is) at (s.each y inside)

      behind : (j : ℕ) → start v (get_or f.vars y 0) ≤ j → j < get_or nexts x 0 → word v j < (d + 1) * 65536
      behind j b c =
          let t = list-stretch v g.volume-accepted (get_or f.vars y 0) (made.lists y inside).1 in
          let l = t.rising j (get_or nexts x 0) b c w.inside in
          let e = w.word-is in
          let m = w.small in
          omega arith

  module _ (b : Bool) (nexts qs : List ℕ) where
    -- what has come of the pattern's cursors and positions
    record Came : Type 0 where
      ats-length : length nexts ≡ length ats
      positions-length : length qs ≡ length ps
      others : (x : ℕ) → (Among first o.vars x → ⊥) → (get_or nexts x 0 ≡ get_or ats x 0) × (get_or qs x 0 ≡ get_or ps x 0)
      stand : Standing v d f (drop first nexts) (drop first qs)
      match : HeldMatch (lists_of v) d f (take o.vars (drop first ps)) 0 b (take o.vars (drop first qs))

    -- the least match there is, or none
    least-is : Came → least_in (lists_of v) d f ≡ given_if b (take o.vars (drop first qs))
    least-is c =
        sym least-all
        ∙ ap (λ (n : ℕ). least_from (lists_of v) d f (take n (drop first ps))) (sym number)
        ∙ held-least (lists_of v) (lists-rise v g.volume-accepted) d f _ b _ c.match

    found-is : Came → b ≡ found (lists_of v) d f
    found-is c = settled-found v p k d o.vars (drop first qs) b (least-is c)

    settled : Came → Settled v p ends k d ats ps b nexts qs
    settled c = record {
      ats-length = c.ats-length;
      positions-length = c.positions-length;
      found-is = found-is c;
      least = λ t.
          rw (sym number, sym r.entry.first-is)
          (least-is c ∙ ap (λ (t : Bool). given_if t (take o.vars (drop first qs))) (found-is c ∙ t));
      stood = passed nexts qs c.stand;
      others = λ x out. c.others x (λ a. let e = r.entry.first-is in let n = number in out (omega arith, omega arith));
    }

  pub settled-bare : o.condition ≡ o.last → Settled v p ends k d ats ps true ats ps
  settled-bare e =
      settled true ats ps
      (record {
        ats-length = refl;
        positions-length = refl;
        others = λ x out. (refl, refl);
        stand = standing;
        match = record { least = λ t. whole; same = λ t x h. refl; missed = λ t. absurd (true≢false t) };
      })
    where
      none : length f.predicates ≡ 0
      none = let l = r.entry.outlines.last-is in omega arith

      whole : least_from (lists_of v) d f (take o.vars (drop first ps)) ≡ some (take o.vars (drop first ps))
      whole =
          let n = number in
          rw n
          (low-done v g.volume-accepted d f (λ x h. (made.lists x h).1) (take (length f.vars) (drop first ps)) (drop first ats)
          (drop first ps) (length-take-le (length f.vars) (drop first ps) room) room
          (low_first v g.volume-accepted d f (λ x h. (made.lists x h).1) (drop first ats) (drop first ps) room standing)
          (λ j h. absurd (let m = none in let z : ⊥ = omega arith in z)))

  -- the parts of the buffers from the pattern's first variable on come back
  pub settled-moved : (b : Bool) (here part : List ℕ)
      → HeldMatch (lists_of v) d f (take o.vars (lent first ps)) 0 b (take o.vars part) → Standing v d f here part
      → Within o.vars (lent first ats) here → Within o.vars (lent first ps) part
      → Settled v p ends k d ats ps b (back first ats here) (back first ps part)
  settled-moved b here part match stand a q =
      let w = ready-within in
      let ra : first ≤ length ats = let m = r.ats-room in omega arith in
      let rp : first ≤ length ps = let m = r.positions-room in omega arith in
      settled b (back first ats here) (back first ps part)
      (record {
        ats-length = back-length first ats here ra a.same_length;
        positions-length = back-length first ps part rp q.same_length;
        others = λ x out. (back-others first ats here ra o.vars a x out, back-others first ps part rp o.vars q x out);
        stand = rw (back-drop first ats here ra, back-drop first ps part rp) stand;
        match = rw (back-drop first ps part rp, sym (lent-whole first ps)) match;
      })
