-- How each pattern is brought to the next document in which it can be found. No contract cites this file.
--     walk-outline, walk-within, walk-few     a pattern's outline in the table, its variables among those of the plan, and how many it has
--     walk_first, walk-order   the order of its variables, in the table of orders
--     vars-behind, vars-apart  the variables of one pattern, and those of another
--     Alike, stood-same, candidate-same     a pattern whose cursors have not moved
--     brought                  the cursors of a pattern that are aligned stand at its next document
--     Bringing                 the patterns in front of k are brought to document d, the others are not
--     bringing-first, bringing-kept, bringing-due, bringing-next     from pattern to pattern
-- Assumes nothing.
use Prim.Native.Nat.{ℕ, zero, suc, ◌+◌, ◌-◌, ◌*◌, ◌<◌, ◌≤◌}
use native.Mathlib.Omega.{arith}
use mathlib.Core.Path.{◌≡◌, refl, subst, ◌∙◌}
use mathlib.Core.Bool.{Bool, true, false}
use mathlib.Core.Logic.{◌⊎◌, inl, inr, ⊎_elim, ◌≢◌}
use mathlib.Core.List.{List}
use lib.ListN.{length, get_or, set, take, drop, length-set, length-drop}
use lib.Seq.{get_or-set_same, get_or-set_other, take_all}
use Rattle.seq.proofs.Laws.Tests.{both, below_or, true_or}
use Rattle.seq.proofs.Laws.Decides.{decided, eqb_decides}
use Rattle.volume.specs.Layout.{word, list_count, lists_of}
use Rattle.plan.specs.declared.outline.Outline.{Outline}
use Rattle.plan.specs.Check.{sizes}
use Rattle.plan.specs.Accepted.{pattern_at, Given, WellMade}
use Rattle.plan.proofs.Laws.Accepted.{given}
use Rattle.fulltext.specs.Calculus.{at}
use Rattle.fulltext.specs.Matches.{all_hold, fits, starts_in, vars_in, matches_at}
use Rattle.fulltext.specs.Documents.{found}
use Rattle.matcher.specs.Inner.Cursors.{Stretch, Stands}
use Rattle.plan.specs.Inner.Outline.{vars_before, outline_at}
use Rattle.matcher.specs.Inner.Tables.{var_at}
use Rattle.matcher.specs.Inner.Order.{Order}
use Rattle.search.specs.Inner.Walk.{Among, Has, Aligned, Stood, Candidate, Pending, Walks}
use Rattle.fulltext.proofs.Laws.Positions.{lists-rise}
use Rattle.fulltext.proofs.Laws.Least.{fits_iff, found_iff}
use Rattle.matcher.proofs.Laws.Volume.{list-stretch, held}
use Rattle.plan.proofs.Laws.Outline.{vars_before-next, vars-within, Outlined, outlined}
use Rattle.matcher.proofs.Laws.Placed.{var_at-is}

-- the variables of a later pattern stand behind those of an earlier one
pub vars-behind : (p : List ℕ) (j k : ℕ) → j < k → k ≤ (sizes p).patterns → vars_before p j + length (pattern_at p j).vars ≤ vars_before p k
vars-behind p j zero h l = absurd (let z : ⊥ = omega arith in z)
vars-behind p j (suc k) h l = go (below_or j k) (λ i. vars-behind p j k i (omega arith))
  where
    e : k + 1 ≡ suc k
    e = omega arith

    next : vars_before p (suc k) ≡ vars_before p k + length (pattern_at p k).vars
    next = rw (← e) (vars_before-next p k (omega arith))

    go : (j < k) ⊎ (k ≤ j) → (j < k → vars_before p j + length (pattern_at p j).vars ≤ vars_before p k) → vars_before p j + length (pattern_at p j).vars ≤ vars_before p (suc k)
    go (inl i) before = let a = before i in let b = next in omega arith
    go (inr i) before = let q : j ≡ k = omega arith in let b = next in rw q (omega arith)

-- two patterns have no variable in common
pub vars-apart : (p : List ℕ) (j k x : ℕ) → j ≢ k → j < (sizes p).patterns → k < (sizes p).patterns
    → Among (vars_before p j) (length (pattern_at p j).vars) x → Among (vars_before p k) (length (pattern_at p k).vars) x → ⊥
vars-apart p j k x n h l a b =
    ⊎_elim (λ (i : j < k). let w = vars-behind p j k i (omega arith) in omega arith) (λ (i : k ≤ j). let w = vars-behind p k j (omega arith) (omega arith) in omega arith) (below_or j k)

-- the cursors of a pattern stand in two buffers alike, and their positions
pub record Alike (p ats ps nexts qs : List ℕ) (k : ℕ) : Type 0 where
  pub cursors : (x : ℕ) → Among (vars_before p k) (length (pattern_at p k).vars) x → get_or nexts x 0 ≡ get_or ats x 0
  pub positions : (x : ℕ) → Among (vars_before p k) (length (pattern_at p k).vars) x → get_or qs x 0 ≡ get_or ps x 0

module _ (v p ats ends ps nexts qs : List ℕ) (k d : ℕ) (same : Alike p ats ps nexts qs k) where
  pub stood-same : Stood v p ats ends k d → Stood v p nexts ends k d
  stood-same s x a = rw (same.cursors x a) (s x a)

  pub candidate-same : (r : ℕ) → Candidate v p ats ends ps k d r → Candidate v p nexts ends qs k d r
  candidate-same r c = record {
    from = c.from;
    to = c.to;
    absent = c.absent;
    stands = λ x a. rw (same.cursors x a) (c.stands x a);
    here = λ h x a. rw (same.cursors x a) (c.here h x a);
    pos = λ h x a. rw (same.cursors x a, same.positions x a) (c.pos h x a);
  }

  pending-same : (r : ℕ) (fresh : Bool) → Pending v p ats ends ps k d r fresh → Pending v p nexts ends qs k d r fresh
  pending-same r fresh q = record { due = λ b. stood-same (q.due b); ahead = λ f h. candidate-same r (q.ahead f h) }

module _ (v p : List ℕ) (table : List Outline) (orders ends : List ℕ) (w : Walks v p table orders ends) where
  g : Given v p
  g = given v p w.accepted

  module _ (k : ℕ) (inside : k < (sizes p).patterns) where
    made : WellMade (list_count v) (pattern_at p k)
    made = g.well-made k inside

    walk-outline : Outlined p k (outline_at table k)
    walk-outline = outlined table w.tabled k inside refl

    pub walk-within : (outline_at table k).first + (outline_at table k).vars ≤ (sizes p).vars
    walk-within = let a = walk-outline.first-is in let b = walk-outline.vars_are in let l = vars-within p k inside in omega arith

    pub walk-few : (1 ≤ (outline_at table k).vars) × ((outline_at table k).vars ≤ 8)
    walk-few = let b = walk-outline.vars_are in let l = made.some-vars in let m = made.most-vars in (omega arith, omega arith)

    pub walk_first : (outline_at table k).first ≤ length orders
    walk_first =
        let a = walk-outline.first-is in
        let r = (w.ordered k inside).room in
        let l = made.some-vars in
        let d = length-drop (vars_before p k) orders in
        omega arith

    pub walk-order : Order ((outline_at table k).vars) (take (length orders - (outline_at table k).first) (drop ((outline_at table k).first) orders))
    walk-order =
        let a = walk-outline.first-is in
        let d = length-drop (vars_before p k) orders in
        let t = take_all (length orders - vars_before p k) (drop (vars_before p k) orders) (omega arith) in
        rw (walk-outline.vars_are, a, t) (w.ordered k inside)

    -- a variable of the pattern, by its number among those of the plan
    among : (x : ℕ) → Among ((outline_at table k).first) ((outline_at table k).vars) x → Among (vars_before p k) (length (pattern_at p k).vars) x
    among x a = let e = walk-outline.first-is in let b = walk-outline.vars_are in (omega arith, omega arith)

    among-back : (x : ℕ) → Among (vars_before p k) (length (pattern_at p k).vars) x → Among ((outline_at table k).first) ((outline_at table k).vars) x
    among-back x a = let e = walk-outline.first-is in let b = walk-outline.vars_are in (omega arith, omega arith)

    list-of : (x : ℕ) → Among (vars_before p k) (length (pattern_at p k).vars) x → var_at p x ≡ get_or (pattern_at p k).vars (x - vars_before p k) 0
    list-of x a = let e : vars_before p k + (x - vars_before p k) ≡ x = omega arith in subst (λ (y : ℕ). var_at p y ≡ get_or (pattern_at p k).vars (x - vars_before p k) 0) e (var_at-is p k (x - vars_before p k) inside (omega arith))

    there : (x : ℕ) → Among (vars_before p k) (length (pattern_at p k).vars) x → var_at p x < list_count v
    there x a = rw (list-of x a) (made.lists (x - vars_before p k) (omega arith)).1

    module _ (ats : List ℕ) (d : ℕ) (s : Stood v p ats ends k d) where
      pub walk-stretch : (x : ℕ) → Among ((outline_at table k).first) ((outline_at table k).vars) x → Stretch v (get_or ats x 0) (get_or ends x 0)
      walk-stretch x b =
          let a = among x b in
          let t = s x a in
          let l = list-stretch v g.volume-accepted (var_at p x) (there x a) in
          rw t.1 (record { order = t.0.to; within = l.within; rising = λ i j q y z. let f = t.0.from in l.rising i j (omega arith) y z })

      -- a document in which a variable has no posting from its cursor on does not have the pattern
      absent : (e x : ℕ) → d ≤ e → Among (vars_before p k) (length (pattern_at p k).vars) x → (Has v (get_or ats x 0) (get_or ends x 0) e → ⊥) → found (lists_of v) e (pattern_at p k) ≡ false
      absent e x h a none = ⊎_elim (λ (t : found (lists_of v) e (pattern_at p k) ≡ true). absurd (gone ((found_iff (lists_of v) (lists-rise v g.volume-accepted) e (pattern_at p k)).0 t))) (λ t. t) (true_or (found (lists_of v) e (pattern_at p k)))
        where
          gone : (qs : List ℕ) × (matches_at (lists_of v) e (pattern_at p k) qs ≡ true) → ⊥
          gone (qs, m) =
              let i = x - vars_before p k in
              let f = ((fits_iff (lists_of v) e (pattern_at p k).vars qs).0 (both (fits (vars_in (lists_of v) e (pattern_at p k).vars) qs) (all_hold (starts_in (lists_of v) e) (pattern_at p k).predicates qs) m).0).1 i (omega arith) in
              let o = held v g.volume-accepted (var_at p x) (there x a) e (at qs i) (rw (list-of x a) f) in
              let j = o.1.0 in
              let same : word v j ≡ e * 65536 + at qs i = o.1.1.1.1 in
              let t = s x a in
              let end = t.1 in
              ⊎_elim
              (λ (y : j < get_or ats x 0). let b = t.0.behind j o.1.1.0 y in omega arith)
              (λ (y : get_or ats x 0 ≤ j). none (j, y, (let b = o.1.1.1.0 in omega arith), (let b = o.0 in omega arith)))
              (below_or j (get_or ats x 0))

      pub brought : (r : ℕ) (nexts ps₀ ps : List ℕ)
          → Aligned v ends ats ((outline_at table k).first) ((outline_at table k).vars) d r nexts ps₀ ps → Candidate v p nexts ends ps k d r
      brought r nexts ps₀ ps al = record {
        from = al.from;
        to = al.to;
        absent = λ e h l. let m = al.missing e h l in absent e m.0 h (among m.0 m.1.0) m.1.1;
        stands = λ x a. (stands x a, (s x a).1);
        here = λ h x a. al.here h x (among-back x a);
        pos = λ h x a. al.pos h x (among-back x a);
      }
        where
          stands : (x : ℕ) → Among (vars_before p k) (length (pattern_at p k).vars) x → Stands v (var_at p x) r (get_or nexts x 0)
          stands x a =
              let t = s x a in
              let m = al.moved x (among-back x a) in
              record {
                from = let f = t.0.from in let h = m.forward in omega arith;
                to = let f = m.to in let h = t.1 in omega arith;
                behind = λ j f h. ⊎_elim (λ (y : j < get_or ats x 0). let b = t.0.behind j f y in let c = al.from in omega arith) (λ (y : get_or ats x 0 ≤ j). m.passed j y h) (below_or j (get_or ats x 0));
              }

    -- the other patterns' cursors stay
    others_same : (ats nexts ps₀ ps : List ℕ) (d r j : ℕ) → j < (sizes p).patterns → j ≢ k
        → Aligned v ends ats ((outline_at table k).first) ((outline_at table k).vars) d r nexts ps₀ ps → Alike p ats ps₀ nexts ps j
    others_same ats nexts ps₀ ps d r j h n al = record {
      cursors = λ x a. al.others x (λ b. vars-apart p j k x n h inside a (among x b));
      positions = λ x a. al.positions-others x (λ b. vars-apart p j k x n h inside a (among x b));
    }

-- the patterns in front of k are brought to document d, the others are not
pub record Bringing (v p ends : List ℕ) (d : ℕ) (fresh : Bool) (ats₀ ps₀ docs₀ ats ps docs : List ℕ) (k : ℕ) : Type 0 where
  pub most : k ≤ (sizes p).patterns
  pub ats-length : length ats ≡ length ats₀
  pub positions-length : length ps ≡ length ps₀
  pub docs-length : length docs ≡ length docs₀
  pub brought : (j : ℕ) → j < k → Candidate v p ats ends ps j d (get_or docs j 0)
  pub waiting : (j : ℕ) → k ≤ j → j < (sizes p).patterns → Pending v p ats ends ps j d (get_or docs j 0) fresh

module _ (v p ends : List ℕ) (d : ℕ) (fresh : Bool) (ats₀ ps₀ docs₀ : List ℕ) where
  pub bringing-first : ((k : ℕ) → k < (sizes p).patterns → Pending v p ats₀ ends ps₀ k d (get_or docs₀ k 0) fresh)
      → Bringing v p ends d fresh ats₀ ps₀ docs₀ ats₀ ps₀ docs₀ 0
  bringing-first q = record {
    most = omega arith;
    ats-length = refl;
    positions-length = refl;
    docs-length = refl;
    brought = λ j h. absurd (let z : ⊥ = omega arith in z);
    waiting = λ j h l. q j l;
  }

  module _ (ats ps docs : List ℕ) (k : ℕ) (b : Bringing v p ends d fresh ats₀ ps₀ docs₀ ats ps docs k) (h : k < (sizes p).patterns) where
    -- pattern k stands at document d or a later one
    pub bringing-kept : fresh ≡ false → d ≤ get_or docs k 0 → Bringing v p ends d fresh ats₀ ps₀ docs₀ ats ps docs (k + 1)
    bringing-kept f l = record {
      most = omega arith;
      ats-length = b.ats-length;
      positions-length = b.positions-length;
      docs-length = b.docs-length;
      brought = λ j i. ⊎_elim (λ (y : j < k). b.brought j y) (λ (y : k ≤ j). let e : j ≡ k = omega arith in rw e ((b.waiting k (omega arith) h).ahead f l)) (below_or j k);
      waiting = λ j i m. b.waiting j (omega arith) m;
    }

    -- pattern k is due
    pub bringing-due : (fresh ≡ true) ⊎ (get_or docs k 0 < d) → Stood v p ats ends k d
    bringing-due c = (b.waiting k (omega arith) h).due c

    pub bringing-next : (table : List Outline) (orders : List ℕ) (w : Walks v p table orders ends) → (sizes p).patterns ≤ length docs₀
        → (r : ℕ) (nexts qs : List ℕ) → (fresh ≡ true) ⊎ (get_or docs k 0 < d)
        → Aligned v ends ats ((outline_at table k).first) ((outline_at table k).vars) d r nexts ps qs
        → Bringing v p ends d fresh ats₀ ps₀ docs₀ nexts qs (set docs k r) (k + 1)
    bringing-next table orders w room r nexts qs c al = record {
      most = omega arith;
      ats-length = al.same_length ∙ b.ats-length;
      positions-length = al.positions-length ∙ b.positions-length;
      docs-length = length-set docs k r ∙ b.docs-length;
      brought = λ j i. ⊎_elim
          (λ (y : j ≡ k). rw (y, get_or-set_same docs k r 0 (let n = b.docs-length in omega arith))
          (brought v p table orders ends w k h ats d (bringing-due c) r nexts ps qs al))
          (λ (y : j ≢ k). rw (get_or-set_other docs k j r 0 y)
          (candidate-same v p ats ends ps nexts qs j d (kept j (omega arith) y) (get_or docs j 0) (b.brought j (omega arith))))
          (decided (eqb_decides j k));
      waiting = λ j i m. rw (get_or-set_other docs k j r 0 (let y : j ≢ k = λ e. omega arith in y))
          (pending-same v p ats ends ps nexts qs j d (kept j m (λ e. omega arith)) (get_or docs j 0) fresh (b.waiting j (omega arith) m));
    }
      where
        kept : (j : ℕ) → j < (sizes p).patterns → j ≢ k → Alike p ats ps nexts qs j
        kept j m y = others_same v p table orders ends w k h ats nexts ps qs d r j m y al
