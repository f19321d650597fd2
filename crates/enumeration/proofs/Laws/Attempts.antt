-- How the variables of a pattern are brought to bounds in a document, and its least match from there on. No contract cites this file.
--     Standing-to, standing-next, standing-out, standing-done     the first variables of an order are brought to
--                                positions that are not below bounds
--     mark-start                 a variable set to its mark
--     set-ats, set-ends, jumps-from     a cursor set to its mark, which jumps from there
--     posed-vars, posed-some, posed-few      how many variables the pattern has
--     posed-rise                 the volume's lists rise
--     whole-stretch, mark-stretch     a variable's list as a stretch of the stream, and from a mark on
--     stood-standing             the variables stand at positions
--     stood-none, stood-apart    a variable has no position there, or one that is held does not stand at its bound: no match has
--     stood_on                   else the search from where they stand is that from the bounds
-- Assumes nothing.
use Prim.Native.Nat.{ℕ, ◌+◌, ◌*◌, ◌<◌, ◌≤◌}
use native.Mathlib.Omega.{arith}
use mathlib.Core.Path.{◌≡◌, refl, sym, ap, subst, ◌∙◌}
use mathlib.Core.Bool.{Bool, true, false, true≢false}
use mathlib.Core.Logic.{⊎_elim, ◌≢◌}
use mathlib.Core.List.{List}
use lib.ListN.{length, get_or, set, take, length-set, get_or-eq_default}
use lib.Seq.{get_or-set_same, get_or-set_other, get_or-take, length-take-le}
use Rattle.std.proofs.lemmas.List.{ext_get_or}
use Rattle.seq.specs.Lists.{rises}
use Rattle.seq.proofs.Laws.Tests.{below_or}
use Rattle.seq.proofs.Laws.Decides.{decided, eqb_decides}
use Rattle.volume.specs.Posting.{doc_of, pos_of}
use Rattle.volume.specs.Layout.{word, list_count, start, lists_of}
use Rattle.plan.specs.declared.outline.Outline.{Outline}
use Rattle.plan.specs.Patterns.{Pattern}
use Rattle.plan.specs.Accepted.{pattern_at, Given, WellMade}
use Rattle.plan.proofs.Laws.Accepted.{given}
use Rattle.fulltext.specs.Positions.{list_of}
use Rattle.fulltext.specs.Calculus.{at}
use Rattle.fulltext.specs.Matches.{◌⊑◌}
use Rattle.fulltext.specs.Inner.Bounds.{MatchFrom, least_from, HeldMatch}
use Rattle.fulltext.proofs.Laws.Positions.{lists-rise}
use Rattle.fulltext.proofs.Laws.Least.{least_from-same}
use Rattle.matcher.specs.declared.cursor.Document.{Document}
use Rattle.matcher.specs.declared.cursor.Cursor.{Cursor}
use Rattle.matcher.specs.Inner.Cursors.{Stretch, list_end, ats_of, ends_of, no_cursor}
use Rattle.matcher.specs.Inner.Settling.{Jumped, Standing, Posed}
use Rattle.matcher.specs.Inner.Order.{Order}
use Rattle.matcher.proofs.Laws.Volume.{list-stretch}
use Rattle.matcher.proofs.Laws.Cursors.{seek_ge, seek-at, seek-below, stretch-within, ats-at, ends-at, ats-set, ends-kept}
use Rattle.matcher.proofs.Laws.Settling.{index, first-low}
use Rattle.enumeration.specs.Inner.Attempts.{Marked, sought_from, StoodFrom}

-- the first i variables of an order are brought to their first positions in document d that are not below lows
pub record Standing-to (v : List ℕ) (d : ℕ) (order ends lows marks here₀ ps₀ here ps : List ℕ) (i : ℕ) : Type 0 where
  pub here-length : length here ≡ length here₀
  pub ps-length : length ps ≡ length ps₀
  pub stood : (j : ℕ) → j < i
      → let y = get_or order j 0 in
      (get_or here y 0 ≡ sought_from v d ends lows marks y)
      × ((get_or here y 0 < get_or ends y 0) × ((doc_of (word v (get_or here y 0)) ≡ d) × (get_or ps y 0 ≡ pos_of (word v (get_or here y 0)))))

module _ (v : List ℕ) (d : ℕ) (order ends lows marks here₀ ps₀ : List ℕ) where
  -- the next variable of the order is set to its mark, and jumps
  module _ (here ps : List ℕ) (i : ℕ) (s : Standing-to v d order ends lows marks here₀ ps₀ here ps i)
      (h : get_or order i 0 < length here₀) (l : get_or order i 0 < length ps₀) where
    abbrev x : ℕ
    x = get_or order i 0

    abbrev marked : List ℕ
    marked = set here x (get_or marks x 0)

    at_mark : get_or marked x 0 ≡ get_or marks x 0
    at_mark = get_or-set_same here x (get_or marks x 0) 0 (let n = s.here-length in omega arith)

    pub mark-start : (e : ℕ) → Stretch v (get_or marks x 0) e → Stretch v (get_or marked x 0) e
    mark-start e t = rw at_mark t

    module _ (here' ps' : List ℕ) where
      abbrev Jumps : Bool → Type 0
      Jumps r = Jumped v d (get_or ends x 0) (get_or lows x 0) x marked ps r here' ps'

      reached : Jumps true → Standing-to v d order ends lows marks here₀ ps₀ here' ps' (i + 1)
      reached j =
          let to = sought_from v d ends lows marks x in
          let w = rw at_mark at j in
          let a = length-set here x (get_or marks x 0) ∙ s.here-length in
          let b = s.ps-length in
          rw (w.1.1.0, w.1.1.1) (record {
            here-length = length-set marked x to ∙ a;
            ps-length = length-set ps x (pos_of (word v to)) ∙ b;
            stood = λ k m. ⊎_elim
                (λ (g : get_or order k 0 ≡ x).
                let here-is = get_or-set_same marked x to 0 (omega arith) in
                let ps-is = get_or-set_same ps x (pos_of (word v to)) 0 (omega arith) in
                rw (g, here-is, ps-is) (refl, (w.0, (w.1.0, refl))))
                (λ (g : get_or order k 0 ≢ x).
                let y = get_or order k 0 in
                let last : i ≤ k → ⊥ = λ f. let q : k ≡ i = omega arith in g (ap (λ t. get_or order t 0) q) in
                let earlier : k < i = ⊎_elim (λ f. f) (λ f. absurd (last f)) (below_or k i) in
                let here-is = get_or-set_other marked x y to 0 g ∙ get_or-set_other here x y (get_or marks x 0) 0 g in
                let ps-is = get_or-set_other ps x y (pos_of (word v to)) 0 g in
                rw (here-is, ps-is) (s.stood k earlier))
                (decided (eqb_decides (get_or order k 0) x));
          })

      pub standing-next : (r : Bool) → Jumps r → r ≡ true → Standing-to v d order ends lows marks here₀ ps₀ here' ps' (i + 1)
      standing-next r j e = reached (subst (λ (t : Bool). Jumps t) e j)

      none-there : Jumps false → sought_from v d ends lows marks x < get_or ends x 0 → doc_of (word v (sought_from v d ends lows marks x)) ≢ d
      none-there j inside =
          let to = sought_from v d ends lows marks x in
          let w = rw at_mark at j in
          ⊎_elim
          (λ (o : get_or ends x 0 ≤ to). absurd (let z : ⊥ = omega arith in z))
          (λ (o : (to < get_or ends x 0) × (doc_of (word v to) ≢ d)). o.1)
          w.0

      pub standing-out : (n : ℕ) → x < n → (r : Bool) → Jumps r → r ≡ false → StoodFrom v d n ends lows marks false here' ps'
      standing-out n k r j e = record {
        each = λ f. absurd (true≢false (sym f));
        out = λ f. (x, (k, none-there (subst (λ (t : Bool). Jumps t) e j)));
      }

  -- each variable is one of the order
  pub standing-done : (here ps whole : List ℕ) (i n : ℕ) → order ≡ take n whole → n ≤ i → Order n whole → Standing-to v d order ends lows marks here₀ ps₀ here ps i
      → StoodFrom v d n ends lows marks true here ps
  standing-done here ps whole i n front h o s = record {
    each = λ e y l.
        let c = o.covers y l in
        let k = c.1.0 in
        let q = ap (λ (xs : List ℕ). get_or xs c.0 0) front ∙ get_or-take n whole c.0 0 k ∙ c.1.1 in
        rw q at (s.stood c.0 (omega arith));
    out = λ f. absurd (true≢false f);
  }

-- a cursor set to its mark
module _ (here marks : List Cursor) (x : ℕ) where
  -- the index alone
  abbrev pub marked-at : List Cursor
  marked-at = set here x (record { at = (get_or marks x no_cursor).at; end = (get_or here x no_cursor).end })

  pub set-ats : ats_of marked-at ≡ set (ats_of here) x (get_or (ats_of marks) x 0)
  set-ats = ats-set here x _ ∙ ap (λ (i : ℕ). set (ats_of here) x i) (sym (ats-at marks x))

  pub set-at-ends : ends_of marked-at ≡ ends_of here
  set-at-ends = ends-kept here x _ refl

  pub set-ends : ends_of marks ≡ ends_of here → ends_of (set here x (get_or marks x no_cursor)) ≡ ends_of here
  set-ends e = ends-kept here x (get_or marks x no_cursor) (sym (ends-at marks x) ∙ ap (λ (es : List ℕ). get_or es x 0) e ∙ ends-at here x)

  -- it jumps from there
  pub jumps-from : (v : List ℕ) (d need : ℕ) (ends ps : List ℕ) (r : Bool) (here' ps' : List ℕ) → ends_of here ≡ ends
      → Jumped v d (get_or (ends_of marked-at) x 0) need x (ats_of marked-at) ps r here' ps'
      → Jumped v d (get_or ends x 0) need x (set (ats_of here) x (get_or (ats_of marks) x 0)) ps r here' ps'
  jumps-from v d need ends ps r here' ps' h j =
      subst (λ (es : List ℕ). Jumped v d (get_or es x 0) need x (set (ats_of here) x (get_or (ats_of marks) x 0)) ps r here' ps') (set-at-ends ∙ h)
      (subst (λ (is : List ℕ). Jumped v d (get_or (ends_of marked-at) x 0) need x is ps r here' ps') set-ats j)

-- a pattern in a document, from marks in front of its bounds
module _ (v p : List ℕ) (o : Outline) (doc : Document) (ends : List ℕ) (q : Posed v p o doc ends) where
  abbrev d : ℕ
  d = doc.doc

  abbrev f : Pattern
  f = pattern_at p o.pattern

  abbrev n : ℕ
  n = o.vars

  g : Given v p
  g = given v p q.accepted

  made : WellMade (list_count v) f
  made = g.well-made o.pattern q.pattern

  pub posed-vars : n ≡ length f.vars
  posed-vars = q.outlines.vars_are

  pub posed-some : 1 ≤ n
  posed-some = let e = posed-vars in let a = made.some-vars in omega arith

  pub posed-few : n ≤ 8
  posed-few = let e = posed-vars in let a = made.most-vars in omega arith

  pub posed-rise : (l : ℕ) → rises (list_of (lists_of v) l) ≡ true
  posed-rise = lists-rise v g.volume-accepted

  there : (x : ℕ) → x < length f.vars → get_or f.vars x 0 < list_count v
  there x h = (made.lists x h).1

  the_end : (x : ℕ) → x < length f.vars → get_or ends x 0 ≡ list_end v (get_or f.vars x 0)
  the_end x h = q.ends_are x (let e = posed-vars in omega arith)

  pub whole-stretch : (x : ℕ) → x < length f.vars → Stretch v (start v (get_or f.vars x 0)) (list_end v (get_or f.vars x 0))
  whole-stretch x h = list-stretch v g.volume-accepted (get_or f.vars x 0) (there x h)

  module _ (lows marks : List ℕ) (m : Marked v d f lows marks) where
    pub mark-stretch : (x : ℕ) → x < n → Stretch v (get_or marks x 0) (get_or ends x 0)
    mark-stretch x h =
        let l : x < length f.vars = let e = posed-vars in omega arith in
        rw (the_end x l) (stretch-within v _ _ _ _ (whole-stretch x l) (m x l).from (m x l).to (omega arith))

    abbrev target : ℕ → ℕ
    target x = d * 65536 + get_or lows x 0

    abbrev index_of : ℕ → ℕ
    index_of x = sought_from v d ends lows marks x

    -- the words of its list in front of where variable x is brought to are below its bound
    passed : (x : ℕ) → x < length f.vars → (j : ℕ) → start v (get_or f.vars x 0) ≤ j → j < index_of x → word v j < target x
    passed x h j a b =
        ⊎_elim
        (λ (c : j < get_or marks x 0). (m x h).behind j a c)
        (λ (c : get_or marks x 0 ≤ j). seek-below v (target x) (get_or marks x 0) (get_or ends x 0) j c b)
        (below_or j (get_or marks x 0))

    module _ (r : Bool) (here ps : List ℕ) (by : StoodFrom v d n ends lows marks r here ps) where
      pub stood-standing : r ≡ true → Standing v d f here ps
      stood-standing ok = record {
        each = λ x h.
            let w = by.each ok x (let e = posed-vars in omega arith) in
            let a = (m x h).from in
            let b = the_end x h in
            let i = w.0 in
            let k = w.1.0 in
            let o = w.1.1.0 in
            let s = w.1.1.1 in
            let c = seek_ge v (target x) (get_or marks x 0) (get_or ends x 0) in
            record { from = omega arith; inside = omega arith; small = omega arith; word-is = omega arith };
      }

      -- every match from the bounds on is at them or behind
      stood-low : r ≡ true → n ≤ length ps → (qs : List ℕ) → MatchFrom (lists_of v) d f (take n lows) qs → take n ps ⊑ qs
      stood-low ok room-ps = rw posed-vars (λ qs k. first-low v g.volume-accepted d f there (take (length f.vars) lows) here ps (let e = posed-vars in omega arith) (stood-standing ok) behind qs k)
        where
          behind : (x : ℕ) → x < length f.vars → (j : ℕ) → start v (get_or f.vars x 0) ≤ j → j < get_or here x 0 → word v j < d * 65536 + at (take (length f.vars) lows) x
          behind x h j a b =
              let e = get_or-take (length f.vars) lows x 0 h in
              let i = (by.each ok x (let k = posed-vars in omega arith)).0 in
              let t = passed x h j a (omega arith) in
              omega arith

      -- the least match from the bounds on is the least from there on
      stood-from : r ≡ true → n ≤ length lows → n ≤ length ps → least_from (lists_of v) d f (take n lows) ≡ least_from (lists_of v) d f (take n ps)
      stood-from ok room room-ps = least_from-same (lists_of v) posed-rise d f (take n lows) (take n ps) (rw posed-vars less) (stood-low ok room-ps)
        where
          less : take (length f.vars) lows ⊑ take (length f.vars) ps
          less x = ⊎_elim
              (λ (h : x < length f.vars).
              let k : x < n = let e = posed-vars in omega arith in
              let w = by.each ok x k in
              let i = w.0 in
              let c = w.1.0 in
              let o = w.1.1.0 in
              let s = w.1.1.1 in
              let t = seek-at v (target x) (get_or marks x 0) (get_or ends x 0) (mark-stretch x k).order (omega arith) in
              let u = ap (word v) i in
              let a = get_or-take (length f.vars) lows x 0 h in
              let b = get_or-take (length f.vars) ps x 0 h in
              omega arith)
              (λ (h : length f.vars ≤ x).
              let a = length-take-le (length f.vars) lows (let e = posed-vars in omega arith) in
              let o : at (take (length f.vars) lows) x ≡ 0 = get_or-eq_default (take (length f.vars) lows) 0 (omega arith) in
              omega arith)
              (below_or x (length f.vars))

      -- a variable has no position there: nothing matches from the bounds on
      pub stood-none : r ≡ false → (held : ℕ) (ps' : List ℕ) → HeldMatch (lists_of v) d f (take n lows) held false ps'
      stood-none is held ps' = record {
        least = λ t. absurd (true≢false (sym t));
        same = λ t. absurd (true≢false (sym t));
        missed = λ t qs m same. nothing qs m;
      }
        where
          x : ℕ
          x = (by.out is).0

          k : x < n
          k = (by.out is).1.0

          h : x < length f.vars
          h = let a = k in let e = posed-vars in omega arith

          nothing : (qs : List ℕ) → MatchFrom (lists_of v) d f (take n lows) qs → ⊥
          nothing qs w =
              let s = index v g.volume-accepted d f there qs w.0 x h in
              let y = s.0 in
              let j = s.1.0 in
              let a = s.1.1.0 in
              let b = s.1.1.1.0 in
              let e = s.1.1.1.1 in
              let low = w.1 x in
              let t = get_or-take n lows x 0 k in
              let z = the_end x h in
              let i : index_of x ≤ j = ⊎_elim (λ (l : j < index_of x). let u = passed x h j a l in absurd (let c : ⊥ = omega arith in c)) (λ l. l) (below_or j (index_of x)) in
              let inside : index_of x < get_or ends x 0 = omega arith in
              let u = seek-at v (target x) (get_or marks x 0) (get_or ends x 0) (mark-stretch x k).order inside in
              let ge = seek_ge v (target x) (get_or marks x 0) (get_or ends x 0) in
              let up : word v (index_of x) ≤ word v j = ⊎_elim
              (λ (l : index_of x < j). let c = (mark-stretch x k).rising (index_of x) j ge l (omega arith) in omega arith)
              (λ (l : j ≤ index_of x). let c : index_of x ≡ j = omega arith in rw c (omega arith))
              (below_or (index_of x) j) in
              (by.out is).1.1 inside (omega arith)

      module _ (ok : r ≡ true) (room : n ≤ length lows) (room-ps : n ≤ length ps) (held : ℕ) (few : held < n) where
        -- a variable that is held does not stand at its bound: no match has it there
        pub stood-apart : (take held ps ≡ take held lows → ⊥) → (ps' : List ℕ) → HeldMatch (lists_of v) d f (take n lows) held false ps'
        stood-apart differ ps' = record {
          least = λ t. absurd (true≢false (sym t));
          same = λ t. absurd (true≢false (sym t));
          missed = λ t qs m same.
              differ (ext_get_or 0 (take held ps) (take held lows) (length-take-le held ps (omega arith) ∙ sym (length-take-le held lows (omega arith))) (stands qs m same));
        }
          where
            stands : (qs : List ℕ) → MatchFrom (lists_of v) d f (take n lows) qs → ((x : ℕ) → x < held → at qs x ≡ at (take n lows) x)
                → (x : ℕ) → x < length (take held ps) → get_or (take held ps) x 0 ≡ get_or (take held lows) x 0
            stands qs m same x h =
                let size = length-take-le held ps (omega arith) in
                let l : x < held = omega arith in
                let w = by.each ok x (omega arith) in
                let a = stood-low ok room-ps qs m x in
                let i = same x l in
                let y = get_or-take n ps x 0 (omega arith) in
                let k = get_or-take n lows x 0 (omega arith) in
                let low = seek-at v (target x) (get_or marks x 0) (get_or ends x 0) (mark-stretch x (omega arith)).order (let e = w.0 in let c = w.1.0 in omega arith) in
                let u = ap (word v) w.0 in
                let c = w.1.1.0 in
                let e = w.1.1.1 in
                let q : get_or ps x 0 ≡ get_or lows x 0 = omega arith in
                get_or-take held ps x 0 l ∙ q ∙ sym (get_or-take held lows x 0 l)

        -- else the search from where they stand is that from the bounds
        pub stood_on : take held ps ≡ take held lows → (b : Bool) (ps' : List ℕ) → HeldMatch (lists_of v) d f (take n ps) held b ps' → HeldMatch (lists_of v) d f (take n lows) held b ps'
        stood_on front b ps' h = record {
          least = λ t. stood-from ok room room-ps ∙ h.least t;
          same = λ t x l. h.same t x l ∙ at_bound x l;
          missed = λ t qs m same. h.missed t qs (m.0, stood-low ok room-ps qs m) (λ x l. same x l ∙ sym (at_bound x l));
        }
          where
            at_bound : (x : ℕ) → x < held → at (take n ps) x ≡ at (take n lows) x
            at_bound x l =
                get_or-take n ps x 0 (omega arith)
                ∙ sym (get_or-take held ps x 0 l)
                ∙ ap (λ (xs : List ℕ). get_or xs x 0) front
                ∙ get_or-take held lows x 0 l
                ∙ sym (get_or-take n lows x 0 (omega arith))
