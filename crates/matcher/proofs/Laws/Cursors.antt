-- The laws of `specs/Inner/Cursors.antt`. No contract cites this file.
--     seek_ge, seek-le           a sought index is not in front of where it was, nor behind the end
--     seek-at, seek-below        the word there is not below the target; those passed are
--     seek_is                    the only such index
--     Narrowed                   what a search by halves knows
--     galloped-first, galloped-next, galloped_hit, galloped-end, galloped-mark, galloped_on
--                                what a search in doubling steps knows
--     seek-between               the sought index, by two words beside each other
--     window_hit, window-passed  what a word tells of those in front of it
--     arrived-at, arrived-end, arrived-some, arrived-none     the posting where a cursor has come to
--     length-ats, length-ends, ats-at, ends-at, ats-set, ends-set, ends-kept, ats-room     where cursors stand, and where their lists end
-- Assumes nothing.
use Prim.Native.Nat.{ℕ, zero, suc, ◌+◌, ◌-◌, ◌<◌, ◌≤◌}
use native.Mathlib.Omega.{arith}
use mathlib.Core.Path.{◌≡◌, refl, sym, ap, ◌∙◌}
use mathlib.Core.Bool.{Bool, true, false, cond}
use mathlib.Core.List.{List}
use lib.ListN.{length, get_or, set, length-map, get_or-map}
use mathlib.Core.Logic.{⊎_elim}
use lib.Dec.{leb, ltb}
use borrow.Author.Tests.{leb-true, leb-false, lt-ltb, le-ltb, ltb-true, ltb-false}
use Rattle.std.proofs.Common.{Option, Some, None}
use Rattle.std.proofs.lemmas.List.{map-set}
use Rattle.std.proofs.Math.Seq.{map-set_same}
use Rattle.seq.specs.Numbers.{sum_to}
use Rattle.seq.proofs.Laws.Numbers.{first_ge, first-le, first-at, first-before}
use Rattle.seq.proofs.Laws.Tests.{below_or}
use Rattle.volume.specs.Layout.{word}
use Rattle.volume.specs.Inner.Below.{below_of, below_count}
use Rattle.volume.specs.declared.posting.Posting.{Posting}
use Rattle.matcher.specs.declared.cursor.Cursor.{Cursor}
use Rattle.matcher.specs.declared.cursor.Reached.{Reached}
use Rattle.matcher.specs.Inner.Cursors.{seek_from, Stretch, sought, Galloped, Forward, Arrived, ats_of, ends_of, no_cursor}

module _ (v : List ℕ) (target i e : ℕ) where
  pub seek_ge : i ≤ seek_from v target i e
  unfolding seek_from
  seek_ge = first_ge (λ j. leb target (word v j)) i (e - i)

  pub seek-le : i ≤ e → seek_from v target i e ≤ e
  unfolding seek_from
  seek-le h = let l = first-le (λ j. leb target (word v j)) i (e - i) in omega arith

  pub seek-at : i ≤ e → seek_from v target i e < e → target ≤ word v (seek_from v target i e)
  unfolding seek_from
  seek-at h l = leb-true target _ (first-at (λ j. leb target (word v j)) i (e - i) (omega arith))

  pub seek-below : (j : ℕ) → i ≤ j → j < seek_from v target i e → word v j < target
  unfolding seek_from
  seek-below j h l = leb-false target _ (first-before (λ j. leb target (word v j)) i (e - i) j h l)

  pub seek_is : (k : ℕ) → i ≤ k → k ≤ e → ((j : ℕ) → i ≤ j → j < k → word v j < target) → (k < e → target ≤ word v k) → seek_from v target i e ≡ k
  seek_is k h l below here = ⊎_elim early (λ (g : k ≤ seek_from v target i e). ⊎_elim late (λ (f : seek_from v target i e ≤ k). omega arith) (below_or k (seek_from v target i e))) (below_or (seek_from v target i e) k)
    where
      early : seek_from v target i e < k → seek_from v target i e ≡ k
      early a = let x = seek-at (omega arith) (omega arith) in let y = below (seek_from v target i e) seek_ge a in absurd (let z : ⊥ = omega arith in z)

      late : k < seek_from v target i e → seek_from v target i e ≡ k
      late a = let x = seek-below k h a in let m = seek-le (omega arith) in let y = here (omega arith) in absurd (let z : ⊥ = omega arith in z)

  -- where a search by halves stands: words in front of low are below the target, those from high on are not
  pub record Narrowed (low high : ℕ) : Type 0 where
    pub from : i ≤ low
    pub order : low ≤ high
    pub to : high ≤ e
    pub below : (j : ℕ) → i ≤ j → j < low → word v j < target
    pub above : (j : ℕ) → high ≤ j → j < e → target ≤ word v j

  pub narrowed-first : i ≤ e → Narrowed i e
  narrowed-first h = record { from = omega arith; order = h; to = omega arith; below = λ j a b. absurd (let z : ⊥ = omega arith in z); above = λ j a b. absurd (let z : ⊥ = omega arith in z) }

  pub narrowed-up : Stretch v i e → (low high m : ℕ) → Narrowed low high → low ≤ m → m < high → word v m < target → Narrowed (m + 1) high
  narrowed-up s low high m n a b w = record {
    from = let f = n.from in omega arith;
    order = omega arith;
    to = n.to;
    below = λ j g l. ⊎_elim (λ (c : j < m). let t = n.to in let r = s.rising j m g c (omega arith) in omega arith) (λ (c : m ≤ j). let e : j ≡ m = omega arith in rw e w) (below_or j m);
    above = n.above;
  }

  pub narrowed_down : Stretch v i e → (low high m : ℕ) → Narrowed low high → low ≤ m → m < high → target ≤ word v m → Narrowed low m
  narrowed_down s low high m n a b w = record {
    from = n.from;
    order = a;
    to = let t = n.to in omega arith;
    below = n.below;
    above = λ j g l. ⊎_elim (λ (c : m < j). let f = n.from in let r = s.rising m j (omega arith) c l in omega arith) (λ (c : j ≤ m). let e : j ≡ m = omega arith in rw e w) (below_or m j);
  }

  pub narrowed-done : (low high : ℕ) → Narrowed low high → high ≤ low → low ≡ seek_from v target i e
  narrowed-done low high n h = let o = n.order in let t = n.to in let q : seek_from v target i e ≡ low = seek_is low n.from (omega arith) n.below (λ l. n.above low (omega arith) l) in omega arith

-- a stretch begun later, or ended sooner
pub stretch-within : (v : List ℕ) (i e a b : ℕ) → Stretch v i e → i ≤ a → a ≤ b → b ≤ e → Stretch v a b
stretch-within v i e a b s h k l = record { order = k; within = let w = s.within in omega arith; rising = λ x y f g m. s.rising x y (omega arith) g (omega arith) }

-- what a search in doubling steps knows
module _ (v : List ℕ) (target i e : ℕ) (s : Stretch v i e) where
  pub galloped-first : Galloped v target i e i
  galloped-first = record { from = omega arith; to = s.order; below = λ j a b. absurd (let z : ⊥ = omega arith in z) }

  pub galloped-next : (low m : ℕ) → Galloped v target i e low → low ≤ m → m < e → word v m < target → Galloped v target i e (m + 1)
  galloped-next low m g a b w = record {
    from = let f = g.from in omega arith;
    to = omega arith;
    below = λ j x y. ⊎_elim (λ (c : j < m). let r = s.rising j m x c b in omega arith) (λ (c : m ≤ j). let e : j ≡ m = omega arith in rw e w) (below_or j m);
  }

  -- found in front of a word that is not below the target
  pub galloped_hit : (low m : ℕ) → Galloped v target i e low → low ≤ m → m < e → target ≤ word v m → seek_from v target low m ≡ seek_from v target i e
  galloped_hit low m g a b w =
      let r = seek_from v target low m in
      let q : seek_from v target i e ≡ r = seek_is v target i e r (let f = g.from in let x = seek_ge v target low m in omega arith)
      (let x = seek-le v target low m a in omega arith)
      (λ j x y. ⊎_elim (λ (c : j < low). g.below j x c) (λ (c : low ≤ j). seek-below v target low m j c y) (below_or j low))
      (λ l. ⊎_elim (λ (c : r < m). seek-at v target low m a c) (λ (c : m ≤ r). let x = seek-le v target low m a in let d : r ≡ m = omega arith in rw d w) (below_or r m)) in
      omega arith

  -- found behind the last step
  pub galloped-end : (low : ℕ) → Galloped v target i e low → seek_from v target low e ≡ seek_from v target i e
  galloped-end low g =
      let r = seek_from v target low e in
      let q : seek_from v target i e ≡ r = seek_is v target i e r (let f = g.from in let x = seek_ge v target low e in omega arith)
      (seek-le v target low e g.to)
      (λ j x y. ⊎_elim (λ (c : j < low). g.below j x c) (λ (c : low ≤ j). seek-below v target low e j c y) (below_or j low)) (λ l. seek-at v target low e g.to l) in
      omega arith

  -- a word right in front of index m is below the target, and so are those in front of it
  pub galloped-mark : (m : ℕ) → i < m → m ≤ e → word v (m - 1) < target → Galloped v target i e m
  galloped-mark m a b w =
      let q : m - 1 + 1 ≡ m = omega arith in
      rw q at (galloped-next i (m - 1) galloped-first (omega arith) (omega arith) w)

  -- the sought index, between a word below the target and one that is not
  pub seek-between : (x : ℕ) → i ≤ x → x + 1 < e → word v x < target → target ≤ word v (x + 1) → seek_from v target i e ≡ x + 1
  seek-between x a b w u = let g = galloped-next i x galloped-first a (omega arith) w in seek_is v target i e (x + 1) (omega arith) (omega arith) g.below (λ h. u)

-- one step behind another
pub galloped_on : {v : List ℕ} {target i e a b : ℕ} → Galloped v target i e a → Galloped v target a e b → Galloped v target i e b
galloped_on {a = a} f g = record {
  from = let x = f.from in let y = g.from in omega arith;
  to = g.to;
  below = λ j x y. ⊎_elim (λ (l : j < a). f.below j x l) (λ (l : a ≤ j). g.below j l y) (below_or j a);
}

-- numbers of which the first k are 1 and the rest 0
sum_flags : (f : ℕ → ℕ) (k m : ℕ) → k ≤ m → ((j : ℕ) → j < k → f j ≡ 1) → ((j : ℕ) → k ≤ j → j < m → f j ≡ 0) → sum_to f m ≡ k
unfolding sum_to
sum_flags f k zero h ones zeros = omega arith
sum_flags f k (suc m) h ones zeros = ⊎_elim
    (λ (l : m < k).
    let e = sum_flags f m m (omega arith) (λ j a. ones j (omega arith)) (λ j a b. absurd (let z : ⊥ = omega arith in z)) in
    let o = ones m l in
    omega arith)
    (λ (l : k ≤ m).
    let e = sum_flags f k m l ones (λ j a b. zeros j a (omega arith)) in
    let z = zeros m l (omega arith) in
    omega arith)
    (below_or m k)

-- the words below the target, of m that rise, are those in front of the sought index
module _ (v : List ℕ) (target i e m : ℕ) (s : Stretch v i e) (h : i + m ≤ e) where
  below-count : i + below_count v target i m ≡ seek_from v target i (i + m)
  below-count =
      let k = seek_from v target i (i + m) - i in
      let g = seek_ge v target i (i + m) in
      let l = seek-le v target i (i + m) (omega arith) in
      let q : below_count v target i m ≡ k = sum_flags (λ (j : ℕ). below_of (word v (i + j)) target) k m (omega arith) in-front behind in
      omega arith
    where
      in-front : (j : ℕ) → j < seek_from v target i (i + m) - i → below_of (word v (i + j)) target ≡ 1
      in-front j a = let w = seek-below v target i (i + m) (i + j) (omega arith) (omega arith) in rw (lt-ltb (word v (i + j)) target w)

      behind : (j : ℕ) → seek_from v target i (i + m) - i ≤ j → j < m → below_of (word v (i + j)) target ≡ 0
      behind j a b =
          let k = seek_from v target i (i + m) in
          let g = seek_ge v target i (i + m) in
          let w = seek-at v target i (i + m) (omega arith) (omega arith) in
          let above : target ≤ word v (i + j) = ⊎_elim (λ (c : k < i + j). let r = s.rising k (i + j) g c (omega arith) in omega arith) (λ (c : i + j ≤ k). let d : i + j ≡ k = omega arith in rw d w) (below_or k (i + j)) in
          rw (le-ltb (word v (i + j)) target above)

-- the word behind m words that rise is not below the target: the sought index is found by counting those that are
pub window_hit : (v : List ℕ) (target i e m : ℕ) → Stretch v i e → i + m < e → target ≤ word v (i + m)
    → i + below_count v target i m ≡ seek_from v target i e
window_hit v target i e m s h w =
    below-count v target i e m s (omega arith) ∙ galloped_hit v target i e s i (i + m) (galloped-first v target i e s) (omega arith) h w

-- it is below the target: so are all of them
pub window-passed : (v : List ℕ) (target i e m : ℕ) → Stretch v i e → i + m < e → word v (i + m) < target
    → Galloped v target i e (i + m + 1)
window-passed v target i e m s h w = galloped-next v target i e s i (i + m) (galloped-first v target i e s) (omega arith) h w

-- a cursor set to a sought index is the sought cursor, and has moved forward only
pub sought-is : (v : List ℕ) (target : ℕ) (c : Cursor) (i : ℕ) → i ≡ seek_from v target c.at c.end → (record { at = i; end = c.end } ≡ sought v target c) × Forward c (record { at = i; end = c.end })
sought-is v target c i e =
    (ap (λ (n : ℕ). record { at = n; end = c.end }) e, record { same_end = refl; not_back = rw e (seek_ge v target c.at c.end) })

-- the posting where a cursor has come to
module _ {v : List ℕ} {target i e : ℕ} where
  pub arrived-at : {p : Posting} (k : ℕ) → k ≡ seek_from v target i e → k < e → p ≡ record { bits = word v k } → Arrived v target i e (record { at = k; posting = Some p })
  arrived-at k is h q = record { at-is = is; posting_is = rw (lt-ltb k e h) (ap Some q) }

  pub arrived-end : (k : ℕ) → k ≡ seek_from v target i e → e ≤ k → Arrived v target i e (record { at = k; posting = None })
  arrived-end k is h = record { at-is = is; posting_is = rw (le-ltb k e h) refl }

  pub arrived-some : {r : Reached} {p : Posting} → Arrived v target i e r → r.posting ≡ Some p → (r.at < e) × (p.bits ≡ word v r.at)
  arrived-some {r} {p} a h = go (ltb r.at e) refl (sym h ∙ a.posting_is)
    where
      go : (t : Bool) → ltb r.at e ≡ t → Some p ≡ cond t (Some (record { bits = word v r.at })) None → (r.at < e) × (p.bits ≡ word v r.at)
      go true q s = let same : p ≡ record { bits = word v r.at } = cc in (ltb-true r.at e q, ap (λ (w : Posting). w.bits) same)
      go false q s = cc

  pub arrived-none : {r : Reached} → Arrived v target i e r → r.posting ≡ None → e ≤ r.at
  arrived-none {r} a h = go (ltb r.at e) refl (sym h ∙ a.posting_is)
    where
      go : (t : Bool) → ltb r.at e ≡ t → ◌≡◌ {A = Option Posting} None (cond t (Some (record { bits = word v r.at })) None) → e ≤ r.at
      go true q s = cc
      go false q s = ltb-false r.at e q

-- where cursors stand, and where their lists end
pub length-ats : (cs : List Cursor) → length (ats_of cs) ≡ length cs
unfolding ats_of
length-ats cs = length-map cs (λ (c : Cursor). c.at)

pub length-ends : (cs : List Cursor) → length (ends_of cs) ≡ length cs
unfolding ends_of
length-ends cs = length-map cs (λ (c : Cursor). c.end)

pub ats-at : (cs : List Cursor) (x : ℕ) → get_or (ats_of cs) x 0 ≡ (get_or cs x no_cursor).at
unfolding ats_of
ats-at cs x = get_or-map (λ (c : Cursor). c.at) cs x no_cursor

pub ends-at : (cs : List Cursor) (x : ℕ) → get_or (ends_of cs) x 0 ≡ (get_or cs x no_cursor).end
unfolding ends_of
ends-at cs x = get_or-map (λ (c : Cursor). c.end) cs x no_cursor

pub ats-set : (cs : List Cursor) (x : ℕ) (c : Cursor) → ats_of (set cs x c) ≡ set (ats_of cs) x c.at
unfolding ats_of
ats-set cs x c = map-set (λ (c : Cursor). c.at) cs x c

pub ends-set : (cs : List Cursor) (x : ℕ) (c : Cursor) → ends_of (set cs x c) ≡ set (ends_of cs) x c.end
unfolding ends_of
ends-set cs x c = map-set (λ (c : Cursor). c.end) cs x c

-- a cursor that moves in its list
pub ends-kept : (cs : List Cursor) (x : ℕ) (c : Cursor) → c.end ≡ (get_or cs x no_cursor).end → ends_of (set cs x c) ≡ ends_of cs
unfolding ends_of
ends-kept cs x c e = map-set_same (λ (c : Cursor). c.end) cs x c no_cursor e

-- there are as many of both
pub ats-room : (cs : List Cursor) (n : ℕ) → n ≤ length (ends_of cs) → n ≤ length (ats_of cs)
ats-room cs n h = let a = length-ats cs in let e = length-ends cs in omega arith
