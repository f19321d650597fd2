-- The bounds that are tried one behind another until the next match is found. No contract cites this file.
--     Carried          the matches from the bounds on are those from the first bounds on, and the marks stand in front of the bounds
--     carried_first    the first bounds
--     carried_hit      the least match from the bounds on has the variables held: it is the next match
--     carried-out      no variable is held: no match is left
--     carried-next     else the last of those held moves on by one, and those behind it are free
-- Assumes nothing.
use Prim.Native.Nat.{ℕ, ◌+◌, ◌-◌, ◌<◌, ◌≤◌}
use native.Mathlib.Omega.{arith}
use mathlib.Core.Path.{◌≡◌, refl, sym, ap, ◌∙◌}
use mathlib.Core.Bool.{Bool, true, false}
use mathlib.Core.Logic.{⊎_elim, ◌≢◌}
use mathlib.Core.List.{List}
use mathlib.Core.Option.{none, some}
use lib.ListN.{length, get_or, set, take, length-set, get_or-eq_default}
use lib.Seq.{get_or-set_same, get_or-set_other, get_or-take, length-take-le}
use Rattle.seq.specs.Lists.{first, rises}
use Rattle.seq.proofs.Laws.Tests.{below_or}
use Rattle.seq.proofs.Laws.Decides.{decided, eqb_decides}
use Rattle.volume.specs.Layout.{lists_of}
use Rattle.plan.specs.Patterns.{Pattern}
use Rattle.fulltext.specs.Positions.{list_of}
use Rattle.fulltext.specs.Calculus.{at}
use Rattle.fulltext.specs.Order.{matches_from}
use Rattle.fulltext.specs.Inner.Bounds.{HeldMatch}
use Rattle.fulltext.proofs.Laws.Enumeration.{found-next, carried, none_left}
use Rattle.enumeration.specs.Inner.Attempts.{Mark, Marked}

-- variables in front of `held` are held at lows, and those behind it are free
pub record Carried (v : List ℕ) (d : ℕ) (f : Pattern) (n : ℕ) (lows₀ marks₀ lows marks : List ℕ) (held : ℕ) : Type 0 where
  pub var : held < n
  pub lows-length : length lows ≡ length lows₀
  pub marks-length : length marks ≡ length marks₀
  pub small : (x : ℕ) → x < held → get_or lows x 0 ≤ 65536
  pub free : (x : ℕ) → held < x → x < n → get_or lows x 0 ≡ 0
  pub same : matches_from (lists_of v) d f (take n lows) ≡ matches_from (lists_of v) d f (take n lows₀)
  pub marked : Marked v d f lows marks

module _ (v : List ℕ) (up : (l : ℕ) → rises (list_of (lists_of v) l) ≡ true) (d : ℕ) (f : Pattern) (n : ℕ) (many : n ≡ length f.vars) (lows₀ marks₀ : List ℕ)
    (room : n ≤ length lows₀) (marks-room : n ≤ length marks₀) where
  pub carried_first : (held : ℕ) → held + 1 ≡ n → ((x : ℕ) → x < n → get_or lows₀ x 0 ≤ 65536) → Marked v d f lows₀ marks₀ → Carried v d f n lows₀ marks₀ lows₀ marks₀ held
  carried_first held e small marked = record {
    var = omega arith;
    lows-length = refl;
    marks-length = refl;
    small = λ x h. small x (omega arith);
    free = λ x h l. absurd (let z : ⊥ = omega arith in z);
    same = refl;
    marked = marked;
  }

  module _ (lows marks : List ℕ) (held : ℕ) (t : Carried v d f n lows₀ marks₀ lows marks held) (ps' : List ℕ) (r : Bool)
      (h : HeldMatch (lists_of v) d f (take n lows) held r (take n ps')) where
    size : length (take n lows) ≡ length f.vars
    size = length-take-le n lows (let a = t.lows-length in omega arith) ∙ many

    zeros : (x : ℕ) → held < x → at (take n lows) x ≡ 0
    zeros x g =
        ⊎_elim
        (λ (l : x < n). get_or-take n lows x 0 l ∙ t.free x g l)
        (λ (l : n ≤ x). get_or-eq_default (take n lows) 0 (let e = size in omega arith))
        (below_or x n)

    pub carried_hit : r ≡ true → first (matches_from (lists_of v) d f (take n lows₀)) ≡ some (take n ps')
    carried_hit e = ap first (sym t.same) ∙ found-next (lists_of v) up d f (take n lows) held size zeros (take n ps') (h.least e) (h.same e)

    pub carried-out : r ≡ false → held ≡ 0 → first (matches_from (lists_of v) d f (take n lows₀)) ≡ none
    carried-out e z = ap first (sym t.same ∙ none_left (lists_of v) up d f (take n lows) held size zeros z (h.missed e))

    module _ (firsts : List ℕ) (begin : Mark v (get_or f.vars held 0) d 0 (get_or firsts held 0)) (e : r ≡ false) (z : held ≢ 0) where
      abbrev next : List ℕ
      next = set (set lows held 0) (held - 1) (get_or (set lows held 0) (held - 1) 0 + 1)

      abbrev marks' : List ℕ
      marks' = set marks held (get_or firsts held 0)

      long : held < length lows
      long = let a = t.var in let b = t.lows-length in omega arith

      next-length : length next ≡ length lows
      next-length = length-set (set lows held 0) (held - 1) (get_or (set lows held 0) (held - 1) 0 + 1) ∙ length-set lows held 0

      size-next : length (take n next) ≡ length f.vars
      size-next = length-take-le n next (let a = next-length in let b = t.lows-length in omega arith) ∙ many

      -- the new bounds, variable by variable
      value : (x : ℕ) → x < held - 1 → get_or next x 0 ≡ get_or lows x 0
      value x l = get_or-set_other (set lows held 0) (held - 1) x (get_or (set lows held 0) (held - 1) 0 + 1) 0 (λ q. omega arith) ∙ get_or-set_other lows held x 0 0 (λ q. omega arith)

      one : get_or next (held - 1) 0 ≡ get_or lows (held - 1) 0 + 1
      one =
          get_or-set_same (set lows held 0) (held - 1) (get_or (set lows held 0) (held - 1) 0 + 1) 0 (let a = length-set lows held 0 in let b = long in omega arith)
          ∙ ap (λ (i : ℕ). i + 1) (get_or-set_other lows held (held - 1) 0 0 (λ q. omega arith))

      zero-at : get_or next held 0 ≡ 0
      zero-at = get_or-set_other (set lows held 0) (held - 1) held (get_or (set lows held 0) (held - 1) 0 + 1) 0 (λ q. omega arith) ∙ get_or-set_same lows held 0 0 long

      other : (x : ℕ) → held < x → get_or next x 0 ≡ get_or lows x 0
      other x l = get_or-set_other (set lows held 0) (held - 1) x (get_or (set lows held 0) (held - 1) 0 + 1) 0 (λ q. omega arith) ∙ get_or-set_other lows held x 0 0 (λ q. omega arith)

      zero-behind : (x : ℕ) → held - 1 < x → x < n → get_or next x 0 ≡ 0
      zero-behind x l k = ⊎_elim (λ (q : x ≡ held). rw q zero-at) (λ (q : x ≢ held). other x (omega arith) ∙ t.free x (omega arith) k) (decided (eqb_decides x held))

      zero-all : (x : ℕ) → held - 1 < x → at (take n next) x ≡ 0
      zero-all x l =
          ⊎_elim
          (λ (k : x < n). get_or-take n next x 0 k ∙ zero-behind x l k)
          (λ (k : n ≤ x). get_or-eq_default (take n next) 0 (let q = size-next in omega arith))
          (below_or x n)

      -- the new marks
      mark-at : get_or marks' held 0 ≡ get_or firsts held 0
      mark-at = get_or-set_same marks held (get_or firsts held 0) 0 (let a = t.var in let b = t.marks-length in omega arith)

      mark-other : (x : ℕ) → x ≢ held → get_or marks' x 0 ≡ get_or marks x 0
      mark-other x q = get_or-set_other marks held x (get_or firsts held 0) 0 q

      raised : (l b i : ℕ) → Mark v l d b i → Mark v l d (b + 1) i
      raised l b i m = record { from = m.from; to = m.to; behind = λ j a c. let k = m.behind j a c in omega arith }

      marked_next : Marked v d f next marks'
      marked_next x l =
          ⊎_elim
          (λ (q : x ≡ held). rw (q, zero-at, mark-at) begin)
          (λ (q : x ≢ held).
          ⊎_elim
          (λ (g : x ≡ held - 1). rw (mark-other x q, ap (λ (i : ℕ). get_or next i 0) g ∙ one ∙ ap (λ (i : ℕ). get_or lows i 0 + 1) (sym g)) (raised _ _ _ (t.marked x l)))
          (λ (g : x ≢ held - 1). rw (mark-other x q, unmoved x q g) (t.marked x l))
          (decided (eqb_decides x (held - 1))))
          (decided (eqb_decides x held))
        where
          unmoved : (y : ℕ) → y ≢ held → y ≢ held - 1 → get_or next y 0 ≡ get_or lows y 0
          unmoved y q g = get_or-set_other (set lows held 0) (held - 1) y (get_or (set lows held 0) (held - 1) 0 + 1) 0 g ∙ get_or-set_other lows held y 0 0 q

      pub carried-next :
          Carried v d f n lows₀ marks₀ (set (set lows held 0) (held - 1) (get_or (set lows held 0) (held - 1) 0 + 1)) (set marks held (get_or firsts held 0)) (held - 1)
      carried-next = record {
        var = let k = t.var in omega arith;
        lows-length = next-length ∙ t.lows-length;
        marks-length = length-set marks held (get_or firsts held 0) ∙ t.marks-length;
        small = λ x l. rw (value x (omega arith)) (t.small x (omega arith));
        free = zero-behind;
        same =
            sym (carried (lists_of v) up d f (take n lows) held size zeros (held - 1) (omega arith) (let k = t.var in omega arith) (h.missed e) (take n next) (size-next ∙ sym size)
            (λ x l. get_or-take n next x 0 (let k = t.var in omega arith) ∙ value x (omega arith) ∙ sym (get_or-take n lows x 0 (let k = t.var in omega arith)))
            (get_or-take n next (held - 1) 0 (let k = t.var in omega arith) ∙ one ∙ ap (λ (i : ℕ). i + 1) (sym (get_or-take n lows (held - 1) 0 (let k = t.var in omega arith))))
            zero-all)
            ∙ t.same;
        marked = marked_next;
      }
