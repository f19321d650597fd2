-- How the cursors of a pattern leap to one document. No contract cites this file.
--     Came, came               the posting to which a cursor has come
--     Leaping                  where the leaping stands: the first i of the order are in document d, and no document before it has each
--     leap-first               before the first leap
--     leap-stretch             the words that the next cursor seeks in
--     leap-out, leap-here      that cursor has leapt behind its list; into document d
--     leap-later, leap-lead, leap-back     into a later one, which the others seek where it leads, and the first seeks where it does not
--     leap-done                all cursors are in the document
-- Assumes nothing.
use Prim.Native.Nat.{ℕ, ◌+◌, ◌-◌, ◌*◌, ◌<◌, ◌≤◌}
use native.Mathlib.Omega.{arith}
use Rattle.std.proofs.Common.{Some}
use mathlib.Core.Path.{◌≡◌, refl, sym, ap, subst, ◌∙◌}
use mathlib.Core.Logic.{◌⊎◌, ⊎_elim, ◌≢◌}
use mathlib.Core.List.{List}
use lib.ListN.{length, get_or, set, length-set}
use lib.Seq.{get_or-set_same, get_or-set_other}
use Rattle.seq.proofs.Laws.Tests.{below_or}
use Rattle.seq.proofs.Laws.Decides.{decided, eqb_decides}
use Rattle.volume.specs.Posting.{doc_of, pos_of}
use Rattle.volume.specs.Layout.{word}
use Rattle.fulltext.specs.Positions.{limit}
use Rattle.block.specs.Bytes.{IsBytes}
use Rattle.volume.specs.declared.posting.Posting.{Posting}
use Rattle.volume.proofs.Laws.Stream.{word_lt}
use Rattle.matcher.specs.declared.cursor.Reached.{Reached}
use Rattle.matcher.specs.Inner.Cursors.{seek_from, Stretch, Arrived}
use Rattle.matcher.specs.Inner.Order.{Order}
use Rattle.search.specs.Inner.Walk.{Among, Has, Moved, Aligned}
use Rattle.matcher.proofs.Laws.Cursors.{seek_ge, seek-le, seek-at, seek-below, arrived-some}

-- two numbers are the same or not
same_or : (a b : ℕ) → (a ≡ b) ⊎ (a ≢ b)
same_or a b = decided (eqb_decides a b)

-- a cursor that has passed documents below d has passed those below a later one
moved_later : (v : List ℕ) (d r i j e : ℕ) → d ≤ r → Moved v d i j e → Moved v r i j e
moved_later v d r i j e h m = record { forward = m.forward; to = m.to; passed = λ a f g. let w = m.passed a f g in omega arith }

-- a cursor at i, of a list that ends at e, stands in document d, at position q
abbrev In : List ℕ → ℕ → ℕ → ℕ → ℕ → Type 0
In v d i e q = (i < e) × ((doc_of (word v i) ≡ d) × (q ≡ pos_of (word v i)))

-- a cursor has come to the posting at stream index `at`, in front of e: its position and its document
pub record Came (v : List ℕ) (e at q d : ℕ) : Type 0 where
  pub inside : at < e
  pub pos-is : q ≡ pos_of (word v at)
  pub doc-is : doc_of (word v at) ≡ d
  pub small : d ≤ 65535

pub came : (v : List ℕ) → IsBytes v → {target i e : ℕ} {r : Reached} {p : Posting} → Arrived v target i e r → r.posting ≡ Some p
    → (q d : ℕ) → q ≡ pos_of p.bits → d ≡ doc_of p.bits → Came v e r.at q d
came v bytes {target} {i} {e} {r} {p} a h q d x y =
    let there = arrived-some a h in
    let w = word_lt v r.at bytes in
    let b = there.1 in
    record { inside = there.0; pos-is = x ∙ ap pos_of b; doc-is = sym (y ∙ ap doc_of b); small = omega arith }

module _ (v order ends olds ps₀ : List ℕ) (first n doc : ℕ) where
  pub record Leaping (d i : ℕ) (ats ps : List ℕ) : Type 0 where
    pub from : doc ≤ d
    pub to : d ≤ limit
    pub most : i ≤ n
    pub same_length : length ats ≡ length olds
    pub positions-length : length ps ≡ length ps₀
    pub others : (x : ℕ) → (Among first n x → ⊥) → get_or ats x 0 ≡ get_or olds x 0
    pub positions-others : (x : ℕ) → (Among first n x → ⊥) → get_or ps x 0 ≡ get_or ps₀ x 0
    pub moved : (x : ℕ) → Among first n x → Moved v d (get_or olds x 0) (get_or ats x 0) (get_or ends x 0)
    pub standing : (j : ℕ) → j < i → (x : ℕ) → x ≡ first + get_or order j 0 → In v d (get_or ats x 0) (get_or ends x 0) (get_or ps x 0)
    pub missing : (e : ℕ) → doc ≤ e → e < d → (x : ℕ) × (Among first n x × (Has v (get_or olds x 0) (get_or ends x 0) e → ⊥))

  pub leap-first : doc ≤ limit → ((x : ℕ) → Among first n x → Stretch v (get_or olds x 0) (get_or ends x 0)) → Leaping doc 0 olds ps₀
  leap-first h ready = record {
    from = omega arith;
    to = h;
    most = omega arith;
    same_length = refl;
    positions-length = refl;
    others = λ x a. refl;
    positions-others = λ x a. refl;
    moved = λ x a. record { forward = omega arith; to = (ready x a).order; passed = λ b f g. absurd (let z : ⊥ = omega arith in z) };
    standing = λ j a. absurd (let z : ⊥ = omega arith in z);
    missing = λ e a b. absurd (let z : ⊥ = omega arith in z);
  }

  module _ (ordered : Order n order) where
    pub leap-done : (d i : ℕ) (ats ps : List ℕ) → Leaping d i ats ps → n ≤ i → Aligned v ends olds first n doc d ats ps₀ ps
    leap-done d i ats ps l h = record {
      from = l.from;
      to = l.to;
      same_length = l.same_length;
      others = l.others;
      moved = l.moved;
      here = λ k x a. let s = stands x a in (s.0, s.1.0);
      positions-length = l.positions-length;
      positions-others = l.positions-others;
      pos = λ k x a. (stands x a).1.1;
      missing = l.missing;
    }
      where
        stands : (x : ℕ) → Among first n x → In v d (get_or ats x 0) (get_or ends x 0) (get_or ps x 0)
        stands x a =
            let c = ordered.covers (x - first) (omega arith) in
            let e = c.1.1 in
            let b = c.1.0 in
            l.standing c.0 (omega arith) x (omega arith)

    module _ (ready : (x : ℕ) → Among first n x → Stretch v (get_or olds x 0) (get_or ends x 0)) (d i : ℕ) (ats ps : List ℕ)
        (l : Leaping d i ats ps) (less : i < n) (x : ℕ) (x-is : x ≡ first + get_or order i 0) where
      -- the next variable is one of them
      among : Among first n x
      among = let b = ordered.below i less in (omega arith, omega arith)

      pub leap-inside : x < first + n
      leap-inside = among.1

      old : Moved v d (get_or olds x 0) (get_or ats x 0) (get_or ends x 0)
      old = l.moved x among

      -- the words from where the next cursor stands rise
      pub leap-stretch : Stretch v (get_or ats x 0) (get_or ends x 0)
      leap-stretch =
          let m = old in
          let s = ready x among in
          record { order = m.to; within = s.within; rising = λ j k a b c. let f = m.forward in s.rising j k (omega arith) b c }

      -- variable j of the order, where j is i
      last : (j : ℕ) → j ≡ i → (y : ℕ) → y ≡ first + get_or order j 0 → y ≡ x
      last j e y s = let q = ap (λ (k : ℕ). get_or order k 0) e in omega arith

      -- the variables in front of it in the order are others
      apart : (j : ℕ) → j < i → (y : ℕ) → y ≡ first + get_or order j 0 → y ≢ x
      apart j h y e q = let s = ordered.once j i (omega arith) less (omega arith) in omega arith

      module _ (room : first + n ≤ length olds) (places : first + n ≤ length ps₀) (at : ℕ)
          (is : at ≡ seek_from v (d * 65536) (get_or ats x 0) (get_or ends x 0)) where
        same : get_or (set ats x at) x 0 ≡ at
        same = let h = leap-inside in let s = l.same_length in get_or-set_same ats x at 0 (omega arith)

        -- the cursor has passed documents below d alone
        here : Moved v d (get_or olds x 0) at (get_or ends x 0)
        here = let m = old in record {
          forward = let f = m.forward in let g = seek_ge v (d * 65536) (get_or ats x 0) (get_or ends x 0) in omega arith;
          to = let g = seek-le v (d * 65536) (get_or ats x 0) (get_or ends x 0) m.to in omega arith;
          passed = λ a f g. ⊎_elim
              (λ (q : a < get_or ats x 0). m.passed a f q)
              (λ (q : get_or ats x 0 ≤ a). seek-below v (d * 65536) (get_or ats x 0) (get_or ends x 0) a q (omega arith))
              (below_or a (get_or ats x 0));
        }

        moved : (y : ℕ) → Among first n y → Moved v d (get_or olds y 0) (get_or (set ats x at) y 0) (get_or ends y 0)
        moved y a = ⊎_elim
            (λ (q : y ≡ x). rw (q, same) here)
            (λ (q : y ≢ x). rw (get_or-set_other ats x y at 0 q) (l.moved y a))
            (same_or y x)

        -- one that is not among them is another
        foreign : (y : ℕ) → (Among first n y → ⊥) → y ≢ x
        foreign y a q = a (subst (Among first n) (sym q) among)

        others : (y : ℕ) → (Among first n y → ⊥) → get_or (set ats x at) y 0 ≡ get_or olds y 0
        others y a = get_or-set_other ats x y at 0 (foreign y a) ∙ l.others y a

        size : length (set ats x at) ≡ length olds
        size = length-set ats x at ∙ l.same_length

        -- the cursor is behind its list
        pub leap-out : get_or ends x 0 ≤ at → Aligned v ends olds first n doc limit (set ats x at) ps₀ ps
        leap-out out = record {
          from = let f = l.from in let t = l.to in omega arith;
          to = omega arith;
          same_length = size;
          others = others;
          moved = λ y a. moved_later v d limit _ _ _ l.to (moved y a);
          here = λ k. absurd (let z : ⊥ = omega arith in z);
          positions-length = l.positions-length;
          positions-others = l.positions-others;
          pos = λ k. absurd (let z : ⊥ = omega arith in z);
          missing = λ e a b. ⊎_elim (λ (q : e < d). l.missing e a q) (λ (q : d ≤ e). (x, (among, gone e q))) (below_or e d);
        }
          where
            gone : (e : ℕ) → d ≤ e → Has v (get_or olds x 0) (get_or ends x 0) e → ⊥
            gone e q (j, a, b, c) = let w = here.passed j a (omega arith) in omega arith

        module _ (a : at < get_or ends x 0) (q : ℕ) (q-is : q ≡ pos_of (word v at)) where
          placed : get_or (set ps x q) x 0 ≡ q
          placed = let h = leap-inside in let s = l.positions-length in get_or-set_same ps x q 0 (omega arith)

          places-others : (y : ℕ) → (Among first n y → ⊥) → get_or (set ps x q) y 0 ≡ get_or ps₀ y 0
          places-others y a = get_or-set_other ps x y q 0 (foreign y a) ∙ l.positions-others y a

          places-size : length (set ps x q) ≡ length ps₀
          places-size = length-set ps x q ∙ l.positions-length

          -- where the cursor stands
          stands : (r : ℕ) → doc_of (word v at) ≡ r → (y : ℕ) → y ≡ x
              → In v r (get_or (set ats x at) y 0) (get_or ends y 0) (get_or (set ps x q) y 0)
          stands r e y s = rw (s, same, placed) (a, (e, q-is))

          -- it is document d
          pub leap-here : doc_of (word v at) ≡ d → Leaping d (i + 1) (set ats x at) (set ps x q)
          leap-here e = record {
            from = l.from;
            to = l.to;
            most = omega arith;
            same_length = size;
            positions-length = places-size;
            others = others;
            positions-others = places-others;
            moved = moved;
            standing = λ j h y s. ⊎_elim
                (λ (k : j < i). kept j k y s)
                (λ (k : i ≤ j). stands d e y (last j (omega arith) y s))
                (below_or j i);
            missing = l.missing;
          }
            where
              kept : (j : ℕ) → j < i → (y : ℕ) → y ≡ first + get_or order j 0
                  → In v d (get_or (set ats x at) y 0) (get_or ends y 0) (get_or (set ps x q) y 0)
              kept j k y s = let b = apart j k y s in rw (get_or-set_other ats x y at 0 b, get_or-set_other ps x y q 0 b) (l.standing j k y s)

          module _ (r : ℕ) (e : doc_of (word v at) ≡ r) (other : r ≢ d) (b : r ≤ limit) where
            -- it is a later one
            pub leap-later : d < r
            leap-later =
                let w = seek-at v (d * 65536) (get_or ats x 0) (get_or ends x 0) leap-stretch.order (omega arith) in
                let s = ap (word v) is in
                omega arith

            behind : (j : ℕ) → at ≤ j → j < get_or ends x 0 → word v at ≤ word v j
            behind j k b = ⊎_elim
                (λ (q : at < j). let f = here.forward in let w = (ready x among).rising at j f q b in omega arith)
                (λ (q : j ≤ at). let e : j ≡ at = omega arith in rw e (omega arith))
                (below_or at j)

            gone : (z : ℕ) → d ≤ z → z < r → Has v (get_or olds x 0) (get_or ends x 0) z → ⊥
            gone z k h (j, f, g, c) = ⊎_elim
                (λ (y : j < at). let w = here.passed j f y in omega arith)
                (λ (y : at ≤ j). let w = behind j y g in omega arith)
                (below_or j at)

            leapt : (k : ℕ) → k ≤ n → ((j : ℕ) → j < k → j ≡ i) → Leaping r k (set ats x at) (set ps x q)
            leapt k h one = record {
              from = let f = l.from in let m = leap-later in omega arith;
              to = b;
              most = h;
              same_length = size;
              positions-length = places-size;
              others = others;
              positions-others = places-others;
              moved = λ y g. moved_later v d r _ _ _ (let m = leap-later in omega arith) (moved y g);
              standing = λ j g y s. stands r e y (last j (one j g) y s);
              missing = λ z f g. ⊎_elim (λ (m : z < d). l.missing z f m) (λ (m : d ≤ z). (x, (among, gone z m g))) (below_or z d);
            }

            -- the first of the order leads
            pub leap-lead : i ≡ 0 → Leaping r 1 (set ats x at) (set ps x q)
            leap-lead s = leapt 1 (omega arith) (λ j g. omega arith)

            -- another has passed document d
            pub leap-back : Leaping r 0 (set ats x at) (set ps x q)
            leap-back = leapt 0 (omega arith) (λ j g. absurd (let z : ⊥ = omega arith in z))
