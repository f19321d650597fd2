-- What `src/testing.rt` finds. No contract cites this file.
--     small_decides, all-small            no position is over 65,535
--     list-before, found-none, found-there, found-not     a cursor on a list at a position, if the list holds it
--     posed-given, vars-order             what is posed of a pattern
--     voice-of, voice-few                 the VOICE row of a variable
--     Brought, at_next, at-not, at_all    the variables that stand at their positions
--     at-posed                            what the search from there asks
--     front-take, front-standing          the positions at the front of an array
--     held-match                          with every variable held it finds them, or they do not match
--     match-not                           positions that the lists do not hold
--     test-refused, test-missing, test-number, test_doc, test-small, test-answer     the answer, by the verdict and the first test that fails
-- Assumes nothing.
use Prim.Native.Nat.{ℕ, ◌+◌, ◌-◌, ◌*◌, ◌<◌, ◌≤◌}
use native.Mathlib.Omega.{arith}
use mathlib.Core.Path.{◌≡◌, refl, sym, ap, subst, ◌∙◌}
use mathlib.Core.Bool.{Bool, true, false, cond, true≢false}
use mathlib.Core.Logic.{⊎_elim, ◌≢◌, ◌↔◌}
use mathlib.Core.List.{List, ◌++◌}
use Rattle.std.proofs.Common.{Some, None}
use lib.ListN.{length, get_or, set, take, drop}
use lib.Seq.{get_or-set_same, get_or-set_other, get_or-take, take_at, take-length, ext_get_or}
use lib.Dec.{leb}
use borrow.Author.Tests.{le-leb, leb-true}
use Rattle.std.proofs.lemmas.List.Elements.{All-from_get_or}
use Rattle.std.specs.Prelude.{All, IsTrue}
use Rattle.seq.specs.Lists.{all, elem}
use Rattle.seq.specs.Refusals.{refused, answered}
use Rattle.seq.proofs.Laws.Tests.{below_or, true_or, contrary}
use Rattle.seq.proofs.Laws.Decides as decides
use Rattle.seq.proofs.Laws.Decides.{Decides, eqb_decides}
use Rattle.seq.proofs.Laws.Lists.{all-each}
use Rattle.volume.specs.Layout.{word, list_count, start, lists_of}
use Rattle.volume.specs.Check as volume
use Rattle.volume.specs.declared.posting.Posting.{Posting}
use Rattle.plan.specs.declared.row.Kind.TheVariants as kind
use Rattle.plan.specs.Limits.{most_rows}
use Rattle.plan.specs.Rows.{row_at}
use Rattle.plan.specs.Patterns.{Pattern}
use Rattle.plan.specs.declared.answers.Sizes.{Sizes}
use Rattle.plan.specs.Check.{verdict}
use Rattle.plan.specs.Accepted.{pattern_at, Given}
use Rattle.plan.specs.declared.outline.Outline.{Outline}
use Rattle.plan.proofs.Laws.Accepted.{given}
use Rattle.matcher.specs.declared.cursor.Cursor.{Cursor}
use Rattle.matcher.specs.declared.cursor.Reached.{Reached}
use Rattle.fulltext.specs.Positions.{limit, list_of, positions_in}
use Rattle.fulltext.specs.Calculus.{at, Holds}
use Rattle.fulltext.specs.Matches.{fits, vars_in, matches_at}
use Rattle.fulltext.specs.Inner.Bounds.{HeldMatch}
use Rattle.matcher.specs.Inner.Shortfall.{InDocument}
use Rattle.matcher.specs.Inner.Cursors.{seek_from, Stretch, Arrived, list_end, list_cursor, ats_of, ends_of, Stands}
use Rattle.matcher.specs.Testing.{out_of_range, test_by, test_answer}
use Rattle.matcher.specs.Inner.Settling.{AtPos, Standing, Posed, Asked, On, StoodAt}
use Rattle.fulltext.proofs.Laws.Positions.{positions_hold, lists-rise}
use Rattle.fulltext.proofs.Laws.Least.{fits_iff, least_from_iff}
use Rattle.matcher.proofs.Laws.Cursors.{seek_ge, seek-at, seek-below, arrived-some, arrived-none, length-ats, length-ends, ats-set, ends-set}
use Rattle.matcher.proofs.Laws.Volume.{list-stretch, held, holds_at}
use Rattle.matcher.proofs.Laws.Placed.{Voiced, voiced, voiced-list}
use Rattle.matcher.proofs.Laws.Range.{range-missing, range-number, range_doc, range_small}

pub small_decides : (ps : List ℕ) → Decides (all (λ q. leb q 65535) ps) (InDocument ps)
small_decides ps = record {
  yes = λ e x l. leb-true (get_or ps x 0) 65535 (each.0 e x l);
  no = λ e h. contrary (each.1 (λ x l. le-leb (get_or ps x 0) 65535 (h x l))) e;
}
  where
    each : (all (λ q. leb q 65535) ps ≡ true) ↔ ((x : ℕ) → x < length ps → leb (get_or ps x 0) 65535 ≡ true)
    each = all-each (λ q. leb q 65535) 0 ps

-- std's word for it
pub all-small : (r : Bool) (ps : List ℕ) → (IsTrue r ↔ All (λ q. q ≤ 65535) ps) → r ≡ all (λ q. leb q 65535) ps
all-small true ps e = sym (decides.holds (small_decides ps) (λ x l. e.0 refl x 0 l))
all-small false ps e = sym (decides.fails (small_decides ps) (λ h. true≢false (sym (e.1 (All-from_get_or (λ q. q ≤ 65535) ps 0 h)))))

-- a cursor on list l, at its first posting
module _ (v : List ℕ) (ok : volume.Accepted v) (l : ℕ) (h : l < list_count v) (first : Cursor) (e : first ≡ list_cursor v l) where
  pub list-before : Stretch v first.at first.end
  list-before = rw e (list-stretch v ok l h)

  -- it reaches position p of document d
  module _ (d p : ℕ) (r : Reached) (small : p ≤ 65535) (arrived : Arrived v (d * 65536 + p) first.at first.end r) where
    abbrev there : ℕ
    there = r.at

    there-is : there ≡ seek_from v (d * 65536 + p) (start v l) (list_end v l)
    there-is = arrived.at-is ∙ rw e refl

    end_is : first.end ≡ list_end v l
    end_is = rw e refl

    -- a posting of the position stands there
    stands : Holds d p (list_of (lists_of v) l) → (there < list_end v l) × (word v there ≡ d * 65536 + p)
    stands w = (let a = back in let b = to in omega arith, let a = above in let b = not-above in omega arith)
      where
        k : (p < limit) × ((j : ℕ) × ((start v l ≤ j) × ((j < list_end v l) × (word v j ≡ d * 65536 + p))))
        k = held v ok l h d p w

        j : ℕ
        j = k.1.0

        from : start v l ≤ j
        from = k.1.1.0

        to : j < list_end v l
        to = k.1.1.1.0

        same : word v j ≡ d * 65536 + p
        same = k.1.1.1.1

        front : j < there → ⊥
        front m = let q = there-is in let b = from in let x = same in let r = seek-below v (d * 65536 + p) (start v l) (list_end v l) j b (omega arith) in omega arith

        back : there ≤ j
        back = ⊎_elim (λ (m : j < there). absurd (front m)) (λ m. m) (below_or j there)

        above : d * 65536 + p ≤ word v there
        above =
            let q = there-is in
            let a = back in
            let b = to in
            let r = seek-at v (d * 65536 + p) (start v l) (list_end v l) (omega arith) (omega arith) in
            let y = ap (word v) q in
            omega arith

        not-above : word v there ≤ d * 65536 + p
        not-above =
            let q = there-is in
            let x = same in
            let a = back in
            let g = seek_ge v (d * 65536 + p) (start v l) (list_end v l) in
            ⊎_elim
            (λ (c : there < j). let o = (list-stretch v ok l h).rising there j (omega arith) c to in omega arith)
            (λ (c : j ≤ there). let f : there ≡ j = omega arith in let g = ap (word v) f in omega arith)
            (below_or there j)

    -- no other is
    absent : (there < first.end → word v there ≢ d * 65536 + p) → false ≡ elem p (positions_in d (list_of (lists_of v) l))
    absent other = sym (decides.fails (positions_hold d p (list_of (lists_of v) l)) (λ w. let t = stands w in let f = end_is in other (let a = t.0 in omega arith) t.1))

    pub found-none : r.posting ≡ None → false ≡ elem p (positions_in d (list_of (lists_of v) l))
    found-none h = let o = arrived-none arrived h in absent (λ m. absurd (let z : ⊥ = omega arith in z))

    module _ (w : Posting) (is : r.posting ≡ Some w) where
      here-is : (there < first.end) × (w.bits ≡ word v there)
      here-is = arrived-some arrived is

      -- the posting there is that of the position
      pub found-there : w.bits ≡ d * 65536 + p → On v l d p (record { at = r.at; end = first.end })
      found-there same = record {
        end_is = end_is;
        at-is =
            let q = there-is in
            let g = seek_ge v (d * 65536 + p) (start v l) (list_end v l) in
            let f = end_is in
            let b = here-is in
            record { from = omega arith; inside = omega arith; small = small; word-is = omega arith };
      }

      -- it is another
      pub found-not : w.bits ≢ d * 65536 + p → false ≡ elem p (positions_in d (list_of (lists_of v) l))
      found-not other = absent (λ m e. other (here-is.1 ∙ e))

starts-stand : (v : List ℕ) (d : ℕ) → Stands v 0 d (start v 0)
starts-stand v d = record { from = omega arith; to = omega arith; behind = λ j a b. absurd (let z : ⊥ = omega arith in z) }

-- the first x variables, of these lists, stand at their positions
pub record Brought (v : List ℕ) (d : ℕ) (vars ps ends here : List ℕ) (x : ℕ) : Type 0 where
  pub at_are : (y : ℕ) → y < x → AtPos v (get_or vars y 0) d (get_or here y 0) (get_or ps y 0)
  pub ends_are : (y : ℕ) → y < x → get_or ends y 0 ≡ list_end v (get_or vars y 0)

-- positions ps for the variables of a pattern, in document d
module _ {v p : List ℕ} {o : Outline} {d : ℕ} {ps : List ℕ} (posed : Asked v p o d ps) where
  pub posed-given : Given v p
  posed-given = given v p posed.accepted

  abbrev k : ℕ
  k = o.pattern

  abbrev vars : List ℕ
  vars = (pattern_at p k).vars

  -- the rows of its first variable and of its first predicate
  abbrev first_var : ℕ
  first_var = o.condition - o.vars

  abbrev condition : ℕ
  condition = o.condition

  pub vars-order : o.vars ≤ condition
  vars-order = posed.outlines.room

  pub voice-of : (x : ℕ) → x < length ps → Voiced v p (first_var + x) (get_or vars x 0)
  voice-of x h =
      let e = posed.outlines in
      let n = posed.number in
      let m = e.vars_are in
      voiced v p posed.accepted o posed.pattern e x (omega arith)

  pub voice-few : (x : ℕ) → x < length ps → first_var + x < most_rows
  voice-few x h = let i = (voice-of x h).inside in let r = posed-given.most-rows in omega arith

  -- the list that is read of the VOICE row of variable x
  module _ (x : ℕ) (h : x < length ps) (l : ℕ) (r : (row_at p (first_var + x)).kind ≡ kind.Voice l) where
    list-is : l ≡ get_or vars x 0
    list-is = voiced-list (voice-of x h) l r

    pub at_next : {c : Cursor} → On v l d (at ps x) c → (cs : List Cursor) → Brought v d vars ps (ends_of cs) (ats_of cs) x → x < length cs
        → Brought v d vars ps (ends_of (set cs x c)) (ats_of (set cs x c)) (x + 1)
    at_next {c} found cs b room = record {
      at_are = λ y k. ⊎_elim
          (λ (f : y ≡ x). rw (f, ats-set cs x c, get_or-set_same (ats_of cs) x c.at 0 (let z = length-ats cs in omega arith)) (rw list-is at found.at-is))
          (λ (f : y ≢ x). rw (ats-set cs x c, get_or-set_other (ats_of cs) x y c.at 0 f) (b.at_are y (omega arith)))
          (decides.decided (eqb_decides y x));
      ends_are = λ y k. ⊎_elim
          (λ (f : y ≡ x). rw (f, ends-set cs x c, get_or-set_same (ends_of cs) x c.end 0 (let z = length-ends cs in omega arith)) (rw list-is at found.end_is))
          (λ (f : y ≢ x). rw (ends-set cs x c, get_or-set_other (ends_of cs) x y c.end 0 f) (b.ends_are y (omega arith)))
          (decides.decided (eqb_decides y x));
    }

    pub at-not : false ≡ elem (at ps x) (positions_in d (list_of (lists_of v) l)) → (ends here : List ℕ) → StoodAt v d (pattern_at p k) ps false ends here
    at-not out ends here = record { fits_are = unfit; standing = λ t. absurd (true≢false (sym t)); ends_are = λ t. absurd (true≢false (sym t)) }
      where
        unfit : false ≡ fits (vars_in (lists_of v) d vars) ps
        unfit =
            let n = posed.number in
            ⊎_elim
            (λ (g : fits (vars_in (lists_of v) d vars) ps ≡ true). absurd ((positions_hold d (at ps x) (list_of (lists_of v) (get_or vars x 0))).no (sym (rw list-is at out)) (((fits_iff (lists_of v) d vars ps).0 g).1 x (omega arith))))
            (λ (g : fits (vars_in (lists_of v) d vars) ps ≡ false). sym g)
            (true_or (fits (vars_in (lists_of v) d vars) ps))

  pub at_all : (x : ℕ) (ends here : List ℕ) → length ps ≤ x → Brought v d vars ps ends here x → StoodAt v d (pattern_at p k) ps true ends here
  at_all x ends here h b =
      let n = posed.number in
      record {
        fits_are = sym ((fits_iff (lists_of v) d vars ps).1 (n, λ y m. holding y (omega arith)));
        standing = λ t. record { each = λ y m. b.at_are y (omega arith) };
        ends_are = λ t y m. b.ends_are y (omega arith);
      }
    where
      holding : (y : ℕ) → y < length ps → Holds d (at ps y) (list_of (lists_of v) (get_or vars y 0))
      holding y m =
          let w = b.at_are y (omega arith) in
          let f = voice-of y m in
          let s = w.small in
          holds_at v posed-given.volume-accepted (get_or vars y 0) f.there d (at ps y) (get_or here y 0) (omega arith) w.from w.inside w.word-is

  -- the pattern in that document, with a cursor on list 0 at its first posting
  pub at-posed : (ends : List ℕ) → length ps ≤ length ends → ((x : ℕ) → x < length vars → get_or ends x 0 ≡ list_end v (get_or vars x 0)) → (s : Cursor) → s ≡ list_cursor v 0 → Posed v p o (record { doc = d; starts = s }) ends
  at-posed ends room are s q =
      let n = posed.number in
      let m = posed.outlines.vars_are in
      record {
        accepted = posed.accepted;
        pattern = posed.pattern;
        outlines = posed.outlines;
        document = rw q (record { small = posed.doc-small; starts-at = starts-stand v d; starts-end = refl });
        room = omega arith;
        ends_are = λ x h. are x (omega arith);
      }

  pub few-vars : length ps ≤ 8
  few-vars = let n = posed.number in let m = (posed-given.well-made k posed.pattern).most-vars in omega arith

-- positions at the front of an array
pub front-take : (ps out moved : List ℕ) → moved ≡ take (length ps) ps ++ drop (0 + length ps) out → take (length ps) moved ≡ ps
front-take ps out moved e = ap (take (length ps)) e ∙ take_at (take (length ps) ps) (drop (0 + length ps) out) (length ps) (ap length (take-length ps)) ∙ take-length ps

pub front-standing : (v : List ℕ) (d : ℕ) (f : Pattern) (here ps moved : List ℕ) → length ps ≡ length f.vars → take (length ps) moved ≡ ps → Standing v d f here ps → Standing v d f here moved
front-standing v d f here ps moved n e s = record {
  each = λ x h.
      let a = get_or-take (length ps) moved x 0 (omega arith) in
      let b = ap (λ (qs : List ℕ). get_or qs x 0) e in
      let q : get_or moved x 0 ≡ get_or ps x 0 = omega arith in
      rw q (s.each x h);
}

-- a search with every variable held finds the positions themselves, or they do not match
module _ (v : List ℕ) (ok : volume.Accepted v) (d : ℕ) (f : Pattern) (ps : List ℕ) where
  pub held-match : (r : Bool) (qs : List ℕ) → length qs ≡ length ps → HeldMatch (lists_of v) d f ps (length ps) r qs → r ≡ matches_at (lists_of v) d f ps
  held-match true qs size h =
      let same : qs ≡ ps = ext_get_or 0 qs ps size (λ i k. h.same refl i (omega arith)) in
      sym (subst (λ (rs : List ℕ). matches_at (lists_of v) d f rs ≡ true) same ((least_from_iff (lists_of v) (lists-rise v ok) d f ps qs).0 (h.least refl)).0.0)
  held-match false qs size h =
      ⊎_elim
      (λ (e : matches_at (lists_of v) d f ps ≡ true). absurd (h.missed refl ps (e, λ x. omega arith) (λ x l. refl)))
      (λ (e : matches_at (lists_of v) d f ps ≡ false). sym e)
      (true_or (matches_at (lists_of v) d f ps))

-- positions that the lists do not hold do not match
module _ (lists : List (List ℕ)) (d : ℕ) (f : Pattern) (ps : List ℕ) where
  pub match-not : (t : Bool) → t ≡ fits (vars_in lists d f.vars) ps → t ≡ false → false ≡ matches_at lists d f ps
  match-not t e q = let w : fits (vars_in lists d f.vars) ps ≡ false = sym e ∙ q in rw w

-- the answer, by the verdict
module _ (v p : List ℕ) (k d : ℕ) (ps : List ℕ) where
  pub test-refused : (n q : ℕ) → verdict v p ≡ refused n q → test_answer v p k d ps ≡ refused n q
  unfolding test_answer
  test-refused n q e = ap (λ s. test_by s k (pattern_at p k) d ps (matches_at (lists_of v) d (pattern_at p k) ps)) e

  module _ (s : Sizes) (e : verdict v p ≡ answered s) where
    tested : test_answer v p k d ps ≡ cond (out_of_range s.patterns k (pattern_at p k) d ps) (refused 17 0) (answered (matches_at (lists_of v) d (pattern_at p k) ps))
    unfolding test_answer
    tested = ap (λ x. test_by x k (pattern_at p k) d ps (matches_at (lists_of v) d (pattern_at p k) ps)) e

    outside : out_of_range s.patterns k (pattern_at p k) d ps ≡ true → test_answer v p k d ps ≡ refused 17 0
    outside h = tested ∙ rw h

    pub test-missing : s.patterns ≤ k → test_answer v p k d ps ≡ refused 17 0
    test-missing h = outside (range-missing s.patterns k (pattern_at p k) d ps h)

    module _ (there : k < s.patterns) where
      pub test-number : length ps ≢ length (pattern_at p k).vars → test_answer v p k d ps ≡ refused 17 0
      test-number n = outside (range-number s.patterns k (pattern_at p k) d ps there n)

      module _ (number : length ps ≡ length (pattern_at p k).vars) where
        pub test_doc : 65535 < d → test_answer v p k d ps ≡ refused 17 0
        test_doc h = outside (range_doc s.patterns k (pattern_at p k) d ps there number h)

        module _ (small : d ≤ 65535) where
          pub test-small : all (λ q. leb q 65535) ps ≡ false → test_answer v p k d ps ≡ refused 17 0
          test-small h = outside (range_small s.patterns k (pattern_at p k) d ps there number small false h)

          pub test-answer : all (λ q. leb q 65535) ps ≡ true → (b : Bool) → b ≡ matches_at (lists_of v) d (pattern_at p k) ps → test_answer v p k d ps ≡ answered b
          test-answer h b e = tested ∙ rw (range_small s.patterns k (pattern_at p k) d ps there number small true h, e)
