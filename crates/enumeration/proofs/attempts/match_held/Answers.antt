-- The variables are brought to the bounds. Where those that are held stand at theirs, the search goes on from there.
use Prim.Native.Nat.{ℕ}
use native.Mathlib.Omega.{arith}
use mathlib.Core.Path.{◌≡◌, refl, sym, ◌∙◌}
use mathlib.Core.Bool.{Bool, not, true, false}
use mathlib.Core.List.{List}
use lib.ListN.{length}
use borrow.Author.Rules.{rules}
use Rattle.std.specs.Bool.{Decides}
use Rattle.std.specs.Cmp.Lexicographic.{pointwise}
use Rattle.std.specs.Prelude.{nat_eq}
use Rattle.std.proofs.lemmas.Bool.Decides.{Decides-eqb, not_from_Decides}
use Rattle.std.proofs.lemmas.Slice.Eq.{slice_eq-Decides}
use Rattle.enumeration.proofs.Laws.Attempts.{posed-few, stood-standing, stood-none, stood-apart, stood_on}
use Rattle.enumeration.proofs.attempts.match_held.Goals as goal
use Rattle.enumeration.proofs.attempts.match_held.Goals.{Start}

-- arrays have their lengths
lows-long : (s : Start) → length s.args.walk.now.lows ≡ 8
lows-long s = search rules

positions-long : (s : Start) → length s.args.walk.now.positions ≡ 8
positions-long s = search rules

-- what `!=` says of two slices
told : (xs ys : List ℕ) → Decides (pointwise nat_eq xs ys) (xs ≡ ys)
told xs ys = slice_eq-Decides Decides-eqb xs ys (pointwise nat_eq xs ys) refl

not_true : (b : Bool) → not b ≡ true → b ≡ false
not_true true e = sym e
not_true false e = refl

not_false : (b : Bool) → not b ≡ false → b ≡ true
not_false true e = refl
not_false false e = sym e

differ : (xs ys : List ℕ) (r : Bool) → r ≡ not (pointwise nat_eq xs ys) → r ≡ true → xs ≡ ys → ⊥
differ xs ys r e t = not_from_Decides (pointwise nat_eq xs ys) (told xs ys) (not_true (pointwise nat_eq xs ys) (sym e ∙ t))

same : (xs ys : List ℕ) (r : Bool) → r ≡ not (pointwise nat_eq xs ys) → r ≡ false → xs ≡ ys
same xs ys r e t = (told xs ys).0 (not_false (pointwise nat_eq xs ys) (sym e ∙ t))

pub returns-then-not-stand_from-clause-held_match : goal.returns-then-not-stand_from-clause-held_match
returns-then-not-stand_from-clause-held_match c =
    let p = c.requires in
    stood-none _ _ _ _ _ p.sought.posed _ _ p.walking.marked c.stand_from.result _ _ c.stand_from.ensures.stood_from c.if-not-stand_from.true _ _

pub returns-then-ne-clause-held_match : goal.returns-then-ne-clause-held_match
returns-then-ne-clause-held_match c =
    let p = c.requires in
    let s = (goal.at.returns-then-ne-clause-held_match c).Start in
    let l = lows-long s in
    let q = positions-long s in
    let f = posed-few _ _ _ _ _ p.sought.posed in
    let e = c.stand_from.ensures.positions_len_unchanged in
    stood-apart _ _ _ _ _ p.sought.posed _ _ p.walking.marked c.stand_from.result _ _ c.stand_from.ensures.stood_from c.if-not-stand_from.false (omega arith) (omega arith) _
    p.held_lt_vars (differ _ _ _ c.ne.ensures c.if-ne.true) _

pub match_from-requires-clause-posed : goal.match_from-requires-clause-posed
match_from-requires-clause-posed c = let p = c.requires in rw (c.stand_from.ensures.ends_unchanged ∙ p.walking.here_end) p.sought.posed

pub match_from-requires-clause-standing : goal.match_from-requires-clause-standing
match_from-requires-clause-standing c =
    let p = c.requires in
    stood-standing _ _ _ _ _ p.sought.posed _ _ p.walking.marked c.stand_from.result _ _ c.stand_from.ensures.stood_from c.if-not-stand_from.false

pub returns-clause-held_match : goal.returns-clause-held_match
returns-clause-held_match c =
    let p = c.requires in
    let s = (goal.at.returns-clause-held_match c).Start in
    let l = lows-long s in
    let q = positions-long s in
    let f = posed-few _ _ _ _ _ p.sought.posed in
    let e = c.stand_from.ensures.positions_len_unchanged in
    stood_on _ _ _ _ _ p.sought.posed _ _ p.walking.marked c.stand_from.result _ _ c.stand_from.ensures.stood_from c.if-not-stand_from.false (omega arith) (omega arith) _
    p.held_lt_vars (same _ _ _ c.ne.ensures c.if-ne.false) c.match_from.result _ c.match_from.ensures.held_match
