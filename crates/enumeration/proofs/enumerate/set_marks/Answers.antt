use Prim.Native.Nat.{ℕ, ◌<◌, ◌≤◌}
use native.Mathlib.Omega.{arith}
use mathlib.Core.Path.{◌≡◌, refl, sym, ap, ◌∙◌}
use mathlib.Core.Logic.{⊎_elim}
use mathlib.Core.List.{List}
use lib.ListN.{get_or, length-set}
use lib.Seq.{get_or-set_same, get_or-set_other}
use borrow.Author.Rules.{rules}
use Rattle.seq.proofs.Laws.Tests.{below_or}
use Rattle.matcher.specs.Inner.Cursors.{ats_of}
use Rattle.matcher.proofs.Laws.Cursors.{length-ats, ats-at, ats-set, ends-kept}
use Rattle.enumeration.proofs.enumerate.set_marks.Goals as goal

pub loop-x-init : goal.loop-x-init
loop-x-init c = record { set = λ y h. absurd (let z : ⊥ = omega arith in z); ends = refl; long = search rules }

pub loop-x-preserved : goal.loop-x-preserved
loop-x-preserved c =
    let l = c.loop-x in
    record {
      set = λ y h.
          ⊎_elim
          (λ (k : y < l.x).
          ap (λ (is : List ℕ). get_or is y 0) (ats-set l.marks l.x _) ∙ get_or-set_other (ats_of l.marks) l.x y _ 0 (λ q. omega arith) ∙ l.invariant.set y k)
          (λ (k : l.x ≤ y).
          let q : y ≡ l.x = omega arith in
          rw q (ap (λ (is : List ℕ). get_or is l.x 0) (ats-set l.marks l.x _) ∙ get_or-set_same (ats_of l.marks) l.x _ 0 (let e = length-ats l.marks in let k = l.invariant.long in let b = c.requires in omega arith) ∙ sym (ats-at c.args.here.now l.x)))
          (below_or y l.x);
      ends = ends-kept l.marks l.x _ refl ∙ l.invariant.ends;
      long = length-set l.marks l.x _ ∙ l.invariant.long;
    }

pub returns : goal.returns
returns c =
    let l = c.loop-x in
    record { by_index = λ x h. l.invariant.set x (omega arith); ends_unchanged = l.invariant.ends }
