use native.Mathlib.Omega.{arith}
use Prim.Native.Nat.{ℕ, ◌+◌, ◌≤◌}
use mathlib.Core.Path.{◌≡◌, refl, sym, ap, ◌∙◌}
use mathlib.Core.List.{List, [], ◌∷◌, ◌++◌, append-nil}
use lib.ListN.{length, set, take, drop, drop_of_length-le}
use lib.Seq.{length-take-le}
use Rattle.seq.specs.Numbers.{run}
use Rattle.seq.proofs.Laws.Numbers.{run-snoc, length_run}
use Rattle.seq.proofs.Laws.Stores.{put_next}
use Rattle.volume.specs.Layout.{word}
use Rattle.volume.proofs.reading.copy_postings.Goals as goal

pub loop-i-init : goal.loop-i-init
unfolding run
loop-i-init c = refl

pub loop-i-preserved : goal.loop-i-preserved
loop-i-preserved c =
    let l = c.loop-i in
    let a = c.args in
    let f = word a.volume.now in
    let before = take a.n a.out.now in
    ap (λ (xs : List ℕ). set xs l.i c.word_at.result) l.invariant
    ∙ put_next (run f a.from l.i) before l.i c.word_at.result (length_run f a.from l.i) c.loop-i-test.true
    ∙ ap (λ (xs : List ℕ). xs ++ drop (l.i + 1) before) (ap (λ (x : ℕ). run f a.from l.i ++ (x ∷ [])) c.word_at.ensures ∙ sym (run-snoc f a.from l.i))

pub returns : goal.returns
returns c =
    let l = c.loop-i in
    let a = c.args in
    let size = length-take-le a.n a.out.now c.requires.n_in_bounds in
    let e : l.i ≡ a.n = omega arith in
    let full : length (take a.n a.out.now) ≤ a.n = omega arith in
    let all = rw (e, drop_of_length-le (take a.n a.out.now) full, append-nil) at l.invariant in
    rw all
