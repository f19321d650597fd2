use native.Mathlib.Omega.{arith}
use native.Mathlib.Nat.{zero-add}
use Prim.Native.Nat.{◌/◌}
use mathlib.Core.Path.{◌≡◌, sym}
use mathlib.Core.List.{[], ◌∷◌}
use lib.ListN.{length}
use borrow.Author.Tests.{eqb-true, eqb-false}
use Rattle.seq.specs.Numbers.{run}
use Rattle.seq.proofs.Laws.Numbers.{run-snoc}
use Rattle.lister.proofs.Laws.Stored.{stored-none, stored_one, stored_more}
use Rattle.lister.proofs.Laws.Files.{words-empty, words_long, words_uneven, words-whole}
use Rattle.lister.proofs.files.plan_words.Invariants.{word_of}
use Rattle.lister.specs.Printed.{plan_words}
use Rattle.lister.proofs.files.plan_words.Goals as goal
use Rattle.lister.proofs.files.plan_words.Goals.{then-is_empty-via-then-is_empty, then-is_empty-via-else-is_empty+then-file-gt-PLAN_BYTES, then-is_empty-via-else-is_empty+else-file-gt-PLAN_BYTES+then-file-ne0}

pub returns-then-is_empty : goal.returns-then-is_empty
returns-then-is_empty c =
    let a = c.args in
    let file = a.file.now in
    let none : plan_words file ≡ [] = elim c.then-is_empty.branch [
      | then-is_empty-via-then-is_empty w ↦ words-empty file (eqb-true (length file) 0 (sym w.if-is_empty.ensures))
      | then-is_empty-via-else-is_empty+then-file-gt-PLAN_BYTES w ↦ words_long file (omega arith)
      | then-is_empty-via-else-is_empty+else-file-gt-PLAN_BYTES+then-file-ne0 w ↦
          let some = eqb-false (length file) 0 (sym w.if-is_empty.ensures) in
          words_uneven file (omega (arith, some)) (omega arith) w.if-file-ne0.true
    ] in
    rw none (stored-none a.words.now 0 (omega arith))

pub loop-i-init : goal.loop-i-init
unfolding run
loop-i-init c = stored-none c.args.words.now 0 (omega arith)

pub loop-i-preserved : goal.loop-i-preserved
loop-i-preserved c =
    let l = c.loop-i in
    let f = word_of c.args.file.now in
    rw (run-snoc f 0 l.i, zero-add l.i, c.read32.ensures)
    (stored_more l.invariant (f l.i ∷ []) (stored_one l.words l.i (f l.i) (omega arith)))

pub returns : goal.returns
returns c =
    let l = c.loop-i in
    let file = c.args.file.now in
    let e : l.i ≡ length file / 4 = omega arith in
    let some = eqb-false (length file) 0 (sym c.if-is_empty.ensures) in
    rw (words-whole file (omega (arith, some)) (omega arith) c.if-file-ne0.false, ← e) l.invariant
