-- `figure::put` meets its contract: a row that does not fit changes nothing. Assumes nothing.
use native.Mathlib.Omega.{arith}
use mathlib.Core.Path.{sym, ap, ◌∙◌}
use mathlib.Core.List.{◌++◌, append_assoc}
use borrow.Author.Tests.{le-leb, lt-leb}
use Rattle.std.proofs.Common.{ℕ, ◌+◌, ◌*◌, List, length, take, drop, length-take-le, take-append-drop}
use Rattle.seq.proofs.Laws.Stores.{put-part}
use Rattle.line.specs.Inner.Store.{put_row}
use Rattle.line.proofs.figure.put.Goals as goal

pub returns-then-at-out : goal.returns-then-at-out
unfolding put_row
returns-then-at-out c =
    let o = c.args.out.now in
    let at = 4 * c.args.row in
    let words = c.copy_from_slice.ensures.after ∙ c.words_of.ensures in
    rw (le-leb (at + 4) (length o) (omega arith))
    (put-part (take at o) o o _ at (at + 4) (length-take-le at o (omega arith)) (omega arith) (sym (take-append-drop at o))
    ∙ append_assoc (take at o) _ (drop (at + 4) o)
    ∙ ap (λ (ws : List ℕ). take at o ++ (ws ++ drop (at + 4) o)) words)

pub returns-else-at-out : goal.returns-else-at-out
unfolding put_row
returns-else-at-out c = let a = c.args in rw (lt-leb (4 * a.row + 4) (length a.out.now) (omega arith))
