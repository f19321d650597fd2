-- Reading a list of an accepted volume. No contract cites this file.
--     reads-list      the answer and the lent words, by the volume's lists
--     reads-written   the same for the volume of lists within the limits
-- Assumes nothing.
use Prim.Native.Nat.{ℕ, ◌<◌, ◌≤◌}
use native.Mathlib.Omega.{arith}
use mathlib.Core.Path.{◌≡◌, sym, ap, ◌∙◌}
use mathlib.Core.List.{List, [], ◌++◌}
use lib.ListN.{length, get_or, drop}
use Rattle.seq.specs.Refusals.{answered}
use Rattle.seq.proofs.Laws.Numbers.{length_run}
use Rattle.volume.specs.Layout.{word, list_count, count, start, lists_of}
use Rattle.volume.specs.Check.{sizes, Accepted}
use Rattle.volume.specs.Read.{read_answer, read_out}
use Rattle.volume.specs.Write.{volume_of}
use Rattle.volume.specs.Demands.{Within}
use Rattle.volume.proofs.Laws.Check as check
use Rattle.volume.proofs.Laws.Read.{read_answer_lem, read-laid}
use Rattle.volume.proofs.Laws.Volume.{list-of, length-lists_of}
use Rattle.volume.proofs.Laws.Within.{volume-good, volume-lists}

module _ (v : List ℕ) (accepted : Accepted v) (i : ℕ) (there : i < list_count v) where
  length-list : length (get_or (lists_of v) i []) ≡ count v i
  length-list = ap length (list-of v i there) ∙ length_run (word v) (start v i) (count v i)

  pub reads-list :
      (out : List ℕ) → length (get_or (lists_of v) i []) ≤ length out
      → (read_answer v i (length out) ≡ answered (length (get_or (lists_of v) i [])))
      × (read_out v i out ≡ get_or (lists_of v) i [] ++ drop (length (get_or (lists_of v) i [])) out)
  reads-list out h =
      let e = read_answer_lem v i (length out) (sizes v) accepted there (let a = length-list in omega arith) in
      (e ∙ ap answered (sym length-list), read-laid v i out (count v i) e ∙ rw (length-list, list-of v i there))

pub reads-written :
    (ls : List (List ℕ)) → Within ls → (i : ℕ) → i < length ls → (out : List ℕ) → length (get_or ls i []) ≤ length out
    → (read_answer (volume_of ls) i (length out) ≡ answered (length (get_or ls i [])))
    × (read_out (volume_of ls) i out ≡ get_or ls i [] ++ drop (length (get_or ls i [])) out)
reads-written ls w i h out =
    let there : i < list_count (volume_of ls) = (let a = length-lists_of (volume_of ls) in let b = ap length (volume-lists ls w) in omega arith) in
    rw (volume-lists ls w) at (reads-list (volume_of ls) (check.accepted (volume_of ls) (volume-good ls w)) i there out)
