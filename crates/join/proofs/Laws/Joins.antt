-- What joining lays at the front of the output is accepted, and reads as the joined lists. No contract cites this file.
--     joined-within     the joined lists of volumes that are joined are within the limits
--     front-is          the front of the output is their volume
--     joining           it is accepted, and reads as exactly these lists
-- Assumes nothing.
use Prim.Native.Nat.{ℕ, ◌*◌}
use mathlib.Core.Path.{◌≡◌, sym, ap, ◌∙◌, subst}
use mathlib.Core.List.{List, ◌++◌}
use lib.ListN.{length, take, drop}
use lib.Seq.{take-append_seam}
use Rattle.seq.specs.Refusals.{answered}
use Rattle.block.specs.Bytes.{IsBytes}
use Rattle.volume.specs.Layout.{lists_of}
use Rattle.volume.specs.Check.{Accepted}
use Rattle.volume.specs.Write.{volume_of}
use Rattle.volume.specs.Demands.{Within}
use Rattle.volume.proofs.Laws.Check.{accepted}
use Rattle.volume.proofs.Laws.Within.{volume-good, volume-lists}
use Rattle.join.specs.Joined.{raised}
use Rattle.join.specs.Join.{lists_of_both, join_answer, join_out}
use Rattle.join.specs.Demands.{Joining}
use Rattle.join.proofs.Laws.Limits.{length-volume, within}
use Rattle.join.proofs.Laws.JoinFirst.{answered-of, join_call}

module _ (h : ℕ) (v w out : List ℕ) (n : ℕ) (e : (join_answer h v w (length out)).said ≡ answered n) where
  -- the joined lists, and their volume
  abbrev lists : List (List ℕ)
  lists = lists_of_both h v w

  size_is : length (volume_of lists) ≡ 512 * n
  size_is = let a = answered-of h v w (length out) n e in length-volume (raised h) v w a.same ∙ ap (λ (k : ℕ). 512 * k) (sym a.blocks)

  pub front-is : take (512 * n) (join_out h v w out) ≡ volume_of lists
  front-is =
      ap (take (512 * n)) ((join_call h v w out).laid n e)
      ∙ ap (λ (k : ℕ). take k (volume_of lists ++ drop (512 * n) out)) (sym size_is)
      ∙ take-append_seam (volume_of lists) (drop (512 * n) out)

  module _ (bv : IsBytes v) (bw : IsBytes w) where
    pub joined-within : Within lists
    joined-within = let a = answered-of h v w (length out) n e in within h v w a.first a.second a.same a.right bv bw a.fits

    pub joining : Joining h v w out n
    joining = record {
      size = ap length front-is ∙ size_is;
      accepted = subst Accepted (sym front-is) (accepted (volume_of lists) (volume-good lists joined-within));
      lists = ap lists_of front-is ∙ volume-lists lists joined-within;
    }
