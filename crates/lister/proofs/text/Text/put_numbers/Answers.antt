use native.Mathlib.Omega.{arith}
use mathlib.Core.Path.{◌≡◌, refl, ◌∙◌}
use lib.ListN.{length}
use Rattle.seq.specs.Lists.{joined}
use Rattle.seq.specs.Numbers.{run}
use Rattle.lister.proofs.Laws.Stored.{stored-none, pieces_room, pieces_more}
use Rattle.lister.proofs.Laws.Text.{numbers-pieces}
use Rattle.lister.proofs.text.Text.put_numbers.Invariants.{piece}
use Rattle.lister.proofs.text.Text.put_numbers.Goals as goal

pub loop-n-init : goal.loop-n-init
unfolding joined run
loop-n-init c = let s = c.args.self.now in (stored-none s.out.now s.end (omega arith), refl)

pub put_number-requires : goal.put_number-requires
put_number-requires c =
    let l = c.loop-n in
    rw c.from.ensures (pieces_room (piece c.args.ns.now) {n = length c.args.ns.now} (rw (numbers-pieces c.args.ns.now) at c.requires) (omega arith) l.invariant.0)

pub loop-n-preserved : goal.loop-n-preserved
loop-n-preserved c =
    let l = c.loop-n in
    let p = rw c.from.ensures at c.put_number.ensures in
    (pieces_more (piece c.args.ns.now) l.invariant.0 p.added, p.same ∙ l.invariant.1)

pub returns : goal.returns
returns c =
    let l = c.loop-n in
    let ns = c.args.ns.now in
    let e : l.n-index ≡ length ns = omega arith in
    record { added = rw (numbers-pieces ns) (rw e at l.invariant.0); same = l.invariant.1 }
