-- `Sources::fill` meets its contract. The loop's invariant: the words in front of `to` are made. The measure is what is left of the
-- lists and of both volumes. Assumes nothing.
use Prim.Native.Nat.{◌+◌, ◌-◌}
use mathlib.Core.Path.{◌≡◌}
use lib.ListN.{length}
use Rattle.volume.specs.Layout.{list_count}
use Rattle.join.specs.Inner.Reading.{read_of, Turned}
use Rattle.join.proofs.sources.Sources.fill.Given as goal

abbrev pub invariant-loop-to : goal.invariant-loop-to
invariant-loop-to l =
    Turned l.self.lift l.self.first.now l.self.second.now l.initial.here l.from l.initial.words l.here l.words
    × (l.to ≡ l.from + (read_of l.here - read_of l.initial.here))
    × (length l.words ≡ length l.initial.words)

abbrev pub decreases-loop-to : goal.decreases-loop-to
decreases-loop-to l = list_count l.self.first.now + l.self.all - (l.here.lists + read_of l.here)
