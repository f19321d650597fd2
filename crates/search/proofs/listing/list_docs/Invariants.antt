-- The rows of the true documents below `from` are laid, the walk goes on there (`Visiting`), `known` has answers of the plan, and `block`
-- begins within the stream. Each turn ends in an answer or a later document.
use Prim.Native.Nat.{◌-◌, ◌*◌, ◌≤◌}
use mathlib.Core.Path.{◌≡◌}
use lib.ListN.{length, take}
use Rattle.plan.specs.Limits.{most_patterns, most_vars}
use Rattle.volume.specs.Layout.{stream_length}
use Rattle.matcher.specs.Inner.Cursors.{ats_of, ends_of}
use Rattle.plan.specs.Inner.Stack.{most_found_sets, Remembers}
use Rattle.search.proofs.Laws.Visits.{Visiting}
use Rattle.search.proofs.listing.list_docs.Given as goal

abbrev pub invariant-loop-seen : goal.invariant-loop-seen
invariant-loop-seen l = Visiting l.query.volume.bytes.now l.query.plan.now (ends_of l.firsts) l.start l.initial.out (ats_of l.cursors) l.positions (take l.patterns l.docs) l.out l.from l.rows l.starts
    × ((length l.docs ≡ most_patterns)
    × ((ends_of l.cursors ≡ ends_of l.firsts)
    × ((length l.known ≡ most_found_sets)
    × (Remembers l.query.plan.now l.known
    × ((length l.positions ≡ length l.initial.positions) × ((length l.paras ≡ most_vars) × (126 * l.block ≤ stream_length l.query.volume.bytes.now)))))))

abbrev pub decreases-loop-seen : goal.decreases-loop-seen
decreases-loop-seen l = 65537 - l.from
