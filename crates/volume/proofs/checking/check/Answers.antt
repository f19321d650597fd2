-- `checking::check` meets its contract: the length, the blocks, and then the stream. Assumes nothing.
use mathlib.Core.Path.{◌≡◌, sym, ◌∙◌}
use mathlib.Core.Bool.{false}
use Rattle.std.proofs.lemmas.Result.{err_from_is_err_and}
use Rattle.volume.specs.Check.{length_wrong}
use Rattle.volume.proofs.Laws.Check.{length_right, verdict-length, verdict_stream}
use Rattle.volume.proofs.Laws.Pass.{pass-falls, pass-verdict}
use Rattle.volume.proofs.checking.check.Goals as goal
use Rattle.volume.proofs.checking.check.Goals.{After-check_blocks}

-- the length is in order
length-is : (c : After-check_blocks) → length_wrong c.args.volume.now ≡ false
length-is c = sym c.length_wrong.ensures ∙ c.if-length_wrong.false

pub returns-then-length_wrong : goal.returns-then-length_wrong
returns-then-length_wrong c = sym (verdict-length _ (sym c.length_wrong.ensures ∙ c.if-length_wrong.true))

pub invariant_of-whole : goal.invariant_of-whole
invariant_of-whole c =
    let w = length_right _ (sym c.length_wrong.ensures ∙ c.if-length_wrong.false) in
    record { whole = w.whole; few = w.most }

pub returns-in_err-falls : goal.returns-in_err-falls
returns-in_err-falls c =
    let p = err_from_is_err_and c.from_residual.result c.from_residual.ensures.1 in
    rw (p.1, p.2) (pass-verdict _ _ (length-is (goal.at.returns-in_err-falls c).After-check_blocks) c.in_err-falls.ensures)

pub check_stream-requires : goal.check_stream-requires
check_stream-requires c =
    let w = length_right _ (length-is (goal.at.check_stream-requires c).After-check_blocks) in
    let falls = pass-falls c.args.volume.now _ c.in_ok-falls.ensures in
    record { bound = w.some; all_value = falls.1 }

pub returns : goal.returns
returns c =
    let w = pass-falls c.args.volume.now _ c.in_ok-falls.ensures in
    c.check_stream.ensures ∙ sym (verdict_stream _ (length-is (goal.at.returns c).After-check_blocks) w.0)
