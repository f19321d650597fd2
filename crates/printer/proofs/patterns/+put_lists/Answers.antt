-- `patterns::put_lists` meets its contract: a list number has a space in front of it where another stands there, else `[`. Assumes nothing.
use native.Mathlib.Omega.{arith}
use mathlib.Core.Path.{sym, ◌∙◌}
use Rattle.printer.proofs.Laws.Patterns.{some-before, lists-voice, lists-number, lists-room, lists-next, lists-first}
use Rattle.printer.proofs.patterns.+put_lists.Goals as goal

pub list_at-requires-clause-by_index : goal.list_at-requires-clause-by_index
list_at-requires-clause-by_index t c =
    lists-voice c.requires

pub put_number-requires : goal.put_number-requires
put_number-requires t c =
    omega (arith, lists-number c.list_at.ensures c.requires)

pub put_byte-requires : goal.put_byte-requires
put_byte-requires t c =
    omega (arith, lists-number c.list_at.ensures c.requires, c.put_number.ensures.put.ends)

pub put_lists-requires : goal.put_lists-requires
put_lists-requires t c =
    let b = sym c.behind_voice.ensures ∙ c.if-behind_voice.true in
    let s = some-before c.args.plan.now c.args.last b in
    let room = lists-room c.list_at.ensures b c.put_number.ensures.put c.put_byte.ensures.put c.requires in
    (omega (arith, c.decreases), room)

pub returns-then-behind_voice : goal.returns-then-behind_voice
returns-then-behind_voice t c =
    let b = sym c.behind_voice.ensures ∙ c.if-behind_voice.true in
    let number = c.put_number.ensures in
    let space = c.put_byte.ensures in
    let rest = c.put_lists.ensures in
    record { put = lists-next c.list_at.ensures b number.put space.put rest.put; same = rest.same ∙ space.same ∙ number.same }

pub put_byte-requires-else-behind_voice : goal.put_byte-requires-else-behind_voice
put_byte-requires-else-behind_voice t c =
    omega (arith, lists-number c.list_at.ensures c.requires, c.put_number.ensures.put.ends)

pub returns-else-behind_voice : goal.returns-else-behind_voice
returns-else-behind_voice t c =
    let b = sym c.behind_voice.ensures ∙ c.if-behind_voice.false in
    let number = c.put_number.ensures in
    let bracket = c.put_byte-else-behind_voice.ensures in
    record { put = lists-first c.list_at.ensures b number.put bracket.put; same = bracket.same ∙ number.same }
