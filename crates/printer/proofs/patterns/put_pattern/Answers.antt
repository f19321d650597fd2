-- `patterns::put_pattern` meets its contract. Assumes nothing.
use mathlib.Core.Path.{◌∙◌}
use Rattle.printer.proofs.Laws.Patterns.{pattern-some, pattern-room, pattern-put}
use Rattle.printer.proofs.patterns.put_pattern.Goals as goal

pub put_byte-requires : goal.put_byte-requires
put_byte-requires c = (pattern-some c.requires).1

pub overflow_sub-last : goal.overflow_sub-last
overflow_sub-last c = (pattern-some c.requires).0

pub put_open-requires : goal.put_open-requires
put_open-requires c = pattern-room c.put_byte.ensures.put c.requires

pub returns : goal.returns
returns c =
    let bracket = c.put_byte.ensures in
    let front = c.put_open.ensures in
    record { put = pattern-put bracket.put front.put; same = front.same ∙ bracket.same }
