-- The measure of the readers is the text that is left; on the same text lines call a line, a line calls a part, and a part an item. Assumes
-- nothing.
use Rattle.std.proofs.Common.{◌+◌, ◌-◌, ◌*◌, length}
use Rattle.line.proofs.reading.+item_line_lines_part_several.Given as goal

abbrev pub decreases-item : goal.decreases-item
decreases-item l = 4 * (length l.text.now - l.at)

abbrev pub decreases-line : goal.decreases-line
decreases-line l = 4 * (length l.text.now - l.at) + 2

abbrev pub decreases-lines : goal.decreases-lines
decreases-lines l = 4 * (length l.text.now - l.at) + 3

abbrev pub decreases-part : goal.decreases-part
decreases-part l = 4 * (length l.text.now - l.at) + 1

abbrev pub decreases-several : goal.decreases-several
decreases-several l = 4 * (length l.text.now - l.at)
