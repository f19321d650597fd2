-- The measure is the row; on the same row lines call a tree, and a tree its connective or its AT LEAST. Assumes nothing.
use Rattle.std.proofs.Common.{◌+◌, ◌*◌}
use Rattle.printer.proofs.trees.+put_lines_put_node_put_threshold_put_tree.Given as goal

abbrev pub decreases-put_lines : goal.decreases-put_lines
decreases-put_lines l = 3 * l.last + 2

abbrev pub decreases-put_node : goal.decreases-put_node
decreases-put_node l = 3 * l.last

abbrev pub decreases-put_threshold : goal.decreases-put_threshold
decreases-put_threshold l = 3 * l.last

abbrev pub decreases-put_tree : goal.decreases-put_tree
decreases-put_tree l = 3 * l.last + 1
