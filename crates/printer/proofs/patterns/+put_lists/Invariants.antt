-- The measure of `patterns::put_lists` is the row. Assumes nothing.
use Rattle.printer.proofs.patterns.+put_lists.Given as goal

abbrev pub decreases-put_lists : goal.decreases-put_lists
decreases-put_lists l = l.last
