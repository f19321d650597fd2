-- The measure of `patterns::put_open` is the row. Assumes nothing.
use Rattle.printer.proofs.patterns.+put_open.Given as goal

abbrev pub decreases-put_open : goal.decreases-put_open
decreases-put_open l = l.last
