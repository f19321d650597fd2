-- How many words of the stream are below a number: what `stream::below_in_window` and `stream::below_across` count, by which a cursor of
-- `matcher` moves.
-- No call's promise rests on this file. Assumes nothing.
use Rattle.std.specs.Prelude.{ℕ, ◌+◌, cond, List, ltb}
use Rattle.seq.specs.Numbers.{sum_to}
use Rattle.volume.specs.Layout.{word}

-- 1 where x is below y
abbrev pub below_of : ℕ → ℕ → ℕ
below_of x y = cond (ltb x y) 1 0

-- of the words of v's stream from index i on, m of them, how many are below target
abbrev pub below_count : List ℕ → ℕ → ℕ → ℕ → ℕ
below_count v target i m = sum_to (λ j. below_of (word v (i + j)) target) m
