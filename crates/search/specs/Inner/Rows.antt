-- The row of a document, from the bits of the patterns that are found there and the positions of all variables. Assumes nothing.
use Rattle.std.specs.Prelude.{ℕ, zero, suc, ◌/◌, ◌%◌, cond, List, ◌∷◌, take, drop, eqb}
use Rattle.std.proofs.Math.Option.{Option, none, some}
use Rattle.seq.specs.Lists.{joined}
use Rattle.seq.specs.Numbers.{run}
use Rattle.plan.specs.declared.outline.Outline.{Outline}
use Rattle.plan.specs.Inner.Outline.{outline_at}
use Rattle.fulltext.specs.Documents.{with_starts, shown}

-- a number without its lowest k bits
unfoldable pub halved : ℕ → ℕ → ℕ
halved bits zero = bits
halved bits (suc k) = halved bits k / 2

-- the positions of pattern k of a table among those of all variables, where its bit is 1
abbrev pub positions_by : List Outline → ℕ → List ℕ → ℕ → Option (List ℕ)
positions_by table bits ps k =
    cond (eqb (halved bits k % 2) 1) (some (take (outline_at table k).vars (drop (outline_at table k).first ps))) none

-- what a row shows of pattern k, in a document with these starts
abbrev pub shown_by : List ℕ → List Outline → ℕ → List ℕ → ℕ → List ℕ
shown_by starts table bits ps k = shown starts (outline_at table k).vars (positions_by table bits ps k)

-- the row of document d, with the first n patterns
unfoldable pub row_by : List ℕ → List Outline → ℕ → ℕ → List ℕ → ℕ → List ℕ
unfolding halved with_starts joined run
row_by starts table d bits ps n = d ∷ joined (run (shown_by starts table bits ps) 0 n)
