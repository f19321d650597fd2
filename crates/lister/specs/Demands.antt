-- The statements that the program is held to, each a named type. `proofs/Demands.antt` proves each in a line. Assumes nothing.
--     Whole     what the program's turns have printed and what is still to come are together the whole
--     Seen      the bytes that the program reads of the two files are enough
--     Cases     the starred cases of document 01
use Rattle.std.specs.Prelude.{ℕ, ◌+◌, ◌*◌, ◌≡◌, List, ◌++◌, map, take}
use Rattle.plan.specs.Limits.{most_words}
use Rattle.fulltext.specs.Positions.{limit}
use Rattle.lister.specs.Printed.{printed}
use Rattle.lister.specs.Turns.{text_from, Came}
use Rattle.lister.specs.Cases.{Case, told, table}

-- The texts that turns have printed, and those of the turns from there on, joined, are what is printed; 65,536 turns are always enough.
-- No contract can say what is written: `write_turn` asks for `Due`, so that `print` has to hand on the document and the sum of each turn,
-- and its text
unfoldable pub Whole : Type 0
Whole = (v b texts : List ℕ) (from tally : ℕ) → Came v b texts from tally → texts ++ text_from v b limit from tally ≡ printed v b

-- What is printed of two files is what is printed of the first 65,537 bytes of one and the first 1,025 of the other
unfoldable pub Seen : Type 0
Seen = (v b : List ℕ) → printed (take 65537 v) (take (4 * most_words + 1) b) ≡ printed v b

-- The starred cases: on each row of the table the definitions say what is wanted
unfoldable pub Cases : Type 0
Cases = map (λ (c : Case). told c.asked) table ≡ map (λ (c : Case). c.wanted) table
