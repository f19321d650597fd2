-- The words of a block, of which a search takes a fifth again and again. Assumes nothing.
use Rattle.std.specs.Prelude.{ℕ, ◌+◌, ◌-◌, ◌*◌, ◌/◌, ◌%◌, ◌<◌, ◌≤◌, cond, List, eqb, ltb}
use Rattle.volume.specs.Layout.{word}
use Rattle.fulltext.specs.Positions.{limit}
use Rattle.matcher.specs.declared.cursor.Cursor.{Cursor}
use Rattle.matcher.specs.declared.paragraphs.Blocks.{Blocks}
use Rattle.matcher.specs.Inner.Cursors.{Stretch}

-- the words of a block rise
abbrev pub RisingBlock : List ℕ → ℕ → Type 0
RisingBlock v block = Stretch v (126 * block) (126 * block + 126)

-- word k of a block is below a bound, and the word n behind it is not
pub record Across (v : List ℕ) (block bound k n : ℕ) : Type 0 where
  pub below : word v (126 * block + k) < bound
  pub above : bound ≤ word v (126 * block + k + n)

-- each of these blocks, and the one behind it, lies between a cursor and its end
pub record Whole (c : Cursor) (blocks : Blocks) : Type 0 where
  pub from : (b : ℕ) → blocks.first ≤ b → c.at ≤ 126 * b
  pub to : (b : ℕ) → b < blocks.last → 126 * b + 252 ≤ c.end

-- the blocks that a cursor has before it: from the one behind that in which it stands, in front of the last one that is before its end
abbrev pub blocks_of : Cursor → Blocks
blocks_of c = record { first = c.at / 126 + 1; last = cond (ltb c.end 252) 0 ((c.end - 252) / 126 + 1) }

-- the position of a posting w, if that is of document d; else 65,536
abbrev pub start_in : ℕ → ℕ → ℕ
start_in d w = cond (eqb (w / 65536) d) (w % 65536) limit
