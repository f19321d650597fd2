-- What the readers of lines, parts, items and patterns answer, for the contracts inside the crate: how the reading of the whole text goes
-- on, and which rows they store. Assumes nothing.
--     from                       the reading of a text from a byte on
--     Stored                     rows that are stored while a stretch of text is read
--     FigureRead, ItemRead, PartRead, LineRead, SeveralRead, LinesRead, WholeRead     the answers of the readers
use Rattle.std.specs.Prelude.{ℕ, suc, ◌+◌, ◌<◌, ◌≤◌, ◌≡◌, ◌≢◌, List, [], ◌∷◌, ◌++◌, length, get_or, drop, Option, Some, None, Result, Ok, Err}
use Rattle.plan.specs.declared.row.Row.{Row}
use Rattle.plan.specs.declared.row.Operator.TheVariants.{Both, Either, FirstNotSecond}
use Rattle.plan.specs.Parts.{pattern_rows}
use Rattle.line.specs.declared.reading.Reached.{Reached}
use Rattle.line.specs.declared.reading.Stop.{Stop}
use Rattle.line.specs.declared.reading.Stop.TheVariants.{Broken, Deep}
use Rattle.grammar.specs.declared.tokens.Connective.{Connective}
use Rattle.grammar.specs.declared.tokens.Connective.TheVariants.{And, Or, AndNot}
use Rattle.grammar.specs.Grammar.{Figure, Part, Item, Lines, figure, both, without, line_count}
use Rattle.grammar.specs.Meaning.{pattern_of, operator_row, line_rows, part_rows, item_rows, lines_rows}
use Rattle.grammar.specs.Reading.{listing, fresh, Front, bare, eithers, Context, first, next, Bracket, among, Config, ready, inside, after, opened}
use Rattle.grammar.specs.Reading.{line_of, filled, Outcome, whole, broken, deep, outcome}
use Rattle.line.specs.Inner.Store.{stored}

-- a text from byte q on, where c has been read
abbrev pub from : List ℕ → Config → ℕ → Outcome
from s c q = outcome c q (drop q s)

-- from byte `at` and row n the reading came to byte e and row m: the rows `new` were stored, not more than bytes and slack
pub record Stored (s : List ℕ) (at n slack : ℕ) (out out' : List ℕ) (e m : ℕ) (new : List Row) : Type 0 where
  pub ahead : at < e
  pub within : e ≤ length s
  pub few : m + at ≤ n + e + slack
  pub count : m ≡ n + length new
  pub is : out' ≡ stored out n new

-- a figure behind its opening bracket
pub record FigureAt (s : List ℕ) (at n : ℕ) (out out' : List ℕ) (e m : ℕ) : Type 0 where
  pub read : Figure
  pub rows : Stored s at n 1 out out' e m (pattern_rows (pattern_of read))
  pub goes : (p : Context) (ps : List Bracket) → length ps ≤ 8
      → from s (inside (listing [] fresh) p ps) at ≡ from s (filled p (figure read) ps) e

-- the answer of its reader
abbrev pub FigureRead : List ℕ → ℕ → ℕ → List ℕ → List ℕ → Result Reached Stop → Type 0
FigureRead s at n out out' (Ok r) = FigureAt s at n out out' r.at r.rows
FigureRead s at n out out' (Err (Broken e)) =
    (p : Context) (ps : List Bracket) → length ps ≤ 8 → from s (inside (listing [] fresh) p ps) at ≡ broken e
FigureRead s at n out out' (Err (Deep e)) = ⊥

-- an item
pub record ItemAt (s : List ℕ) (at d n : ℕ) (out out' : List ℕ) (e m : ℕ) : Type 0 where
  pub new : List Row
  pub rows : Stored s at n 0 out out' e m new
  pub goes : (p : Context) (ps : List Bracket) → length ps ≡ d
      → (i : Item) × (from s (ready p ps) at ≡ from s (filled p i ps) e) × (item_rows i ≡ new)

-- the answer of its reader
abbrev pub ItemRead : List ℕ → ℕ → ℕ → ℕ → List ℕ → List ℕ → Result Reached Stop → Type 0
ItemRead s at d n out out' (Ok r) = ItemAt s at d n out out' r.at r.rows
ItemRead s at d n out out' (Err (Broken e)) = (p : Context) (ps : List Bracket) → length ps ≡ d → from s (ready p ps) at ≡ broken e
ItemRead s at d n out out' (Err (Deep e)) = (p : Context) (ps : List Bracket) → length ps ≡ d → from s (ready p ps) at ≡ deep e

-- what stands in front of the part of a context
abbrev pub front_of : Context → Front
front_of (first f) = f
front_of (next f p j) = f

-- the operator that waits there
abbrev pub joins : Context → Option Connective
joins (first f) = None
joins (next f p both) = Some And
joins (next f p without) = Some AndNot

-- the rows of the part in front of it
abbrev pub part_before : Context → List Row
part_before (first f) = []
part_before (next f p j) = part_rows p

-- the row of an operator that waits
abbrev pub pending_rows : Option Connective → List Row
pending_rows None = []
pending_rows (Some And) = operator_row Both
pending_rows (Some Or) = operator_row Either
pending_rows (Some AndNot) = operator_row FirstNotSecond

-- the rest of a part: no `&` and no `!` follows
pub record PartAt (s : List ℕ) (at d n : ℕ) (o : Option Connective) (out out' : List ℕ) (e m : ℕ) : Type 0 where
  pub new : List Row
  pub rows : Stored s at n (length (pending_rows o)) out out' e m new
  pub ends : e < length s → (get_or s e 0 ≢ 38) × (get_or s e 0 ≢ 33)
  pub goes : (p : Context) (ps : List Bracket) → length ps ≡ d → joins p ≡ o
      → (q : Part) × (from s (ready p ps) at ≡ from s (after (front_of p) q ps) e) × (part_rows q ≡ part_before p ++ new)

-- the answer of its reader
abbrev pub PartRead : List ℕ → ℕ → ℕ → ℕ → Option Connective → List ℕ → List ℕ → Result Reached Stop → Type 0
PartRead s at d n o out out' (Ok r) = PartAt s at d n o out out' r.at r.rows
PartRead s at d n o out out' (Err (Broken e)) =
    (p : Context) (ps : List Bracket) → length ps ≡ d → joins p ≡ o → from s (ready p ps) at ≡ broken e
PartRead s at d n o out out' (Err (Deep e)) =
    (p : Context) (ps : List Bracket) → length ps ≡ d → joins p ≡ o → from s (ready p ps) at ≡ deep e

-- the operator that waits behind a line
abbrev pub waits : Front → Option Connective
waits bare = None
waits (eithers l) = Some Or

-- the rows of that line
abbrev pub front_rows : Front → List Row
front_rows bare = []
front_rows (eithers l) = line_rows l

-- the rest of a line: no `|` follows either
pub record LineAt (s : List ℕ) (at d n : ℕ) (o : Option Connective) (out out' : List ℕ) (e m : ℕ) : Type 0 where
  pub new : List Row
  pub rows : Stored s at n (length (pending_rows o)) out out' e m new
  pub ends : e < length s → (get_or s e 0 ≢ 38) × (get_or s e 0 ≢ 33) × (get_or s e 0 ≢ 124)
  pub goes : (f : Front) (ps : List Bracket) → length ps ≡ d → waits f ≡ o
      → (h : Front) × (q : Part) × (from s (ready (first f) ps) at ≡ from s (after h q ps) e) × (line_rows (line_of h q) ≡ front_rows f ++ new)

-- the answer of its reader
abbrev pub LineRead : List ℕ → ℕ → ℕ → ℕ → Option Connective → List ℕ → List ℕ → Result Reached Stop → Type 0
LineRead s at d n o out out' (Ok r) = LineAt s at d n o out out' r.at r.rows
LineRead s at d n o out out' (Err (Broken e)) =
    (f : Front) (ps : List Bracket) → length ps ≡ d → waits f ≡ o → from s (ready (first f) ps) at ≡ broken e
LineRead s at d n o out out' (Err (Deep e)) =
    (f : Front) (ps : List Bracket) → length ps ≡ d → waits f ≡ o → from s (ready (first f) ps) at ≡ deep e

-- several lines behind their `<`, inside d brackets with it
pub record SeveralAt (s : List ℕ) (at d n : ℕ) (out out' : List ℕ) (e m : ℕ) : Type 0 where
  pub new : List Row
  pub rows : Stored s at n 0 out out' e m new
  pub goes : (p : Context) (ps : List Bracket) → suc (length ps) ≡ d
      → (i : Item) × (from s (opened p ps) at ≡ from s (filled p i ps) e) × (item_rows i ≡ new)

-- the answer of their reader
abbrev pub SeveralRead : List ℕ → ℕ → ℕ → ℕ → List ℕ → List ℕ → Result Reached Stop → Type 0
SeveralRead s at d n out out' (Ok r) = SeveralAt s at d n out out' r.at r.rows
SeveralRead s at d n out out' (Err (Broken e)) = (p : Context) (ps : List Bracket) → suc (length ps) ≡ d → from s (opened p ps) at ≡ broken e
SeveralRead s at d n out out' (Err (Deep e)) = (p : Context) (ps : List Bracket) → suc (length ps) ≡ d → from s (opened p ps) at ≡ deep e

-- the rest of them, where `least` are asked for and `count` have been read
pub record LinesAt (s : List ℕ) (at d least count n : ℕ) (out out' : List ℕ) (e m : ℕ) : Type 0 where
  pub new : List Row
  pub rows : Stored s at n 0 out out' e m new
  pub goes : (ls : Lines) (p : Context) (ps : List Bracket) → suc (length ps) ≡ d → line_count ls ≡ count
      → (i : Item) × (from s (ready (first bare) (among least ls p ∷ ps)) at ≡ from s (filled p i ps) e)
      × (item_rows i ≡ lines_rows ls ++ new)

-- the answer of their reader
abbrev pub LinesRead : List ℕ → ℕ → ℕ → ℕ → ℕ → ℕ → List ℕ → List ℕ → Result Reached Stop → Type 0
LinesRead s at d least count n out out' (Ok r) = LinesAt s at d least count n out out' r.at r.rows
LinesRead s at d least count n out out' (Err (Broken e)) =
    (ls : Lines) (p : Context) (ps : List Bracket) → suc (length ps) ≡ d → line_count ls ≡ count
    → from s (ready (first bare) (among least ls p ∷ ps)) at ≡ broken e
LinesRead s at d least count n out out' (Err (Deep e)) =
    (ls : Lines) (p : Context) (ps : List Bracket) → suc (length ps) ≡ d → line_count ls ≡ count
    → from s (ready (first bare) (among least ls p ∷ ps)) at ≡ deep e

-- what comes of a whole text: the line's rows are stored from row 0 on
abbrev pub WholeRead : List ℕ → List ℕ → List ℕ → Result Reached Stop → Outcome → Type 0
WholeRead s out out' (Ok r) (whole l) = (r.rows ≡ length (line_rows l)) × (out' ≡ stored out 0 (line_rows l))
WholeRead s out out' (Ok r) (broken q) = ⊥
WholeRead s out out' (Ok r) (deep q) = ⊥
WholeRead s out out' (Err (Broken e)) (whole l) = ⊥
WholeRead s out out' (Err (Broken e)) (broken q) = e ≡ q
WholeRead s out out' (Err (Broken e)) (deep q) = ⊥
WholeRead s out out' (Err (Deep e)) (whole l) = ⊥
WholeRead s out out' (Err (Deep e)) (broken q) = ⊥
WholeRead s out out' (Err (Deep e)) (deep q) = e ≡ q
