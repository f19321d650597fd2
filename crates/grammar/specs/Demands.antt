-- The statements that the crate is held to, each a named type. `proofs/Demands.antt` proves each in a line. Assumes nothing.
--     Unambiguous    a text has at most one tree
--     Means          the true documents of a line's rows are those of the line on its own
--     PlanLines      the line of an accepted plan: in order, gives the plan again, has the fewest brackets
--     ComesBack      which lines are written as they were typed
--     SampleLine     document 02's line
use Rattle.std.specs.Prelude.{ℕ, ◌-◌, ◌≤◌, ◌≡◌, ◌↔◌, List, [], ◌∷◌, length}
use Rattle.seq.specs.Lists.{keep}
use Rattle.seq.specs.Numbers.{run}
use Rattle.volume.specs.Layout.{lists_of}
use Rattle.plan.specs.Check.{Accepted}
use Rattle.plan.specs.Rows.{rows_of, plan_of}
use Rattle.fulltext.specs.Documents.{docs_in, work}
use Rattle.grammar.specs.Grammar.{before, both, Figure, Line, one, either, Part, alone, join, Item, figure, round, written, Fits}
use Rattle.grammar.specs.Brackets.{depth, parens, Spare}
use Rattle.grammar.specs.Meaning.{line_rows, line_true}
use Rattle.grammar.specs.Query.{plan_line, plan_text}
use Rattle.grammar.specs.Reading.{whole, reading}
use Rattle.grammar.specs.Words.{words_of_line}

-- the tree is determined by its text
unfoldable pub Unambiguous : Type 0
Unambiguous = (l m : Line) → Fits l → Fits m → written l ≡ written m → l ≡ m

-- a line over a volume: its words are read as its rows, and the documents that are true of these are those that are true of the line read
-- on its own, without rows
pub record Meant (v : List ℕ) (l : Line) : Type 0 where
  pub rows : rows_of (plan_of (line_rows l)) ≡ line_rows l
  pub truth : (d : ℕ) → (work v (plan_of (line_rows l))).is_true d ≡ line_true (lists_of v) l d
  pub docs : (a b : ℕ) → docs_in (work v (plan_of (line_rows l))) a b ≡ keep (line_true (lists_of v) l) (run (λ d. d) a (b - a))

-- every line means what its rows say
unfoldable pub Means : Type 0
Means = (v : List ℕ) (l : Line) → Fits l → Meant v l

-- the line of an accepted plan
pub record PlanLine (v p : List ℕ) : Type 0 where
  -- it is a line of the grammar, no longer and no deeper than a line may be, and says the plan's rows
  pub fits : Fits (plan_line p)
  pub short : length (plan_text p) ≤ 1664
  pub shallow : depth (plan_line p) ≤ 8
  pub rows : line_rows (plan_line p) ≡ rows_of p
  -- its text is read as this line, and gives the plan's words again
  pub reads : reading (plan_text p) ≡ whole (plan_line p)
  pub words : words_of_line (plan_text p) ≡ p
  -- no line with these rows has fewer round brackets, and no pair of them could be dropped
  pub fewest : (l : Line) → line_rows l ≡ rows_of p → parens (plan_text p) ≤ parens (written l)
  pub none_spare : (t : List ℕ) → Spare (plan_line p) t → ⊥
  -- any other line with these rows has a pair that could be dropped
  pub only : (l : Line) → Fits l → line_rows l ≡ rows_of p → ((t : List ℕ) → Spare l t → ⊥) → l ≡ plan_line p

-- every accepted plan has such a line
unfoldable pub PlanLines : Type 0
PlanLines = (v p : List ℕ) → Accepted v p → PlanLine v p

-- a line's rows are written as the line itself exactly if no pair of its round brackets could be dropped
unfoldable pub ComesBack : Type 0
ComesBack = (l : Line) → Fits l → (plan_text (plan_of (line_rows l)) ≡ written l) ↔ ((t : List ℕ) → Spare l t → ⊥)

-- document 02's line, `[1 2;b 0 1]|([3]&[4])`
abbrev pub sample_text : List ℕ
sample_text =
    91 ∷ 49 ∷ 32 ∷ 50 ∷ 59 ∷ 98 ∷ 32 ∷ 48 ∷ 32 ∷ 49 ∷ 93 ∷ 124 ∷ 40 ∷ 91 ∷ 51 ∷ 93 ∷ 38 ∷ 91 ∷ 52 ∷ 93 ∷ 41 ∷ []

-- its first figure
abbrev pub sample_first : Figure
sample_first = record { lists = 1 ∷ 2 ∷ []; conditions = record { word = before; numbers = 0 ∷ 1 ∷ [] } ∷ [] }

-- a list alone
abbrev pub sample_list : ℕ → Item
sample_list n = figure (record { lists = n ∷ []; conditions = [] })

-- the line with a second part
abbrev pub sample_line : Part → Line
sample_line p = either (one (alone (figure sample_first))) p

-- its second part without brackets
abbrev pub sample_both : Part
sample_both = join both (alone (sample_list 3)) (sample_list 4)

-- how it is read, the rows that it gives, and the line of these rows, which needs no bracket
pub record SampleLine : Type 0 where
  pub reads : reading sample_text ≡ whole (sample_line (alone (round (one sample_both))))
  pub words : words_of_line sample_text
      ≡ 1 ∷ 1 ∷ 0 ∷ 0 ∷ 1 ∷ 2 ∷ 0 ∷ 0 ∷ 3 ∷ 0 ∷ 1 ∷ 0 ∷ 6 ∷ 0 ∷ 0 ∷ 0
      ∷ 1 ∷ 3 ∷ 0 ∷ 0 ∷ 6 ∷ 0 ∷ 0 ∷ 0 ∷ 1 ∷ 4 ∷ 0 ∷ 0 ∷ 6 ∷ 0 ∷ 0 ∷ 0 ∷ 7 ∷ 0 ∷ 0 ∷ 0 ∷ 8 ∷ 0 ∷ 0 ∷ 0 ∷ []
  pub line : plan_line (words_of_line sample_text) ≡ sample_line sample_both
