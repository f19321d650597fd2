-- The grammar of typed lines (02, N5 and N9): lines as data, and the text of each. Assumes nothing.
--     Line, Part, Item, Lines, Figure    what a line is made of
--     written                     the text of a line
--     Fits                        its numbers are as many, and as small, as the grammar asks
--     LineText, Begins            a text is a line of the grammar; some line begins with it
use Rattle.std.specs.Prelude.{ℕ, zero, suc, ◌<◌, ◌≤◌, ◌≡◌, List, [], ◌∷◌, ◌++◌, map, length, get_or}
use Rattle.seq.specs.Lists.{joined}
use Rattle.seq.specs.Decimal.{digit}
pub use Rattle.grammar.specs.declared.tokens.Word.{Word}
pub use Rattle.grammar.specs.declared.tokens.Word.TheVariants.{Near as near, Before as before, Same as same, Span as span}
pub use Rattle.grammar.specs.declared.tokens.Word.TheVariants.{Apart as apart}
use Rattle.grammar.specs.Text.{lead}

-- the letter that a condition begins with: `n`, `b`, `t`, `s`, `a`
abbrev pub letter_of : Word → ℕ
letter_of near = 110
letter_of before = 98
letter_of same = 116
letter_of span = 115
letter_of apart = 97

-- the most that each number of a condition may be: 65,536, and 65,535 for the least and the most of APART
abbrev pub limits_of : Word → List ℕ
limits_of near = 65536 ∷ 65536 ∷ 65536 ∷ []
limits_of before = 65536 ∷ 65536 ∷ []
limits_of same = 65536 ∷ 65536 ∷ []
limits_of span = 65536 ∷ []
limits_of apart = 65536 ∷ 65536 ∷ 65535 ∷ 65535 ∷ []

-- how many numbers a condition has
abbrev pub arity : Word → ℕ
arity w = length (limits_of w)

-- the most that number i may be
abbrev pub most_of : Word → ℕ → ℕ
most_of w i = get_or (limits_of w) i 65536

-- a condition as it is typed: its word and its numbers
pub record Condition : Type 0 where
  pub word : Word
  pub numbers : List ℕ

-- a figure as it is typed: list numbers, then conditions
pub record Figure : Type 0 where
  pub lists : List ℕ
  pub conditions : List Condition

-- what joins the items of a part: `&` or `!`
pub data Joint : Type 0 where
  both without : Joint

-- its byte
abbrev pub joint_byte : Joint → ℕ
joint_byte both = 38
joint_byte without = 33

-- a line is parts joined by `|`, a part is items joined by `&` or `!`, both from left to right;
-- an item is a figure, a line in round brackets, or `<`, a number, lines and `>`: so many of the lines at least
mutual
  pub data Line : Type 0 where
    one : Part → Line
    either : Line → Part → Line

  pub data Part : Type 0 where
    alone : Item → Part
    join : Joint → Part → Item → Part

  pub data Item : Type 0 where
    figure : Figure → Item
    round : Line → Item
    at_least : ℕ → Lines → Item

  -- lines, one behind the other
  pub data Lines : Type 0 where
    nil : Lines
    snoc : Lines → Line → Lines

-- `;`, the letter, and a space in front of each number
abbrev pub condition_text : Condition → List ℕ
condition_text c = 59 ∷ letter_of c.word ∷ lead 32 c.numbers

-- a figure without its closing bracket
unfoldable pub open_text : Figure → List ℕ
unfolding joined lead
open_text f = lead 91 f.lists ++ joined (map condition_text f.conditions)

-- a whole figure
unfoldable pub figure_text : Figure → List ℕ
unfolding open_text
figure_text f = open_text f ++ (93 ∷ [])

-- how many lines there are
unfoldable pub line_count : Lines → ℕ
line_count nil = zero
line_count (snoc ls l) = suc (line_count ls)

-- the byte in front of the line that follows: `:` in front of the first, `,` in front of the others
abbrev pub separator : Lines → ℕ
separator nil = 58
separator (snoc ls l) = 44

-- the text of a line, of a part, of an item, of lines with the byte in front of each
unfoldable mutual
  unfolding figure_text

  pub written : Line → List ℕ
  written (one p) = part_text p
  written (either l p) = written l ++ (124 ∷ part_text p)

  pub part_text : Part → List ℕ
  part_text (alone i) = item_text i
  part_text (join j p i) = part_text p ++ (joint_byte j ∷ item_text i)

  pub item_text : Item → List ℕ
  item_text (figure f) = figure_text f
  item_text (round l) = 40 ∷ (written l ++ (41 ∷ []))
  item_text (at_least n ls) = 60 ∷ digit n ∷ (lines_text ls ++ (62 ∷ []))

  pub lines_text : Lines → List ℕ
  lines_text nil = []
  lines_text (snoc ls l) = lines_text ls ++ (separator ls ∷ written l)

-- numbers within limits
abbrev pub Within : (ℕ → ℕ) → List ℕ → Type 0
Within most ns = (i : ℕ) → i < length ns → get_or ns i 0 ≤ most i

-- a condition has the numbers that its word asks for
pub record ConditionFits (c : Condition) : Type 0 where
  pub count : length c.numbers ≡ arity c.word
  pub within : Within (most_of c.word) c.numbers

-- where a list of conditions has none
abbrev pub no_condition : Condition
no_condition = record { word = span; numbers = 1 ∷ [] }

-- a figure has a list number at least
pub record FigureFits (f : Figure) : Type 0 where
  pub some-list : 1 ≤ length f.lists
  pub within : Within (λ i. 65536) f.lists
  pub conditions : (i : ℕ) → i < length f.conditions → ConditionFits (get_or f.conditions i no_condition)

-- the fewest and the most lines between `<` and `>`
abbrev pub fewest_lines : ℕ
fewest_lines = 2

abbrev pub most_lines : ℕ
most_lines = 8

-- the lines between `<` and `>` are two to eight, and the number is from 1 to theirs
pub record Several (n count : ℕ) : Type 0 where
  pub some : 1 ≤ n
  pub enough : n ≤ count
  pub fewest : fewest_lines ≤ count
  pub most : count ≤ most_lines

-- every figure of a line, and every number of lines
unfoldable mutual
  unfolding line_count

  pub Fits : Line → Type 0
  Fits (one p) = PartFits p
  Fits (either l p) = Fits l × PartFits p

  pub PartFits : Part → Type 0
  PartFits (alone i) = ItemFits i
  PartFits (join j p i) = PartFits p × ItemFits i

  pub ItemFits : Item → Type 0
  ItemFits (figure f) = FigureFits f
  ItemFits (round l) = Fits l
  ItemFits (at_least n ls) = Several n (line_count ls) × LinesFit ls

  pub LinesFit : Lines → Type 0
  LinesFit nil = Unit
  LinesFit (snoc ls l) = LinesFit ls × Fits l

-- a text is a line of the grammar
pub record LineText (s : List ℕ) : Type 0 where
  pub line : Line
  pub fits : Fits line
  pub text : written line ≡ s

-- some line of the grammar begins with s
pub record Begins (s : List ℕ) : Type 0 where
  pub rest : List ℕ
  pub whole : LineText (s ++ rest)
