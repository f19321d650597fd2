-- Reading a text byte by byte: `step` reads one more byte, or finds that no line of the grammar has it there. Assumes nothing.
--     Number, Partial, Config     what has been read so far: of a number, of a figure, of the text
--     step_in, step               one more byte of a figure, of the text
--     outcome, reading            how the reading of a text ends
--     shown                       the text of what has been read
use Rattle.std.specs.Prelude.{ℕ, suc, ◌+◌, ◌-◌, ◌*◌, max, Bool, true, cond, ◌&&◌, List, [], ◌∷◌, ◌++◌, eqb, leb, ltb, length}
use Rattle.std.proofs.Math.Option.{Option, none, some}
use Rattle.seq.specs.Decimal.{digit}
use Rattle.std.specs.Prelude.{Option as Maybe}
pub use Rattle.std.specs.Prelude.{None as fresh, Some as digits}
use Rattle.grammar.specs.Text.{lead, gap_after}
use Rattle.grammar.specs.Grammar.{Word, near, before, same, span, apart, letter_of, arity, most_of, Figure, Joint, both, without}
use Rattle.grammar.specs.Grammar.{joint_byte, Line, one, either, Part, alone, join, Item, figure, round, at_least, Lines, nil, snoc}
use Rattle.grammar.specs.Grammar.{line_count, separator, open_text, written, part_text, lines_text, fewest_lines, most_lines}

-- a number as far as it has been read: none where its first digit is still to come, or its value so far
abbrev pub Number : Type 0
Number = Maybe ℕ

-- the value of a number so far
abbrev pub value_of : Number → ℕ
value_of fresh = 0
value_of (digits n) = n

-- a digit may follow: no zero stands in front of one
abbrev pub may_grow : Number → Bool
may_grow fresh = true
may_grow (digits n) = ltb 0 n

-- a byte is a digit
abbrev pub is_digit : ℕ → Bool
is_digit b = leb 48 b && leb b 57

-- the value with one more digit
abbrev pub grown : Number → ℕ → ℕ
grown x b = value_of x * 10 + (b - 48)

-- byte b is the number's next digit, within a limit
unfoldable pub grows : ℕ → Number → ℕ → Bool
grows most x b = is_digit b && (may_grow x && leb (grown x b) most)

-- a figure so far: in its list numbers, behind `;`, behind a condition's letter, in a condition's numbers
pub data Partial : Type 0 where
  listing : List ℕ → Number → Partial
  semicolon : Figure → Partial
  lettered : Figure → Word → Partial
  counting : Figure → Word → List ℕ → Number → Partial

-- what the next byte of a figure makes: it goes on, it is closed, or no figure has it there
pub data Next : Type 0 where
  goes : Partial → Next
  closes : Figure → Next
  stuck : Next

-- a figure of list numbers alone
abbrev pub first_lists : List ℕ → Figure
first_lists ns = record { lists = ns; conditions = [] }

-- a figure with one condition more
abbrev pub with_condition : Figure → Word → List ℕ → Figure
with_condition f w ns = record { lists = f.lists; conditions = f.conditions ++ (record { word = w; numbers = ns } ∷ []) }

-- numbers with one more
abbrev pub behind : List ℕ → ℕ → List ℕ
behind ns n = ns ++ (n ∷ [])

-- behind a whole number of a figure f: `;` or `]`
abbrev pub ending : Figure → ℕ → Next
ending f b = cond (eqb b 59) (goes (semicolon f)) (cond (eqb b 93) (closes f) stuck)

-- one more byte of a figure
unfoldable pub step_in : Partial → ℕ → Next
unfolding grows
step_in (listing ns fresh) b = cond (grows 65536 fresh b) (goes (listing ns (digits (grown fresh b)))) stuck
step_in (listing ns (digits n)) b =
    cond (grows 65536 (digits n) b) (goes (listing ns (digits (grown (digits n) b))))
    (cond (eqb b 32) (goes (listing (behind ns n) fresh)) (ending (first_lists (behind ns n)) b))
step_in (semicolon f) b =
    cond (eqb b 110) (goes (lettered f near)) (cond (eqb b 98) (goes (lettered f before))
    (cond (eqb b 116) (goes (lettered f same)) (cond (eqb b 115) (goes (lettered f span))
    (cond (eqb b 97) (goes (lettered f apart)) stuck))))
step_in (lettered f w) b = cond (eqb b 32) (goes (counting f w [] fresh)) stuck
step_in (counting f w ns fresh) b = cond (grows (most_of w (length ns)) fresh b) (goes (counting f w ns (digits (grown fresh b)))) stuck
step_in (counting f w ns (digits n)) b =
    cond (grows (most_of w (length ns)) (digits n) b) (goes (counting f w ns (digits (grown (digits n) b))))
    (cond (ltb (length ns + 1) (arity w)) (cond (eqb b 32) (goes (counting f w (behind ns n) fresh)) stuck)
    (ending (with_condition f w (behind ns n)) b))

-- what stands in front of a part: nothing, or a line and `|`
pub data Front : Type 0 where
  bare : Front
  eithers : Line → Front

-- what stands in front of an item: what stands in front of its part, then perhaps a part and what joins it
pub data Context : Type 0 where
  first : Front → Context
  next : Front → Part → Joint → Context

-- an open bracket, with what stands in front of it: `(`; or `<`, its number, and the whole lines behind that
pub data Bracket : Type 0 where
  rounded : Context → Bracket
  among : ℕ → Lines → Context → Bracket

-- all that has been read: an item is to come; in a figure; behind an item; behind `<`; behind its number.
-- Each with the brackets that are open, the last one first
pub data Config : Type 0 where
  ready : Context → List Bracket → Config
  inside : Partial → Context → List Bracket → Config
  after : Front → Part → List Bracket → Config
  opened : Context → List Bracket → Config
  numbered : ℕ → Context → List Bracket → Config

-- nothing has been read
abbrev pub start : Config
start = ready (first bare) []

-- a line whose last part is p
abbrev pub line_of : Front → Part → Line
line_of bare p = one p
line_of (eithers l) p = either l p

-- an item in its context
abbrev pub filled : Context → Item → List Bracket → Config
filled (first f) i ps = after f (alone i) ps
filled (next f p j) i ps = after f (join j p i) ps

-- a round bracket is closed
abbrev pub shut : Line → List Bracket → Option Config
shut l [] = none
shut l (rounded p ∷ ps) = some (filled p (round l) ps)
shut l (among n ls p ∷ ps) = none

-- a comma behind a line: there may be eight
abbrev pub parted : Line → List Bracket → Option Config
parted l [] = none
parted l (rounded p ∷ ps) = none
parted l (among n ls p ∷ ps) = cond (ltb (line_count (snoc ls l)) most_lines) (some (ready (first bare) (among n (snoc ls l) p ∷ ps))) none

-- `>` behind the last line: there are two at least, and as many as are asked for
abbrev pub ended : Line → List Bracket → Option Config
ended l [] = none
ended l (rounded p ∷ ps) = none
ended l (among n ls p ∷ ps) = cond (leb (max fewest_lines n) (line_count (snoc ls l))) (some (filled p (at_least n (snoc ls l)) ps)) none

-- what the next byte of a figure makes of all that has been read
abbrev pub within : Next → Context → List Bracket → Option Config
within (goes f) p ps = some (inside f p ps)
within (closes f) p ps = some (filled p (figure f) ps)
within stuck p ps = none

-- one more byte; none where no line of the grammar has it there
unfoldable pub step : Config → ℕ → Option Config
unfolding step_in line_count
step (ready p ps) b =
    cond (eqb b 40) (some (ready (first bare) (rounded p ∷ ps)))
    (cond (eqb b 91) (some (inside (listing [] fresh) p ps)) (cond (eqb b 60) (some (opened p ps)) none))
step (inside f p ps) b = within (step_in f b) p ps
step (after f p ps) b =
    cond (eqb b 124) (some (ready (first (eithers (line_of f p))) ps)) (cond (eqb b 38) (some (ready (next f p both) ps))
    (cond (eqb b 33) (some (ready (next f p without) ps)) (cond (eqb b 41) (shut (line_of f p) ps)
    (cond (eqb b 44) (parted (line_of f p) ps) (cond (eqb b 62) (ended (line_of f p) ps) none)))))
step (opened p ps) b = cond (leb (digit 1) b && leb b (digit most_lines)) (some (numbered (b - 48) p ps)) none
step (numbered n p ps) b = cond (eqb b 58) (some (ready (first bare) (among n nil p ∷ ps))) none

-- how many brackets are open
abbrev pub open_in : Config → ℕ
open_in (ready p ps) = length ps
open_in (inside f p ps) = length ps
open_in (after f p ps) = length ps
open_in (opened p ps) = suc (length ps)
open_in (numbered n p ps) = suc (length ps)

-- how the reading of a text ends: a line; or 21 or 22 at a byte
pub data Outcome : Type 0 where
  whole : Line → Outcome
  broken : ℕ → Outcome
  deep : ℕ → Outcome

-- at the end of the text
abbrev pub finished : Config → ℕ → Outcome
finished (ready p ps) q = broken q
finished (inside f p ps) q = broken q
finished (after f p []) q = whole (line_of f p)
finished (after f p (x ∷ ps)) q = broken q
finished (opened p ps) q = broken q
finished (numbered n p ps) q = broken q

-- no byte fits; or it opens a bracket inside eight; or the reading goes on
abbrev pub continued : Option Config → ℕ → (Config → Outcome) → Outcome
continued none q go = broken q
continued (some c) q go = cond (ltb 8 (open_in c)) (deep q) (go c)

-- what comes of a text from byte q on, where c has been read
unfoldable pub outcome : Config → ℕ → List ℕ → Outcome
unfolding step
outcome c q [] = finished c q
outcome c q (b ∷ s) = continued (step c b) q (λ x. outcome x (suc q) s)

-- the reading of a text
abbrev pub reading : List ℕ → Outcome
reading s = outcome start 0 s

-- the text of numbers, with the one that is being read
abbrev pub number_text : ℕ → List ℕ → Number → List ℕ
number_text b ns fresh = lead b ns ++ (gap_after b ns ∷ [])
number_text b ns (digits n) = lead b (behind ns n)

-- the text of a figure so far
unfoldable pub partial_text : Partial → List ℕ
unfolding open_text
partial_text (listing ns x) = number_text 91 ns x
partial_text (semicolon f) = open_text f ++ (59 ∷ [])
partial_text (lettered f w) = open_text f ++ (59 ∷ letter_of w ∷ [])
partial_text (counting f w ns x) = open_text f ++ (59 ∷ letter_of w ∷ number_text 32 ns x)

-- the text of what stands in front of a part
abbrev pub front_text : Front → List ℕ
front_text bare = []
front_text (eithers l) = written l ++ (124 ∷ [])

-- the text of what stands in front of an item
abbrev pub context_text : Context → List ℕ
context_text (first f) = front_text f
context_text (next f p j) = front_text f ++ (part_text p ++ (joint_byte j ∷ []))

-- the text of an open bracket, with what stands in front of it and what it has
abbrev pub bracket_text : Bracket → List ℕ
bracket_text (rounded p) = context_text p ++ (40 ∷ [])
bracket_text (among n ls p) = context_text p ++ (60 ∷ digit n ∷ (lines_text ls ++ (separator ls ∷ [])))

-- the text of all open brackets
unfoldable pub opened_text : List Bracket → List ℕ
unfolding written
opened_text [] = []
opened_text (x ∷ ps) = opened_text ps ++ bracket_text x

-- the text of all that has been read
unfoldable pub shown : Config → List ℕ
unfolding opened_text partial_text
shown (ready p ps) = opened_text ps ++ context_text p
shown (inside f p ps) = opened_text ps ++ (context_text p ++ partial_text f)
shown (after f p ps) = opened_text ps ++ (front_text f ++ part_text p)
shown (opened p ps) = opened_text ps ++ (context_text p ++ (60 ∷ []))
shown (numbered n p ps) = opened_text ps ++ (context_text p ++ (60 ∷ digit n ∷ []))
