-- Examples of readings, computed. No contract cites this file.
--     told        how a reading ends: 0 for a line, else 21 or 22 and the byte
--     sample      the tree of document 02's line
--     The others are named by what they show; above each one is its text.
-- Assumes nothing.
use Prim.Native.Nat.{ℕ}
use mathlib.Core.Path.{◌≡◌, refl}
use mathlib.Core.List.{List, [], ◌∷◌}
use Rattle.grammar.specs.Demands.{sample_text, sample_line, sample_both}
use Rattle.grammar.specs.Grammar.{one, alone, round}
use Rattle.grammar.specs.Reading.{Outcome, whole, broken, deep, reading, outcome}

abbrev told : Outcome → List ℕ
told (whole l) = 0 ∷ []
told (broken q) = 21 ∷ q ∷ []
told (deep q) = 22 ∷ q ∷ []

sample : reading sample_text ≡ whole (sample_line (alone (round (one sample_both))))
unfolding outcome
sample = refl

-- `[1 2;b 0 1]|([3]&[4])`: a line
sample-line : told (reading (91 ∷ 49 ∷ 32 ∷ 50 ∷ 59 ∷ 98 ∷ 32 ∷ 48 ∷ 32 ∷ 49 ∷ 93 ∷ 124 ∷ 40 ∷ 91 ∷ 51 ∷ 93 ∷ 38 ∷ 91 ∷ 52 ∷ 93 ∷ 41 ∷ []))
    ≡ 0 ∷ []
unfolding outcome
sample-line = refl

-- ``: the empty text ends too early
empty : told (reading ([])) ≡ 21 ∷ 0 ∷ []
unfolding outcome
empty = refl

-- `[65537`: the digit that passes 65,536
number-over-limit : told (reading (91 ∷ 54 ∷ 53 ∷ 53 ∷ 51 ∷ 55 ∷ [])) ≡ 21 ∷ 5 ∷ []
unfolding outcome
number-over-limit = refl

-- `[65536`: 65,536 itself may stand there
number-at-limit : told (reading (91 ∷ 54 ∷ 53 ∷ 53 ∷ 51 ∷ 54 ∷ [])) ≡ 21 ∷ 6 ∷ []
unfolding outcome
number-at-limit = refl

-- `[655360]`: one digit more
number_too-long : told (reading (91 ∷ 54 ∷ 53 ∷ 53 ∷ 51 ∷ 54 ∷ 48 ∷ 93 ∷ [])) ≡ 21 ∷ 6 ∷ []
unfolding outcome
number_too-long = refl

-- `[01]`: no digit follows a zero
zero_in-front : told (reading (91 ∷ 48 ∷ 49 ∷ 93 ∷ [])) ≡ 21 ∷ 2 ∷ []
unfolding outcome
zero_in-front = refl

-- `[0]`: zero alone is a number
zero : told (reading (91 ∷ 48 ∷ 93 ∷ [])) ≡ 0 ∷ []
unfolding outcome
zero = refl

-- `[1  2]`: one space between numbers
two_spaces : told (reading (91 ∷ 49 ∷ 32 ∷ 32 ∷ 50 ∷ 93 ∷ [])) ≡ 21 ∷ 3 ∷ []
unfolding outcome
two_spaces = refl

-- `[1 ]`: a number follows a space
space-at-end : told (reading (91 ∷ 49 ∷ 32 ∷ 93 ∷ [])) ≡ 21 ∷ 3 ∷ []
unfolding outcome
space-at-end = refl

-- `[1;s 65536]`: the limit of SPAN
span-at-limit : told (reading (91 ∷ 49 ∷ 59 ∷ 115 ∷ 32 ∷ 54 ∷ 53 ∷ 53 ∷ 51 ∷ 54 ∷ 93 ∷ [])) ≡ 0 ∷ []
unfolding outcome
span-at-limit = refl

-- `[1;n 0 1]`: NEAR has three numbers
number-missing : told (reading (91 ∷ 49 ∷ 59 ∷ 110 ∷ 32 ∷ 48 ∷ 32 ∷ 49 ∷ 93 ∷ [])) ≡ 21 ∷ 8 ∷ []
unfolding outcome
number-missing = refl

-- `[1]]`: a figure is closed once
bracket_twice : told (reading (91 ∷ 49 ∷ 93 ∷ 93 ∷ [])) ≡ 21 ∷ 3 ∷ []
unfolding outcome
bracket_twice = refl

-- `([1]`: an open round bracket at the end
bracket_open : told (reading (40 ∷ 91 ∷ 49 ∷ 93 ∷ [])) ≡ 21 ∷ 4 ∷ []
unfolding outcome
bracket_open = refl

-- `(((((((([1]))))))))`: eight round brackets
eight-deep : told (reading (40 ∷ 40 ∷ 40 ∷ 40 ∷ 40 ∷ 40 ∷ 40 ∷ 40 ∷ 91 ∷ 49 ∷ 93 ∷ 41 ∷ 41 ∷ 41 ∷ 41 ∷ 41 ∷ 41 ∷ 41 ∷ 41 ∷ [])) ≡ 0 ∷ []
unfolding outcome
eight-deep = refl

-- `((((((((([1])))))))))`: a ninth one inside eight
nine-deep : told (reading (40 ∷ 40 ∷ 40 ∷ 40 ∷ 40 ∷ 40 ∷ 40 ∷ 40 ∷ 40 ∷ 91 ∷ 49 ∷ 93 ∷ 41 ∷ 41 ∷ 41 ∷ 41 ∷ 41 ∷ 41 ∷ 41 ∷ 41 ∷ 41 ∷ []))
    ≡ 22 ∷ 8 ∷ []
unfolding outcome
nine-deep = refl

-- `(((((((([1](`: a bracket where none may stand, inside eight
broken-before-deep : told (reading (40 ∷ 40 ∷ 40 ∷ 40 ∷ 40 ∷ 40 ∷ 40 ∷ 40 ∷ 91 ∷ 49 ∷ 93 ∷ 40 ∷ [])) ≡ 21 ∷ 11 ∷ []
unfolding outcome
broken-before-deep = refl

-- `[1]&![2]`: an item follows `&`
joint_twice : told (reading (91 ∷ 49 ∷ 93 ∷ 38 ∷ 33 ∷ 91 ∷ 50 ∷ 93 ∷ [])) ≡ 21 ∷ 4 ∷ []
unfolding outcome
joint_twice = refl

-- `[1;n 0 1 2 3]`: NEAR has no fourth number
number_more : told (reading (91 ∷ 49 ∷ 59 ∷ 110 ∷ 32 ∷ 48 ∷ 32 ∷ 49 ∷ 32 ∷ 50 ∷ 32 ∷ 51 ∷ 93 ∷ [])) ≡ 21 ∷ 10 ∷ []
unfolding outcome
number_more = refl

-- `[1];`: a condition behind its figure
condition-outside : told (reading (91 ∷ 49 ∷ 93 ∷ 59 ∷ [])) ≡ 21 ∷ 3 ∷ []
unfolding outcome
condition-outside = refl

-- `[x`: a letter where a number is wanted
letter_for-number : told (reading (91 ∷ 120 ∷ [])) ≡ 21 ∷ 1 ∷ []
unfolding outcome
letter_for-number = refl

-- `[1 2;a 0 1 65535 65535]`: the limit of APART's least and most
apart-at-limit : told (reading (91 ∷ 49 ∷ 32 ∷ 50 ∷ 59 ∷ 97 ∷ 32 ∷ 48 ∷ 32 ∷ 49 ∷ 32 ∷ 54 ∷ 53 ∷ 53 ∷ 51 ∷ 53 ∷ 32
    ∷ 54 ∷ 53 ∷ 53 ∷ 51 ∷ 53 ∷ 93 ∷ [])) ≡ 0 ∷ []
unfolding outcome
apart-at-limit = refl

-- `[1 2;a 0 1 65536`: the digit that passes 65,535
apart-over-limit : told (reading (91 ∷ 49 ∷ 32 ∷ 50 ∷ 59 ∷ 97 ∷ 32 ∷ 48 ∷ 32 ∷ 49 ∷ 32 ∷ 54 ∷ 53 ∷ 53 ∷ 51 ∷ 54 ∷ [])) ≡ 21 ∷ 15 ∷ []
unfolding outcome
apart-over-limit = refl

-- `<2:[1],[2],[3]>`: two of three lines at least
at_least : told (reading (60 ∷ 50 ∷ 58 ∷ 91 ∷ 49 ∷ 93 ∷ 44 ∷ 91 ∷ 50 ∷ 93 ∷ 44 ∷ 91 ∷ 51 ∷ 93 ∷ 62 ∷ [])) ≡ 0 ∷ []
unfolding outcome
at_least = refl

-- `<8:[1],[1],[1],[1],[1],[1],[1],[1]>`: eight lines
eight-lines : told (reading (60 ∷ 56 ∷ 58 ∷ 91 ∷ 49 ∷ 93 ∷ 44 ∷ 91 ∷ 49 ∷ 93 ∷ 44 ∷ 91 ∷ 49 ∷ 93 ∷ 44 ∷ 91 ∷ 49 ∷ 93 ∷ 44 ∷ 91 ∷ 49
    ∷ 93 ∷ 44 ∷ 91 ∷ 49 ∷ 93 ∷ 44 ∷ 91 ∷ 49 ∷ 93 ∷ 44 ∷ 91 ∷ 49 ∷ 93 ∷ 62 ∷ [])) ≡ 0 ∷ []
unfolding outcome
eight-lines = refl

-- `<2:[1]>`: two lines are asked for
line-missing : told (reading (60 ∷ 50 ∷ 58 ∷ 91 ∷ 49 ∷ 93 ∷ 62 ∷ [])) ≡ 21 ∷ 6 ∷ []
unfolding outcome
line-missing = refl

-- `<3:[1],[2]>`: three lines are asked for
line-missing-of-three : told (reading (60 ∷ 51 ∷ 58 ∷ 91 ∷ 49 ∷ 93 ∷ 44 ∷ 91 ∷ 50 ∷ 93 ∷ 62 ∷ [])) ≡ 21 ∷ 10 ∷ []
unfolding outcome
line-missing-of-three = refl

-- `<1:[1]>`: two lines at least
one_line : told (reading (60 ∷ 49 ∷ 58 ∷ 91 ∷ 49 ∷ 93 ∷ 62 ∷ [])) ≡ 21 ∷ 6 ∷ []
unfolding outcome
one_line = refl

-- `<0:`: the number is 1 at least
none-asked : told (reading (60 ∷ 48 ∷ 58 ∷ [])) ≡ 21 ∷ 1 ∷ []
unfolding outcome
none-asked = refl

-- `<9:`: and 8 at most
nine-asked : told (reading (60 ∷ 57 ∷ 58 ∷ [])) ≡ 21 ∷ 1 ∷ []
unfolding outcome
nine-asked = refl

-- `<12:`: one digit
number-of-two-digits : told (reading (60 ∷ 49 ∷ 50 ∷ 58 ∷ [])) ≡ 21 ∷ 2 ∷ []
unfolding outcome
number-of-two-digits = refl

-- `<1:[1],[1],[1],[1],[1],[1],[1],[1],`: no line follows the eighth
ninth-line : told (reading (60 ∷ 49 ∷ 58 ∷ 91 ∷ 49 ∷ 93 ∷ 44 ∷ 91 ∷ 49 ∷ 93 ∷ 44 ∷ 91 ∷ 49 ∷ 93 ∷ 44 ∷ 91 ∷ 49 ∷ 93 ∷ 44 ∷ 91 ∷ 49
    ∷ 93 ∷ 44 ∷ 91 ∷ 49 ∷ 93 ∷ 44 ∷ 91 ∷ 49 ∷ 93 ∷ 44 ∷ 91 ∷ 49 ∷ 93 ∷ 44 ∷ [])) ≡ 21 ∷ 34 ∷ []
unfolding outcome
ninth-line = refl

-- `[1],[2]`: a comma outside `<` and `>`
comma-outside : told (reading (91 ∷ 49 ∷ 93 ∷ 44 ∷ 91 ∷ 50 ∷ 93 ∷ [])) ≡ 21 ∷ 3 ∷ []
unfolding outcome
comma-outside = refl

-- `([1],[2])`: a comma in a round bracket
comma_in-round : told (reading (40 ∷ 91 ∷ 49 ∷ 93 ∷ 44 ∷ 91 ∷ 50 ∷ 93 ∷ 41 ∷ [])) ≡ 21 ∷ 4 ∷ []
unfolding outcome
comma_in-round = refl

-- `<2:[1],[2])`: `<` is not closed by `)`
round_for_angle : told (reading (60 ∷ 50 ∷ 58 ∷ 91 ∷ 49 ∷ 93 ∷ 44 ∷ 91 ∷ 50 ∷ 93 ∷ 41 ∷ [])) ≡ 21 ∷ 10 ∷ []
unfolding outcome
round_for_angle = refl

-- `([1]>`: `(` is not closed by `>`
angle_for-round : told (reading (40 ∷ 91 ∷ 49 ∷ 93 ∷ 62 ∷ [])) ≡ 21 ∷ 4 ∷ []
unfolding outcome
angle_for-round = refl

-- `(<1:(<1:(<1:(<1:<`: `<` inside eight brackets
angle-inside-eight : told (reading (40 ∷ 60 ∷ 49 ∷ 58 ∷ 40 ∷ 60 ∷ 49 ∷ 58 ∷ 40 ∷ 60 ∷ 49 ∷ 58 ∷ 40 ∷ 60 ∷ 49 ∷ 58 ∷ 60 ∷ [])) ≡ 22 ∷ 16 ∷ []
unfolding outcome
angle-inside-eight = refl

-- `<1:<1:<1:<1:<1:<1:<1:<1:(`: `(` inside eight brackets
round-inside-eight : told (reading (60 ∷ 49 ∷ 58 ∷ 60 ∷ 49 ∷ 58 ∷ 60 ∷ 49 ∷ 58 ∷ 60 ∷ 49 ∷ 58 ∷ 60 ∷ 49 ∷ 58 ∷ 60 ∷ 49 ∷ 58 ∷ 60
    ∷ 49 ∷ 58 ∷ 60 ∷ 49 ∷ 58 ∷ 40 ∷ [])) ≡ 22 ∷ 24 ∷ []
unfolding outcome
round-inside-eight = refl
