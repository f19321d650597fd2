-- The rows of a plan: four words each, and the kind that they are read as. Each definition is total: behind the end of the plan stand
-- zeros. Assumes nothing.
use Rattle.std.specs.Prelude.{ℕ, ◌+◌, ◌-◌, ◌*◌, ◌/◌, ◌%◌, ◌≤◌, Bool, true, false, not, ◌&&◌, ◌||◌, List, [], ◌∷◌, map, length, get_or, eqb, ltb}
use Rattle.seq.specs.Lists.{joined}
use Rattle.seq.specs.Numbers.{run}
use Rattle.plan.specs.declared.kinds.Uses.{Uses}
use Rattle.plan.specs.declared.row.Predicate.TheVariants.{Distance, Ordered, Samepara, Window, Proximity}
use Rattle.plan.specs.declared.row.Operator.TheVariants.{Both, Either, FirstNotSecond, AtLeast}
use Rattle.plan.specs.declared.row.Kind.{Kind}
use Rattle.plan.specs.declared.row.Kind.TheVariants as kind
use Rattle.plan.specs.declared.row.Row.{Row}
use Rattle.plan.specs.Limits.{last_kind, least_unit, least_taken, most_taken}

-- the number of rows
abbrev pub row_count : List ℕ → ℕ
row_count p = length p / 4

-- the words of row i: its kind, a, b and c
abbrev pub kind_at : List ℕ → ℕ → ℕ
kind_at p i = get_or p (4 * i) 0

abbrev pub a_at : List ℕ → ℕ → ℕ
a_at p i = get_or p (4 * i + 1) 0

abbrev pub b_at : List ℕ → ℕ → ℕ
b_at p i = get_or p (4 * i + 2) 0

abbrev pub c_at : List ℕ → ℕ → ℕ
c_at p i = get_or p (4 * i + 3) 0

-- the kind of a row with these words, for kinds 1 to the last
abbrev pub kind_of : ℕ → ℕ → ℕ → ℕ → Kind
kind_of k a b c =
    get_or
    (kind.Voice a
    ∷ kind.Condition (Distance a b c)
    ∷ kind.Condition (Ordered a b)
    ∷ kind.Condition (Samepara a b)
    ∷ kind.Condition (Window c)
    ∷ kind.End
    ∷ kind.Operator Both
    ∷ kind.Operator Either
    ∷ kind.Operator FirstNotSecond
    ∷ kind.Condition (Proximity a b (c / least_unit) (c % least_unit))
    ∷ kind.Operator (AtLeast a b)
    ∷ [])
    (k - 1)
    kind.End

abbrev pub row_of : ℕ → ℕ → ℕ → ℕ → Row
row_of k a b c = record { kind = kind_of k a b c }

-- row i
unfoldable pub row_at : List ℕ → ℕ → Row
row_at p i = row_of (kind_at p i) (a_at p i) (b_at p i) (c_at p i)

-- the rows in front of row i
abbrev pub rows_before : List ℕ → ℕ → List Row
rows_before p i = run (row_at p) 0 i

-- the rows
abbrev pub rows_of : List ℕ → List Row
rows_of p = rows_before p (row_count p)

-- what sort of row it is
abbrev pub is_voice : Kind → Bool
is_voice (kind.Voice list) = true
is_voice (kind.Condition c) = false
is_voice kind.End = false
is_voice (kind.Operator o) = false

abbrev pub is_condition : Kind → Bool
is_condition (kind.Voice list) = false
is_condition (kind.Condition c) = true
is_condition kind.End = false
is_condition (kind.Operator o) = false

abbrev pub is_end : Kind → Bool
is_end (kind.Voice list) = false
is_end (kind.Condition c) = false
is_end kind.End = true
is_end (kind.Operator o) = false

abbrev pub is_operator : Kind → Bool
is_operator (kind.Voice list) = false
is_operator (kind.Condition c) = false
is_operator kind.End = false
is_operator (kind.Operator o) = true

-- whether a, b and c are used, and the range of c
abbrev pub uses : Bool → Bool → Bool → ℕ → ℕ → Uses
uses a b c least most = record { a = a; b = b; c = c; least = least; most = most }

-- the words that a row uses, by its kind; the range of c is 0 to 0 where it is not used, and all words for APART
abbrev pub uses_of : Kind → Uses
uses_of (kind.Voice list) = uses true false false 0 0
uses_of (kind.Condition (Distance a b limit)) = uses true true true 0 65535
uses_of (kind.Condition (Ordered a b)) = uses true true false 0 0
uses_of (kind.Condition (Samepara a b)) = uses true true false 0 0
uses_of (kind.Condition (Window limit)) = uses false false true 1 65536
uses_of (kind.Condition (Proximity a b least most)) = uses true true true 0 4294967295
uses_of kind.End = uses false false false 0 0
uses_of (kind.Operator Both) = uses false false false 0 0
uses_of (kind.Operator Either) = uses false false false 0 0
uses_of (kind.Operator FirstNotSecond) = uses false false false 0 0
uses_of (kind.Operator (AtLeast least of)) = uses true true false 0 0

-- a word that is not used is not 0
abbrev pub stray : Bool → ℕ → Bool
stray used word = not used && not (eqb word 0)

-- words a, b and c are not as a kind uses them: one that is not used is not 0, or c is out of its range
unfoldable pub misused : Uses → ℕ → ℕ → ℕ → Bool
misused u a b c = stray u.a a || (stray u.b b || (stray u.c c || (ltb c u.least || ltb u.most c)))

-- the numbers that a row carries do not fit each other: the least of APART exceeds its most (02, N2); AT LEAST asks for none, for more
-- than it takes, or takes fewer than two or more than eight (02, N9)
abbrev pub pair_wrong : Kind → Bool
pair_wrong (kind.Voice list) = false
pair_wrong (kind.Condition (Distance a b limit)) = false
pair_wrong (kind.Condition (Ordered a b)) = false
pair_wrong (kind.Condition (Samepara a b)) = false
pair_wrong (kind.Condition (Window limit)) = false
pair_wrong (kind.Condition (Proximity a b least most)) = ltb most least
pair_wrong kind.End = false
pair_wrong (kind.Operator Both) = false
pair_wrong (kind.Operator Either) = false
pair_wrong (kind.Operator FirstNotSecond) = false
pair_wrong (kind.Operator (AtLeast least of)) = ltb least 1 || (ltb of least || (ltb of least_taken || ltb most_taken of))

-- 10: unknown kind, unused word not 0, c out of range, or numbers that do not fit each other
unfoldable pub form_wrong : ℕ → ℕ → ℕ → ℕ → Bool
form_wrong k a b c = ltb k 1 || (ltb last_kind k || (misused (uses_of (kind_of k a b c)) a b c || pair_wrong (kind_of k a b c)))

abbrev pub form_wrong_at : List ℕ → ℕ → Bool
form_wrong_at p i = form_wrong (kind_at p i) (a_at p i) (b_at p i) (c_at p i)

-- the words of a row
abbrev pub words_of : Kind → List ℕ
words_of (kind.Voice list) = 1 ∷ list ∷ 0 ∷ 0 ∷ []
words_of (kind.Condition (Distance a b limit)) = 2 ∷ a ∷ b ∷ limit ∷ []
words_of (kind.Condition (Ordered a b)) = 3 ∷ a ∷ b ∷ 0 ∷ []
words_of (kind.Condition (Samepara a b)) = 4 ∷ a ∷ b ∷ 0 ∷ []
words_of (kind.Condition (Window limit)) = 5 ∷ 0 ∷ 0 ∷ limit ∷ []
words_of (kind.Condition (Proximity a b least most)) = 10 ∷ a ∷ b ∷ (least * least_unit + most) ∷ []
words_of kind.End = 6 ∷ 0 ∷ 0 ∷ 0 ∷ []
words_of (kind.Operator Both) = 7 ∷ 0 ∷ 0 ∷ 0 ∷ []
words_of (kind.Operator Either) = 8 ∷ 0 ∷ 0 ∷ 0 ∷ []
words_of (kind.Operator FirstNotSecond) = 9 ∷ 0 ∷ 0 ∷ 0 ∷ []
words_of (kind.Operator (AtLeast least of)) = 11 ∷ least ∷ of ∷ 0 ∷ []

-- the plan of rows: their words, joined
abbrev pub plan_of : List Row → List ℕ
plan_of rows = joined (map (λ (r : Row). words_of r.kind) rows)

-- the numbers of a row are in their range
abbrev pub InRange : Kind → Type 0
InRange (kind.Voice list) = Unit
InRange (kind.Condition (Distance a b limit)) = limit ≤ 65535
InRange (kind.Condition (Ordered a b)) = Unit
InRange (kind.Condition (Samepara a b)) = Unit
InRange (kind.Condition (Window limit)) = (1 ≤ limit) × (limit ≤ 65536)
InRange (kind.Condition (Proximity a b least most)) = (least ≤ most) × (most ≤ 65535)
InRange kind.End = Unit
InRange (kind.Operator Both) = Unit
InRange (kind.Operator Either) = Unit
InRange (kind.Operator FirstNotSecond) = Unit
InRange (kind.Operator (AtLeast least of)) = ((1 ≤ least) × (least ≤ of)) × ((least_taken ≤ of) × (of ≤ most_taken))
