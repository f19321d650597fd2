-- The starred cases of document 01 ("The printed listing") as rows of one table: what is asked, and what the definitions must say. Where
-- requests N3 and N8 of document 02 give another answer, it stands here.
-- The volume is the bytes that the writer's definition gives for the sample's lists, a plan is the words that a caller lends, and every
-- word of a buffer is 99 before the call, which no row holds. Above its rows stands the paper's line with its star; the line without one
-- has the buffer of a row and the one that is a word short of it. What else the paper does not star is tested (`rust/tests`).
--     Question, Result, told        what is asked, and what the definitions say
--     voice .. first_not_second     the words of a plan's rows
--     table                         the cases
-- Assumes nothing.
use Rattle.std.specs.Prelude.{ℕ, List, [], ◌∷◌, ◌++◌, map, length, replicate}
use Rattle.seq.specs.Lists.{joined}
use Rattle.seq.specs.Refusals.{Said, refused, answered}
use Rattle.block.specs.Bytes.{bytes32}
use Rattle.block.specs.Checksum.{check_a, check_b}
use Rattle.volume.specs.Write.{volume_of}
use Rattle.volume.specs.Demands.{sample_lists}
use Rattle.plan.specs.declared.answers.Sizes.{Sizes}
use Rattle.plan.specs.Check.{verdict}
use Rattle.search.specs.Answers.{Next, done, more, Page}
use Rattle.search.specs.Listing.{list_answer, list_out}
use Rattle.lister.specs.Printed.{printed}

-- the sample volume's bytes
abbrev pub sample : List ℕ
sample = volume_of sample_lists

-- a plan's words as the bytes of its file
abbrev pub file_of : List ℕ → List ℕ
file_of p = joined (map bytes32 p)

-- so many words of a buffer that nobody has written to
abbrev pub untouched : ℕ → List ℕ
untouched n = replicate n 99

-- what is asked
pub data Question : Type 0 where
  -- the checksum of so many zero bytes
  zero_bytes : ℕ → Question
  -- over the sample volume, with a plan, a start document and a buffer of so many words: checking the plan, and listing
  list : List ℕ → ℕ → ℕ → Question
  -- the program's output for the files of the sample volume and of a plan
  print : List ℕ → Question

-- what is said
pub data Result : Type 0 where
  -- A and B
  sums : ℕ → ℕ → Result
  -- the verdict on a plan; the answer to listing, and the buffer afterwards
  listed : Said Sizes → Said Page → List ℕ → Result
  -- the bytes that are printed
  text : List ℕ → Result

-- what the definitions say: those of the checksum, of `plan::check` and `search::list`, and of the printed listing
abbrev pub told : Question → Result
told (zero_bytes n) = sums (check_a (replicate n 0)) (check_b (replicate n 0))
told (list p start n) =
    listed (verdict sample p) (list_answer sample p start (length (untouched n))) (list_out sample p start (untouched n))
told (print p) = text (printed sample (file_of p))

-- a row of the table
pub record Case : Type 0 where
  pub asked : Question
  pub wanted : Result

-- the four words of a plan's row, by document 01's kind
abbrev pub voice : ℕ → List ℕ
voice a = 1 ∷ a ∷ 0 ∷ 0 ∷ []

abbrev pub near : ℕ → ℕ → ℕ → List ℕ
near a b c = 2 ∷ a ∷ b ∷ c ∷ []

abbrev pub before : ℕ → ℕ → List ℕ
before a b = 3 ∷ a ∷ b ∷ 0 ∷ []

abbrev pub same_title : ℕ → ℕ → List ℕ
same_title a b = 4 ∷ a ∷ b ∷ 0 ∷ []

abbrev pub span : ℕ → List ℕ
span c = 5 ∷ 0 ∷ 0 ∷ c ∷ []

abbrev pub end : List ℕ
end = 6 ∷ 0 ∷ 0 ∷ 0 ∷ []

abbrev pub first_not_second : List ℕ
first_not_second = 9 ∷ 0 ∷ 0 ∷ 0 ∷ []

-- the sample's two voices with these conditions
abbrev pub two_voices : List ℕ → List ℕ
two_voices conditions = voice 1 ++ voice 2 ++ conditions ++ end

abbrev pub sample_plan : List ℕ
sample_plan = two_voices (before 0 1 ++ same_title 0 1)

-- the sample listing, as 02 gives it
--     scene 1 1 2 0 5 0
--     done 6
abbrev pub sample_text : List ℕ
sample_text =
    115 ∷ 99 ∷ 101 ∷ 110 ∷ 101 ∷ 32 ∷ 49 ∷ 32 ∷ 49 ∷ 32 ∷ 50 ∷ 32 ∷ 48 ∷ 32 ∷ 53 ∷ 32 ∷ 48 ∷ 10
    ∷ 100 ∷ 111 ∷ 110 ∷ 101 ∷ 32 ∷ 54 ∷ 10
    ∷ []

-- a plan is accepted with so many patterns and variables (01: F and V)
abbrev pub accepted : ℕ → ℕ → Said Sizes
accepted patterns vars = answered (record { patterns = patterns; vars = vars })

-- listing says so many rows, a tally, and DONE or MORE
abbrev pub page : ℕ → ℕ → Next → Said Page
page rows tally next = answered (record { rows = rows; tally = tally; next = next })

abbrev pub case : Question → Result → Case
case asked wanted = record { asked = asked; wanted = wanted }

unfoldable pub table : List Case
table =
    -- * The listing above, and the call behind it.
    case (print sample_plan) (text sample_text)
    ∷ case (list sample_plan 0 18) (listed (accepted 1 2) (page 1 6 done) (1 ∷ 1 ∷ 2 ∷ 0 ∷ 5 ∷ 0 ∷ untouched 12))
    -- * NEAR 0 1, c = 0: only scene 1, places 8 7.
    ∷ case (list (two_voices (near 0 1 0)) 0 18) (listed (accepted 1 2) (page 1 6 done) (1 ∷ 1 ∷ 8 ∷ 6 ∷ 7 ∷ 6 ∷ untouched 12))
    -- * NEAR 0 1, c = 3: scene 2 absent.
    ∷ case (list (two_voices (near 0 1 3)) 0 18) (listed (accepted 1 2) (page 1 6 done) (1 ∷ 1 ∷ 2 ∷ 0 ∷ 5 ∷ 0 ∷ untouched 12))
    -- * c = 4: scene 2, places 4 9.
    ∷ case (list (two_voices (near 0 1 4)) 0 18)
    (listed (accepted 1 2) (page 2 6 done) (1 ∷ 1 ∷ 2 ∷ 0 ∷ 5 ∷ 0 ∷ 2 ∷ 1 ∷ 4 ∷ 65536 ∷ 9 ∷ 65536 ∷ untouched 6))
    -- * SPAN 4: scene 1 at 2 5.
    ∷ case (list (two_voices (span 4)) 0 18) (listed (accepted 1 2) (page 1 6 done) (1 ∷ 1 ∷ 2 ∷ 0 ∷ 5 ∷ 0 ∷ untouched 12))
    -- * SPAN 3: scene 1 at 8 7, scene 2 absent.
    ∷ case (list (two_voices (span 3)) 0 18) (listed (accepted 1 2) (page 1 6 done) (1 ∷ 1 ∷ 8 ∷ 6 ∷ 7 ∷ 6 ∷ untouched 12))
    -- * BEFORE 1 0 and SAME TITLE 0 1: scene 1 only, 8 7.
    ∷ case (list (two_voices (before 1 0 ++ same_title 0 1)) 0 18)
    (listed (accepted 1 2) (page 1 6 done) (1 ∷ 1 ∷ 8 ∷ 6 ∷ 7 ∷ 6 ∷ untouched 12))
    -- * Both voices on list 1, no condition: 2 2, then 4 4.
    ∷ case (list (voice 1 ++ voice 1 ++ end) 0 18)
    (listed (accepted 1 2) (page 2 6 done) (1 ∷ 1 ∷ 2 ∷ 0 ∷ 2 ∷ 0 ∷ 2 ∷ 1 ∷ 4 ∷ 65536 ∷ 4 ∷ 65536 ∷ untouched 6))
    -- * One voice on list 1, BEFORE 0 0: no row, tally 3.
    ∷ case (list (voice 1 ++ before 0 0 ++ end) 0 12) (listed (accepted 1 1) (page 0 3 done) (untouched 12))
    -- * Sample plan, buffer of 4 words: refusal 16 (02); from 2: the same.
    ∷ case (list sample_plan 0 4) (listed (accepted 1 2) (refused 16 0) (untouched 4))
    ∷ case (list sample_plan 2 4) (listed (accepted 1 2) (refused 16 0) (untouched 4))
    -- Buffer of 6 words: scene 1, DONE, tally 6; from 2: no row, DONE, tally 2. Buffer of 5: refusal 16. NEAR 0 1, c = 4: scene 1, MORE 2,
    -- tally 4; from 2: scene 2, DONE, tally 2.
    ∷ case (list sample_plan 0 6) (listed (accepted 1 2) (page 1 6 done) (1 ∷ 1 ∷ 2 ∷ 0 ∷ 5 ∷ 0 ∷ []))
    ∷ case (list sample_plan 2 6) (listed (accepted 1 2) (page 0 2 done) (untouched 6))
    ∷ case (list sample_plan 0 5) (listed (accepted 1 2) (refused 16 0) (untouched 5))
    ∷ case (list (two_voices (near 0 1 4)) 0 6) (listed (accepted 1 2) (page 1 4 (more 2)) (1 ∷ 1 ∷ 2 ∷ 0 ∷ 5 ∷ 0 ∷ []))
    ∷ case (list (two_voices (near 0 1 4)) 2 6) (listed (accepted 1 2) (page 1 2 done) (2 ∷ 1 ∷ 4 ∷ 65536 ∷ 9 ∷ 65536 ∷ []))
    -- * Buffer of 3: refusal 16.
    ∷ case (list sample_plan 0 3) (listed (accepted 1 2) (refused 16 0) (untouched 3))
    -- * BEFORE 0 1 FIRST NOT SECOND NEAR c = 0: the row 2 1 4 65536 9 65536 0 0 0 0 0 alone (02).
    ∷ case (list (two_voices (before 0 1) ++ two_voices (near 0 1 0) ++ first_not_second) 0 22)
    (listed (accepted 2 4) (page 1 12 done) (2 ∷ 1 ∷ 4 ∷ 65536 ∷ 9 ∷ 65536 ∷ 0 ∷ 0 ∷ 0 ∷ 0 ∷ 0 ∷ untouched 11))
    -- * 508 zero bytes give A = 1, B = 508.
    ∷ case (zero_bytes 508) (sums 1 508)
    ∷ []
