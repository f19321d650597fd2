-- The sums of bytes by columns of eight: what `src/rows.rt` computes with. No call's promise rests on this file alone.
--     tot, weigh             the bytes of a list added up; each byte as often as there are bytes from it on
--     row_of, column         a row of eight columns, by their index; one of them
--     row_at                 some bytes as a row of columns, behind zeros
--     zeros, plus            a row of zeros; two rows added
--     tilted                 each column as often as there are columns from it on
--     columns, slope         the columns added up; those of the tilted row
--     AtMost, Room           each column is at most m; two rows can be added
--     tri                    the numbers below i added up
--     Rows, Eights           the sums after so many rows; after seven rows and so many times eight
--     plain_of, weighted_of  the two sums of a row and 31 rows, from their columns
-- Assumes nothing.
use Rattle.std.specs.Prelude.{ℕ, ◌+◌, ◌*◌, ◌-◌, ◌≤◌, ◌<◌, ◌≡◌, List, [], ◌∷◌, ◌++◌, length, replicate, drop}
use Rattle.seq.specs.Numbers.{run, sum_to}
use Rattle.seq.specs.Lists.{at, total}
use Rattle.block.specs.declared.rows.Row.{Row}
use Rattle.block.specs.declared.rows.RowSums.{RowSums}

-- the elements, added up
abbrev pub tot : List ℕ → ℕ
tot xs = total (λ x. x) xs

-- each element as often as there are elements from it on
unfoldable pub weigh : List ℕ → ℕ
weigh [] = 0
weigh (x ∷ xs) = length (x ∷ xs) * x + weigh xs

-- a row of eight columns, by their index, and column c of a row
abbrev pub row_of : (ℕ → ℕ) → Row
row_of f = record { 0 = run f 0 8 }

abbrev pub column : Row → ℕ → ℕ
column x c = at x.0 c

-- the n bytes from o on, behind zeros
abbrev pub row_at : ℕ → List ℕ → ℕ → Row
row_at n s o = record { 0 = run (λ c. 0) 0 (8 - n) ++ run (λ c. at s (o + c)) 0 n }

-- a row of zeros, and two rows added
abbrev pub zeros : Row
zeros = record { 0 = replicate 8 0 }

unfoldable pub plus : Row → Row → Row
plus x y = row_of (λ c. column x c + column y c)

-- each column as often as there are columns from it on
unfoldable pub tilted : Row → Row
tilted x = row_of (λ c. (8 - c) * column x c)

-- the columns, added up; and those of the tilted row
unfoldable pub columns : Row → ℕ
columns x = sum_to (column x) 8

abbrev pub slope : Row → ℕ
slope x = columns (tilted x)

-- each column is at most m
pub record AtMost (m : ℕ) (x : Row) : Type 0 where
  pub each : (c : ℕ) → c < 8 → column x c ≤ m

-- no column of the two together passes 16 bits
pub record Room (x y : Row) : Type 0 where
  pub each : (c : ℕ) → c < 8 → column x c + column y c < 65536

-- 0 + 1 + .. + (i − 1)
abbrev pub tri : ℕ → ℕ
tri i = sum_to (λ j. j) i

-- j rows from o on: `more` is their sum, and `near`, from near₀ on, has grown in front of each row by the rows before it
pub record Rows (s : List ℕ) (o : ℕ) (near₀ : Row) (j : ℕ) (more near : Row) : Type 0 where
  pub more_within : AtMost (255 * j) more
  pub near_within : (q : ℕ) → AtMost q near₀ → AtMost (q + 255 * tri j) near
  pub tot-is : tot (drop o s) ≡ columns more + tot (drop (o + 8 * j) s)
  pub weigh-is :
      weigh (drop o s) + 8 * columns near₀
      ≡ 8 * columns near + slope more + (length s - (o + 8 * j)) * columns more + weigh (drop (o + 8 * j) s)

-- seven rows and i times eight from o on: `all` is their sum, `near` has grown in the seven and in each eight as above, and `far` by `all`
-- in front of each eight
pub record Eights (s : List ℕ) (o i : ℕ) (t : RowSums) : Type 0 where
  pub all-within : AtMost (1785 + 2040 * i) t.all
  pub near_within : AtMost (5355 + 7140 * i) t.near
  pub far_within : AtMost (1785 * i + 2040 * tri i) t.far
  pub tot-is : tot (drop o s) ≡ columns t.all + tot (drop (o + 56 + 64 * i) s)
  pub weigh-is :
      weigh (drop o s)
      ≡ 8 * columns t.near + 64 * columns t.far + slope t.all + (length s - (o + 56 + 64 * i)) * columns t.all
      + weigh (drop (o + 56 + 64 * i) s)

-- a row and the 31 rows behind it, where nothing stands behind these: the bytes added up, and each byte as often as there are bytes from it
-- on
abbrev pub plain_of : Row → RowSums → ℕ
plain_of first t = columns first + columns t.all

abbrev pub weighted_of : Row → RowSums → ℕ
weighted_of first t = 248 * columns first + slope first + 8 * columns t.near + 64 * columns t.far + slope t.all
