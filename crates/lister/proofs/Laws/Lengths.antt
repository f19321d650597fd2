-- How long the text of 32-bit numbers can be. No contract cites this file.
--     spaced-long                   a number of 64 bits
--     pair-short                    a line of two words of 32 bits
--     rows_short                    the lines of rows
-- Assumes nothing.
use Prim.Native.Nat.{ℕ, zero, suc, ◌+◌, ◌*◌, ◌<◌, ◌≤◌}
use native.Mathlib.Nat.{suc-mul}
use native.Mathlib.Omega.{arith}
use mathlib.Core.Logic.{⊎_elim}
use mathlib.Core.List.{List, [], ◌∷◌, map}
use lib.ListN.{length, take, drop, length-append, length-take, get_or-eq_default}
use lib.Seq.{get_or-take, get_or-drop}
use Rattle.seq.specs.Lists.{joined}
use Rattle.seq.specs.Numbers.{sum_to}
use Rattle.seq.proofs.Laws.Tests.{below_or}
use Rattle.block.specs.Bytes.{IsWords}
use Rattle.lister.specs.Text.{spaced, line, scene_word}
use Rattle.lister.specs.Inner.Pages.{row_lines}
use Rattle.lister.proofs.Laws.Stored.{length-pieces}
use Rattle.lister.proofs.Laws.Text.{length-line}
use Rattle.seq.proofs.Laws.Decimal.{length-decimal}

spaced-short : (n : ℕ) → n < 4294967296 → length (spaced n) ≤ 11
unfolding spaced
spaced-short n h = let a = length-decimal 9 n (omega arith) in omega arith

pub spaced-long : (n : ℕ) → n < 18446744073709551616 → length (spaced n) ≤ 21
unfolding spaced
spaced-long n h = let a = length-decimal 19 n (omega arith) in omega arith

numbers-short : (ns : List ℕ) → IsWords ns → length (joined (map spaced ns)) ≤ 11 * length ns
unfolding joined
numbers-short [] h = omega arith
numbers-short (n ∷ ns) h =
    let a = spaced-short n (h 0) in
    let b = numbers-short ns (λ i. h (suc i)) in
    rw (length-append (spaced n) (joined (map spaced ns))) (omega arith)

line-short : (word ns : List ℕ) → IsWords ns → length (line word ns) ≤ length word + 11 * length ns + 1
line-short word ns h = let a = numbers-short ns h in rw (length-line word ns) (omega arith)

-- a part of 32-bit words
words-part : (ws : List ℕ) (n k : ℕ) → IsWords ws → IsWords (take n (drop k ws))
words-part ws n k h i =
    ⊎_elim
    (λ l. rw (get_or-take n (drop k ws) i 0 l, get_or-drop k ws i 0) (h (k + i)))
    (λ l. let a = length-take n (drop k ws) in rw (get_or-eq_default (take n (drop k ws)) 0 {n = i} (omega arith)) (omega arith))
    (below_or i n)

sum-most : (f : ℕ → ℕ) (most : ℕ) → ((i : ℕ) → f i ≤ most) → (n : ℕ) → sum_to f n ≤ n * most
unfolding sum_to
sum-most f most h zero = omega arith
sum-most f most h (suc n) = let a = sum-most f most h n in let b = h n in rw (suc-mul n most) (omega arith)

pub rows_short : (width : ℕ) (page : List ℕ) (n : ℕ) → IsWords page → length (row_lines width page n) ≤ n * (6 + 11 * width)
unfolding row_lines
rows_short width page n h =
    rw (length-pieces (λ i. line scene_word (take width (drop (i * width) page))) n)
    (sum-most (λ i. length (line scene_word (take width (drop (i * width) page)))) (6 + 11 * width) each n)
  where
    each : (i : ℕ) → length (line scene_word (take width (drop (i * width) page))) ≤ 6 + 11 * width
    each i =
        let row = take width (drop (i * width) page) in
        let a = line-short scene_word row (words-part page width (i * width) h) in
        let b = length-take width (drop (i * width) page) in
        omega arith

-- a line of two numbers has room
pub pair-short : (word : List ℕ) (a b : ℕ) {room : ℕ} → a < 4294967296 → b < 4294967296 → length word + 23 ≤ room
    → 0 + length (line word (a ∷ b ∷ [])) ≤ room
pair-short word a b h l r = let s = line-short word (a ∷ b ∷ []) two in omega arith
  where
    two : IsWords (a ∷ b ∷ [])
    two zero = h
    two (suc zero) = l
    two (suc (suc i)) = omega arith
