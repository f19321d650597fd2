-- The laws of lines. No contract cites this file.
--     numbers-pieces               numbers, as pieces
--     one_number                   a line's numbers, where it has one
--     length-line, stored-line     a line, in three parts
-- Assumes nothing.
use Prim.Native.Nat.{ℕ, ◌+◌}
use mathlib.Core.Path.{◌≡◌, sym, ap, ◌∙◌}
use mathlib.Core.List.{List, [], ◌∷◌, ◌++◌, map, append-nil}
use lib.ListN.{length, get_or, length-append}
use Rattle.seq.specs.Lists.{joined}
use Rattle.seq.specs.Numbers.{run}
use Rattle.seq.proofs.Laws.Lists.{length-snoc}
use Rattle.seq.proofs.Laws.Runs.{map-run, run-get_or}
use Rattle.lister.specs.Text.{spaced, newline, line}
use Rattle.lister.specs.Inner.Stored.{Stored}
use Rattle.lister.proofs.Laws.Stored.{stored_more}

-- numbers, as pieces
pub numbers-pieces : (ns : List ℕ) → joined (map spaced ns) ≡ joined (run (λ i. spaced (get_or ns i 0)) 0 (length ns))
numbers-pieces ns = ap joined (ap (map spaced) (sym (run-get_or 0 ns)) ∙ map-run spaced (λ i. get_or ns i 0) 0 (length ns))

-- the number of bytes of a line
pub length-line : (word ns : List ℕ) → length (line word ns) ≡ length word + length (joined (map spaced ns)) + 1
unfolding line
length-line word ns = length-snoc (word ++ joined (map spaced ns)) newline ∙ ap (λ (n : ℕ). n + 1) (length-append word (joined (map spaced ns)))

-- a line is stored in three parts
pub stored-line : (word ns : List ℕ) {out out₁ out₂ out₃ : List ℕ} {at end₁ end₂ end₃ : ℕ} → Stored out at word out₁ end₁
    → Stored out₁ end₁ (joined (map spaced ns)) out₂ end₂ → Stored out₂ end₂ (newline ∷ []) out₃ end₃ → Stored out at (line word ns) out₃ end₃
unfolding line
stored-line word ns s t u = stored_more (stored_more s (joined (map spaced ns)) t) (newline ∷ []) u

-- one number
pub one_number : (n : ℕ) → joined (map spaced (n ∷ [])) ≡ spaced n
unfolding joined
one_number n = append-nil (spaced n)
