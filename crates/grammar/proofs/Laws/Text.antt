-- The laws of `specs/Text.antt`. No contract cites this file.
--     gap_32          numbers behind a space
--     lead-behind     one more number
-- Assumes nothing.
use Prim.Native.Nat.{ℕ}
use mathlib.Core.Path.{◌≡◌, refl, sym, ap, ◌∙◌}
use mathlib.Core.List.{List, [], ◌∷◌, ◌++◌, append_assoc, append-nil}
use Rattle.seq.specs.Decimal.{decimal}
use Rattle.grammar.specs.Text.{lead, gap_after}

-- a space stands in front of each number behind a space
pub gap_32 : (ns : List ℕ) → gap_after 32 ns ≡ 32
gap_32 [] = refl
gap_32 (n ∷ ns) = refl

-- one more number
pub lead-behind : (b : ℕ) (ns : List ℕ) (n : ℕ) → lead b (ns ++ (n ∷ [])) ≡ lead b ns ++ (gap_after b ns ∷ decimal n)
unfolding lead
lead-behind b [] n = append-nil (b ∷ decimal n)
lead-behind b (m ∷ ns) n =
    ap (λ (l : List ℕ). (b ∷ decimal m) ++ l) (lead-behind 32 ns n ∙ ap (λ (x : ℕ). lead 32 ns ++ (x ∷ decimal n)) (gap_32 ns))
    ∙ sym (append_assoc (b ∷ decimal m) (lead 32 ns) (32 ∷ decimal n))
