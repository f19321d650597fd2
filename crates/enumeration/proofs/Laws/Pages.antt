-- What a page says and which words are written, by the number of matches that fit. No contract cites this file.
--     page-done, page-more       no more matches are left than fit; more are left
--     words-done, words_more     the words that are written then
--     take-padded     the front of a match with zeros behind it
--     first-words     what is written first where one fits
-- Assumes nothing.
use Prim.Native.Nat.{ℕ, zero, suc, ◌-◌, ◌<◌, ◌≤◌}
use native.Mathlib.Omega.{arith}
use mathlib.Core.Path.{◌≡◌, refl, ap, ap₂, ◌∙◌}
use mathlib.Core.List.{List, [], ◌∷◌, ◌++◌, append_assoc}
use mathlib.Core.Option.{Option, none, some}
use lib.ListN.{length, get_or, take, replicate}
use lib.Seq.{length-take-le, take_at, drop-cons}
use Rattle.seq.specs.Lists.{joined, first}
use Rattle.seq.specs.Pages.{Portion}
use Rattle.seq.proofs.Laws.Pages.{portion-all}
use Rattle.plan.specs.Limits.{most_pattern_vars}
use Rattle.enumeration.specs.Answers.{padded}
use Rattle.enumeration.specs.Enumerating.{next_by, page_by, page_of, words_of}

module _ (m : ℕ) (qs : List (List ℕ)) where
  pub page-done : length qs ≤ m → page_of m qs ≡ record { count = length qs; next = none }
  unfolding page_of
  page-done h = ap page_by (portion-all m qs h)

  pub words-done : length qs ≤ m → words_of m qs ≡ joined qs
  unfolding words_of
  words-done h = ap (λ (t : Portion (List ℕ)). joined t.written) (portion-all m qs h)

  pub page-more : m < length qs → page_of m qs ≡ record { count = m; next = some (padded (get_or qs m [])) }
  unfolding page_of
  page-more h =
      ap₂ (λ (n : ℕ) (o : Option (List ℕ)). record { count = n; next = next_by o }) (length-take-le m qs (omega arith)) (ap first (drop-cons qs m [] h))

  pub words_more : words_of m qs ≡ joined (take m qs)
  unfolding words_of
  words_more = refl

module _ (ps : List ℕ) (n : ℕ) (e : length ps ≡ n) where
  pub take-padded : take n (padded ps) ≡ ps
  take-padded = take_at ps (replicate (most_pattern_vars - length ps) 0) n e

-- what is written first where one fits is the first of them
pub first-words : (n m : ℕ) (qs : List (List ℕ)) (ps rest : List ℕ) → first qs ≡ some ps → length ps ≡ n → 1 ≤ m → take n (words_of m qs ++ rest) ≡ ps
unfolding words_of joined
first-words n m [] ps rest e l h = let z : ◌≡◌ {A = ℕ} 0 1 = cc in absurd (let w : ⊥ = omega arith in w)
first-words n zero (q ∷ qs) ps rest e l h = absurd (let w : ⊥ = omega arith in w)
first-words n (suc m) (q ∷ qs) ps rest e l h =
    let i : q ≡ ps = cc in
    ap (take n) (append_assoc q (joined (take m qs)) rest) ∙ take_at q (joined (take m qs) ++ rest) n (ap length i ∙ l) ∙ i
