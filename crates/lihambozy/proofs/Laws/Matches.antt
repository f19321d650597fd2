-- The answer of writing matches as a struct tells the answer. No contract cites this file.
--     heard-matches     what is heard is what the call answers
--     every_enumeration            what the crate `enumeration` states of every enumeration holds of the structs
-- Assumes nothing.
use Prim.Native.Nat.{ℕ, ◌<◌}
use native.Mathlib.Omega.{arith}
use mathlib.Core.Path.{◌≡◌, refl}
use mathlib.Core.List.{List}
use mathlib.Core.Option.{Option, none, some}
use lib.ListN.{length}
use borrow.Author.Tests.{ne_eqb}
use Rattle.seq.specs.Refusals.{Said, refused, answered}
use Rattle.plan.specs.Check as plan
use Rattle.fulltext.specs.Positions.{limit}
use Rattle.enumeration.specs.Answers.{Page}
use Rattle.enumeration.specs.Enumerating.{matches_answer}
use Rattle.enumeration.specs.Demands.{EveryEnumeration}
use Rattle.enumeration.proofs.Laws.Stages.{matches-number}
use Rattle.enumeration.proofs.Laws.MatchesFirst.{matches-sound}
use Rattle.enumeration.proofs.Laws.Enumeration as whole
use Rattle.lihambozy.specs.Flat.{flat_plan, flat_matches}
use Rattle.lihambozy.specs.Enumeration.{heard, structs}
use Rattle.lihambozy.proofs.Laws.Search.{accepted}

-- what is heard is what the call answers
heard-matches : (v p : List ℕ) (k d : ℕ) (from out : List ℕ)
    → heard (flat_matches (matches_answer v p k d from (length out))) ≡ matches_answer v p k d from (length out)
heard-matches v p k d from out = go (matches_answer v p k d from (length out)) refl
  where
    next_of : (n : ℕ) (next : Option (List ℕ)) → heard (flat_matches (answered (record { count = n; next = next }))) ≡ answered (record { count = n; next = next })
    next_of n none = refl
    next_of n (some words) = refl

    go : (said : Said Page) → matches_answer v p k d from (length out) ≡ said → heard (flat_matches said) ≡ said
    go (refused n q) e =
        let h = (matches-number v p k d from (length out) n q ((matches-sound v p k d from (length out)).first n q e).applies.1).0 in
        rw (ne_eqb n 0 (λ z. let y : ⊥ = omega arith in y))
    go (answered page) e = next_of page.count page.next

pub every_enumeration : (v p : List ℕ) → (flat_plan (plan.verdict v p)).refusal ≡ 0 → (k d : ℕ) → k < (flat_plan (plan.verdict v p)).patterns → d < limit → EveryEnumeration structs v p k d
every_enumeration v p e k d there low = let ok = accepted v p e in whole.every_enumeration structs v p ok k d (rw ok at there) low (heard-matches v p k d)
