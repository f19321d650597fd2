-- A struct tells the answer that it was made from. No contract cites this file.
--     heard-refused, heard-more     by its fields
--     heard-flat         what is heard is what listing answers
-- Assumes nothing.
use Prim.Native.Nat.{ℕ, ◌<◌}
use native.Mathlib.Omega.{arith}
use mathlib.Core.Path.{◌≡◌, refl, ap}
use mathlib.Core.Logic.{◌≢◌}
use mathlib.Core.List.{List}
use lib.ListN.{length}
use borrow.Author.Tests.{eq-eqb, ne_eqb}
use Rattle.seq.specs.Refusals.{Said, refused, answered}
use Rattle.fulltext.specs.Positions.{limit}
use Rattle.search.specs.Answers.{Next, done, more, Page}
use Rattle.search.specs.Listing.{list_answer}
use Rattle.search.proofs.Laws.Stages.{list-number}
use Rattle.search.proofs.Laws.ListFirst.{list-sound}
use Rattle.search.proofs.Laws.Calls.{more-later}
use Rattle.lihambozy.specs.declared.answers.ListAnswer.{ListAnswer}
use Rattle.lihambozy.specs.Flat.{flat_listing}
use Rattle.lihambozy.specs.Search.{heard}

module _ (a : ListAnswer) where
  heard-refused : a.refusal ≢ 0 → heard a ≡ refused a.refusal a.at
  heard-refused h = rw (ne_eqb a.refusal 0 h)

  heard-more : (t : ℕ) → a.refusal ≡ 0 → a.next ≡ t → t < limit → heard a ≡ answered (record { rows = a.rows; tally = a.tally; next = more t })
  heard-more t h e l = rw (eq-eqb a.refusal 0 h, ne_eqb a.next limit (λ q. let z : ⊥ = omega arith in z)) (ap (λ (n : ℕ). answered (record { rows = a.rows; tally = a.tally; next = more n })) e)

-- what is heard is what listing answers
pub heard-flat : (v p : List ℕ) (start : ℕ) (out : List ℕ) → heard (flat_listing (list_answer v p start (length out))) ≡ list_answer v p start (length out)
heard-flat v p start out = go (list_answer v p start (length out)) refl
  where
    next_of : (n t : ℕ) (next : Next) → list_answer v p start (length out) ≡ answered (record { rows = n; tally = t; next = next })
        → heard (flat_listing (answered (record { rows = n; tally = t; next = next }))) ≡ answered (record { rows = n; tally = t; next = next })
    next_of n t done e = refl
    next_of n t (more s) e = heard-more (flat_listing (answered (record { rows = n; tally = t; next = more s }))) s refl refl (more-later v p start out n t s e).below

    go : (said : Said Page) → list_answer v p start (length out) ≡ said → heard (flat_listing said) ≡ said
    go (refused n q) e =
        let h = (list-number v p start (length out) n q ((list-sound v p start (length out)).first n q e).applies.1).0 in
        heard-refused (flat_listing (refused n q)) (λ z. let y : ⊥ = omega arith in y)
    go (answered page) e = next_of page.rows page.tally page.next e
