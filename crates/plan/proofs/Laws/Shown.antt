-- What showing a pattern answers. No contract cites this file.
--     span-refused, span-missing, span-there     the span, by the verdict
--     span-inside                                it lies in the plan, and among the first 256 words
--     there-some                                 a part that is there is not empty
--     part-there, part-empty                     the part, by the span
-- Assumes nothing.
use Prim.Native.Nat.{ℕ, ◌+◌, ◌<◌, ◌≤◌}
use native.Mathlib.Omega.{arith}
use mathlib.Core.Path.{◌≡◌, refl, sym, ap, ◌∙◌, subst}
use mathlib.Core.Logic.{⊎_elim}
use mathlib.Core.List.{List, []}
use lib.ListN.{length}
use borrow.Author.Tests.{le-leb, lt-leb}
use Rattle.seq.specs.Refusals.{Said, refused, answered}
use Rattle.seq.proofs.Laws.Tests.{below_or}
use Rattle.volume.specs.Layout.{list_count}
use Rattle.plan.specs.declared.showing.Span.{Span}
use Rattle.plan.specs.Answers.{Sizes}
use Rattle.plan.specs.Check.{sizes, verdict, Accepted}
use Rattle.plan.specs.Parts.{span_at, nowhere, span_by, span_of, part_at, part_of}
use Rattle.plan.proofs.Laws.Check.{verdict-sizes, verdict-passed}
use Rattle.plan.proofs.Laws.Parts.{span-within, span-rises, part-some}

module _ (v p : List ℕ) (k : ℕ) where
  -- a span lies in the plan, and among the first 256 words
  abbrev Inside : Span → Type 0
  Inside s = (s.start + s.len ≤ length p) × (s.start + s.len ≤ 256)

  pub span-refused : (n q : ℕ) → verdict v p ≡ refused n q → span_of v p k ≡ nowhere
  unfolding span_of
  span-refused n q e = ap (λ s. span_by s k (span_at p k)) e

  module _ (s : Sizes) (e : verdict v p ≡ answered s) where
    pub span-missing : s.patterns ≤ k → span_of v p k ≡ nowhere
    unfolding span_of
    span-missing h = ap (λ x. span_by x k (span_at p k)) e ∙ rw (le-leb s.patterns k h)

    pub span-there : k < s.patterns → span_of v p k ≡ span_at p k
    unfolding span_of
    span-there h = ap (λ x. span_by x k (span_at p k)) e ∙ rw (lt-leb s.patterns k h)

    -- the span of a pattern that is there
    there-inside : k < s.patterns → Inside (span_at p k)
    unfolding sizes
    there-inside h =
        let ok = verdict-passed v p s e in
        let z = ap (λ (x : Sizes). x.patterns) (verdict-sizes v p s e) in
        let w = span-within (list_count v) p ok k (omega arith) in
        let r = span-rises (list_count v) p ok k (omega arith) in
        let l = ok.whole in
        let m = ok.most-rows in
        (omega arith, omega arith)

    -- a part that is there is not empty
    pub there-some : k < s.patterns → part_at p (span_at p k) ≡ [] → ⊥
    unfolding sizes
    there-some h =
        let z = ap (λ (x : Sizes). x.patterns) (verdict-sizes v p s e) in
        part-some (list_count v) p (verdict-passed v p s e) k (omega arith)

  -- the span lies in the plan, and among the first 256 words
  pub span-inside : Inside (span_of v p k)
  span-inside = go (verdict v p) refl
    where
      inside : (s : Span) → span_of v p k ≡ s → Inside s → Inside (span_of v p k)
      inside s e h = subst Inside (sym e) h

      go : (x : Said Sizes) → verdict v p ≡ x → Inside (span_of v p k)
      go (refused n q) e = inside nowhere (span-refused n q e) (omega arith, omega arith)
      go (answered s) e =
          ⊎_elim (λ (h : k < s.patterns). inside (span_at p k) (span-there s e h) (there-inside s e h))
          (λ (h : s.patterns ≤ k). inside nowhere (span-missing s e h) (omega arith, omega arith))
          (below_or k s.patterns)

  -- the part of a pattern that is there, and of one that is not
  pub part-there : Accepted v p → k < (sizes p).patterns → part_of v p k ≡ part_at p (span_at p k)
  unfolding part_of
  part-there e h = ap (part_at p) (span-there (sizes p) e h)

  pub part-empty : span_of v p k ≡ nowhere → part_of v p k ≡ []
  unfolding part_of
  part-empty e = ap (part_at p) e
