-- The patterns that rows in order are read as, and the rows that say them. No contract cites this file.
--     voice-of, end_of                   a kind that is told to be a VOICE, or END, is it
--     patterns_pass                      operators close no pattern
--     Opened                             rows that are read as the open pattern, and say it
--     opened-first, opened-next          the VOICE that opens a pattern; one more row that may stand there
--     opened-reads, opened_rows          END closes the pattern, whose rows are those and END
--     idle-row                           a row that may stand where no pattern is open and is no VOICE is an operator
-- Assumes nothing.
use Prim.Native.Nat.{ℕ, ◌≤◌}
use native.Mathlib.Omega.{arith}
use mathlib.Core.Path.{◌≡◌, refl, sym, ap, ◌∙◌}
use mathlib.Core.Bool.{true, false, true≢false}
use mathlib.Core.List.{List, [], ◌∷◌, ◌++◌, map, map-append, append_assoc, append-nil}
use lib.Seq.{append_snoc}
use Rattle.seq.specs.Lists.{all}
use Rattle.seq.proofs.Laws.Tests.{both}
use Rattle.plan.specs.declared.row.Predicate.{Predicate}
use Rattle.plan.specs.declared.row.Kind.{Kind}
use Rattle.plan.specs.declared.row.Kind.TheVariants as kind
use Rattle.plan.specs.declared.row.Row.{Row}
use Rattle.plan.specs.declared.state.State.{State}
use Rattle.plan.specs.State.{after, order_wrong}
use Rattle.plan.specs.Patterns.{Pattern, no_row, open_after, closed, patterns_from}
use Rattle.plan.specs.Rows.{is_voice, is_end, is_operator}
use Rattle.plan.specs.Parts.{pattern_rows}
use Rattle.plan.proofs.Laws.State.{condition-stands, end-stands, operator-stands}

pub voice-of : (k : Kind) → is_voice k ≡ true → (list : ℕ) × (k ≡ kind.Voice list)
voice-of (kind.Voice list) e = (list, refl)
voice-of (kind.Condition c) e = absurd (true≢false (sym e))
voice-of kind.End e = absurd (true≢false (sym e))
voice-of (kind.Operator o) e = absurd (true≢false (sym e))

pub end_of : (k : Kind) → is_end k ≡ true → k ≡ kind.End
end_of (kind.Voice list) e = absurd (true≢false (sym e))
end_of (kind.Condition c) e = absurd (true≢false (sym e))
end_of kind.End e = refl
end_of (kind.Operator o) e = absurd (true≢false (sym e))

-- operators close no pattern and leave the open one as it is
pub patterns_pass : (f : Pattern) (xs rest : List Row) → all (λ (r : Row). is_operator r.kind) xs ≡ true → patterns_from f (xs ++ rest) ≡ patterns_from f rest
unfolding patterns_from all
patterns_pass f [] rest e = refl
patterns_pass f (x ∷ xs) rest e = let w = both (is_operator x.kind) (all (λ (r : Row). is_operator r.kind) xs) e in go x.kind w.0 (patterns_pass f xs rest w.1)
  where
    go : (k : Kind) → is_operator k ≡ true → patterns_from f (xs ++ rest) ≡ patterns_from f rest → closed f k ++ patterns_from (open_after f k) (xs ++ rest) ≡ patterns_from f rest
    go (kind.Voice list) o h = absurd (true≢false (sym o))
    go (kind.Condition c) o h = absurd (true≢false (sym o))
    go kind.End o h = absurd (true≢false (sym o))
    go (kind.Operator x) o h = h

abbrev voice : ℕ → Row
voice list = record { kind = kind.Voice list }

abbrev condition : Predicate → Row
condition c = record { kind = kind.Condition c }

-- the rows of a pattern without END
abbrev open_rows : Pattern → List Row
open_rows f = map voice f.vars ++ map condition f.predicates

-- behind these rows the reading stands at s, with the open pattern f, which the rows say
pub record Opened (s : State) (f : Pattern) (rows : List Row) : Type 0 where
  pub says : open_rows f ≡ rows
  pub reads : (rest : List Row) → patterns_from no_row (rows ++ rest) ≡ patterns_from f rest
  pub unbegun : s.begun ≡ false → f.predicates ≡ []
  pub some-vars : 1 ≤ s.vars

pub opened-first : (s : State) (list : ℕ) → Opened (after s (kind.Voice list)) (open_after no_row (kind.Voice list)) (voice list ∷ [])
unfolding patterns_from
opened-first s list = record { says = refl; reads = λ rest. refl; unbegun = λ b. refl; some-vars = omega arith }

module _ (s : State) (f : Pattern) (rows : List Row) (o : Opened s f rows) where
  -- a row that closes nothing is read behind the others
  reads-next : (r : Row) → closed f r.kind ≡ [] → (rest : List Row) → patterns_from no_row (rows ++ (r ∷ []) ++ rest) ≡ patterns_from (open_after f r.kind) rest
  unfolding patterns_from
  reads-next r e rest =
      ap (patterns_from no_row) (append_snoc rows r rest)
      ∙ o.reads (r ∷ rest)
      ∙ ap (λ (l : List Pattern). l ++ patterns_from (open_after f r.kind) rest) e

  next-voice : (list : ℕ) → s.begun ≡ false → Opened (after s (kind.Voice list)) (open_after f (kind.Voice list)) (rows ++ (voice list ∷ []))
  next-voice list b = record {
    says =
        ap (λ (l : List Predicate). map voice (f.vars ++ (list ∷ [])) ++ map condition l) (o.unbegun b)
        ∙ append-nil (map voice (f.vars ++ (list ∷ [])))
        ∙ map-append voice f.vars (list ∷ [])
        ∙ ap (λ (l : List Row). l ++ (voice list ∷ [])) (sym rows_are);
    reads = reads-next (voice list) refl;
    unbegun = λ (x : s.begun ≡ false). o.unbegun x;
    some-vars = omega arith;
  }
    where
      rows_are : rows ≡ map voice f.vars
      rows_are = sym o.says ∙ ap (λ (l : List Predicate). map voice f.vars ++ map condition l) (o.unbegun b) ∙ append-nil (map voice f.vars)

  next-condition : (c : Predicate) → Opened (after s (kind.Condition c)) (open_after f (kind.Condition c)) (rows ++ (condition c ∷ []))
  next-condition c = record {
    says =
        ap (λ (l : List Row). map voice f.vars ++ l) (map-append condition f.predicates (c ∷ []))
        ∙ sym (append_assoc (map voice f.vars) (map condition f.predicates) (condition c ∷ []))
        ∙ ap (λ (l : List Row). l ++ (condition c ∷ [])) o.says;
    reads = reads-next (condition c) refl;
    unbegun = λ x. absurd (true≢false x);
    some-vars = o.some-vars;
  }

  -- a row that may stand there and is no END goes on with the pattern
  pub opened-next : (r : Row) → order_wrong s r.kind ≡ false → is_end r.kind ≡ false → Opened (after s r.kind) (open_after f r.kind) (rows ++ (r ∷ []))
  opened-next r = go r.kind
    where
      go : (k : Kind) → order_wrong s k ≡ false → is_end k ≡ false → Opened (after s k) (open_after f k) (rows ++ (record { kind = k } ∷ []))
      go (kind.Voice list) e n = next-voice list e
      go (kind.Condition c) e n = next-condition c
      go kind.End e n = absurd (true≢false n)
      go (kind.Operator x) e n =
          let z : s.vars ≡ 0 = (operator-stands s x e).0 in
          let l = o.some-vars in
          absurd (let q : ⊥ = omega arith in q)

  -- END closes it
  pub opened-reads : (rest : List Row) → patterns_from no_row (rows ++ (record { kind = kind.End } ∷ rest)) ≡ f ∷ patterns_from no_row rest
  unfolding patterns_from
  opened-reads rest = o.reads (record { kind = kind.End } ∷ rest)

  pub opened_rows : rows ++ (record { kind = kind.End } ∷ []) ≡ pattern_rows f
  opened_rows = ap (λ (l : List Row). l ++ (record { kind = kind.End } ∷ [])) (sym o.says)

-- where no pattern is open a row that may stand there and is no VOICE is an operator, and no pattern is open behind it
pub idle-row : (s : State) (k : Kind) → s.vars ≡ 0 → order_wrong s k ≡ false → is_voice k ≡ false → (is_operator k ≡ true) × ((after s k).vars ≡ 0)
idle-row s (kind.Voice list) z e n = absurd (true≢false n)
idle-row s (kind.Condition c) z e n = absurd ((condition-stands s c e).0 z)
idle-row s kind.End z e n = absurd (end-stands s e z)
idle-row s (kind.Operator o) z e n = (refl, z)
