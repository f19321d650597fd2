-- The laws of `specs/Inner/States.antt`: a law for each way through the code, and how the states follow the reading. No contract cites
-- this file.
--     grow-..                  a number grows by a digit, or does not
--     Follows, step_follows    what a byte makes of a state is what it makes of the pattern so far
-- Assumes nothing.
use Prim.Native.Nat.{ℕ, ◌+◌, ◌<◌, ◌≤◌}
use native.Mathlib.Omega.{arith}
use mathlib.Core.Path.{◌≡◌, refl, sym, ap, ◌∙◌}
use mathlib.Core.Bool.{Bool, true, false, cond, ◌&&◌}
use mathlib.Core.List.{List, [], ◌∷◌, ◌++◌, map, map-append, append_assoc, append-nil}
use lib.Dec.{eqb, ltb}
use lib.ListN.{length}
use borrow.Author.Tests.{le-leb, lt-leb, ltb-true, ltb-false}
use Rattle.grammar.specs.declared.tokens.Word.{Word}
use Rattle.grammar.specs.declared.tokens.Word.TheVariants as word
use Rattle.std.proofs.Common.{Option, Some, None}
use Rattle.line.specs.declared.steps.State.{State}
use Rattle.line.specs.declared.steps.Next.{Next}
use Rattle.line.specs.declared.steps.Next.TheVariants.{Goes, Emits, Closes}
use Rattle.plan.specs.declared.row.Kind.{Kind}
use Rattle.plan.specs.declared.row.Kind.TheVariants.{Voice, Condition}
use Rattle.plan.specs.declared.row.Predicate.{Predicate}
use Rattle.plan.specs.declared.row.Row.{Row}
use Rattle.plan.specs.Parts.{pattern_rows}
use Rattle.grammar.specs.Meaning.{pattern_of, predicate_by, predicate_of}
use Rattle.line.specs.Inner.Store.{open_rows, partial_rows}
use Rattle.grammar.specs.Grammar.{Figure, arity, most_of}
use Rattle.grammar.specs.Reading as reading
use Rattle.grammar.specs.Reading.{is_digit, may_grow, grown, grows, step_in}
use Rattle.line.specs.Inner.States.{grown_by, ending_state, step_state, state_of}
use Rattle.line.specs.Inner.States.{condition_kind, another_state, three}
use Rattle.grammar.proofs.Laws.Reading.{PartialFits}
use Rattle.grammar.proofs.Laws.Query.{voice, condition, end}
use Rattle.grammar.proofs.Laws.Limits.{few}

-- a byte that is no digit
pub grow-no_digit : (most : ℕ) (x : Option ℕ) (b : ℕ) → is_digit b ≡ false → grown_by most x b ≡ None
unfolding grows
grow-no_digit most x b e = rw e

-- no digit behind a zero
pub grow-zero : (most : ℕ) (x : Option ℕ) (b : ℕ) → may_grow x ≡ false → grown_by most x b ≡ None
unfolding grows
grow-zero most x b e = rw e (go (is_digit b))
  where
    go : (t : Bool) → ◌≡◌ {A = Option ℕ} (cond (t && false) (Some (grown x b)) None) None
    go true = refl
    go false = refl

module _ (most : ℕ) (x : Option ℕ) (b v : ℕ) (d : is_digit b ≡ true) (m : may_grow x ≡ true) (e : v ≡ grown x b) where
  -- a digit that passes the limit
  pub grow-over : most < v → grown_by most x b ≡ None
  unfolding grows
  grow-over h = let l : most < grown x b = omega arith in rw (d, m, lt-leb (grown x b) most l)

  -- one more digit
  pub grow-digit : v ≤ most → grown_by most x b ≡ Some v
  unfolding grows
  grow-digit h = let l : grown x b ≤ most = omega arith in rw (d, m, le-leb (grown x b) most l) (ap Some (sym e))

-- the pattern goes on inside a row
pub record Going (f g : reading.Partial) (s : State) : Type 0 where
  pub state : state_of g ≡ s
  pub rows : partial_rows g ≡ partial_rows f

-- the row of a kind
abbrev pub row_of : Kind → Row
row_of k = record { kind = k }

-- it goes on behind a row
pub record Emitting (f g : reading.Partial) (k : Kind) (s : State) : Type 0 where
  pub state : state_of g ≡ s
  pub rows : partial_rows g ≡ partial_rows f ++ (row_of k ∷ [])

-- it is closed behind its last row
pub record Closing (f : reading.Partial) (x : Figure) (k : Kind) : Type 0 where
  pub rows : pattern_rows (pattern_of x) ≡ partial_rows f ++ (row_of k ∷ end ∷ [])

-- what a byte makes of the pattern f so far, and what it makes of the state
abbrev pub Follows : reading.Partial → reading.Next → Option Next → Type 0
Follows f (reading.goes g) (Some (Goes s)) = Going f g s
Follows f (reading.goes g) (Some (Emits s k)) = Emitting f g k s
Follows f (reading.goes g) (Some (Closes k)) = ⊥
Follows f (reading.goes g) None = ⊥
Follows f (reading.closes x) (Some (Goes s)) = ⊥
Follows f (reading.closes x) (Some (Emits s k)) = ⊥
Follows f (reading.closes x) (Some (Closes k)) = Closing f x k
Follows f (reading.closes x) None = ⊥
Follows f reading.stuck (Some (Goes s)) = ⊥
Follows f reading.stuck (Some (Emits s k)) = ⊥
Follows f reading.stuck (Some (Closes k)) = ⊥
Follows f reading.stuck None = Unit

-- two choices by one test
both_ways : {A B : Type 0} (P : A → B → Type 0) (t : Bool) (x y : A) (u v : B) → (t ≡ true → P x u) → (t ≡ false → P y v)
    → P (cond t x y) (cond t u v)
both_ways P true x y u v f g = f refl
both_ways P false x y u v f g = g refl

-- behind the last number of a list or of a condition
ending-follows : (f : reading.Partial) (x : Figure) (k : Kind) (b : ℕ) → open_rows (pattern_of x) ≡ partial_rows f ++ (row_of k ∷ [])
    → Follows f (reading.ending x b) (ending_state k b)
ending-follows f x k b h =
    both_ways (Follows f) (eqb b 59) _ _ _ _ (λ t. record { state = refl; rows = h })
    (λ t. both_ways (Follows f) (eqb b 93) _ _ _ _
    (λ u. record { rows = ap (λ (l : List Row). l ++ (end ∷ [])) h ∙ append_assoc (partial_rows f) (row_of k ∷ []) (end ∷ []) })
    (λ u. tt))

-- the rows of list numbers
lists-follow : (ns : List ℕ) (n : ℕ) → open_rows (pattern_of (reading.first_lists (reading.behind ns n))) ≡ map voice ns ++ (voice n ∷ [])
lists-follow ns n = append-nil (map voice (reading.behind ns n)) ∙ map-append voice ns (n ∷ [])

-- the rows with one condition more
condition-follow : (f : Figure) (w : Word) (ns : List ℕ)
    → open_rows (pattern_of (reading.with_condition f w ns)) ≡ open_rows (pattern_of f) ++ (condition (predicate_by w ns) ∷ [])
condition-follow f w ns =
    ap (λ (l : List Predicate). map voice f.lists ++ map condition l)
    (map-append predicate_of f.conditions (record { word = w; numbers = ns } ∷ []))
    ∙ ap (λ (l : List Row). map voice f.lists ++ l) (map-append condition (map predicate_of f.conditions) (predicate_by w ns ∷ []))
    ∙ sym (append_assoc (map voice f.lists) (map condition (map predicate_of f.conditions)) (condition (predicate_by w ns) ∷ []))

-- the kind of a condition from its numbers
kind-follow : (w : Word) (ns : List ℕ) (n : ℕ) → length ns + 1 ≡ arity w
    → Condition (predicate_by w (reading.behind ns n)) ≡ condition_kind w (three ns) n
kind-follow word.Near (a ∷ b ∷ []) n e = refl
kind-follow word.Near [] n e = absurd (let z : ⊥ = omega arith in z)
kind-follow word.Near (a ∷ []) n e = absurd (let z : ⊥ = omega arith in z)
kind-follow word.Near (a ∷ b ∷ c ∷ ns) n e = absurd (let z : ⊥ = omega arith in z)
kind-follow word.Before (a ∷ []) n e = refl
kind-follow word.Before [] n e = absurd (let z : ⊥ = omega arith in z)
kind-follow word.Before (a ∷ b ∷ ns) n e = absurd (let z : ⊥ = omega arith in z)
kind-follow word.Same (a ∷ []) n e = refl
kind-follow word.Same [] n e = absurd (let z : ⊥ = omega arith in z)
kind-follow word.Same (a ∷ b ∷ ns) n e = absurd (let z : ⊥ = omega arith in z)
kind-follow word.Span [] n e = refl
kind-follow word.Span (a ∷ ns) n e = absurd (let z : ⊥ = omega arith in z)
kind-follow word.Apart (a ∷ b ∷ c ∷ []) n e = refl
kind-follow word.Apart [] n e = absurd (let z : ⊥ = omega arith in z)
kind-follow word.Apart (a ∷ []) n e = absurd (let z : ⊥ = omega arith in z)
kind-follow word.Apart (a ∷ b ∷ []) n e = absurd (let z : ⊥ = omega arith in z)
kind-follow word.Apart (a ∷ b ∷ c ∷ d ∷ ns) n e = absurd (let z : ⊥ = omega arith in z)

-- behind a number of a condition that is not the last
another-follows : (f : Figure) (w : Word) (ns : List ℕ) (n b : ℕ) → length ns + 1 < arity w
    → Follows (reading.counting f w ns (Some n))
    (cond (eqb b 32) (reading.goes (reading.counting f w (reading.behind ns n) None)) reading.stuck)
    (another_state w (length ns) (three ns) n b)
another-follows f w [] n b l =
    both_ways (Follows (reading.counting f w [] (Some n))) (eqb b 32) _ _ _ _ (λ t. record { state = refl; rows = refl }) (λ t. tt)
another-follows f w (x ∷ []) n b l =
    both_ways (Follows (reading.counting f w (x ∷ []) (Some n))) (eqb b 32) _ _ _ _ (λ t. record { state = refl; rows = refl }) (λ t. tt)
another-follows f w (x ∷ y ∷ []) n b l =
    both_ways (Follows (reading.counting f w (x ∷ y ∷ []) (Some n))) (eqb b 32) _ _ _ _ (λ t. record { state = refl; rows = refl })
    (λ t. tt)
another-follows f w (x ∷ y ∷ z ∷ ns) n b l = absurd (let z : ⊥ = omega (arith, few w) in z)

-- the state follows the pattern, byte by byte
pub step_follows : (f : reading.Partial) (b : ℕ) → PartialFits f → Follows f (step_in f b) (step_state (state_of f) b)
unfolding step_in
step_follows (reading.listing ns None) b h =
    both_ways (Follows (reading.listing ns None)) (grows 65536 None b) _ _ _ _ (λ t. record { state = refl; rows = refl }) (λ t. tt)
step_follows (reading.listing ns (Some n)) b h =
    both_ways (Follows (reading.listing ns (Some n))) (grows 65536 (Some n) b) _ _ _ _ (λ t. record { state = refl; rows = refl })
    (λ t. both_ways (Follows (reading.listing ns (Some n))) (eqb b 32) _ _ _ _
    (λ u. record { state = refl; rows = map-append voice ns (n ∷ []) })
    (λ u. ending-follows (reading.listing ns (Some n)) (reading.first_lists (reading.behind ns n)) (Voice n) b (lists-follow ns n)))
step_follows (reading.semicolon f) b h =
    both_ways (Follows (reading.semicolon f)) (eqb b 110) _ _ _ _ (λ t. record { state = refl; rows = refl })
    (λ t. both_ways (Follows (reading.semicolon f)) (eqb b 98) _ _ _ _ (λ u. record { state = refl; rows = refl })
    (λ u. both_ways (Follows (reading.semicolon f)) (eqb b 116) _ _ _ _ (λ u. record { state = refl; rows = refl })
    (λ u. both_ways (Follows (reading.semicolon f)) (eqb b 115) _ _ _ _ (λ u. record { state = refl; rows = refl })
    (λ u. both_ways (Follows (reading.semicolon f)) (eqb b 97) _ _ _ _ (λ u. record { state = refl; rows = refl }) (λ u. tt)))))
step_follows (reading.lettered f w) b h =
    both_ways (Follows (reading.lettered f w)) (eqb b 32) _ _ _ _ (λ t. record { state = refl; rows = refl }) (λ t. tt)
step_follows (reading.counting f w ns None) b h =
    both_ways (Follows (reading.counting f w ns None)) (grows (most_of w (length ns)) None b) _ _ _ _
    (λ t. record { state = refl; rows = refl }) (λ t. tt)
step_follows (reading.counting f w ns (Some n)) b h =
    both_ways (Follows (reading.counting f w ns (Some n))) (grows (most_of w (length ns)) (Some n) b) _ _ _ _
    (λ t. record { state = refl; rows = refl })
    (λ t. both_ways (Follows (reading.counting f w ns (Some n))) (ltb (length ns + 1) (arity w)) _ _ _ _
    (λ u. another-follows f w ns n b (ltb-true (length ns + 1) (arity w) u))
    (λ u. ending-follows (reading.counting f w ns (Some n)) (reading.with_condition f w (reading.behind ns n)) _ b
    (condition-follow f w (reading.behind ns n)
    ∙ ap (λ (k : Kind). open_rows (pattern_of f) ++ (row_of k ∷ []))
    (kind-follow w ns n (let l = ltb-false (length ns + 1) (arity w) u in let r = h.room in omega arith)))))
