-- Document 01's refusals of a plan as relations, one line for each number: refusal n applies at place q. What stands in front of a row is
-- told by counting. The order in which a call tells them is the order of its stages, in a stage by place, at a place by number.
-- Assumes nothing.
use Rattle.std.specs.Prelude.{ℕ, ◌%◌, ◌<◌, ◌≤◌, ◌≡◌, Bool, true, false, ◌⊎◌, ◌≢◌, List, [], ◌∷◌, ◌++◌, length}
use Rattle.volume.specs.Layout.{list_count}
use Rattle.volume.specs.Refusals.{VolumeApplies, volume_stages}
use Rattle.plan.specs.declared.kinds.Uses.{Uses}
use Rattle.plan.specs.declared.row.Predicate.{Predicate}
use Rattle.plan.specs.declared.row.Predicate.TheVariants.{Distance, Ordered, Samepara, Window, Proximity}
use Rattle.plan.specs.declared.row.Operator.TheVariants.{Both, Either, FirstNotSecond, AtLeast}
use Rattle.plan.specs.declared.row.Kind.{Kind}
use Rattle.plan.specs.declared.row.Kind.TheVariants as kind
use Rattle.plan.specs.declared.state.State.{State}
use Rattle.plan.specs.Limits.{last_kind, least_taken, most_taken, most_words, most_patterns, most_pattern_vars}
use Rattle.plan.specs.Rows.{row_count, kind_at, a_at, b_at, c_at, kind_of, row_at, rows_before, rows_of, uses_of}
use Rattle.plan.specs.State.{takes}
use Rattle.plan.specs.Counts.{counted}
use Rattle.plan.specs.Check.{sizes}

-- length 0, not a multiple of four words, or over 256 words
abbrev pub WrongLength : List ℕ → Type 0
WrongLength p = (length p ≡ 0) ⊎ ((length p % 4 ≢ 0) ⊎ (most_words < length p))

-- a word that is not used is not 0
abbrev pub Stray : Bool → ℕ → Type 0
Stray used word = (used ≡ false) × (word ≢ 0)

-- a word that is not used is not 0, or c is out of range
abbrev pub Misused : Uses → ℕ → ℕ → ℕ → Type 0
Misused u a b c = Stray u.a a ⊎ (Stray u.b b ⊎ (Stray u.c c ⊎ ((c < u.least) ⊎ (u.most < c))))

-- the numbers that a row carries do not fit each other: the least of APART exceeds its most (02, N2); AT LEAST asks for none, for more
-- than it takes, or takes fewer than two or more than eight (02, N9)
abbrev pub WrongPair : Kind → Type 0
WrongPair (kind.Voice list) = ⊥
WrongPair (kind.Condition (Distance a b limit)) = ⊥
WrongPair (kind.Condition (Ordered a b)) = ⊥
WrongPair (kind.Condition (Samepara a b)) = ⊥
WrongPair (kind.Condition (Window limit)) = ⊥
WrongPair (kind.Condition (Proximity a b least most)) = most < least
WrongPair kind.End = ⊥
WrongPair (kind.Operator Both) = ⊥
WrongPair (kind.Operator Either) = ⊥
WrongPair (kind.Operator FirstNotSecond) = ⊥
WrongPair (kind.Operator (AtLeast least of)) = (least < 1) ⊎ ((of < least) ⊎ ((of < least_taken) ⊎ (most_taken < of)))

-- an unknown kind, an unused word that is not 0, c out of range, or numbers that do not fit each other
abbrev pub WrongForm : ℕ → ℕ → ℕ → ℕ → Type 0
WrongForm k a b c = (k < 1) ⊎ ((last_kind < k) ⊎ (Misused (uses_of (kind_of k a b c)) a b c ⊎ WrongPair (kind_of k a b c)))

-- a row of a list that is list 0, or not below t
abbrev pub WrongList : ℕ → Kind → Type 0
WrongList t (kind.Voice list) = (list ≡ 0) ⊎ (t ≤ list)
WrongList t (kind.Condition c) = ⊥
WrongList t kind.End = ⊥
WrongList t (kind.Operator o) = ⊥

-- a VOICE where the open pattern has eight variables, or where none is open and there are eight patterns
abbrev pub Ninth : State → Kind → Type 0
Ninth s (kind.Voice list) = (most_pattern_vars ≤ s.vars) ⊎ ((s.vars ≡ 0) × (most_patterns ≤ s.patterns))
Ninth s (kind.Condition c) = ⊥
Ninth s kind.End = ⊥
Ninth s (kind.Operator o) = ⊥

-- a predicate names a variable that is not below n
abbrev pub NamesMissing : ℕ → Predicate → Type 0
NamesMissing n (Distance a b limit) = (n ≤ a) ⊎ (n ≤ b)
NamesMissing n (Ordered a b) = (n ≤ a) ⊎ (n ≤ b)
NamesMissing n (Samepara a b) = (n ≤ a) ⊎ (n ≤ b)
NamesMissing n (Window limit) = ⊥
NamesMissing n (Proximity a b least most) = (n ≤ a) ⊎ (n ≤ b)

-- VOICE after a condition; a condition with no pattern open or naming a variable not there; END with no pattern open;
-- an operator with a pattern open or fewer answers than it takes
abbrev pub WrongOrder : State → Kind → Type 0
WrongOrder s (kind.Voice list) = s.begun ≡ true
WrongOrder s (kind.Condition c) = (s.vars ≡ 0) ⊎ NamesMissing s.vars c
WrongOrder s kind.End = s.vars ≡ 0
WrongOrder s (kind.Operator o) = (s.vars ≢ 0) ⊎ (s.answers < takes o)

-- a pattern is open, or there is not one answer
abbrev pub Unfinished : State → Type 0
Unfinished s = (s.vars ≢ 0) ⊎ (s.answers ≢ 1)

-- the refusals of a plan over a volume: those of the volume, then 9 to 14
pub data PlanApplies (v p : List ℕ) : ℕ → ℕ → Type 0 where
  -- 1 to 8 of the volume
  of_volume : (n q : ℕ) → VolumeApplies v n q → PlanApplies v p n q
  -- 9: length 0, not a multiple of four words, or over 256 words
  wrong_length : WrongLength p → PlanApplies v p 9 0
  -- 10: unknown kind, unused word not 0, c out of range, a least above its most, or an AT LEAST out of range; place: row
  wrong_form : (i : ℕ) → i < row_count p → WrongForm (kind_at p i) (a_at p i) (b_at p i) (c_at p i) → PlanApplies v p 10 i
  -- 11: list 0, or a list not below T; place: row
  wrong_list : (i : ℕ) → i < row_count p → WrongList (list_count v) (row_at p i).kind → PlanApplies v p 11 i
  -- 12: a ninth voice, or a VOICE that would open a ninth figure; place: row
  ninth : (i : ℕ) → i < row_count p → Ninth (counted (rows_before p i)) (row_at p i).kind → PlanApplies v p 12 i
  -- 13: VOICE after a condition; a condition with no figure open or naming a voice not there; END with no figure open;
  -- 7 to 9 and 11 with a figure open or fewer answers than they take; place: row
  wrong_order : (i : ℕ) → i < row_count p → WrongOrder (counted (rows_before p i)) (row_at p i).kind → PlanApplies v p 13 i
  -- 14: figure open, or not one answer, at the end
  unfinished : Unfinished (counted (rows_of p)) → PlanApplies v p 14 0

-- the refusals of showing pattern k: those of the volume and the plan, then 17
pub data PartApplies (v p : List ℕ) (k : ℕ) : ℕ → ℕ → Type 0 where
  -- 1 to 14
  of_plan : (n q : ℕ) → PlanApplies v p n q → PartApplies v p k n q
  -- 17: figure number not below F
  no_pattern : (sizes p).patterns ≤ k → PartApplies v p k 17 0

-- the stages of checking; 10 to 13 share one, so that rows go upward, 10 to 13 in order in each
abbrev pub plan_stages : List (List ℕ)
plan_stages = volume_stages ++ ((9 ∷ []) ∷ (10 ∷ 11 ∷ 12 ∷ 13 ∷ []) ∷ (14 ∷ []) ∷ [])
