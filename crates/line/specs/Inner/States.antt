-- Where the reading of a pattern is, for the contracts inside the crate. Assumes nothing.
--     NumberMost, LastMost, StateMost     numbers in the grammar's limits
--     grown_by, step_state                what a byte makes of a number, and of a state
--     condition_kind                      the rows of conditions
--     three, state_of                     the state of a pattern so far
use Rattle.std.specs.Prelude.{ℕ, ◌+◌, ◌-◌, ◌≤◌, ◌<◌, cond, List, [], ◌∷◌, length, get_or, set, eqb, ltb, Option, Some, None}
use Rattle.grammar.specs.declared.tokens.Word.{Word}
use Rattle.grammar.specs.declared.tokens.Word.TheVariants as word
use Rattle.line.specs.declared.steps.State.{State}
use Rattle.line.specs.declared.steps.State.TheVariants.{Listing, Semicolon, Lettered, Counting}
use Rattle.line.specs.declared.steps.Next.{Next}
use Rattle.line.specs.declared.steps.Next.TheVariants.{Goes, Emits, Closes}
use Rattle.plan.specs.declared.row.Predicate.TheVariants.{Distance, Ordered, Samepara, Window, Proximity}
use Rattle.plan.specs.declared.row.Kind.{Kind}
use Rattle.plan.specs.declared.row.Kind.TheVariants.{Voice, Condition}
use Rattle.grammar.specs.Grammar.{arity, most_of}
use Rattle.grammar.specs.Reading as reading
use Rattle.grammar.specs.Reading.{grown, grows}

-- a number so far is at most `most`
abbrev pub NumberMost : ℕ → Option ℕ → Type 0
NumberMost most None = Unit
NumberMost most (Some n) = n ≤ most

-- the last number of a condition is in the grammar's limit
abbrev pub LastMost : Word → ℕ → Type 0
LastMost w n = n ≤ most_of w (arity w - 1)

-- the numbers of a state are in the grammar's limits
abbrev pub StateMost : State → Type 0
StateMost (Listing x) = NumberMost 65536 x
StateMost Semicolon = Unit
StateMost (Lettered w) = Unit
StateMost (Counting w k ns x) = NumberMost (most_of w k) x × (k < arity w) × (get_or ns 2 0 ≤ 65535)

-- in the numbers of a condition
abbrev pub counting : Word → ℕ → List ℕ → Option ℕ → State
counting w k ns x = Counting w k ns x

-- a number with one more digit, or none
abbrev pub grown_by : ℕ → Option ℕ → ℕ → Option ℕ
grown_by most x b = cond (grows most x b) (Some (grown x b)) None

-- the kind of a condition with numbers ns in front of its last one
abbrev pub condition_kind : Word → List ℕ → ℕ → Kind
condition_kind word.Near ns n = Condition (Distance (get_or ns 0 0) (get_or ns 1 0) n)
condition_kind word.Before ns n = Condition (Ordered (get_or ns 0 0) n)
condition_kind word.Same ns n = Condition (Samepara (get_or ns 0 0) n)
condition_kind word.Span ns n = Condition (Window n)
condition_kind word.Apart ns n = Condition (Proximity (get_or ns 0 0) (get_or ns 1 0) (get_or ns 2 0) n)

-- behind a whole number at the end of a list or of a condition
abbrev pub ending_state : Kind → ℕ → Option Next
ending_state k b = cond (eqb b 59) (Some (Emits Semicolon k)) (cond (eqb b 93) (Some (Closes k)) None)

-- a byte in the list numbers
abbrev pub step_listing : Option ℕ → ℕ → Option Next
step_listing None b = cond (grows 65536 None b) (Some (Goes (Listing (Some (grown None b))))) None
step_listing (Some n) b =
    cond (grows 65536 (Some n) b) (Some (Goes (Listing (Some (grown (Some n) b)))))
    (cond (eqb b 32) (Some (Emits (Listing None) (Voice n))) (ending_state (Voice n) b))

-- a byte behind `;`
abbrev pub step_semicolon : ℕ → Option Next
step_semicolon b =
    cond (eqb b 110) (Some (Goes (Lettered word.Near))) (cond (eqb b 98) (Some (Goes (Lettered word.Before)))
    (cond (eqb b 116) (Some (Goes (Lettered word.Same))) (cond (eqb b 115) (Some (Goes (Lettered word.Span)))
    (cond (eqb b 97) (Some (Goes (Lettered word.Apart))) None))))

-- a byte behind a number n that is not the last of its condition
abbrev pub another_state : Word → ℕ → List ℕ → ℕ → ℕ → Option Next
another_state w k ns n b = cond (eqb b 32) (Some (Goes (Counting w (k + 1) (set ns k n) None))) None

-- a byte in the numbers of a condition
abbrev pub step_counting : Word → ℕ → List ℕ → Option ℕ → ℕ → Option Next
step_counting w k ns None b = cond (grows (most_of w k) None b) (Some (Goes (Counting w k ns (Some (grown None b))))) None
step_counting w k ns (Some n) b =
    cond (grows (most_of w k) (Some n) b) (Some (Goes (Counting w k ns (Some (grown (Some n) b)))))
    (cond (ltb (k + 1) (arity w)) (another_state w k ns n b) (ending_state (condition_kind w ns n) b))

-- what a byte makes of a state
abbrev pub step_state : State → ℕ → Option Next
step_state (Listing x) b = step_listing x b
step_state Semicolon b = step_semicolon b
step_state (Lettered w) b = cond (eqb b 32) (Some (Goes (Counting w 0 (0 ∷ 0 ∷ 0 ∷ []) None))) None
step_state (Counting w k ns x) b = step_counting w k ns x b

-- the first three numbers, with zeros where there are fewer
abbrev pub three : List ℕ → List ℕ
three ns = get_or ns 0 0 ∷ get_or ns 1 0 ∷ get_or ns 2 0 ∷ []

-- a pattern so far, without what has been read of it
abbrev pub state_of : reading.Partial → State
state_of (reading.listing ns x) = Listing x
state_of (reading.semicolon f) = Semicolon
state_of (reading.lettered f w) = Lettered w
state_of (reading.counting f w ns x) = Counting w (length ns) (three ns) x
