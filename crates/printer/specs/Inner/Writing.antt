-- Text that is written from its end, piece by piece, for the contracts inside the crate. Assumes nothing.
--     stored_bytes           a buffer with bytes stored in it, each where it fits
--     PutBack, Put          a text is stored in front of an index
--     Back, Over            where rows and their text begin
--     ListsEnd, OpenEnd, PatternEnd     the rows of a pattern end here, behind other rows
--     ListsPut, OpenPut, PatternPut     their text is stored
use Rattle.std.specs.Prelude.{ℕ, zero, suc, ◌+◌, ◌<◌, ◌≤◌, ◌≡◌, Bool, false, cond, List, [], ◌∷◌, ◌++◌, map, length, set}
use Rattle.seq.specs.Decimal.{decimal}
use Rattle.plan.specs.declared.row.Predicate.{Predicate}
use Rattle.plan.specs.declared.row.Kind.TheVariants as kind
use Rattle.plan.specs.declared.row.Row.{Row}
use Rattle.plan.specs.Rows.{row_count, row_at, rows_before, form_wrong_at, is_voice}
use Rattle.plan.specs.Patterns.{Pattern}
use Rattle.plan.specs.Parts.{pattern_rows}
use Rattle.grammar.specs.Text.{lead}
use Rattle.grammar.specs.Grammar.{open_text, figure_text}
use Rattle.grammar.specs.Query.{figure_of}
use Rattle.printer.specs.declared.bytes.Text.{Text}

-- a buffer with bytes stored from index `at` on; those behind its end are passed over
unfoldable pub stored_bytes : List ℕ → ℕ → List ℕ → List ℕ
stored_bytes out at [] = out
stored_bytes out at (b ∷ bs) = set (stored_bytes out (suc at) bs) at b

-- a text is stored in a buffer so that it ends in front of index `end`, and begins at r
pub record PutBack (text out : List ℕ) (end : ℕ) (out' : List ℕ) (r : ℕ) : Type 0 where
  pub stored : out' ≡ stored_bytes out r text
  pub ends : r + length text ≡ end

-- the same in front of the text that a buffer holds from an index on
abbrev pub Put : List ℕ → Text → Text → Type 0
Put bytes text text' = PutBack bytes text.out.now text.at text'.out.now text'.at

-- where rows begin, and where their text does
pub record Back : Type 0 where
  pub row : ℕ
  pub at : ℕ

-- what is promised of a buffer, and of where rows and their text begin
abbrev pub Over : (List ℕ → ℕ → List ℕ → Back → Type 0) → Text → Text → ℕ → Type 0
Over P text text' row = P text.out.now text.at text'.out.now (record { row = row; at = text'.at })

-- a byte where it is wanted, or nothing
abbrev pub only : Bool → ℕ → List ℕ
only wanted b = cond wanted (b ∷ []) []

-- the last digits of n are stored, and those of `left` are still to come
pub record Digits (n left : ℕ) (out : List ℕ) (end : ℕ) (out' : List ℕ) (at : ℕ) : Type 0 where
  pub text : List ℕ
  pub whole : decimal left ++ text ≡ decimal n
  pub put : PutBack text out end out' at

-- a number and the space in front of it
abbrev pub spaced : ℕ → List ℕ
spaced n = 32 ∷ decimal n

-- the beginning of a condition: `;`, its letter, and its first numbers
unfoldable pub begun : ℕ → List ℕ → List ℕ
unfolding lead
begun letter ns = 59 ∷ letter ∷ lead 32 ns

-- all rows of a plan have the right form, and row `last` is one of them
pub record Formed (p : List ℕ) (last : ℕ) : Type 0 where
  pub inside : last < row_count p
  pub formed : (i : ℕ) → i < row_count p → form_wrong_at p i ≡ false

-- the row in front of row i is a VOICE
abbrev pub behind_voice : List ℕ → ℕ → Bool
behind_voice p zero = false
behind_voice p (suc i) = is_voice (row_at p i).kind

-- the row of a variable over a list
abbrev pub voice_row : ℕ → Row
voice_row list = record { kind = kind.Voice list }

-- the row of a predicate
abbrev pub condition_row : Predicate → Row
condition_row c = record { kind = kind.Condition c }

-- rows whose last one is no VOICE
pub record Shut (rows : List Row) : Type 0 where
  pub no-voice : (xs : List Row) (list : ℕ) → rows ≡ xs ++ (voice_row list ∷ []) → ⊥

-- a text is stored, and the rows that say it begin behind the rows of `rest`
pub record Laid (text : List ℕ) (rest : List Row) (out : List ℕ) (end : ℕ) (out' : List ℕ) (r : Back) : Type 0 where
  pub row : r.row ≡ length rest
  pub put : PutBack text out end out' r.at

-- the rows to row `last` are those of `rest` and then the variables over these lists
pub record ListsEnd (p : List ℕ) (last : ℕ) (rest : List Row) (lists : List ℕ) : Type 0 where
  pub rows : rows_before p (last + 1) ≡ rest ++ map voice_row lists
  pub some : 1 ≤ length lists
  pub shut : Shut rest

-- there are such rows, and room for their text in front of `end`
pub record ListsRoom (p : List ℕ) (last end : ℕ) : Type 0 where
  pub formed : Formed p last
  pub rest : List Row
  pub lists : List ℕ
  pub ends : ListsEnd p last rest lists
  pub room : length (lead 91 lists) ≤ end

-- whichever they are, their text is stored
pub record ListsPut (p : List ℕ) (last : ℕ) (out : List ℕ) (end : ℕ) (out' : List ℕ) (r : Back) : Type 0 where
  pub all : (rest : List Row) (lists : List ℕ) → ListsEnd p last rest lists → Laid (lead 91 lists) rest out end out' r

-- the same with the variables and the predicates of a pattern, and no END
pub record OpenEnd (p : List ℕ) (last : ℕ) (rest : List Row) (f : Pattern) : Type 0 where
  pub rows : rows_before p (last + 1) ≡ rest ++ (map voice_row f.vars ++ map condition_row f.predicates)
  pub some : 1 ≤ length f.vars
  pub shut : Shut rest

-- there are such rows, and room for their text in front of `end`
pub record OpenRoom (p : List ℕ) (last end : ℕ) : Type 0 where
  pub formed : Formed p last
  pub rest : List Row
  pub pattern : Pattern
  pub ends : OpenEnd p last rest pattern
  pub room : length (open_text (figure_of pattern)) ≤ end

-- whichever they are, their text is stored
pub record OpenPut (p : List ℕ) (last : ℕ) (out : List ℕ) (end : ℕ) (out' : List ℕ) (r : Back) : Type 0 where
  pub all : (rest : List Row) (f : Pattern) → OpenEnd p last rest f → Laid (open_text (figure_of f)) rest out end out' r

-- the same with END
pub record PatternEnd (p : List ℕ) (last : ℕ) (rest : List Row) (f : Pattern) : Type 0 where
  pub rows : rows_before p (last + 1) ≡ rest ++ pattern_rows f
  pub some : 1 ≤ length f.vars
  pub shut : Shut rest

-- there are such rows, and room for their text in front of `end`
pub record PatternRoom (p : List ℕ) (last end : ℕ) : Type 0 where
  pub formed : Formed p last
  pub rest : List Row
  pub pattern : Pattern
  pub ends : PatternEnd p last rest pattern
  pub room : length (figure_text (figure_of pattern)) ≤ end

-- whichever they are, their text is stored
pub record PatternPut (p : List ℕ) (last : ℕ) (out : List ℕ) (end : ℕ) (out' : List ℕ) (r : Back) : Type 0 where
  pub all : (rest : List Row) (f : Pattern) → PatternEnd p last rest f → Laid (figure_text (figure_of f)) rest out end out' r
