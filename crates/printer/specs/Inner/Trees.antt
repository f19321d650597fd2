-- Trees of patterns that are written from their end, for the contracts inside the crate. Assumes nothing.
--     text_at               the text of a tree, as a line, a part or an item
--     TreeEnd, TreeRoom    the rows of a tree end here, behind those of other trees
--     TreePut              its text is stored
--     LinesEnd, LinesRoom, LinesPut     the same of several trees
--     LineWritten          the line of an accepted plan is written, or has no room
use Rattle.std.specs.Prelude.{ℕ, Result, ◌+◌, ◌≤◌, ◌≡◌, Bool, true, false, cond, List, ◌∷◌, ◌++◌, length, ltb}
use Rattle.seq.specs.Refusals.{Said, refused, answered, laid}
use Rattle.plan.specs.Rows.{rows_before}
use Rattle.grammar.specs.declared.tokens.Connective.{Connective}
use Rattle.grammar.specs.declared.tokens.Connective.TheVariants as c
use Rattle.grammar.specs.Grammar.{written, part_text, item_text, lines_text}
use Rattle.grammar.specs.Query.{Query, leaf, node, threshold, Queries, empty, push, query_count, queries_rows, stack_rows, typed}
use Rattle.grammar.specs.Query.{typed_lines, plan_text}
use Rattle.printer.specs.declared.answers.WriteError.{WriteError}
use Rattle.printer.specs.declared.trees.Level.{Level}
use Rattle.printer.specs.declared.trees.Level.TheVariants as level
use Rattle.printer.specs.Answers.{said_written}
use Rattle.printer.specs.Inner.Writing.{Back, Formed, Laid}

-- the text of a tree at a level
abbrev pub text_at : Level → Query → List ℕ
text_at level.Line q = written (typed q).line
text_at level.Part q = part_text (typed q).part
text_at level.Item q = item_text (typed q).item

-- what a connective joins stands in round brackets
abbrev pub bracketed : Level → Connective → Bool
bracketed level.Line k = false
bracketed level.Part c.And = false
bracketed level.Part c.Or = true
bracketed level.Part c.AndNot = false
bracketed level.Item k = true

-- what its first side is written as
abbrev pub left_level : Connective → Level
left_level c.And = level.Part
left_level c.Or = level.Line
left_level c.AndNot = level.Part

-- what its second side is written as
abbrev pub right_level : Connective → Level
right_level c.And = level.Item
right_level c.Or = level.Part
right_level c.AndNot = level.Item

-- the byte between them: `&`, `|`, `!`
abbrev pub connective_byte : Connective → ℕ
connective_byte c.And = 38
connective_byte c.Or = 124
connective_byte c.AndNot = 33

-- every pattern of a tree has a variable
unfoldable mutual
  pub Voiced : Query → Type 0
  Voiced (leaf f) = 1 ≤ length f.vars
  Voiced (node k a b) = Voiced a × Voiced b
  Voiced (threshold n qs) = AllVoiced qs

  pub AllVoiced : Queries → Type 0
  AllVoiced empty = Unit
  AllVoiced (push qs q) = AllVoiced qs × Voiced q

-- the rows to row `last` are those of the trees of a stack, and q is the top one
pub record TreeEnd (p : List ℕ) (last : ℕ) (qs : List Query) (q : Query) : Type 0 where
  pub rows : rows_before p (last + 1) ≡ stack_rows (q ∷ qs)
  pub voiced : Voiced q

-- there are such trees, and room for the text of the top one in front of `end`
pub record TreeRoom (p : List ℕ) (last : ℕ) (level : Level) (end : ℕ) : Type 0 where
  pub formed : Formed p last
  pub rest : List Query
  pub tree : Query
  pub ends : TreeEnd p last rest tree
  pub room : length (text_at level tree) ≤ end

-- whichever they are, the text of the top one is stored
pub record TreePut (p : List ℕ) (last : ℕ) (level : Level) (out : List ℕ) (end : ℕ) (out' : List ℕ) (r : Back) : Type 0 where
  pub all : (qs : List Query) (q : Query) → TreeEnd p last qs q → Laid (text_at level q) (stack_rows qs) out end out' r

-- the rows to row `last` are those of the trees of a stack, and then those of `count` trees
pub record LinesEnd (p : List ℕ) (last count : ℕ) (qs : List Query) (ts : Queries) : Type 0 where
  pub rows : rows_before p (last + 1) ≡ stack_rows qs ++ queries_rows ts
  pub count-is : query_count ts ≡ count
  pub voiced : AllVoiced ts

-- there are such trees, one at least, and room for the text of the last ones in front of `end`
pub record LinesRoom (p : List ℕ) (last count end : ℕ) : Type 0 where
  pub formed : Formed p last
  pub some : 1 ≤ count
  pub rest : List Query
  pub trees : Queries
  pub ends : LinesEnd p last count rest trees
  pub room : length (lines_text (typed_lines trees)) ≤ end

-- whichever they are, their text is stored
pub record LinesPut (p : List ℕ) (last count : ℕ) (out : List ℕ) (end : ℕ) (out' : List ℕ) (r : Back) : Type 0 where
  pub all : (qs : List Query) (ts : Queries) → LinesEnd p last count qs ts
      → Laid (lines_text (typed_lines ts)) (stack_rows qs) out end out' r

-- what writing a text answers: 16, or the number of bytes
abbrev pub line_answer : List ℕ → ℕ → Said ℕ
line_answer s room = cond (ltb room (length s)) (refused 16 0) (answered (length s))

-- the line of an accepted plan is written, or has no room
pub record LineWritten (p out : List ℕ) (r : Result ℕ WriteError) (out' : List ℕ) : Type 0 where
  pub said : said_written r ≡ line_answer (plan_text p) (length out)
  pub bytes : out' ≡ laid (line_answer (plan_text p) (length out)) (plan_text p) out
