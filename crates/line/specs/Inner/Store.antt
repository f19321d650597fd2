-- Rows stored in a lent buffer, each where it fits, and the rows of what has been read. Assumes nothing.
--     put_row, stored               one row, and many
--     open_rows, partial_rows       the rows of a pattern without END, and of a pattern so far
use Rattle.std.specs.Prelude.{ℕ, ◌+◌, ◌*◌, cond, List, [], ◌∷◌, ◌++◌, map, leb, length, take, drop}
use Rattle.plan.specs.declared.row.Predicate.{Predicate}
use Rattle.plan.specs.declared.row.Kind.{Kind}
use Rattle.plan.specs.declared.row.Kind.TheVariants as kind
use Rattle.plan.specs.declared.row.Row.{Row}
use Rattle.plan.specs.Patterns.{Pattern}
use Rattle.plan.specs.Rows.{words_of}
use Rattle.grammar.specs.Meaning.{pattern_of}
use Rattle.grammar.specs.Reading.{Partial, listing, semicolon, lettered, counting}

-- the words of row n, where it fits
unfoldable pub put_row : List ℕ → ℕ → Kind → List ℕ
put_row out n k = cond (leb (4 * n + 4) (length out)) (take (4 * n) out ++ (words_of k ++ drop (4 * n + 4) out)) out

-- rows from row n on
unfoldable pub stored : List ℕ → ℕ → List Row → List ℕ
unfolding put_row
stored out n [] = out
stored out n (r ∷ rs) = stored (put_row out n r.kind) (n + 1) rs

-- the rows of a pattern without END
abbrev pub open_rows : Pattern → List Row
open_rows f =
    map (λ (l : ℕ). record { kind = kind.Voice l }) f.vars ++ map (λ (c : Predicate). record { kind = kind.Condition c }) f.predicates

-- the whole rows of a pattern so far
abbrev pub partial_rows : Partial → List Row
partial_rows (listing ns x) = map (λ (l : ℕ). record { kind = kind.Voice l }) ns
partial_rows (semicolon f) = open_rows (pattern_of f)
partial_rows (lettered f w) = open_rows (pattern_of f)
partial_rows (counting f w ns x) = open_rows (pattern_of f)
