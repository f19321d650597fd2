-- What a predicate that fails needs. Assumes nothing.
use Rattle.std.specs.Prelude.{ℕ, ◌<◌, ◌≤◌, ◌≡◌, true, List, length, get_or, Option, None, Some}
use Rattle.plan.specs.declared.row.Predicate.{Predicate}
use Rattle.matcher.specs.declared.predicates.Shortfall.{Shortfall}
use Rattle.fulltext.specs.Positions.{limit}
use Rattle.fulltext.specs.Calculus.{at}
use Rattle.fulltext.specs.Matches.{holds}
use Rattle.fulltext.specs.Inner.Bounds.{Needs}

-- all variables stand at positions of a document
abbrev pub InDocument : List ℕ → Type 0
InDocument ps = (x : ℕ) → x < length ps → at ps x ≤ 65535

-- the largest of the first n positions
pub record Largest (ps : List ℕ) (n largest : ℕ) : Type 0 where
  pub most : (x : ℕ) → x < n → get_or ps x 0 ≤ largest
  pub one : (x : ℕ) × ((x < n) × (get_or ps x 0 ≡ largest))

-- a variable that a predicate leaves short: it stands before what it needs
pub record LeftShort (starts : List ℕ) (c : Predicate) (ps : List ℕ) (x b : ℕ) : Type 0 where
  pub there : x < length ps
  pub before : at ps x < b
  pub most : b ≤ limit
  pub needs : Needs starts c ps x b

-- what is told of a predicate: that it holds, or a variable that it leaves short
abbrev pub Told : List ℕ → Predicate → List ℕ → Option Shortfall → Type 0
Told starts c ps None = holds starts c ps ≡ true
Told starts c ps (Some s) = LeftShort starts c ps s.var s.need
