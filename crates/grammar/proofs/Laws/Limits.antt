-- The limits of a condition's numbers: the laws of `arity` and `most_of`. No contract cites this file.
--     some-arity, few     a condition has one number at least, and four at most
--     most-small          every limit is at most 65,536
-- Assumes nothing.
use Prim.Native.Nat.{ℕ, zero, suc, ◌≤◌}
use native.Mathlib.Omega.{arith}
use Rattle.grammar.specs.Grammar.{Word, near, before, same, span, apart, arity, most_of}

-- a condition has a number
pub some-arity : (w : Word) → 1 ≤ arity w
some-arity near = omega arith
some-arity before = omega arith
some-arity same = omega arith
some-arity span = omega arith
some-arity apart = omega arith

-- and at most four
pub few : (w : Word) → arity w ≤ 4
few near = omega arith
few before = omega arith
few same = omega arith
few span = omega arith
few apart = omega arith

-- every limit is at most 65,536
pub most-small : (w : Word) (k : ℕ) → most_of w k ≤ 65536
most-small near zero = omega arith
most-small near (suc zero) = omega arith
most-small near (suc (suc zero)) = omega arith
most-small near (suc (suc (suc k))) = omega arith
most-small before zero = omega arith
most-small before (suc zero) = omega arith
most-small before (suc (suc k)) = omega arith
most-small same zero = omega arith
most-small same (suc zero) = omega arith
most-small same (suc (suc k)) = omega arith
most-small span zero = omega arith
most-small span (suc k) = omega arith
most-small apart zero = omega arith
most-small apart (suc zero) = omega arith
most-small apart (suc (suc zero)) = omega arith
most-small apart (suc (suc (suc zero))) = omega arith
most-small apart (suc (suc (suc (suc k)))) = omega arith
