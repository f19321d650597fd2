-- An answer is known from its number and values. No contract cites this file.
--     heard-read     the answer with a number and values
--     one-to-one     no two answers are told alike
-- Assumes nothing.
use Prim.Native.Nat.{ℕ}
use mathlib.Core.Path.{◌≡◌, refl}
use mathlib.Core.Bool.{cond}
use lib.Dec.{eqb}
use Rattle.std.proofs.Common.{Result, Ok, Err}
use Rattle.seq.specs.Refusals.{Said, refused, answered}
use Rattle.seq.proofs.Laws.Refusals.{alike}
use Rattle.line.specs.declared.answers.ReadError.{ReadError}
use Rattle.line.specs.declared.answers.ReadError.TheVariants as error
use Rattle.line.specs.Answers.{said_read}
use Rattle.line.specs.Demands.{OneToOne}

-- the answer with a number and values
abbrev heard_read : Said ℕ → Result ℕ ReadError
heard_read (refused n q) =
    Err (cond (eqb n 21) (error.Broken q) (cond (eqb n 22) (error.Deep q) (cond (eqb n 23) error.TooMany error.Short)))
heard_read (answered n) = Ok n

heard-read : (a : Result ℕ ReadError) → heard_read (said_read a) ≡ a
heard-read (Ok n) = refl
heard-read (Err (error.Broken q)) = refl
heard-read (Err (error.Deep q)) = refl
heard-read (Err error.TooMany) = refl
heard-read (Err error.Short) = refl

-- no two answers are told alike
pub one-to-one : OneToOne
unfolding OneToOne
one-to-one = alike said_read heard_read heard-read
