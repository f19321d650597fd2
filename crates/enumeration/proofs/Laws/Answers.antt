-- An answer is known from its number and values; the eight words beside it. No contract cites this file.
--     heard_matched, heard-matched     the answer with a number and values
--     one-to-one                       no two answers are told alike
--     beside-next                      the eight words beside an answer, by what it names
-- Assumes nothing.
use Prim.Native.Nat.{ℕ}
use mathlib.Core.Path.{◌≡◌, refl, sym, ap, ◌∙◌}
use mathlib.Core.Bool.{cond}
use mathlib.Core.List.{List}
use mathlib.Core.Option.{Option, none, some}
use lib.ListN.{replicate}
use lib.Dec.{eqb}
use Rattle.std.specs.Prelude.{Result, Ok, Err, Some, None, unwrap_or}
use Rattle.std.specs.Prelude as prelude
use Rattle.seq.specs.Refusals.{Said, refused, answered}
use Rattle.volume.specs.declared.answers.Refusal.TheVariants as volume
use Rattle.plan.specs.Limits.{most_pattern_vars}
use Rattle.plan.specs.declared.answers.Fault.TheVariants as fault
use Rattle.plan.specs.declared.answers.Refusal.TheVariants.{Volume, Length, Row, Unfinished}
use Rattle.plan.proofs.Laws.Answers.{heard}
use Rattle.enumeration.specs.declared.answers.Matches.{Matches}
use Rattle.enumeration.specs.declared.answers.MatchError.{MatchError}
use Rattle.enumeration.specs.declared.answers.MatchError.TheVariants as error
use Rattle.enumeration.specs.Answers.{Page, said_next, said_error, said_matched, beside_next}
use Rattle.enumeration.specs.Demands.{OneToOne}

abbrev heard_next : Option (List ℕ) → prelude.Option (List ℕ)
heard_next none = None
heard_next (some words) = Some words

abbrev heard_error : ℕ → ℕ → MatchError
heard_error n q = cond (eqb n 16) error.Short (cond (eqb n 17) error.OutOfRange (error.Refused (heard n q)))

abbrev heard_matched : Said Page → Result Matches MatchError
heard_matched (refused n q) = Err (heard_error n q)
heard_matched (answered page) = Ok (record { count = page.count; next = heard_next page.next })

heard-next : (next : prelude.Option (List ℕ)) → heard_next (said_next next) ≡ next
heard-next None = refl
heard-next (Some words) = refl

heard-error : (e : MatchError) → heard_matched (said_error e) ≡ Err e
heard-error (error.Refused (Volume volume.Length)) = refl
heard-error (error.Refused (Volume (volume.Number k))) = refl
heard-error (error.Refused (Volume (volume.Checksum k))) = refl
heard-error (error.Refused (Volume volume.Version)) = refl
heard-error (error.Refused (Volume volume.ListCount)) = refl
heard-error (error.Refused (Volume volume.Extent)) = refl
heard-error (error.Refused (Volume (volume.Order i))) = refl
heard-error (error.Refused (Volume (volume.Padding i))) = refl
heard-error (error.Refused Length) = refl
heard-error (error.Refused (Row fault.Form i)) = refl
heard-error (error.Refused (Row fault.List i)) = refl
heard-error (error.Refused (Row fault.TooMany i)) = refl
heard-error (error.Refused (Row fault.Order i)) = refl
heard-error (error.Refused Unfinished) = refl
heard-error error.OutOfRange = refl
heard-error error.Short = refl

heard-matched : (r : Result Matches MatchError) → heard_matched (said_matched r) ≡ r
heard-matched (Ok m) = ap (λ (next : prelude.Option (List ℕ)). Ok (record { count = m.count; next = next })) (heard-next m.next)
heard-matched (Err e) = heard-error e

pub one-to-one : OneToOne
unfolding OneToOne
one-to-one a b e = sym (heard-matched a) ∙ ap heard_matched e ∙ heard-matched b

-- for a crate that shows the eight words: MORE's match, or zeros
pub beside-next : (next : prelude.Option (List ℕ)) → beside_next (said_next next) ≡ unwrap_or next (replicate most_pattern_vars 0)
beside-next None = refl
beside-next (Some words) = refl
