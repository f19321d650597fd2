-- The laws of `specs/Answers.antt`: an answer is known from its number and values. No contract cites this file.
--     heard_listed     the answer with a number and values
--     heard-listed     what is heard is what was said
--     one-to-one       no two answers are said alike
-- Assumes nothing.
use Prim.Native.Nat.{ℕ}
use mathlib.Core.Path.{◌≡◌, refl, ap}
use mathlib.Core.Bool.{cond}
use lib.Dec.{eqb}
use Rattle.seq.specs.Refusals.{Said, refused, answered}
use Rattle.seq.proofs.Laws.Refusals.{alike}
use Rattle.volume.specs.declared.answers.Refusal.TheVariants as volume
use Rattle.plan.specs.declared.answers.Fault.TheVariants as fault
use Rattle.plan.specs.declared.answers.Refusal.TheVariants.{Volume, Length, Row, Unfinished}
use Rattle.plan.proofs.Laws.Answers.{heard}
use Rattle.std.specs.Prelude.{Option, Result, Ok, Err, Some, None}
use Rattle.search.specs.declared.answers.Listing.{Listing}
use Rattle.search.specs.declared.answers.ListError.{ListError}
use Rattle.search.specs.declared.answers.ListError.TheVariants as fail
use Rattle.search.specs.Answers.{Next, done, more, Page, said_next, said_listed}
use Rattle.search.specs.Demands.{OneToOne}

abbrev heard_next : Next → Option ℕ
heard_next done = None
heard_next (more s) = Some s

abbrev heard_listed : Said Page → Result Listing ListError
heard_listed (refused n q) = Err (cond (eqb n 15) fail.Start (cond (eqb n 16) fail.Short (fail.Refused (heard n q))))
heard_listed (answered page) = Ok (record { rows = page.rows; tally = page.tally; next = heard_next page.next })

heard_next-said : (o : Option ℕ) → heard_next (said_next o) ≡ o
heard_next-said None = refl
heard_next-said (Some s) = refl

heard-listed : (a : Result Listing ListError) → heard_listed (said_listed a) ≡ a
heard-listed (Ok l) = ap (λ (o : Option ℕ). Ok (record { rows = l.rows; tally = l.tally; next = o })) (heard_next-said l.next)
heard-listed (Err (fail.Refused (Volume volume.Length))) = refl
heard-listed (Err (fail.Refused (Volume (volume.Number k)))) = refl
heard-listed (Err (fail.Refused (Volume (volume.Checksum k)))) = refl
heard-listed (Err (fail.Refused (Volume volume.Version))) = refl
heard-listed (Err (fail.Refused (Volume volume.ListCount))) = refl
heard-listed (Err (fail.Refused (Volume volume.Extent))) = refl
heard-listed (Err (fail.Refused (Volume (volume.Order i)))) = refl
heard-listed (Err (fail.Refused (Volume (volume.Padding i)))) = refl
heard-listed (Err (fail.Refused Length)) = refl
heard-listed (Err (fail.Refused (Row fault.Form i))) = refl
heard-listed (Err (fail.Refused (Row fault.List i))) = refl
heard-listed (Err (fail.Refused (Row fault.TooMany i))) = refl
heard-listed (Err (fail.Refused (Row fault.Order i))) = refl
heard-listed (Err (fail.Refused Unfinished)) = refl
heard-listed (Err fail.Start) = refl
heard-listed (Err fail.Short) = refl

pub one-to-one : OneToOne
one-to-one = record { listed = alike said_listed heard_listed heard-listed }
