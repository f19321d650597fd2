-- What demand 3 says of an accepted volume and plan, from its parts, for every form that tells what listing answers. No contract cites
-- this file. Assumes nothing.
use Prim.Native.Nat.{ℕ}
use mathlib.Core.Path.{◌≡◌}
use mathlib.Core.Bool.{true}
use mathlib.Core.List.{List}
use lib.ListN.{length}
use Rattle.seq.specs.Lists.{rises}
use Rattle.volume.specs.Layout.{lists_of}
use Rattle.plan.specs.Check.{Accepted}
use Rattle.plan.proofs.Laws.Accepted.{given}
use Rattle.fulltext.specs.Positions.{list_of}
use Rattle.search.specs.Listing.{list_answer}
use Rattle.seq.specs.Calls.{Form}
use Rattle.search.specs.Answers.{Page}
use Rattle.search.specs.Demands.{Holds3}
use Rattle.fulltext.proofs.Laws.Positions.{lists-rise}
use Rattle.fulltext.proofs.Laws.Least.{least_iff, unfound_iff, found_iff}
use Rattle.search.proofs.Laws.Search.{searched}
use Rattle.fulltext.proofs.Laws.Counts as counts

pub holds3 : {A : Type 0} (form : Form Page A) (v p : List ℕ)
    → Accepted v p
    → ((s : ℕ) (out : List ℕ) → form.said (form.make (list_answer v p s (length out))) ≡ list_answer v p s (length out))
    → Holds3 form v p
holds3 form v p ok tells = record {
  searched = searched form v p ok tells;
  found_some = λ d f. found_iff (lists_of v) up d f;
  least = λ d f ps. least_iff (lists_of v) up d f ps;
  unfound = λ d f. unfound_iff (lists_of v) up d f;
  whole = λ bytes. counts.whole v p bytes ok;
}
  where
    up : (l : ℕ) → rises (list_of (lists_of v) l) ≡ true
    up = lists-rise v (given v p ok).volume-accepted
