-- What acceptance gives, from all the tests passed. No contract cites this file. Assumes nothing.
use Prim.Native.Nat.{ℕ}
use mathlib.Core.List.{List}
use Rattle.volume.specs.Layout.{list_count}
use Rattle.plan.specs.Check.{sizes, Accepted}
use Rattle.plan.specs.Accepted.{Given}
use Rattle.plan.proofs.Laws.Rows.{plan-words}
use Rattle.plan.proofs.Laws.Check as check
use Rattle.plan.proofs.Laws.Given as from

pub given : (v p : List ℕ) → Accepted v p → Given v p
given v p e =
    let ok = check.verdict-passed v p (sizes p) e in
    let t = list_count v in
    record {
      volume-accepted = check.volume-accepted v p (sizes p) e;
      whole = ok.whole;
      some-rows = ok.some-rows;
      most-rows = ok.most-rows;
      formed = ok.formed;
      words = plan-words t p ok;
      some-patterns = from.some-patterns t p ok;
      most-patterns = from.most-patterns t p ok;
      well-made = from.well-made t p ok;
      some-vars = from.some-vars t p ok;
      most-vars = from.most-vars t p ok;
      width = from.width t p ok;
      one_answer = from.one_answer t p ok;
    }
