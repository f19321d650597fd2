-- `patterns::put_condition` meets its contract: the numbers of a condition, the last one first, and then its letter. Assumes nothing.
use native.Mathlib.Omega.{arith}
use mathlib.Core.Path.{ap, ◌∙◌}
use mathlib.Core.List.{[], ◌∷◌}
use lib.ListN.{length}
use Rattle.printer.proofs.Laws.Bytes.{put_as}
use Rattle.printer.proofs.Laws.Patterns.{length-begun, length-letter, put-begun}
use Rattle.printer.proofs.Laws.Patterns.{distance-text, ordered-text, samepara-text, window-text, proximity-text}
use Rattle.printer.proofs.patterns.put_condition.Goals as goal

pub put_spaced-requires : goal.put_spaced-requires
put_spaced-requires c =
    let d = c.in-Distance in
    let t = ap length (distance-text d.is) in
    let x0 = length-begun 110 (d.a ∷ d.b ∷ []) d.limit in
    omega (arith, c.requires)

pub put_pair-requires : goal.put_pair-requires
put_pair-requires c =
    let d = c.in-Distance in
    let t = ap length (distance-text d.is) in
    let x0 = length-begun 110 (d.a ∷ d.b ∷ []) d.limit in
    let x1 = c.put_spaced.ensures.put.ends in
    omega (arith, c.requires)

pub put_pair-requires-in-Ordered : goal.put_pair-requires-in-Ordered
put_pair-requires-in-Ordered c =
    let d = c.in-Ordered in
    let t = ap length (ordered-text d.is) in
    omega (arith, c.requires)

pub put_pair-requires-in-Samepara : goal.put_pair-requires-in-Samepara
put_pair-requires-in-Samepara c =
    let d = c.in-Samepara in
    let t = ap length (samepara-text d.is) in
    omega (arith, c.requires)

pub put_spaced-requires-in-Window : goal.put_spaced-requires-in-Window
put_spaced-requires-in-Window c =
    let d = c.in-Window in
    let t = ap length (window-text d.is) in
    let x0 = length-begun 115 [] d.limit in
    omega (arith, c.requires)

pub put_letter-requires : goal.put_letter-requires
put_letter-requires c =
    let d = c.in-Window in
    let t = ap length (window-text d.is) in
    let x0 = length-begun 115 [] d.limit in
    let x1 = length-letter 115 in
    let x2 = c.put_spaced-in-Window.ensures.put.ends in
    omega (arith, c.requires)

pub put_spaced-requires-in-Proximity : goal.put_spaced-requires-in-Proximity
put_spaced-requires-in-Proximity c =
    let d = c.in-Proximity in
    let t = ap length (proximity-text d.is) in
    let x0 = length-begun 97 (d.a ∷ d.b ∷ d.least ∷ []) d.most in
    rw c.from.ensures (omega (arith, c.requires))

pub put_spaced-requires-in-Proximity-2 : goal.put_spaced-requires-in-Proximity-2
put_spaced-requires-in-Proximity-2 c =
    let d = c.in-Proximity in
    let t = ap length (proximity-text d.is) in
    let x0 = length-begun 97 (d.a ∷ d.b ∷ d.least ∷ []) d.most in
    let x1 = length-begun 97 (d.a ∷ d.b ∷ []) d.least in
    let x2 = (rw c.from.ensures at c.put_spaced-in-Proximity.ensures).put.ends in
    rw c.from-in-Proximity.ensures (omega (arith, c.requires))

pub put_pair-requires-in-Proximity : goal.put_pair-requires-in-Proximity
put_pair-requires-in-Proximity c =
    let d = c.in-Proximity in
    let t = ap length (proximity-text d.is) in
    let x0 = length-begun 97 (d.a ∷ d.b ∷ d.least ∷ []) d.most in
    let x1 = length-begun 97 (d.a ∷ d.b ∷ []) d.least in
    let x2 = (rw c.from.ensures at c.put_spaced-in-Proximity.ensures).put.ends in
    let x3 = (rw c.from-in-Proximity.ensures at c.put_spaced-in-Proximity-2.ensures).put.ends in
    omega (arith, c.requires)

pub returns-in-Distance : goal.returns-in-Distance
returns-in-Distance c =
    let d = c.in-Distance in
    let limit = c.put_spaced.ensures in
    let pair = c.put_pair.ensures in
    record { put = put_as (distance-text d.is) (put-begun 110 (d.a ∷ d.b ∷ []) d.limit limit.put pair.put); same = pair.same ∙ limit.same }

pub returns-in-Ordered : goal.returns-in-Ordered
returns-in-Ordered c =
    let pair = c.put_pair-in-Ordered.ensures in
    record { put = put_as (ordered-text c.in-Ordered.is) pair.put; same = pair.same }

pub returns-in-Samepara : goal.returns-in-Samepara
returns-in-Samepara c =
    let pair = c.put_pair-in-Samepara.ensures in
    record { put = put_as (samepara-text c.in-Samepara.is) pair.put; same = pair.same }

pub returns-in-Window : goal.returns-in-Window
returns-in-Window c =
    let d = c.in-Window in
    let limit = c.put_spaced-in-Window.ensures in
    let letter = c.put_letter.ensures in
    record { put = put_as (window-text d.is) (put-begun 115 [] d.limit limit.put letter.put); same = letter.same ∙ limit.same }

pub returns-in-Proximity : goal.returns-in-Proximity
returns-in-Proximity c =
    let d = c.in-Proximity in
    let most = rw c.from.ensures at c.put_spaced-in-Proximity.ensures in
    let least = rw c.from-in-Proximity.ensures at c.put_spaced-in-Proximity-2.ensures in
    let pair = c.put_pair-in-Proximity.ensures in
    record {
      put =
          put_as (proximity-text d.is)
          (put-begun 97 (d.a ∷ d.b ∷ d.least ∷ []) d.most most.put (put-begun 97 (d.a ∷ d.b ∷ []) d.least least.put pair.put));
      same = pair.same ∙ least.same ∙ most.same;
    }
