-- `patterns::put_pair` meets its contract. Assumes nothing.
use native.Mathlib.Omega.{arith}
use mathlib.Core.Path.{◌∙◌}
use mathlib.Core.List.{[], ◌∷◌}
use Rattle.printer.proofs.Laws.Patterns.{length-begun, length-letter, put-begun}
use Rattle.printer.proofs.patterns.put_pair.Goals as goal

pub put_spaced-requires : goal.put_spaced-requires
put_spaced-requires c =
    let a = c.args in
    let x = length-begun a.letter (a.a ∷ []) a.b in
    omega (arith, c.requires)

pub put_spaced-requires-2 : goal.put_spaced-requires-2
put_spaced-requires-2 c =
    let a = c.args in
    let x = length-begun a.letter (a.a ∷ []) a.b in
    let y = length-begun a.letter [] a.a in
    omega (arith, c.requires, c.put_spaced.ensures.put.ends)

pub put_letter-requires : goal.put_letter-requires
put_letter-requires c =
    let a = c.args in
    let x = length-begun a.letter (a.a ∷ []) a.b in
    let y = length-begun a.letter [] a.a in
    let z = length-letter a.letter in
    let u = c.put_spaced.ensures.put.ends in
    omega (arith, c.requires, c.put_spaced-2.ensures.put.ends)

pub returns : goal.returns
returns c =
    let a = c.args in
    let second = c.put_spaced.ensures in
    let first = c.put_spaced-2.ensures in
    let letter = c.put_letter.ensures in
    record {
      put = put-begun a.letter (a.a ∷ []) a.b second.put (put-begun a.letter [] a.a first.put letter.put);
      same = letter.same ∙ first.same ∙ second.same;
    }
