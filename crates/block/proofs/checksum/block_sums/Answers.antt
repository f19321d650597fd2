-- `checksum::block_sums` meets its contract: the two parts that are lent join to the bytes in front of the checksum. Assumes nothing.
use mathlib.Core.Path.{ap, ap₂, ◌∙◌}
use mathlib.Core.List.{[], ◌∷◌}
use Rattle.block.specs.declared.checksum.Half.{Half}
use Rattle.block.specs.declared.checksum.Sums.{Sums}
use Rattle.block.specs.Parts.{sums_of}
use Rattle.block.proofs.Laws.Halves.{slices-sums}
use Rattle.block.proofs.checksum.block_sums.Goals as goal

pub returns : goal.returns
returns c =
    let first = c.first_sums-first.ensures in
    let second = c.second_sums-second.ensures in
    let both = ap₂ (λ (x y : Half). sums_of (x ∷ y ∷ [])) second first in
    let r = c.sums_of.ensures ∙ both ∙ slices-sums _ c.args.from c.requires in
    record {
      a_value = ap (λ (s : Sums). s.a) r;
      b_value = ap (λ (s : Sums). s.b) r;
    }
