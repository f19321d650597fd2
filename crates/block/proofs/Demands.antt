-- The statement of `specs/Demands.antt`, proved. Assumes nothing.
use Rattle.block.specs.Demands.{HalvesInAnyOrder}
use Rattle.block.proofs.Laws.Parts.{in-any-order}

pub halves_in-any-order : HalvesInAnyOrder
unfolding HalvesInAnyOrder
halves_in-any-order = in-any-order
