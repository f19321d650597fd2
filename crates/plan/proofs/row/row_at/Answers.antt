-- `row::row_at` meets its contract. Assumes nothing.
use Rattle.plan.specs.Rows.{kind_at, a_at, b_at, c_at, row_at}
use Rattle.plan.proofs.Laws.Rows.{formed_known}
use Rattle.plan.proofs.row.row_at.Goals as goal

pub row_of-requires : goal.row_of-requires
row_of-requires c =
    let p = c.args.plan.now in
    let i = c.args.i in
    let h = formed_known (kind_at p i) (a_at p i) (b_at p i) (c_at p i) c.requires.i_value in
    record {
      le_kind = h.0;
      kind_le_last_kind = h.1;
    }

pub returns : goal.returns
unfolding row_at
returns c = c.row_of.ensures
