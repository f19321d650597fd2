-- `paragraphs::find_para` meets its contract, by the first start behind the position. Assumes nothing.
use Rattle.matcher.proofs.Laws.Starts.{past-from, past_to}
use Rattle.matcher.proofs.paragraphs.find_para.Goals as goal

pub para_start-start-requires : goal.para_start-start-requires
para_start-start-requires c =
    let p = c.requires in
    let o = c.args.opened.now in
    let e = c.past_start-at.ensures in
    record {
      at_le_at = past-from o.volume.accepted o.at_document c.requires e;
      at_le_end = past_to o.volume.accepted o.at_document c.requires e;
    }

pub returns : goal.returns
returns c =
    let p = c.requires in
    let e = c.past_start-at.ensures in
    record {
      start_value = c.para_start-start.ensures _ c.requires e;
      at_value = e;
    }
