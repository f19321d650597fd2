-- The cursor on a list, between its start and the next one's, seeks the document.
use Prim.Native.Nat.{◌+◌, ◌*◌}
use mathlib.Core.Path.{◌≡◌, ap, ◌∙◌}
use lib.ListN.{get_or}
use Rattle.matcher.specs.declared.cursor.Cursor.{Cursor}
use Rattle.matcher.specs.Inner.Cursors.{sought, list_cursor}
use Rattle.matcher.proofs.Laws.Volume.{list-stretch}
use Rattle.search.proofs.Laws.Setup.{started-cursor}
use Rattle.search.proofs.setup.cursor_on.Goals as goal
use Rattle.search.proofs.setup.cursor_on.Goals.{Start}

-- the cursor, before it seeks
whole : (c : Start) → let a = c.args in let starts = a.starts.now in
    record { at = get_or starts a.list 0; end = get_or starts (a.list + 1) 0 } ≡ list_cursor a.volume.now.bytes.now a.list
whole c = started-cursor _ c.args.list _ _ c.requires.list_value c.requires.list_value_2

pub seek-requires : goal.seek-requires
seek-requires c =
    rw (ap (λ (r : Cursor). r.at) (whole (goal.at.seek-requires c).Start), ap (λ (r : Cursor). r.end) (whole (goal.at.seek-requires c).Start))
    (list-stretch c.args.volume.now.bytes.now c.args.volume.now.accepted c.args.list c.requires.list_bound)

pub returns : goal.returns
returns c =
    let a = c.args in
    c.seek.ensures.value ∙ ap (λ (r : Cursor). sought a.volume.now.bytes.now (a.doc * 65536) r) (whole (goal.at.returns c).Start)
