-- `trees::put_lines`, `trees::put_node`, `trees::put_threshold` and `trees::put_tree` meet their contracts: a law of `Laws/Trees.antt` or
-- `Laws/Thresholds.antt` for each piece of a text. Assumes nothing.
use native.Mathlib.Omega.{arith}
use mathlib.Core.Path.{ap, sym, ◌∙◌}
use mathlib.Core.Logic.{⊎_elim}
use Rattle.plan.specs.declared.row.Operator.{Operator}
use Rattle.plan.specs.declared.row.Kind.TheVariants as kind
use Rattle.plan.specs.declared.row.Row.{Row}
use Rattle.printer.proofs.Laws.Trees.{leaf_room, leaf-put, tree-no-voice, tree-no-condition}
use Rattle.printer.proofs.Laws.Trees.{node-some, node-shut, node-right, node-byte, node-begins, node-left, node_open, node-put}
use Rattle.printer.proofs.Laws.Thresholds.{threshold-least, threshold-some, threshold-shut, threshold-lines, threshold-number}
use Rattle.printer.proofs.Laws.Thresholds.{threshold_open, threshold-put, level-room, level-put}
use Rattle.printer.proofs.Laws.Thresholds.{lines-tree, lines-byte, lines-first, lines-begins, lines-room, lines-put}
use Rattle.printer.proofs.trees.+put_lines_put_node_put_threshold_put_tree.Goals as goal

pub put_lines-put_tree-line-requires : goal.put_lines-put_tree-line-requires
put_lines-put_tree-line-requires t c =
    (omega (arith, c.decreases), lines-tree c.requires)

pub put_lines-put_byte-requires : goal.put_lines-put_byte-requires
put_lines-put_byte-requires t c =
    lines-byte c.requires c.put_tree-line.ensures.put

pub put_lines-returns-then-count-le1 : goal.put_lines-returns-then-count-le1
put_lines-returns-then-count-le1 t c =
    let line = c.put_tree-line.ensures in
    let colon = c.put_byte.ensures in
    record { put = lines-first c.requires line.put c.if-count-le1.true colon.put; same = colon.same ∙ line.same }

pub put_lines-put_byte-requires-else-count-le1 : goal.put_lines-put_byte-requires-else-count-le1
put_lines-put_byte-requires-else-count-le1 t c =
    lines-byte c.requires c.put_tree-line.ensures.put

pub put_lines-overflow_sub-line : goal.put_lines-overflow_sub-line
put_lines-overflow_sub-line t c =
    (lines-begins c.requires c.put_tree-line.ensures.put c.if-count-le1.false).0

pub put_lines-put_lines-requires : goal.put_lines-put_lines-requires
put_lines-put_lines-requires t c =
    let h = c.requires in
    let line = c.put_tree-line.ensures.put in
    let more = c.if-count-le1.false in
    let s = lines-begins h line more in
    (omega (arith, c.decreases), lines-room h line more c.put_byte-else-count-le1.ensures.put)

pub put_lines-returns-else-count-le1 : goal.put_lines-returns-else-count-le1
put_lines-returns-else-count-le1 t c =
    let line = c.put_tree-line.ensures in
    let comma = c.put_byte-else-count-le1.ensures in
    let others = c.put_lines.ensures in
    record {
      put = lines-put c.requires line.put c.if-count-le1.false comma.put others.put;
      same = others.same ∙ comma.same ∙ line.same;
    }

pub put_node-put_byte_if-requires : goal.put_node-put_byte_if-requires
put_node-put_byte_if-requires t c =
    let k = c.args.connective in
    let h = c.requires.tree_room in
    let e = c.requires.last_value in
    rw c.is_bracketed-bracket.ensures (node-shut k e h)

pub put_node-overflow_sub-last : goal.put_node-overflow_sub-last
put_node-overflow_sub-last t c =
    let k = c.args.connective in
    let h = c.requires.tree_room in
    let e = c.requires.last_value in
    node-some k e h

pub put_node-put_tree-right-requires : goal.put_node-put_tree-right-requires
put_node-put_tree-right-requires t c =
    let k = c.args.connective in
    let h = c.requires.tree_room in
    let e = c.requires.last_value in
    let shut = rw c.is_bracketed-bracket.ensures at c.put_byte_if.ensures in
    let s = node-some k e h in
    (omega (arith, c.decreases), rw c.right_level.ensures (node-right k e h shut.put))

pub put_node-put_byte-requires : goal.put_node-put_byte-requires
put_node-put_byte-requires t c =
    let k = c.args.connective in
    let h = c.requires.tree_room in
    let e = c.requires.last_value in
    let shut = rw c.is_bracketed-bracket.ensures at c.put_byte_if.ensures in
    let second = rw c.right_level.ensures at c.put_tree-right.ensures in
    node-byte k e h shut.put second.put

pub put_node-overflow_sub-right : goal.put_node-overflow_sub-right
put_node-overflow_sub-right t c =
    let k = c.args.connective in
    let h = c.requires.tree_room in
    let e = c.requires.last_value in
    let shut = rw c.is_bracketed-bracket.ensures at c.put_byte_if.ensures in
    let second = rw c.right_level.ensures at c.put_tree-right.ensures in
    (node-begins k e h shut.put second.put).0

pub put_node-put_tree-left-requires : goal.put_node-put_tree-left-requires
put_node-put_tree-left-requires t c =
    let k = c.args.connective in
    let h = c.requires.tree_room in
    let e = c.requires.last_value in
    let shut = rw c.is_bracketed-bracket.ensures at c.put_byte_if.ensures in
    let second = rw c.right_level.ensures at c.put_tree-right.ensures in
    let between = rw c.byte_of.ensures at c.put_byte.ensures in
    let s = node-begins k e h shut.put second.put in
    (omega (arith, c.decreases), rw c.left_level.ensures (node-left k e h shut.put second.put between.put))

pub put_node-put_byte_if-requires-2 : goal.put_node-put_byte_if-requires-2
put_node-put_byte_if-requires-2 t c =
    let k = c.args.connective in
    let h = c.requires.tree_room in
    let e = c.requires.last_value in
    let shut = rw c.is_bracketed-bracket.ensures at c.put_byte_if.ensures in
    let second = rw c.right_level.ensures at c.put_tree-right.ensures in
    let between = rw c.byte_of.ensures at c.put_byte.ensures in
    let first = rw c.left_level.ensures at c.put_tree-left.ensures in
    rw c.is_bracketed-bracket.ensures (node_open k e h shut.put second.put between.put first.put)

pub put_node-returns : goal.put_node-returns
put_node-returns t c =
    let k = c.args.connective in
    let h = c.requires.tree_room in
    let e = c.requires.last_value in
    let shut = rw c.is_bracketed-bracket.ensures at c.put_byte_if.ensures in
    let second = rw c.right_level.ensures at c.put_tree-right.ensures in
    let between = rw c.byte_of.ensures at c.put_byte.ensures in
    let first = rw c.left_level.ensures at c.put_tree-left.ensures in
    let opening = rw c.is_bracketed-bracket.ensures at c.put_byte_if-2.ensures in
    record {
      put = node-put k e h shut.put second.put between.put first.put opening.put;
      same = opening.same ∙ first.same ∙ between.same ∙ second.same ∙ shut.same;
    }

pub put_threshold-put_byte-requires : goal.put_threshold-put_byte-requires
put_threshold-put_byte-requires t c =
    let h = c.requires.tree_room in
    let e = c.requires.last_value in
    threshold-shut e h

pub put_threshold-overflow_sub-last : goal.put_threshold-overflow_sub-last
put_threshold-overflow_sub-last t c =
    let h = c.requires.tree_room in
    let e = c.requires.last_value in
    threshold-some e h

pub put_threshold-put_lines-lines-requires : goal.put_threshold-put_lines-lines-requires
put_threshold-put_lines-lines-requires t c =
    let h = c.requires.tree_room in
    let e = c.requires.last_value in
    let s = threshold-some e h in
    (omega (arith, c.decreases), threshold-lines e h c.put_byte.ensures.put)

pub put_threshold-digit_of-requires : goal.put_threshold-digit_of-requires
put_threshold-digit_of-requires t c =
    let h = c.requires.tree_room in
    let e = c.requires.last_value in
    threshold-least e h

pub put_threshold-put_byte-requires-2 : goal.put_threshold-put_byte-requires-2
put_threshold-put_byte-requires-2 t c =
    let h = c.requires.tree_room in
    let e = c.requires.last_value in
    let n = threshold-number e h c.put_byte.ensures.put c.put_lines-lines.ensures.put in
    omega arith

pub put_threshold-put_byte-requires-3 : goal.put_threshold-put_byte-requires-3
put_threshold-put_byte-requires-3 t c =
    let h = c.requires.tree_room in
    let e = c.requires.last_value in
    let number = rw c.digit_of.ensures at c.put_byte-2.ensures in
    threshold_open e h c.put_byte.ensures.put c.put_lines-lines.ensures.put number.put

pub put_threshold-returns : goal.put_threshold-returns
put_threshold-returns t c =
    let h = c.requires.tree_room in
    let e = c.requires.last_value in
    let shut = c.put_byte.ensures in
    let lines = c.put_lines-lines.ensures in
    let number = rw c.digit_of.ensures at c.put_byte-2.ensures in
    let opening = c.put_byte-3.ensures in
    record {
      put = threshold-put e h shut.put lines.put number.put opening.put;
      same = opening.same ∙ number.same ∙ lines.same ∙ shut.same;
    }

pub put_tree-put_threshold-requires : goal.put_tree-put_threshold-requires
put_tree-put_threshold-requires t c =
    let e = ap (λ (r : Row). r.kind) (sym c.row_at.ensures) ∙ c.in-Operator.is ∙ ap (λ (o : Operator). kind.Operator o) c.in-AtLeast.is in
    (omega (arith, c.decreases), (level-room e c.requires, e))

pub put_tree-put_pattern-requires : goal.put_tree-put_pattern-requires
put_tree-put_pattern-requires t c =
    let e = ap (λ (r : Row). r.kind) (sym c.row_at.ensures) ∙ c.in-End.is in
    leaf_room e c.requires

pub put_tree-returns-in-AtLeast : goal.put_tree-returns-in-AtLeast
put_tree-returns-in-AtLeast t c =
    let e = ap (λ (r : Row). r.kind) (sym c.row_at.ensures) ∙ c.in-Operator.is ∙ ap (λ (o : Operator). kind.Operator o) c.in-AtLeast.is in
    let p = c.put_threshold.ensures in
    record { put = level-put e p.put; same = p.same }

pub put_tree-returns-in-End : goal.put_tree-returns-in-End
put_tree-returns-in-End t c =
    let e = ap (λ (r : Row). r.kind) (sym c.row_at.ensures) ∙ c.in-End.is in
    let p = c.put_pattern.ensures in
    record { put = leaf-put e c.args.level p.put; same = p.same }

pub put_tree-unreachable-requires : goal.put_tree-unreachable-requires
put_tree-unreachable-requires t c =
    let row = ap (λ (r : Row). r.kind) (sym c.row_at.ensures) in
    ⊎_elim (λ e. tree-no-voice (row ∙ e.1) c.requires) (λ e. tree-no-condition (row ∙ e.1) c.requires) c.in-Voice.is
