-- The plan's table, cursors and orders are laid out, and the documents are listed.
use Prim.Native.Nat.{◌≤◌}
use native.Mathlib.Omega.{arith}
use mathlib.Core.Path.{◌≡◌, refl, sym, ap, ◌∙◌}
use lib.ListN.{length, take}
use lib.Seq.{length-take-le}
use Rattle.plan.specs.Limits.{most_patterns, most_vars}
use Rattle.plan.specs.Check.{sizes}
use Rattle.plan.specs.declared.answers.Sizes.{Sizes}
use Rattle.plan.specs.Inner.Outline.{Tabled}
use Rattle.plan.proofs.Laws.Accepted.{given}
use Rattle.matcher.proofs.Laws.Cursors.{length-ends}
use Rattle.search.proofs.Laws.Orders.{ordered}
use Rattle.search.proofs.Laws.Seen.{tabled-part, cursors-part}
use Rattle.search.proofs.listing.list_from.Goals as goal
use Rattle.search.proofs.listing.list_from.Goals.{After-lay_out, After-set_cursors, Start}

-- a plan's patterns and variables are few
few : (c : Start) → let s = c.args.query.now.sizes in (s.patterns ≤ most_patterns) × (s.vars ≤ most_vars)
few c =
    let q = c.args.query.now in
    let g = given _ _ q.accepted in
    let e = ap (λ (s : Sizes). s.patterns) q.sizes_are in
    let f = ap (λ (s : Sizes). s.vars) q.sizes_are in
    let m = g.most-patterns in
    let n = g.most-vars in
    (omega arith, omega arith)

-- the arrays keep their lengths
table-size : (c : After-lay_out) → length c.lay_out.new.table ≡ most_patterns
table-size c = c.lay_out.auto.table

firsts-size : (c : After-set_cursors) → length c.set_cursors.new.cursors ≡ most_vars
firsts-size c = c.set_cursors.auto.cursors

-- the outlines of the plan's patterns
table-length : (c : After-lay_out) → length (take c.args.query.now.sizes.patterns c.lay_out.new.table) ≡ (sizes c.args.query.now.plan.now).patterns
table-length c =
    let q = c.args.query.now in
    let e = ap (λ (s : Sizes). s.patterns) q.sizes_are in
    let m = (given _ _ q.accepted).most-patterns in
    length-take-le q.sizes.patterns _ (let t = table-size c in omega arith) ∙ e

-- they are the plan's
tabled : (c : After-lay_out) → let q = c.args.query.now in Tabled q.plan.now (take q.sizes.patterns c.lay_out.new.table)
tabled c = tabled-part _ _ _ (ap (λ (s : Sizes). s.patterns) c.args.query.now.sizes_are) c.lay_out.ensures

pub lay_out-requires-clause-patterns_in_bounds : goal.lay_out-requires-clause-patterns_in_bounds
lay_out-requires-clause-patterns_in_bounds c =
    let m = (few (goal.at.lay_out-requires-clause-patterns_in_bounds c).Start).0 in
    omega arith

pub slice_bounds-table-end : goal.slice_bounds-table-end
slice_bounds-table-end c =
    let m = (few (goal.at.slice_bounds-table-end c).Start).0 in
    let t = table-size (goal.at.slice_bounds-table-end c).After-lay_out in
    sym (length-take-le c.args.query.now.sizes.patterns _ (omega arith))

pub set_cursors-requires-clause-tabled : goal.set_cursors-requires-clause-tabled
set_cursors-requires-clause-tabled c = tabled (goal.at.set_cursors-requires-clause-tabled c).After-lay_out

pub set_cursors-requires-clause-table_len : goal.set_cursors-requires-clause-table_len
set_cursors-requires-clause-table_len c = table-length (goal.at.set_cursors-requires-clause-table_len c).After-lay_out

pub set_orders-requires-clause-tabled : goal.set_orders-requires-clause-tabled
set_orders-requires-clause-tabled c = tabled (goal.at.set_orders-requires-clause-tabled c).After-lay_out

pub set_orders-requires-clause-table_len : goal.set_orders-requires-clause-table_len
set_orders-requires-clause-table_len c = table-length (goal.at.set_orders-requires-clause-table_len c).After-lay_out

pub slice_bounds-firsts-end : goal.slice_bounds-firsts-end
slice_bounds-firsts-end c =
    let m = (few (goal.at.slice_bounds-firsts-end c).Start).1 in
    let t = firsts-size (goal.at.slice_bounds-firsts-end c).After-set_cursors in
    omega arith

pub slice_bounds-cursors-end : goal.slice_bounds-cursors-end
slice_bounds-cursors-end c =
    let m = (few (goal.at.slice_bounds-cursors-end c).Start).1 in
    let t = firsts-size (goal.at.slice_bounds-cursors-end c).After-set_cursors in
    omega arith

pub slice_bounds-list_docs-end-2 : goal.slice_bounds-list_docs-end-2
slice_bounds-list_docs-end-2 c =
    let m = (few (goal.at.slice_bounds-list_docs-end-2 c).Start).1 in
    let t = firsts-size (goal.at.slice_bounds-list_docs-end-2 c).After-set_cursors in
    sym (length-take-le c.args.query.now.sizes.vars _ (omega arith))

pub slice_bounds-list_docs-end-3 : goal.slice_bounds-list_docs-end-3
slice_bounds-list_docs-end-3 c =
    let m = (few (goal.at.slice_bounds-list_docs-end-3 c).Start).1 in
    let t = firsts-size (goal.at.slice_bounds-list_docs-end-3 c).After-set_cursors in
    sym (length-take-le c.args.query.now.sizes.vars _ (omega arith))

pub list_docs-requires : goal.list_docs-requires
list_docs-requires c =
    let p = c.requires in
    let q = c.args.query.now in
    let f = ap (λ (s : Sizes). s.vars) q.sizes_are in
    let g = ap (λ (s : Sizes). s.patterns) q.sizes_are in
    let many = (few (goal.at.list_docs-requires c).Start).1 in
    let r = firsts-size (goal.at.list_docs-requires c).After-set_cursors in
    let firsts = take q.sizes.vars c.set_cursors.new.cursors in
    let n : length firsts ≡ q.sizes.vars = length-take-le q.sizes.vars _ (omega arith) in
    let e = length-ends firsts in
    record {
      walks = record {
        accepted = q.accepted;
        tabled = tabled (goal.at.list_docs-requires c).After-lay_out;
        table-length = table-length (goal.at.list_docs-requires c).After-lay_out;
        ends-room = omega arith;
        ordered = ordered _ _ _ c.set_orders.ensures.rarest_each;
      };
      firsts_len = n ∙ f;
      start_bound = p.start_bound;
      firsts = cursors-part _ _ _ c.set_cursors.new.cursors _ f c.set_cursors.ensures;
      cursors_value = refl;
      plan_in_bounds = omega arith;
      plan_in_bounds_2 = omega arith;
    }
