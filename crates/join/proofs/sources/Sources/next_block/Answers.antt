-- `Sources::next_block` meets its contract: its counts, its postings and its zeros, one behind the other. Assumes nothing.
use Prim.Native.Nat.{ℕ, ◌+◌, ◌*◌, ◌-◌, min}
use native.Mathlib.Omega.{arith}
use mathlib.Core.Path.{◌≡◌, refl, ap, ◌∙◌}
use Rattle.volume.specs.Layout.{list_count, lead, extent}
use Rattle.join.specs.Inner.Reading.{read_of}
use Rattle.join.proofs.Laws.Reading.{Bounds, bounds}
use Rattle.join.proofs.Laws.Made.{made_zeros}
use Rattle.join.proofs.Laws.Blocks.{block-next, block_made}
use Rattle.join.proofs.sources.Sources.next_block.Goals as goal
use Rattle.join.proofs.sources.Sources.next_block.Goals.{After-fill-here}

-- where the merge stands behind the postings
behind : (c : After-fill-here) → let a = c.args in Bounds a.self.now.first.now a.self.now.second.now c.fill-here.result
behind c =
    let a = c.args in
    bounds a.self.now.first.now a.self.now.second.now c.args.self.now.joinable c.fill-here.result c.fill-here.ensures.turned.stands

-- the number of its counts
counts-are : (c : After-fill-here) → let a = c.args in
    c.put_head-head.result ≡ min 126 (lead (list_count a.self.now.first.now) - 126 * a.k)
counts-are c =
    let a = c.args in
    let e : lead a.self.now.lists ≡ lead (list_count a.self.now.first.now) = ap lead c.args.self.now.lists_are in
    c.put_head-head.ensures.value ∙ ap (λ (n : ℕ). min 126 (n - 126 * a.k)) e

-- how far both volumes are read
read_is : (c : After-fill-here) → let a = c.args in let head = c.put_head-head in
    read_of c.fill-here.result ≡ min (read_of a.merge + (126 - head.result)) (extent a.self.now.first.now + extent a.self.now.second.now)
read_is c = let head = c.put_head-head in
    c.fill-here.ensures.result_value ∙ ap (λ (n : ℕ). min (read_of c.args.merge + (126 - head.result)) n) c.args.self.now.all_is

pub overflow_add-to : goal.overflow_add-to
overflow_add-to c =
    let b = behind (goal.at.overflow_add-to c).After-fill-here in
    omega arith

pub returns : goal.returns
returns c =
    let a = c.args in
    let r = c.requires in
    let filled = (goal.at.returns c).After-fill-here in
    let head = c.put_head-head in
    let zeros = made_zeros c.fill-here.new.words c.fill.new.self _ _ refl (let l = r.words_len in omega arith) (c.fill.ensures.after (λ y e. e)) in record {
      stands_before_2 = block-next a.self.now.lift a.self.now.first.now a.self.now.second.now c.args.self.now.joinable a.merge c.fill-here.result a.k head.result _ _
          r.stands_before r.k_bound (counts-are filled) c.fill-here.ensures.turned (read_is filled);
      words_after = block_made a.self.now.lift a.self.now.first.now a.self.now.second.now c.args.self.now.joinable a.merge c.fill-here.result a.k head.result _
          a.words.now _ _ _ r.stands_before r.k_bound r.words_len (counts-are filled)
          head.ensures.words_after c.fill-here.ensures.turned (read_is filled) refl zeros;
    }
