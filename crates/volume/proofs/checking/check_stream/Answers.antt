-- `checking::check_stream` meets its contract: each test of the stream in its turn. Assumes nothing.
use native.Mathlib.Omega.{arith}
use Prim.Native.Nat.{ℕ, ◌+◌, ◌*◌, ◌/◌, ◌-◌, ◌<◌, ◌≤◌}
use mathlib.Core.Path.{◌≡◌, sym, ap, ap₂, ◌∙◌}
use mathlib.Core.Bool.{false}
use mathlib.Core.List.{List}
use mathlib.Core.Logic.{inl, inr, ⊎_elim}
use Rattle.seq.specs.Numbers.{first_from, sum_to}
use Rattle.seq.specs.Refusals.{refused, answered}
use Rattle.volume.specs.Layout.{extent_of, count, list_count, extent, blocks, blocks_for}
use Rattle.volume.specs.Check.{version_wrong, list_count_wrong, extent_wrong, lists_wrong, padding_wrong, bad_word}
use Rattle.seq.proofs.Laws.Decides.{holds, fails}
use Rattle.volume.proofs.Laws.Index.{some_index, no_index}
use Rattle.volume.proofs.Laws.Check.{version_wrong_decides, list_count_wrong_decides, extent_wrong_decides, blocks_for-least, least-blocks_for, lists_wrong-true, lists_wrong-false, tail_wrong-true, tail_wrong-false, stream-version, stream-list_count, stream-extent, stream-order, stream_padding, stream-answer}
use Rattle.volume.proofs.checking.check_stream.Goals as goal
use Rattle.volume.proofs.checking.check_stream.Goals.{After-bad_list, After-extent_of-used, After-lead, Else-word_at-ne1, In_default}

-- what is known behind each test
version-is : (c : Else-word_at-ne1) → version_wrong c.args.whole.now.bytes.now ≡ false
version-is c = fails (version_wrong_decides _) (λ n. n (sym c.word_at.ensures ∙ c.if-word_at-ne1.false))

list_count-is : (c : After-lead) → list_count_wrong c.args.whole.now.bytes.now ≡ false
list_count-is c =
    let t = c.word_at-t.ensures in
    fails (list_count_wrong_decides _) (⊎_elim (λ h. omega arith) (λ h. omega arith))

-- the counted words are the extent
extent_told : (v : List ℕ) (t sum used : ℕ) → t ≡ list_count v → sum ≡ sum_to (count v) t → used ≡ extent_of t sum → used ≡ extent v
extent_told v t sum used e s u = u ∙ ap₂ (λ (a b : ℕ). extent_of a b) e (s ∙ ap (sum_to (count v)) e)

extent-is : (c : After-extent_of-used) → c.extent_of-used.result ≡ extent c.args.whole.now.bytes.now
extent-is c = extent_told c.args.whole.now.bytes.now _ _ _ c.word_at-t.ensures c.count_sum-sum.ensures.value c.extent_of-used.ensures

extent-fits : (c : After-bad_list) → extent_wrong c.args.whole.now.bytes.now ≡ false
extent-fits c =
    let v = c.args.whole.now.bytes.now in
    let e = extent_told v _ _ _ c.word_at-t.ensures c.count_sum-sum.ensures.value c.extent_of-used.ensures in
    fails (extent_wrong_decides v) (λ n. n (rw (ap blocks_for (sym e) ∙ c.if-used-volume.false) at (least-blocks_for (extent v))))

order_is : (c : In_default) → lists_wrong c.args.whole.now.bytes.now ≡ false
order_is c = lists_wrong-false _ (no_index _ _ c.in_default.ensures)

-- the search among the zero words
bad-word-is : (v : List ℕ) (used : ℕ) → used ≡ extent v → first_from (padding_wrong v) used (126 * blocks v - used) ≡ bad_word v
bad-word-is v used e = rw e

-- the postings and the words of at most 8,192 blocks
few-postings : (used lists postings n : ℕ) → used ≡ extent_of lists postings → (used + 125) / 126 ≡ n → n ≤ 8192 → postings < 4294967296
few-postings used lists postings n e b h = omega arith

few_words : (i n : ℕ) → i < 126 * n → n ≤ 8192 → i < 4294967296
few_words i n h b = omega arith

pub returns-then-word_at-ne1 : goal.returns-then-word_at-ne1
returns-then-word_at-ne1 c = sym (stream-version _ (holds (version_wrong_decides _) (λ e. c.if-word_at-ne1.true (c.word_at.ensures ∙ e))))

pub returns-then-lists-lt1 : goal.returns-then-lists-lt1
returns-then-lists-lt1 c =
    let t = c.word_at-t.ensures in
    let wrong = ⊎_elim (λ h. inl (omega arith)) (λ h. inr (omega arith)) c.then-lists-lt1.either in
    sym (stream-list_count _ (version-is (goal.at.returns-then-lists-lt1 c).Else-word_at-ne1) (holds (list_count_wrong_decides _) wrong))

pub returns-then-end-lead : goal.returns-then-end-lead
returns-then-end-lead c =
    let g = goal.at.returns-then-end-lead c in
    let t = c.word_at-t.ensures in
    sym (stream-extent _ (version-is g.Else-word_at-ne1) (list_count-is g.After-lead) (holds (extent_wrong_decides _) (λ l. let e = l.enough in omega arith)))

pub returns-then-used-volume : goal.returns-then-used-volume
returns-then-used-volume c =
    let g = goal.at.returns-then-used-volume c in
    sym (stream-extent _ (version-is g.Else-word_at-ne1) (list_count-is g.After-lead)
    (holds (extent_wrong_decides _) (λ l. c.if-used-volume.true (ap blocks_for (extent-is g.After-extent_of-used) ∙ blocks_for-least _ _ l))))

pub bad_list-requires : goal.bad_list-requires
bad_list-requires c =
    let p = c.requires in
    let t = c.word_at-t.ensures in
    let e = extent-is (goal.at.bad_list-requires c).After-extent_of-used in
    record {
      lists_value = t;
      lists_bound = omega arith;
      used_value = e;
      used_bound = omega arith;
      all_value = p.all_value;
    }

pub overflow_cast-result : goal.overflow_cast-result
overflow_cast-result c =
    let i = some_index _ _ _ c.in-Some.ensures in
    let t = c.word_at-t.ensures in
    omega arith

pub returns-in-Some : goal.returns-in-Some
returns-in-Some c =
    let g = goal.at.returns-in-Some c in
    let i = some_index _ _ _ c.in-Some.ensures in
    ap (refused 7) i.0
    ∙ sym (stream-order _ (version-is g.Else-word_at-ne1) (list_count-is g.After-lead) (extent-fits g.After-bad_list) (lists_wrong-true _ i.1))

pub returns-in-Some-bad_word : goal.returns-in-Some-bad_word
returns-in-Some-bad_word c =
    let g = goal.at.returns-in-Some-bad_word c in
    let i = some_index _ _ _ c.in-Some-bad_word.ensures in
    let bad = bad-word-is c.args.whole.now.bytes.now _ (extent-is g.After-extent_of-used) in
    ap (refused 8) (i.0 ∙ bad)
    ∙ sym (stream_padding _ (version-is g.Else-word_at-ne1) (list_count-is g.After-lead) (extent-fits g.After-bad_list) (order_is g.In_default)
    (tail_wrong-true _ (rw bad at i.1)))

pub returns : goal.returns
returns c =
    let g = goal.at.returns c in
    let v = c.args.whole.now.bytes.now in
    let t = c.word_at-t.ensures in
    let bad = bad-word-is v _ (extent-is g.After-extent_of-used) in
    ap₂ (λ (a b : ℕ). answered (record { lists = a; postings = b })) t (c.count_sum-sum.ensures.value ∙ ap (sum_to (count v)) t)
    ∙ sym (stream-answer v (version-is g.Else-word_at-ne1) (list_count-is g.After-lead) (extent-fits g.After-bad_list) (order_is g.In_default)
    (tail_wrong-false v (rw bad at (no_index _ _ c.in_default-bad_word.ensures))))
