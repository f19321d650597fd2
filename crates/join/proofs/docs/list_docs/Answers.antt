-- `docs::list_docs` meets its contract. Assumes nothing.
use Prim.Native.Nat.{ℕ, ◌+◌, ◌-◌}
use native.Mathlib.Omega.{arith}
use mathlib.Core.Path.{◌≡◌, ap, ap₂, ◌∙◌}
use Rattle.std.proofs.Common.{Some}
use Rattle.volume.specs.declared.posting.Posting.{Posting}
use Rattle.volume.specs.Posting.{doc_of}
use Rattle.volume.specs.Layout.{word}
use Rattle.join.proofs.Laws.Docs.{range_none, range-rising}
use Rattle.join.proofs.docs.list_docs.Goals as goal

pub returns-then-count-eq0 : goal.returns-then-count-eq0
returns-then-count-eq0 c = let a = c.args in range_none (word a.volume.now) a.start a.count (omega arith)

pub returns : goal.returns
returns c =
    let v = c.args.volume.now in
    let k = c.args.start in
    let n = c.args.count in
    let low : c.doc-low.result ≡ doc_of (word v k)
    = c.doc-low.ensures ∙ ap (λ (p : Posting). doc_of p.bits) c.posting_at.ensures in
    let last : c.doc-last.result ≡ doc_of (word v (k + n - 1))
    = c.doc-last.ensures ∙ ap (λ (p : Posting). doc_of p.bits) c.posting_at-2.ensures in
    ap₂ (λ (l p : ℕ). Some (record { low = l; last = p })) low last ∙ range-rising (word v) k n (omega arith) c.requires.count_value
