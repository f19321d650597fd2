-- A cursor for each variable of a pattern, in front of a document. No contract cites this file.
--     starts_cursor                        the cursor on a list, by the starts of all lists
--     cursor-stretch, cursor-placed        a cursor on a list, brought in front of a document
--     cursor-mark                          it has passed nothing of the document
--     document-at                          a document, with such a cursor on list 0
--     Placing, placing-next                the first variables have theirs
-- Assumes nothing.
use Prim.Native.Nat.{ℕ, ◌+◌, ◌*◌, ◌<◌, ◌≤◌}
use native.Mathlib.Omega.{arith}
use mathlib.Core.Path.{◌≡◌, ap, ap₂, ◌∙◌}
use mathlib.Core.Logic.{⊎_elim, ◌≢◌}
use mathlib.Core.List.{List}
use lib.ListN.{length, get_or, set, length-set}
use lib.Seq.{get_or-set_same, get_or-set_other}
use Rattle.seq.proofs.Laws.Decides.{decided, eqb_decides}
use Rattle.volume.specs.Layout.{list_count, start}
use Rattle.volume.specs.Check.{Accepted}
use Rattle.volume.proofs.Laws.Check.{good}
use Rattle.volume.proofs.Laws.Starts.{start-next}
use Rattle.plan.specs.Patterns.{Pattern}
use Rattle.matcher.specs.declared.cursor.Cursor.{Cursor}
use Rattle.matcher.specs.Inner.Cursors.{Stretch, sought, list_end, list_cursor, no_cursor, AtDocument}
use Rattle.matcher.proofs.Laws.Volume.{list-stretch}
use Rattle.matcher.proofs.Laws.Cursors.{seek_ge, seek-le, seek-below}
use Rattle.matcher.specs.Inner.Tables.{cursor_on}
use Rattle.enumeration.specs.Inner.Attempts.{Mark}

-- a list lies from its start up to the next one's
pub starts_cursor : (v starts : List ℕ) (n : ℕ) → ((i : ℕ) → i ≤ n → get_or starts i 0 ≡ start v i) → (l : ℕ) → l < n
    → record { at = get_or starts l 0; end = get_or starts (l + 1) 0 } ≡ list_cursor v l
starts_cursor v starts n each l h =
    let next = each (l + 1) (omega arith) ∙ start-next v l in
    ap₂ (λ (i e : ℕ). record { at = i; end = e }) (each l (omega arith)) next

module _ (v : List ℕ) (ok : Accepted v) (l : ℕ) (there : l < list_count v) (first : Cursor) (is : first ≡ list_cursor v l) where
  pub cursor-stretch : Stretch v first.at first.end
  cursor-stretch = rw is (list-stretch v ok l there)

  pub cursor-placed : (d : ℕ) (c : Cursor) → c ≡ sought v (d * 65536) first → c ≡ cursor_on v l d
  cursor-placed d c e = e ∙ ap (sought v (d * 65536)) is

-- it has passed nothing of the document
pub cursor-mark : (v : List ℕ) → Accepted v → (l : ℕ) → l < list_count v → (d : ℕ) (c : Cursor) → c ≡ cursor_on v l d → Mark v l d 0 c.at
cursor-mark v ok l there d c e =
    rw e (record {
      from = seek_ge v (d * 65536) (start v l) (list_end v l);
      to = seek-le v (d * 65536) (start v l) (list_end v l) (list-stretch v ok l there).order;
      behind = λ j a b. let r = seek-below v (d * 65536) (start v l) (list_end v l) j a b in omega arith;
    })

-- a document, with the cursor on list 0 brought in front of it
pub document-at : (v : List ℕ) → Accepted v → (d : ℕ) → d ≤ 65535 → (first c : Cursor) → first ≡ list_cursor v 0 → c ≡ sought v (d * 65536) first → AtDocument v (record { doc = d; starts = c })
document-at v ok d h first c is e =
    let on = cursor-placed v ok 0 (good v ok).lists-some first is d c e in
    let m = cursor-mark v ok 0 (good v ok).lists-some d c on in
    record {
      small = h;
      starts-at = record { from = m.from; to = m.to; behind = λ j a b. let r = m.behind j a b in omega arith };
      starts-end = ap (λ (k : Cursor). k.end) on;
    }

-- the first x variables of a pattern have their cursors
pub record Placing (v : List ℕ) (f : Pattern) (d : ℕ) (cursors₀ cursors : List Cursor) (x : ℕ) : Type 0 where
  pub same-length : length cursors ≡ length cursors₀
  pub placed : (y : ℕ) → y < x → get_or cursors y no_cursor ≡ cursor_on v (get_or f.vars y 0) d

module _ (v : List ℕ) (f : Pattern) (d : ℕ) (cursors₀ : List Cursor) where
  pub placing-next : (cursors : List Cursor) (x : ℕ) (c : Cursor) → Placing v f d cursors₀ cursors x → x < length cursors₀ → c ≡ cursor_on v (get_or f.vars x 0) d
      → Placing v f d cursors₀ (set cursors x c) (x + 1)
  placing-next cursors x c t a p = record {
    same-length = length-set cursors x c ∙ t.same-length;
    placed = λ y h.
        ⊎_elim
        (λ (q : y ≡ x). rw (q, get_or-set_same cursors x c no_cursor (let n = t.same-length in omega arith)) p)
        (λ (q : y ≢ x). rw (get_or-set_other cursors x y c no_cursor q) (t.placed y (omega arith)))
        (decided (eqb_decides y x));
  }
