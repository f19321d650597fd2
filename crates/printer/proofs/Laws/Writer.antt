-- The line of an accepted plan, written from its end. No contract cites this file.
--     line-voiced                a tree whose line keeps to the grammar has a variable in each pattern
--     plan-room, plan-put        the rows of an accepted plan are those of its tree
--     line-short, line-whole     the line has no room, or is written
--     write-refused, write-line     the call
-- Assumes nothing.
use Prim.Native.Nat.{ℕ, ◌-◌, ◌<◌, ◌≤◌}
use native.Mathlib.Omega.{arith}
use mathlib.Core.Path.{◌≡◌, refl, sym, ap, ◌∙◌}
use mathlib.Core.List.{List, []}
use Rattle.std.proofs.Common.{Result, Ok, Err}
use lib.ListN.{length}
use borrow.Author.Tests.{lt-ltb, le-ltb}
use Rattle.seq.specs.Refusals.{answered, laid}
use Rattle.plan.specs.declared.answers.Refusal.{Refusal}
use Rattle.plan.specs.declared.answers.Sizes.{Sizes}
use Rattle.plan.specs.Answers.{said_refusal}
use Rattle.plan.specs.Rows.{row_count, rows_of}
use Rattle.plan.specs.Check.{verdict, sizes, Accepted}
use Rattle.plan.proofs.Laws.Check.{verdict-passed}
use Rattle.plan.proofs.Laws.Accepted.{given}
use Rattle.volume.specs.Layout.{list_count}
use Rattle.grammar.specs.declared.tokens.Connective.TheVariants as c
use Rattle.grammar.specs.Grammar.{Fits, PartFits, ItemFits, LinesFit}
use Rattle.grammar.specs.Query.{Query, leaf, node, threshold, Queries, empty, push, query_of, stack_rows, typed, typed_lines, plan_line}
use Rattle.grammar.specs.Query.{plan_text}
use Rattle.grammar.proofs.Laws.Written.{plan-tree}
use Rattle.grammar.proofs.Laws.Bounds.{accepted-line}
use Rattle.printer.specs.declared.answers.WriteError.{WriteError}
use Rattle.printer.specs.declared.answers.WriteError.TheVariants as writeError
use Rattle.printer.specs.declared.trees.Level.TheVariants as level
use Rattle.printer.specs.Answers.{said_written}
use Rattle.printer.specs.Write.{write_answer, write_out}
use Rattle.printer.specs.Inner.Writing.{PutBack, Back, stored_bytes}
use Rattle.printer.specs.Inner.Trees.{Voiced, AllVoiced, TreeEnd, TreeRoom, TreePut, LineWritten}
use Rattle.printer.proofs.Laws.Bytes.{stored-front}
use Rattle.printer.proofs.Laws.Patterns.{rows_back}

-- a variable in each pattern
mutual
  unfolding typed Fits Voiced

  line-voiced : (q : Query) → Fits (typed q).line → Voiced q
  line-voiced (leaf f) h = h.some-list
  line-voiced (node c.And a b) h = (part-voiced a h.0, item-voiced b h.1)
  line-voiced (node c.Or a b) h = (line-voiced a h.0, part-voiced b h.1)
  line-voiced (node c.AndNot a b) h = (part-voiced a h.0, item-voiced b h.1)
  line-voiced (threshold n qs) h = lines-voiced qs h.1

  part-voiced : (q : Query) → PartFits (typed q).part → Voiced q
  part-voiced (leaf f) h = h.some-list
  part-voiced (node c.And a b) h = (part-voiced a h.0, item-voiced b h.1)
  part-voiced (node c.Or a b) h = (line-voiced a h.0, part-voiced b h.1)
  part-voiced (node c.AndNot a b) h = (part-voiced a h.0, item-voiced b h.1)
  part-voiced (threshold n qs) h = lines-voiced qs h.1

  item-voiced : (q : Query) → ItemFits (typed q).item → Voiced q
  item-voiced (leaf f) h = h.some-list
  item-voiced (node c.And a b) h = (part-voiced a h.0, item-voiced b h.1)
  item-voiced (node c.Or a b) h = (line-voiced a h.0, part-voiced b h.1)
  item-voiced (node c.AndNot a b) h = (part-voiced a h.0, item-voiced b h.1)
  item-voiced (threshold n qs) h = lines-voiced qs h.1

  lines-voiced : (qs : Queries) → LinesFit (typed_lines qs) → AllVoiced qs
  lines-voiced empty h = tt
  lines-voiced (push qs q) h = (lines-voiced qs h.0, line-voiced q h.1)

module _ (v p : List ℕ) (ok : Accepted v p) where
  -- it has a row
  pub plan-some : 1 ≤ row_count p
  plan-some = (given v p ok).some-rows

  -- its rows are those of its tree
  plan-end : TreeEnd p (row_count p - 1) [] (query_of (rows_of p))
  unfolding plan_line stack_rows
  plan-end = record {
    rows = rows_back p (row_count p) (rows_of p) plan-some refl ∙ sym (plan-tree (list_count v) p (verdict-passed v p (sizes p) ok));
    voiced = line-voiced (query_of (rows_of p)) (accepted-line v p ok).fits;
  }

  -- there is room for its line
  pub plan-room : (end : ℕ) → length (plan_text p) ≤ end → TreeRoom p (row_count p - 1) level.Line end
  unfolding plan_text plan_line
  plan-room end h = let s = plan-some in record {
    formed = record { inside = omega arith; formed = (given v p ok).formed };
    rest = [];
    tree = query_of (rows_of p);
    ends = plan-end;
    room = h;
  }

  -- which is no longer than a line may be
  pub plan-short : length (plan_text p) ≤ 2048
  plan-short = let h = (accepted-line v p ok).short in omega arith

  -- what is stored is its line
  pub plan-put : {out : List ℕ} {end : ℕ} {out' : List ℕ} {r : Back} → TreePut p (row_count p - 1) level.Line out end out' r
      → PutBack (plan_text p) out end out' r.at
  unfolding plan_text plan_line
  plan-put h = (h.all [] (query_of (rows_of p)) plan-end).put

module _ (p out : List ℕ) where
  -- there is no room
  pub line-short : length out < length (plan_text p) → LineWritten p out (Err writeError.Short) out
  unfolding laid
  line-short h = let e = lt-ltb (length out) (length (plan_text p)) h in record { said = rw e; bytes = rw e }

  -- the line is written
  pub line-whole : {out' : List ℕ} {n at : ℕ} → n ≡ length (plan_text p) → n ≤ length out → PutBack (plan_text p) out n out' at
      → LineWritten p out (Ok n) out'
  unfolding laid
  line-whole {out'} {n} {at} e h w =
      let f = le-ltb (length out) (length (plan_text p)) (omega arith) in
      let g = w.ends in
      let z : at ≡ 0 = omega arith in
      record {
        said = rw (f, e);
        bytes = rw f (w.stored ∙ ap (λ (k : ℕ). stored_bytes out k (plan_text p)) z ∙ stored-front (plan_text p) out (omega arith));
      }

-- the call
module _ (v p out : List ℕ) where
  -- the volume or the plan is refused
  pub write-refused : (why : Refusal) → verdict v p ≡ said_refusal why
      → (said_written (Err (writeError.Refused why)) ≡ write_answer v p (length out)) × (out ≡ write_out v p out)
  unfolding write_answer write_out laid
  write-refused why e = (rw e, rw e)

  -- the plan is accepted
  pub write-whole : {z : Sizes} → verdict v p ≡ answered z → {r : Result ℕ WriteError} {out' : List ℕ} → LineWritten p out r out'
      → (said_written r ≡ write_answer v p (length out)) × (out' ≡ write_out v p out)
  unfolding write_answer write_out
  write-whole e w = (rw e w.said, rw e w.bytes)
