-- The laws of `specs/Read.antt`: the answer of reading a list, and the buffer afterwards. No contract cites this file.
--     read-volume              the volume is refused
--     read_none, read_short    there is no such list; the buffer is too short
--     read_answer_lem          the number of postings
--     read_kept, read-laid     the buffer after a refusal, and after an answer
-- Assumes nothing.
use Prim.Native.Nat.{ℕ, ◌<◌, ◌≤◌}
use mathlib.Core.Path.{◌≡◌, ap, ◌∙◌}
use mathlib.Core.List.{List, ◌++◌}
use lib.ListN.{length, drop}
use borrow.Author.Tests.{lt-ltb, le-ltb, le-leb, lt-leb}
use Rattle.seq.specs.Refusals.{refused, answered}
use Rattle.seq.proofs.Laws.Numbers.{length_run}
use Rattle.seq.proofs.Laws.Refusals.{laid-refused, laid-answered}
use Rattle.volume.specs.declared.answers.Refusal.{Refusal}
use Rattle.volume.specs.Answers.{Sizes, said_refusal}
use Rattle.volume.specs.Layout.{word, start, count, postings_of}
use Rattle.volume.specs.Check.{verdict}
use Rattle.volume.specs.Read.{read_answer, read_out}

module _ (v : List ℕ) (i : ℕ) where
  pub read-volume : (room : ℕ) (why : Refusal) → said_refusal {A = Sizes} why ≡ verdict v → said_refusal {A = ℕ} why ≡ read_answer v i room
  unfolding read_answer
  read-volume room why e = rw (← e)

  pub read_none : (room : ℕ) (s : Sizes) → verdict v ≡ answered s → s.lists ≤ i → read_answer v i room ≡ refused 17 0
  unfolding read_answer
  read_none room s e h = rw (e, le-leb s.lists i h)

  pub read_short : (room : ℕ) (s : Sizes) → verdict v ≡ answered s → i < s.lists → room < count v i → read_answer v i room ≡ refused 16 0
  unfolding read_answer
  read_short room s e h k = rw (e, lt-leb s.lists i h, lt-ltb room (count v i) k)

  pub read_answer_lem : (room : ℕ) (s : Sizes) → verdict v ≡ answered s → i < s.lists → count v i ≤ room → read_answer v i room ≡ answered (count v i)
  unfolding read_answer
  read_answer_lem room s e h k = rw (e, lt-leb s.lists i h, le-ltb room (count v i) k)

  pub read_kept : (out : List ℕ) (n p : ℕ) → read_answer v i (length out) ≡ refused n p → read_out v i out ≡ out
  unfolding read_out
  read_kept out n p e = laid-refused (read_answer v i (length out)) n p (postings_of v i) out e

  pub read-laid : (out : List ℕ) (n : ℕ) → read_answer v i (length out) ≡ answered n → read_out v i out ≡ postings_of v i ++ drop (count v i) out
  unfolding read_out
  read-laid out n e = laid-answered (read_answer v i (length out)) n (postings_of v i) out e ∙ ap (λ (m : ℕ). postings_of v i ++ drop m out) (length_run (word v) (start v i) (count v i))
