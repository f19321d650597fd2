-- The table of `specs/Cases.antt`, computed. No contract cites this file.
-- The sample's lists have no posting from document 3 on, so no document there is true of an accepted plan (`skip`): the true documents from a start on
-- are those below 3.
--     plan-verdict, sample-work     the verdict on a plan over the sample volume, and what is searched, by the sample's lists
--     none-later, docs-early        no posting from document 3 on, and no true document
--     listed-quick, print-quick     listing, and what is printed, by the documents below 3
--     told-quick                    what the definitions say to each question, by the documents below 3
--     starred                       the table
-- Assumes nothing.
use Prim.Native.Nat.{ℕ, zero, suc, ◌/◌, ◌<◌, ◌≤◌}
use native.Mathlib.Omega.{arith}
use mathlib.Core.Path.{◌≡◌, refl, sym, ap, ap₂, ◌∙◌, fun_ext}
use mathlib.Core.Bool.{false, cond}
use mathlib.Core.Logic.{⊎_elim}
use mathlib.Core.List.{List, [], ◌∷◌, ◌++◌, map, append-nil}
use lib.ListN.{length}
use lib.Dec.{ltb}
use Rattle.seq.specs.Lists.{keep, all, total, joined}
use Rattle.seq.specs.Numbers.{first_from, run}
use Rattle.seq.specs.Refusals.{Said, refused, answered, laid}
use Rattle.seq.proofs.Laws.Tests.{below_or}
use Rattle.seq.proofs.Laws.Totals.{total_ext}
use Rattle.block.specs.Checksum.{sum_a, sum_b}
use Rattle.volume.specs.Write.{volume_of, written, blocks_from, sealed, block_body, word_bytes}
use Rattle.volume.specs.Demands.{sample_lists}
use Rattle.volume.proofs.Demands as volume
use Rattle.plan.specs.declared.answers.Sizes.{Sizes}
use Rattle.plan.specs.Rows.{row_at, rows_of, misused, form_wrong}
use Rattle.plan.specs.State.{after_all, state_at, step}
use Rattle.plan.specs.Patterns.{patterns_from, answers_from, answer, vars_of}
use Rattle.plan.specs.Check.{length_wrong, row_wrong, row_fault, rows_wrong, unfinished, sizes, rows_verdict, plan_verdict, verdict_by, verdict, Accepted}
use Rattle.plan.proofs.Laws.CheckFirst.{check_sound}
use Rattle.fulltext.specs.Positions.{limit, list_of, positions_in, count_in}
use Rattle.fulltext.specs.Matches.{holds, with_each, tuples, matches, least_in}
use Rattle.fulltext.specs.Documents.{found, matching, row_in, postings_in, Work, work_of, docs_in, rows_of_docs, work}
use Rattle.search.specs.Answers.{Page}
use Rattle.seq.specs.Pages.{portion}
use Rattle.search.specs.Listing.{page_by, page_of, rows_from, list_by, list_answer, list_out}
use Rattle.lister.specs.Text.{line, done_word, refused_word}
use Rattle.lister.specs.Printed.{plan_words, doc_lines, listing, printed}
use Rattle.lister.specs.Cases.{sample, file_of, untouched, Question, zero_bytes, list, print, Result, listed, text, told, Case, table}
use Rattle.lister.specs.Demands.{Cases}
use Rattle.fulltext.proofs.Laws.Docs.{docs-parts, docs-none}
use Rattle.fulltext.proofs.Laws.Skips.{skip}
use Rattle.lister.proofs.Laws.Whole.{printed-short}

-- a list of the sample has no posting from document 3 on
list-later : (l : ℕ) → count_in 3 limit (list_of sample_lists l) ≡ 0
unfolding count_in keep
list-later zero = refl
list-later (suc zero) = refl
list-later (suc (suc zero)) = refl
list-later (suc (suc (suc l))) = refl

-- the answer to listing where the verdict on the plan, what is searched and the true documents that remain are known
abbrev answer_by : Said Sizes → Work → List ℕ → ℕ → ℕ → Said Page
answer_by (refused n q) w remain start room = refused n q
answer_by (answered s) w remain start room =
    let m = room / w.width in
    cond (ltb 65535 start) (refused 15 0) (cond (ltb room w.width) (refused 16 0) (answered (page_by w start (portion m remain))))

answer_by_lem : (s : Said Sizes) (w : Work) (start room : ℕ) → list_by s w start room ≡ answer_by s w (docs_in w start limit) start room
unfolding page_of
answer_by_lem (refused n q) w start room = refl
answer_by_lem (answered s) w start room = refl

-- and the buffer
abbrev listed_by : Said Sizes → Work → List ℕ → ℕ → List ℕ → Result
listed_by s w remain start out =
    let a = answer_by s w remain start (length out) in
    listed s a (laid a (rows_of_docs w (portion (length out / w.width) remain).written) out)

-- a plan over the sample volume
module _ (p : List ℕ) where
  abbrev works : Work
  works = work_of sample_lists (rows_of p)

  plan-verdict : verdict sample p ≡ plan_verdict 3 p
  unfolding verdict
  plan-verdict = ap (λ s. verdict_by s p) (volume.sample).checks

  sample-work : work sample p ≡ works
  unfolding work
  sample-work = ap (λ lists. work_of lists (rows_of p)) (volume.sample).reads

  none-later : (work sample p).postings 3 limit ≡ 0
  unfolding total postings_in work_of
  none-later =
      ap (λ (w : Work). w.postings 3 limit) sample-work
      ∙ total_ext (λ l. count_in 3 limit (list_of sample_lists l)) (λ l. 0) (vars_of (rows_of p)) list-later
      ∙ zeros (vars_of (rows_of p))
    where
      zeros : (ls : List ℕ) → total (λ l. 0) ls ≡ 0
      zeros [] = refl
      zeros (l ∷ ls) = let e = zeros ls in omega arith

  -- the true documents that remain are below 3
  docs-early : Accepted sample p → (start : ℕ) → docs_in (work sample p) start limit ≡ docs_in (work sample p) start 3
  docs-early ok start =
      ⊎_elim (λ (h : start < 3). docs-parts w start 3 limit (omega arith) (omega arith) ∙ ap (λ (ds : List ℕ). docs_in w start 3 ++ ds) (docs-none w 3 limit untrue) ∙ append-nil (docs_in w start 3))
      (λ (h : 3 ≤ start). docs-none w start limit (λ j a b. untrue j (omega arith) b) ∙ sym (docs-none w start 3 (λ j a b. absurd (let z : ⊥ = omega arith in z))))
      (below_or start 3)
    where
      w : Work
      w = work sample p

      untrue : (d : ℕ) → 3 ≤ d → d < limit → w.is_true d ≡ false
      untrue = skip sample p ok 3 limit none-later

  -- where the plan is refused they do not matter
  listed-early : (start : ℕ) (out : List ℕ)
      → listed_by (verdict sample p) (work sample p) (docs_in (work sample p) start limit) start out ≡ listed_by (verdict sample p) (work sample p) (docs_in (work sample p) start 3) start out
  unfolding laid
  listed-early start out = ⊎_elim (λ (ok : Accepted sample p). rw (docs-early ok start)) (λ r. rw r.2) (check_sound sample p).total

  listed-quick : (start n : ℕ) → told (list p start n) ≡ listed_by (plan_verdict 3 p) works (docs_in works start 3) start (untouched n)
  unfolding rows_from list_answer list_out
  listed-quick start n =
      ap (λ (a : Said Page). listed (verdict sample p) a (laid a (rows_from (work sample p) start (length (untouched n) / (work sample p).width)) (untouched n)))
      (answer_by_lem (verdict sample p) (work sample p) start (length (untouched n)))
      ∙ listed-early start (untouched n)
      ∙ ap₂ (λ (s : Said Sizes) (w : Work). listed_by s w (docs_in w start 3) start (untouched n)) plan-verdict sample-work

-- the text where the verdict on the plan, what is searched and the true documents are known
abbrev text_by : Said Sizes → Work → List ℕ → List ℕ
text_by (refused n q) w ds = line refused_word (n ∷ q ∷ [])
text_by (answered s) w ds = doc_lines w ds ++ line done_word (w.postings 0 limit ∷ [])

text_by_lem : (s : Said Sizes) (w : Work) → listing s w ≡ text_by s w (docs_in w 0 limit)
text_by_lem (refused n q) w = refl
text_by_lem (answered s) w = refl

sample-length : length sample ≡ 512
unfolding volume_of written blocks_from joined sealed block_body word_bytes run
sample-length = refl

text-early : (p : List ℕ) → text_by (verdict sample p) (work sample p) (docs_in (work sample p) 0 limit) ≡ text_by (verdict sample p) (work sample p) (docs_in (work sample p) 0 3)
text-early p = ⊎_elim (λ (ok : Accepted sample p). rw (docs-early p ok 0)) (λ r. rw r.2) (check_sound sample p).total

print-quick : (b : List ℕ) → printed sample b ≡ text_by (plan_verdict 3 (plan_words b)) (works (plan_words b)) (docs_in (works (plan_words b)) 0 3)
print-quick b =
    printed-short sample b (verdict sample (plan_words b)) (let n = sample-length in omega arith) refl
    ∙ text_by_lem (verdict sample (plan_words b)) (work sample (plan_words b))
    ∙ text-early (plan_words b)
    ∙ ap₂ (λ (s : Said Sizes) (w : Work). text_by s w (docs_in w 0 3)) (plan-verdict (plan_words b)) (sample-work (plan_words b))

-- what is said to each question, by the documents below 3
abbrev quick : Question → Result
quick (zero_bytes n) = told (zero_bytes n)
quick (list p start n) = listed_by (plan_verdict 3 p) (works p) (docs_in (works p) start 3) start (untouched n)
quick (print p) = let words = plan_words (file_of p) in text (text_by (plan_verdict 3 words) (works words) (docs_in (works words) 0 3))

told-quick : (q : Question) → told q ≡ quick q
told-quick (zero_bytes n) = refl
told-quick (list p start n) = listed-quick p start n
told-quick (print p) = ap text (print-quick (file_of p))

pub starred : Cases
unfolding
    keep all total joined first_from run laid sum_a sum_b
    row_at misused form_wrong after_all state_at step patterns_from answers_from answer length_wrong row_wrong row_fault rows_wrong unfinished sizes rows_verdict plan_verdict
    positions_in count_in holds with_each tuples matches least_in found matching row_in vars_of postings_in work_of docs_in rows_of_docs plan_words doc_lines table Cases
starred = ap (λ (f : Question → Result). map (λ (c : Case). f c.asked) table) (fun_ext told-quick)
