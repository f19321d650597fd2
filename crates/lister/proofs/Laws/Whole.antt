-- The texts of all turns are what is printed, and the bytes read of the two files are enough. No contract cites this file.
--     turns-rest     the turns from a document on print what is left from there on
--     all_turns      all turns print the whole
--     Along, along   turns that have come to a document over an accepted plan: the sum, and the lines so far
--     whole          what turns have printed and what is still to come are together the whole
--     seen           what is printed is known from the front of each file
-- Assumes nothing.
use Prim.Native.Nat.{ℕ, zero, suc, ◌+◌, ◌-◌, ◌/◌, ◌<◌, ◌≤◌}
use native.Mathlib.Omega.{arith}
use mathlib.Core.Path.{◌≡◌, refl, sym, ap, ap₂, ◌∙◌}
use mathlib.Core.Logic.{⊎_elim}
use mathlib.Core.List.{List, [], ◌∷◌, ◌++◌, map, map-append, append_assoc, append-nil}
use lib.ListN.{length, take, length-take}
use lib.Seq.{take_all}
use borrow.Author.Tests.{lt-ltb, le-ltb}
use Rattle.seq.specs.Lists.{joined}
use Rattle.seq.specs.Refusals.{Said, refused, answered}
use Rattle.seq.proofs.Laws.Tests.{below_or}
use Rattle.seq.proofs.Laws.Lists.{joined_append}
use Rattle.plan.specs.declared.answers.Sizes.{Sizes}
use Rattle.plan.specs.Check.{verdict, sizes, Accepted}
use Rattle.plan.proofs.Laws.Check.{verdict-sizes}
use Rattle.plan.proofs.Laws.Accepted.{given}
use Rattle.fulltext.specs.Positions.{limit}
use Rattle.fulltext.specs.Documents.{Work, docs_in, work}
use Rattle.search.specs.Answers.{Next, done, more, Page}
use Rattle.search.specs.Listing.{page_of, list_answer}
use Rattle.fulltext.proofs.Laws.Docs.{docs-parts, docs-empty}
use Rattle.fulltext.proofs.Laws.Counts.{work_add, work_none}
use Rattle.search.proofs.Laws.Listing.{accepted-answer}
use Rattle.lister.specs.Text.{line, scene_word, done_word, refused_word, too_long}
use Rattle.lister.specs.Printed.{plan_words, doc_lines, listing, printed}
use Rattle.lister.specs.Turns.{Turn, turn_of, only, up_to, turn_by, list_turn, turn_at, onward, text_from, Came, at_start, and_turn}
use Rattle.lister.proofs.Laws.Files.{words_long}
use Rattle.lister.proofs.Laws.Pages.{blank, sized, at_done, at_more, width_is, list-refused, turn-long, turn-short}

-- the lines of documents in two parts
lines_append : (w : Work) (ds es : List ℕ) → doc_lines w (ds ++ es) ≡ doc_lines w ds ++ doc_lines w es
unfolding doc_lines
lines_append w ds es =
    ap joined (map-append (λ d. line scene_word (w.row_of d)) ds es)
    ∙ joined_append (map (λ d. line scene_word (w.row_of d)) ds) (map (λ d. line scene_word (w.row_of d)) es)

-- the plan of a file over a volume
abbrev work_at : List ℕ → List ℕ → Work
work_at v b = work v (plan_words b)

-- what is printed from document d on
abbrev rest_from : Work → ℕ → List ℕ
rest_from w d = doc_lines w (docs_in w d limit) ++ line done_word (w.postings 0 limit ∷ [])

-- the texts of a turn and of those behind it
abbrev and_then : Turn → (ℕ → ℕ → List ℕ) → List ℕ
and_then t rest = t.text ++ onward t.next (λ next. rest next t.tally)

text-step : (v b : List ℕ) (n from tally : ℕ) (t : Turn) → turn_at v b from tally ≡ t → text_from v b (suc n) from tally ≡ and_then t (text_from v b n)
unfolding text_from
text-step v b n from tally t e = ap (λ (t : Turn). and_then t (text_from v b n)) e

-- a turn with nothing behind it
text-only : (v b : List ℕ) (n from tally : ℕ) (text : List ℕ) → turn_at v b from tally ≡ only text tally → text_from v b (suc n) from tally ≡ text
text-only v b n from tally text e = text-step v b n from tally (only text tally) e ∙ append-nil text

-- the turn of a page
turn-answered : (v b : List ℕ) (from tally : ℕ) (page : Page) → length v ≤ 65536 → list_answer v (plan_words b) from (length blank) ≡ answered page
    → turn_at v b from tally ≡ turn_by (answered page) (work_at v b) from tally
unfolding list_turn
turn-answered v b from tally page h e =
    turn-short v b from tally h ∙ ap (λ (a : Said Page). turn_by a (work_at v b) from tally) (ap (list_answer v (plan_words b) from) (sym sized) ∙ e)

-- an accepted volume and plan: a page takes a row, so no call is refused
page-answered : (v p : List ℕ) → Accepted v p → (from : ℕ) → from < limit → (page : Page) × (list_answer v p from (length blank) ≡ answered page)
page-answered v p ok from h =
    let few = (given v p ok).width in
    let wide = width_is v p (sizes p) ok in
    let size = sized in
    (page_of (work v p) from (length blank / (work v p).width), (accepted-answer v p from blank (sizes p) ok (omega arith) (omega arith)).0)

-- a turn that starts at document `from` with the tallies up to there
module _ (v b : List ℕ) (from tally n : ℕ) (e : tally ≡ (work_at v b).postings 0 from) where
  -- the tallies up to document t
  sum : (t k : ℕ) → from ≤ t → k ≡ (work_at v b).postings from t → tally + k ≡ (work_at v b).postings 0 t
  sum t k m q = let a = work_add v (plan_words b) 0 from t (omega arith) m in omega arith

  -- the lines up to document t, and from there on
  parts : (t : ℕ) → from ≤ t → t ≤ limit → doc_lines (work_at v b) (docs_in (work_at v b) from t) ++ rest_from (work_at v b) t ≡ rest_from (work_at v b) from
  parts t m u =
      sym (append_assoc (doc_lines (work_at v b) (docs_in (work_at v b) from t)) (doc_lines (work_at v b) (docs_in (work_at v b) t limit)) (line done_word ((work_at v b).postings 0 limit ∷ [])))
      ∙ ap (λ (xs : List ℕ). xs ++ line done_word ((work_at v b).postings 0 limit ∷ []))
      (sym (lines_append (work_at v b) (docs_in (work_at v b) from t) (docs_in (work_at v b) t limit)) ∙ ap (doc_lines (work_at v b)) (sym (docs-parts (work_at v b) from t limit m u)))

  -- the text of its page and of the turns behind it, where those print what is left
  page-rest : ((t s : ℕ) → from < t → t < limit → s ≡ (work_at v b).postings 0 t → text_from v b n t s ≡ rest_from (work_at v b) t)
      → from ≤ limit → (page : Page) → list_answer v (plan_words b) from (length blank) ≡ answered page → (next : Next) → page.next ≡ next
      → and_then (turn_of (doc_lines (work_at v b) (docs_in (work_at v b) from (up_to next))) (tally + page.tally) next) (text_from v b n) ≡ rest_from (work_at v b) from
  page-rest rest h page a done q =
      append-nil (doc_lines (work_at v b) (docs_in (work_at v b) from limit) ++ line done_word ((tally + page.tally) ∷ []))
      ∙ ap (λ (k : ℕ). doc_lines (work_at v b) (docs_in (work_at v b) from limit) ++ line done_word (k ∷ []))
      (sum limit page.tally h (at_done v (plan_words b) from blank page a q).postings)
  page-rest rest h page a (more t) q =
      let later = at_more v (plan_words b) from blank page a t q in
      let m : from < t = later.later in
      ap (λ (xs : List ℕ). doc_lines (work_at v b) (docs_in (work_at v b) from t) ++ xs)
      (rest t (tally + page.tally) m later.below (sum t page.tally (omega arith) later.postings))
      ∙ parts t (omega arith) (omega (arith, later.below))

module _ (v b : List ℕ) (short : length v ≤ 65536) (ok : Accepted v (plan_words b)) where
  turns-rest : (n from tally : ℕ) → from < limit → limit - from ≤ n → tally ≡ (work_at v b).postings 0 from → text_from v b n from tally ≡ rest_from (work_at v b) from
  turns-rest zero from tally h l e = absurd (omega arith)
  turns-rest (suc n) from tally h l e =
      let got = page-answered v (plan_words b) ok from h in
      text-step v b n from tally (turn_by (answered got.0) (work_at v b) from tally) (turn-answered v b from tally got.0 short got.1)
      ∙ page-rest v b from tally n e (λ t s m u q. turns-rest n t s u (omega arith) q) (omega arith) got.0 got.1 got.0.next refl

-- what is printed of a volume that is not too long
pub printed-short : (v b : List ℕ) (said : Said Sizes) → length v ≤ 65536 → verdict v (plan_words b) ≡ said → printed v b ≡ listing said (work_at v b)
unfolding printed
printed-short v b said h e = rw (le-ltb 65536 (length v) h, e)

printed-long : (v b : List ℕ) → 65536 < length v → printed v b ≡ too_long
unfolding printed
printed-long v b h = rw (lt-ltb 65536 (length v) h)

-- all turns print the whole
all_turns : (v b : List ℕ) → text_from v b limit 0 0 ≡ printed v b
all_turns v b =
    ⊎_elim
    (λ h. text-only v b 65535 0 0 too_long (turn-long v b 0 0 h) ∙ sym (printed-long v b h))
    (λ h. by-verdict h (verdict v (plan_words b)) refl)
    (below_or 65536 (length v))
  where
    by-verdict : length v ≤ 65536 → (said : Said Sizes) → verdict v (plan_words b) ≡ said → text_from v b limit 0 0 ≡ printed v b
    by-verdict h (refused n q) e =
        text-only v b 65535 0 0 (line refused_word (n ∷ q ∷ [])) (turn-short v b 0 0 h ∙ list-refused v (plan_words b) 0 0 n q e)
        ∙ sym (printed-short v b (refused n q) h e)
    by-verdict h (answered s) e =
        turns-rest v b h (e ∙ ap answered (verdict-sizes v (plan_words b) s e)) limit 0 0 (omega arith) (omega arith) (sym (work_none v (plan_words b) 0))
        ∙ sym (printed-short v b (answered s) h e)

-- the turn that has another behind it
next-is : (lines : List ℕ) (sum : ℕ) (next : Next) → (turn_of lines sum next).next ≡ next
next-is lines sum done = refl
next-is lines sum (more t) = refl

not_more : (t : ℕ) → done ≡ more t → ⊥
not_more t e = let z : ◌≡◌ {A = ℕ} 0 1 = cc in omega arith

lines_none : (w : Work) (d : ℕ) → doc_lines w (docs_in w d d) ≡ []
unfolding doc_lines joined
lines_none w d = ap (doc_lines w) (docs-empty w d)

-- turns that have come to document `from` over an accepted plan
record Along (v b texts : List ℕ) (from tally : ℕ) : Type 0 where
  low : from < limit
  sums : tally ≡ (work_at v b).postings 0 from
  lines : texts ≡ doc_lines (work_at v b) (docs_in (work_at v b) 0 from)

module _ (v b : List ℕ) (short : length v ≤ 65536) (ok : Accepted v (plan_words b)) where
  -- one turn more
  along-next : (texts : List ℕ) (from tally next : ℕ) → Along v b texts from tally → (turn_at v b from tally).next ≡ more next
      → Along v b (texts ++ (turn_at v b from tally).text) next (turn_at v b from tally).tally
  along-next texts from tally next a e =
      let later = at_more v (plan_words b) from blank page answer next is-more in
      let m : from < next = later.later in
      record {
        low = later.below;
        sums = ap (λ (t : Turn). t.tally) turn_is ∙ sum v b from tally 0 a.sums next page.tally (omega arith) later.postings;
        lines =
            ap₂ (λ (xs ys : List ℕ). xs ++ ys) a.lines (ap (λ (t : Turn). t.text) turn_is)
            ∙ sym (lines_append (work_at v b) (docs_in (work_at v b) 0 from) (docs_in (work_at v b) from next))
            ∙ ap (doc_lines (work_at v b)) (sym (docs-parts (work_at v b) 0 from next (omega arith) (omega arith)));
      }
    where
      page : Page
      page = (page-answered v (plan_words b) ok from a.low).0

      answer : list_answer v (plan_words b) from (length blank) ≡ answered page
      answer = (page-answered v (plan_words b) ok from a.low).1

      lined : turn_at v b from tally ≡ turn_of (doc_lines (work_at v b) (docs_in (work_at v b) from (up_to page.next))) (tally + page.tally) page.next
      lined = turn-answered v b from tally page short answer

      is-more : page.next ≡ more next
      is-more = sym (next-is _ _ page.next) ∙ sym (ap (λ (t : Turn). t.next) lined) ∙ e

      turn_is : turn_at v b from tally ≡ turn_of (doc_lines (work_at v b) (docs_in (work_at v b) from next)) (tally + page.tally) (more next)
      turn_is = lined ∙ ap (λ (x : Next). turn_of (doc_lines (work_at v b) (docs_in (work_at v b) from (up_to x))) (tally + page.tally) x) is-more

  along : (texts : List ℕ) (from tally : ℕ) → Came v b texts from tally → Along v b texts from tally
  along texts from tally at_start = record { low = omega arith; sums = sym (work_none v (plan_words b) 0); lines = sym (lines_none (work_at v b) 0) }
  along texts from tally (and_turn ts f s next c e) = along-next ts f s next (along ts f s c) e

-- where no turn has another behind it there is the first alone
alone : (v b : List ℕ) → ((from tally : ℕ) → (turn_at v b from tally).next ≡ done) → (texts : List ℕ) (from tally : ℕ) → Came v b texts from tally
    → texts ++ text_from v b limit from tally ≡ text_from v b limit 0 0
alone v b none texts from tally at_start = refl
alone v b none texts from tally (and_turn ts f s next c e) = absurd (not_more next (sym (none f s) ∙ e))

pub whole : (v b texts : List ℕ) (from tally : ℕ) → Came v b texts from tally → texts ++ text_from v b limit from tally ≡ printed v b
whole v b texts from tally c =
    ⊎_elim
    (λ h. alone v b (λ f s. ap (λ (t : Turn). t.next) (turn-long v b f s h)) texts from tally c ∙ all_turns v b)
    (λ h. by-verdict h (verdict v (plan_words b)) refl)
    (below_or 65536 (length v))
  where
    by-verdict : length v ≤ 65536 → (said : Said Sizes) → verdict v (plan_words b) ≡ said → texts ++ text_from v b limit from tally ≡ printed v b
    by-verdict h (refused n q) e =
        alone v b (λ f s. ap (λ (t : Turn). t.next) (turn-short v b f s h ∙ list-refused v (plan_words b) f s n q e)) texts from tally c ∙ all_turns v b
    by-verdict h (answered s) e =
        let ok : Accepted v (plan_words b) = e ∙ ap answered (verdict-sizes v (plan_words b) s e) in
        let a = along v b h ok texts from tally c in
        let l : from < limit = a.low in
        ap₂ (λ (xs ys : List ℕ). xs ++ ys) a.lines (turns-rest v b h ok limit from tally l (omega arith) a.sums)
        ∙ parts v b 0 0 0 (sym (work_none v (plan_words b) 0)) from (omega arith) (omega arith)
        ∙ sym (printed-short v b (answered s) h e)

-- a plan file is known from its first 1,025 bytes
words-seen : (b : List ℕ) (m : ℕ) → 1024 < m → plan_words (take m b) ≡ plan_words b
words-seen b m h =
    ⊎_elim
    (λ (l : 1024 < length b). let a = length-take m b in words_long (take m b) (omega arith) ∙ sym (words_long b l))
    (λ (l : length b ≤ 1024). ap plan_words (take_all m b (omega arith)))
    (below_or 1024 (length b))

files-seen : (v b : List ℕ) (k m : ℕ) → 65536 < k → 1024 < m → printed (take k v) (take m b) ≡ printed v b
files-seen v b k m h u =
    ⊎_elim
    (λ (l : 65536 < length v). let a = length-take k v in printed-long (take k v) (take m b) (omega arith) ∙ sym (printed-long v b l))
    (λ (l : length v ≤ 65536). ap (λ (xs : List ℕ). printed xs (take m b)) (take_all k v (omega arith)) ∙ same l)
    (below_or 65536 (length v))
  where
    same : length v ≤ 65536 → printed v (take m b) ≡ printed v b
    same l =
        printed-short v (take m b) (verdict v (plan_words (take m b))) l refl
        ∙ ap (λ (p : List ℕ). listing (verdict v p) (work v p)) (words-seen b m u)
        ∙ sym (printed-short v b (verdict v (plan_words b)) l refl)

pub seen : (v b : List ℕ) → printed (take 65537 v) (take 1025 b) ≡ printed v b
seen v b = files-seen v b 65537 1025 (omega arith) (omega arith)
