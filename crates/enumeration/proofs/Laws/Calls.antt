-- One call of an enumeration: the three ways in which it may go, and what follows of its answer. No contract cites this file.
--     some-vars      a pattern has a variable
--     Went, went     the buffer is too short; all matches left are written; as many as fit
--     writes-first   what it writes first
--     heard-kept     a call of any form, as what it says
--     answers        the call answers as it must
-- Assumes nothing.
use Prim.Native.Nat.{ℕ, ◌*◌, ◌/◌, ◌<◌, ◌≤◌}
use native.Mathlib.Nat.{one-mul, le-div_iff_mul-le}
use native.Mathlib.Omega.{arith}
use mathlib.Core.Path.{◌≡◌, sym, ap, ◌∙◌}
use mathlib.Core.Bool.{true, false}
use mathlib.Core.Logic.{⊎_elim}
use mathlib.Core.List.{List, []}
use mathlib.Core.Option.{none, some}
use lib.ListN.{length, get_or, take, drop}
use lib.Seq.{take_at, length-take-le}
use Rattle.seq.specs.Lists.{joined, first}
use Rattle.seq.specs.Refusals.{Said, refused, answered}
use Rattle.seq.specs.Calls.{Form, Call}
use Rattle.seq.proofs.Laws.Tests.{below_or}
use Rattle.seq.proofs.Laws.Decides.{holds}
use Rattle.seq.proofs.Laws.Members.{has_every, every_take, first_has, joined-even}
use Rattle.seq.proofs.Laws.Refusals.{not-both, same_answer}
use Rattle.seq.proofs.Laws.Calls.{heard_call}
use Rattle.plan.specs.Check.{Accepted, sizes}
use Rattle.plan.specs.Accepted.{pattern_at}
use Rattle.plan.proofs.Laws.Accepted.{given}
use Rattle.fulltext.specs.Positions.{limit}
use Rattle.matcher.specs.Testing.{out_of_range}
use Rattle.matcher.specs.Inner.Shortfall.{InDocument}
use Rattle.matcher.proofs.Laws.Range.{range_small}
use Rattle.matcher.proofs.Laws.Testing.{small_decides}
use Rattle.enumeration.specs.Answers.{Page, padded}
use Rattle.enumeration.specs.Enumerating.{var_count, matches_of, words_of, matches_answer, matches_out}
use Rattle.enumeration.specs.Enumeration.{Kept, KeptAs, room, Answers}
use Rattle.enumeration.proofs.Laws.Enumerating.{matched_16, matched-page, out-refused, out-answered}
use Rattle.enumeration.proofs.Laws.Pages.{page-done, page-more, words-done, words_more, first-words}
use Rattle.enumeration.proofs.Laws.Matches.{even}

-- how a call went where these matches of n variables are left
pub data Went (n : ℕ) (qs : List (List ℕ)) (c : Call (Said Page)) : Type 0 where
  short : length c.lent < n → c.says ≡ refused 16 0 → c.back ≡ c.lent → Went n qs c
  whole : n ≤ length c.lent → length qs ≤ room n c → c.says ≡ answered (record { count = length qs; next = none })
      → take (length qs * n) c.back ≡ joined qs → Went n qs c
  part : n ≤ length c.lent → room n c < length qs → c.says ≡ answered (record { count = room n c; next = some (padded (get_or qs (room n c) [])) })
      → take (room n c * n) c.back ≡ joined (take (room n c) qs) → Went n qs c

module _ (v p : List ℕ) (ok : Accepted v p) (k d : ℕ) (there : k < (sizes p).patterns) (low : d < limit) where
  pub some-vars : 1 ≤ var_count p k
  some-vars = ((given v p ok).well-made k there).some-vars

  -- a tuple that may be given
  module _ (start : List ℕ) (number : length start ≡ var_count p k) (small : InDocument start) where
    fine : out_of_range (sizes p).patterns k (pattern_at p k) d start ≡ false
    fine = range_small (sizes p).patterns k (pattern_at p k) d start there number (omega arith) true (holds (small_decides start) small)

    -- a call that keeps its promise goes in one of these ways
    pub went : (c : Call (Said Page)) → Kept v p k d start c → Went (var_count p k) (matches_of v p k d start) c
    went c kept =
        ⊎_elim
        (λ (l : length c.lent < var_count p k).
        let a = matched_16 v p k d start (length c.lent) (sizes p) ok fine l in
        short l (kept.0 ∙ a) (kept.1 ∙ out-refused v p k d start c.lent 16 0 a))
        fitting
        (below_or (length c.lent) (var_count p k))
      where
        n : ℕ
        n = var_count p k

        qs : List (List ℕ)
        qs = matches_of v p k d start

        m : ℕ
        m = length c.lent / var_count p k

        -- the matches at the front of the buffer that comes back
        front : (page : Page) → matches_answer v p k d start (length c.lent) ≡ answered page → (i : ℕ) (rs : List (List ℕ)) → words_of m qs ≡ joined rs → length (joined rs) ≡ i * n → take (i * n) c.back ≡ joined rs
        front page a i rs e l =
            ap (take (i * n)) (kept.1 ∙ out-answered v p k d start c.lent page a)
            ∙ take_at (words_of m qs) (drop (length (words_of m qs)) c.lent) (i * n) (ap length e ∙ l)
            ∙ e

        fitting : var_count p k ≤ length c.lent → Went (var_count p k) (matches_of v p k d start) c
        fitting l =
            let a = matched-page v p k d start (length c.lent) (sizes p) ok fine l in
            ⊎_elim
            (λ (x : m < length qs).
            part l x (kept.0 ∙ a ∙ ap answered (page-more m qs x))
            (front _ a m (take m qs) (words_more m qs) (joined-even n (take m qs) (every_take (λ ps. length ps ≡ n) m qs (even v p ok k d start)) ∙ ap (λ (i : ℕ). i * n) (length-take-le m qs (omega arith)))))
            (λ (x : length qs ≤ m).
            whole l x (kept.0 ∙ a ∙ ap answered (page-done m qs x)) (front _ a (length qs) qs (words-done m qs x) (joined-even n qs (even v p ok k d start))))
            (below_or m (length qs))

    -- where one fits, what it writes first is the first of the matches left
    pub writes-first : (lent back ps : List ℕ) → back ≡ matches_out v p k d start lent → var_count p k ≤ length lent → first (matches_of v p k d start) ≡ some ps → take (var_count p k) back ≡ ps
    writes-first lent back ps e l f =
        let a = matched-page v p k d start (length lent) (sizes p) ok fine l in
        let sized = has_every (λ (q : List ℕ). length q ≡ var_count p k) ps (matches_of v p k d start) (even v p ok k d start) (first_has ps (matches_of v p k d start) f) in
        ap (take (var_count p k)) (e ∙ out-answered v p k d start lent _ a)
        ∙ first-words (var_count p k) (length lent / var_count p k) (matches_of v p k d start) ps _ f sized ((le-div_iff_mul-le some-vars).1 (let z = one-mul (var_count p k) in omega arith))

next-is : (said : Said Page) (a b : Page) → said ≡ answered a → said ≡ answered b → a.next ≡ b.next
next-is said a b e f = ap (λ (q : Page). q.next) (same_answer said a b e f)

not_more : (words : List ℕ) → none ≡ some words → ⊥
not_more words e = let z : ◌≡◌ {A = ℕ} 0 1 = cc in omega arith

same_more : (xs ys : List ℕ) → some xs ≡ some ys → xs ≡ ys
same_more xs ys e = cc

module _ {A : Type 0} (form : Form Page A) where
  -- a call that keeps its promise says what the call answers, if its form tells that
  pub heard-kept : (v p : List ℕ) (k d : ℕ) (start : List ℕ) (c : Call A)
      → form.said (form.make (matches_answer v p k d start (length c.lent))) ≡ matches_answer v p k d start (length c.lent)
      → KeptAs form v p k d start c → Kept v p k d start (heard_call form c)
  heard-kept v p k d start c back kept = (ap form.said kept.0 ∙ back, kept.1)

  -- each way answers as a call of an enumeration must
  pub answers : (n : ℕ) (qs : List (List ℕ)) (c : Call A) → c.says ≡ form.make (form.said c.says) → Went n qs (heard_call form c) → Answers form n qs c
  answers n qs c made (short l e b) = record {
    short = (λ x. l, λ x. (16, 0, e));
    sixteen = λ x. (made ∙ ap form.make e, b);
    says-more = λ words. (λ x. absurd (not-both (form.said c.says) _ 16 0 x.1 e), λ x. let y : n ≤ length c.lent = x.0 in absurd (omega arith));
    says-done = (λ x. absurd (not-both (form.said c.says) _ 16 0 x.1 e), λ x. let y : n ≤ length c.lent = x.0 in absurd (omega arith));
  }
  answers n qs c made (whole l x e f) = record {
    short = (λ y. absurd (not-both (form.said c.says) _ y.0 y.1 e y.2), λ y. absurd (omega arith));
    sixteen = λ y. absurd (not-both (form.said c.says) _ y.0 y.1 e y.2);
    says-more = λ words. (λ y. absurd (not_more words (next-is (form.said c.says) _ _ e y.1)), λ y. let z : room n c < length qs = y.1.0 in absurd (omega arith));
    says-done = (λ y. (l, x), λ y. (length qs, e));
  }
  answers n qs c made (part l x e f) = record {
    short = (λ y. absurd (not-both (form.said c.says) _ y.0 y.1 e y.2), λ y. absurd (omega arith));
    sixteen = λ y. absurd (not-both (form.said c.says) _ y.0 y.1 e y.2);
    says-more = λ words. (
      λ y. (l, (x, same_more _ words (next-is (form.said c.says) _ _ e y.1))),
      λ y. (room n c, e ∙ ap (λ (ws : List ℕ). answered (record { count = room n c; next = some ws })) y.1.1),
    );
    says-done = (λ y. absurd (not_more _ (sym (next-is (form.said c.says) _ _ e y.1))), λ y. let z : length qs ≤ room n c = y.1 in absurd (omega arith));
  }
