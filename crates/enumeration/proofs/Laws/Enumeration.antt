-- Every enumeration, whole: the sister of demand 3. No contract cites this file.
--     From              what holds of the calls of an enumeration from a tuple on
--     from_enumeration  it holds of all
--     every_enumeration            what holds of every enumeration of a pattern in a document, in every form of answer that tells what the call answers
-- Assumes nothing.
use Prim.Native.Nat.{ℕ, ◌+◌, ◌*◌, ◌<◌, ◌≤◌, max}
use native.Mathlib.Nat.{le-div_iff_mul-le, one-mul}
use native.Mathlib.Omega.{arith}
use mathlib.Core.Path.{◌≡◌, refl, sym, ap, ap₂, ◌∙◌, subst}
use mathlib.Core.Bool.{true, false}
use mathlib.Core.Logic.{⊎_elim}
use mathlib.Core.List.{List, [], ◌∷◌, ◌++◌, append-nil}
use mathlib.Core.Option.{Option, none, some}
use lib.ListN.{length, get_or, take, replicate, length-drop, length-replicate, get_or-replicate, take-append-drop}
use Rattle.seq.specs.Lists.{joined}
use Rattle.seq.specs.Refusals.{Said, refused, answered}
use Rattle.seq.specs.Calls.{Form, Call}
use Rattle.seq.proofs.Laws.Tests.{true_or, contrary}
use Rattle.seq.proofs.Laws.Lists.{joined_append}
use Rattle.seq.proofs.Laws.Calls.{heard_call, Closes, closes-none, closes-refused, closes-last, closes-next}
use Rattle.plan.specs.Check.{Accepted, sizes}
use Rattle.fulltext.specs.Positions.{limit}
use Rattle.fulltext.specs.Order.{precedes}
use Rattle.fulltext.proofs.Laws.Order.{irreflexive, earlier}
use Rattle.matcher.specs.Inner.Shortfall.{InDocument}
use Rattle.enumeration.specs.Answers.{Page, padded}
use Rattle.enumeration.specs.Enumerating.{var_count, matches_of, matches_answer}
use Rattle.enumeration.specs.Enumeration.{Then, IsEnumeration, Outcome, outcome, follow, below, room, SaysDone, EachAnswers}
use Rattle.enumeration.specs.Demands.{EveryEnumeration}
use Rattle.enumeration.proofs.Laws.Pages.{take-padded}
use Rattle.enumeration.proofs.Laws.Matches.{match-sized, match-small, match-later, match_on, match-split, none_before, from-zeros, first-zeros}
use Rattle.enumeration.proofs.Laws.Calls.{Went, short, whole, part, some-vars, went, writes-first, heard-kept, answers}

module _ {A : Type 0} (form : Form Page A) (v p : List ℕ) (ok : Accepted v p) (k d : ℕ) (there : k < (sizes p).patterns) (low : d < limit)
    (tells : (start out : List ℕ) → form.said (form.make (matches_answer v p k d start (length out))) ≡ matches_answer v p k d start (length out)) where
  -- how many variables the pattern has, the matches from a tuple on, and what calls from there on come to
  abbrev n : ℕ
  n = var_count p k

  abbrev left : List ℕ → List (List ℕ)
  left start = matches_of v p k d start

  abbrev comes_to : List ℕ → List (Call A) → Outcome
  comes_to start calls = outcome form n start calls

  -- calls from a tuple on that come to an outcome
  record From (start : List ℕ) (calls : List (Call A)) (o : Outcome) : Type 0 where
    pub onward : (t : List ℕ) → o.reached ≡ some t → (length t ≡ n) × (precedes t start ≡ false)
    pub words : o.words ≡ joined (below o.reached (left start))
    pub each : EachAnswers form v p k d start calls
    pub closes : Closes form (λ (c : Call A). SaysDone form c × (o.reached ≡ none)) (length (left start)) calls

  -- by what the first call says
  told : (c : Call A) (cs : List (Call A)) (start : List ℕ) (said : Said Page) → form.said c.says ≡ said → From start (c ∷ cs) (follow n start said c.back (λ next. comes_to next cs))
      → From start (c ∷ cs) (comes_to start (c ∷ cs))
  told c cs start said e f = subst (λ (o : Outcome). From start (c ∷ cs) o) (sym (ap (λ (x : Said Page). follow n start x c.back (λ next. comes_to next cs)) e)) f

  -- the matches from `start` on that come before what is reached, in two parts at match m
  parts : (start : List ℕ) (m : ℕ) → m < length (left start) → (o : Option (List ℕ)) → ((t : List ℕ) → o ≡ some t → (length t ≡ n) × (precedes t (get_or (left start) m []) ≡ false))
      → below o (left start) ≡ take m (left start) ++ below o (left (get_or (left start) m []))
  parts start m h none f = sym (ap (λ (qs : List (List ℕ)). take m (left start) ++ qs) (match_on v p ok k d start m h) ∙ take-append-drop m (left start))
  parts start m h (some t) f = match-split v p ok k d start m h t (f t refl).0 (f t refl).1

  -- one call, and those behind it
  one_more : (c : Call A) (cs : List (Call A)) → c.says ≡ form.make (form.said c.says)
      → ((t : List ℕ) → length t ≡ n → InDocument t → IsEnumeration form v p k d t cs → From t cs (comes_to t cs))
      → (start : List ℕ) → length start ≡ n → InDocument start → Then n start (form.said c.says) (λ next. IsEnumeration form v p k d next cs) (cs ≡ [])
      → Went n (left start) (heard_call form c) → From start (c ∷ cs) (comes_to start (c ∷ cs))
  one_more c cs made rest start number small then (short l e b) =
      let r = rest start number small (rw e at then) in
      told c cs start (refused 16 0) e
      (record {
        onward = r.onward;
        words = r.words;
        each = ((number, small), (answers form n (left start) c made (short l e b), rw e r.each));
        closes = closes-refused form _ (length (left start)) 16 0 c cs e r.closes;
      })
  one_more c cs made rest start number small then (whole l x e f) =
      told c cs start (answered (record { count = length (left start); next = none })) e
      (record {
        onward = λ t q. absurd (not-reached t q);
        words = append-nil (take (length (left start) * n) c.back) ∙ f;
        each = ((number, small), (answers form n (left start) c made (whole l x e f), rw e (rw e at then)));
        closes = closes-last form _ _ c cs e (length (left start)) (rw e at then) ((length (left start), e), refl);
      })
    where
      not-reached : (t : List ℕ) → none ≡ some t → ⊥
      not-reached t q = let z : ◌≡◌ {A = ℕ} 0 1 = cc in omega arith
  one_more c cs made rest start number small then (part l x e f) =
      told c cs start (answered (record { count = room n c; next = some (padded next) })) e
      (rw behind
      (record {
        onward = λ t q. let a = r.onward t q in (a.0, later t a.0 a.1);
        words =
            ap₂ (λ (xs ys : List ℕ). xs ++ ys) f r.words ∙ sym (joined_append (take (room n c) (left start)) (below (comes_to next cs).reached (left next)))
            ∙ ap joined (sym (parts start (room n c) x (comes_to next cs).reached r.onward));
        each = ((number, small), (answers form n (left start) c made (part l x e f), rw (e, behind) r.each));
        closes = closes-next form _ _ c cs e (length (left start)) (length (left next)) (omega (arith, some-match, fewer)) r.closes;
      }))
    where
      next : List ℕ
      next = get_or (left start) (room n c) []

      -- MORE's words begin with the match
      behind : take n (padded next) ≡ next
      behind = take-padded next n (match-sized v p ok k d start (room n c) x)

      r : From next cs (comes_to next cs)
      r = rest next (match-sized v p ok k d start (room n c) x) (match-small v p ok k d start (room n c) x) (rw (e, behind) at then)

      later : (t : List ℕ) → length t ≡ n → precedes t next ≡ false → precedes t start ≡ false
      later t a b =
          ⊎_elim
          (λ (y : precedes t start ≡ true). absurd (contrary (earlier start t next (omega (arith, match-sized v p ok k d start (room n c) x)) y (match-later v p ok k d start (room n c) x)) b))
          (λ y. y)
          (true_or (precedes t start))

      -- at least one match is written, and those behind are left
      some-match : 1 ≤ room n c
      some-match = (le-div_iff_mul-le (some-vars v p ok k d there low)).1 (rw (one-mul n) l)

      fewer : max 1 (length (left next)) + 1 ≤ length (left start)
      fewer =
          let a = ap length (match_on v p ok k d start (room n c) x) in
          let b = length-drop (room n c) (left start) in
          let s = some-match in
          omega arith

  from_enumeration : (calls : List (Call A)) (start : List ℕ) → length start ≡ n → InDocument start → IsEnumeration form v p k d start calls → From start calls (comes_to start calls)
  unfolding joined
  from_enumeration [] start number small is = record {
    onward = λ t e. (ap length (sym (same start t e)) ∙ number, subst (λ (x : List ℕ). precedes x start ≡ false) (same start t e) (irreflexive start));
    words = sym (ap joined (none_before v p ok k d start));
    each = tt;
    closes = closes-none form _ (length (left start));
  }
    where
      same : (s t : List ℕ) → some s ≡ some t → s ≡ t
      same s t e = cc
  from_enumeration (c ∷ cs) start number small is =
      let heard = heard-kept form v p k d start c (tells start c.lent) is.0 in
      one_more c cs (is.0.0 ∙ ap form.make (sym heard.0)) (λ t a b i. from_enumeration cs t a b i) start number small is.1
      (went v p ok k d there low start number small (heard_call form c) heard)

  pub every_enumeration : EveryEnumeration form v p k d
  every_enumeration = record {
    enumerated = λ start may calls is.
        let f = from_enumeration calls start may.0 may.1 is in
        record { words = f.words; answers = f.each; closes = λ front rest c e l. f.closes front rest c e (omega arith) };
    whole = λ calls is done.
        (from_enumeration calls zeros zeros-number zeros-small is).words
        ∙ ap (λ (o : Option (List ℕ)). joined (below o (left zeros))) done ∙ ap joined (from-zeros v p ok k d n);
    earliest = λ c kept fits ps least. writes-first v p ok k d there low zeros zeros-number zeros-small c.lent c.back ps kept.1 fits (first-zeros v p ok k d n ∙ least);
  }
    where
      zeros : List ℕ
      zeros = replicate (var_count p k) 0

      zeros-number : length zeros ≡ n
      zeros-number = length-replicate {A = ℕ} n 0

      zeros-small : InDocument zeros
      zeros-small x l = let h = zeros-number in let a = get_or-replicate {A = ℕ} n x 0 0 (omega arith) in omega arith
