-- How a reading ends, in terms of the grammar. No contract cites this file.
--     steps-told, from_start            what is read is the text
--     steps_prefix, steps-same, steps_open     a way has one beginning of each length, one end, and never too many open brackets
--     Stopped, Opened, Wholly           the three ends of a reading: no byte fits, a ninth bracket, a line
--     outcome-told                      a reading ends in one of them
--     text-steps, read-begins, begins-read     what can be read is what lines begin with
--     unambiguous                       a text has one tree
-- Assumes nothing.
use Prim.Native.Nat.{ℕ, suc, ◌+◌, ◌<◌, ◌≤◌}
use native.Mathlib.Omega.{arith}
use mathlib.Core.Path.{◌≡◌, refl, sym, ap, ◌∙◌, subst}
use mathlib.Core.List.{List, [], ◌∷◌, ◌++◌, append_assoc, append-nil}
use mathlib.Core.Option.{Option, none, some}
use lib.Dec.{ltb}
use lib.ListN.{length}
use borrow.Author.Tests.{ltb-true, ltb-false}
use Rattle.grammar.specs.Grammar.{Line, Part, Fits, written, LineText, Begins}
use Rattle.grammar.specs.Brackets.{depth}
use Rattle.grammar.specs.Reading.{Front, Config, ready, inside, after, opened, numbered, start, line_of, step, open_in, Outcome, whole}
use Rattle.grammar.specs.Reading.{broken, deep, finished, continued, outcome, shown}
use Rattle.grammar.proofs.Laws.Reading.{split, Sound, StepTold, step-told, BracketsFit}
use Rattle.grammar.proofs.Laws.Viable.{begins-shown}
use Rattle.grammar.proofs.Laws.Steps.{Steps, line-steps, front_of, last_of, line_again}

-- the text of a way is told behind what stood in front
pub steps-told : (n : ℕ) (c : Config) (s : List ℕ) (d : Config) → Steps n c s d → Sound c → (shown d ≡ shown c ++ s) × Sound d
unfolding Steps
steps-told n c [] d p h = (ap shown (sym p) ∙ sym (append-nil (shown c)), subst Sound p h)
steps-told n c (b ∷ s) d p h =
    let t : StepTold (shown c ++ (b ∷ [])) (some p.0) = subst (StepTold (shown c ++ (b ∷ []))) p.1 (step-told c b h) in
    let r = steps-told n p.0 s d p.3 t.1 in
    (r.0 ∙ ap (λ (l : List ℕ). l ++ s) t.0 ∙ append_assoc (shown c) (b ∷ []) s, r.1)

-- a way is one through each beginning of its text
pub steps_prefix : (n : ℕ) (c : Config) (a r : List ℕ) (e : Config) → Steps n c (a ++ r) e → (d : Config) × Steps n c a d × Steps n d r e
unfolding Steps
steps_prefix n c [] r e p = (c, refl, p)
steps_prefix n c (b ∷ a) r e p = let q = steps_prefix n p.0 a r e p.3 in (q.0, (p.0, p.1, p.2, q.1), q.2)

-- a text leads to one configuration
pub steps-same : (m n : ℕ) (c : Config) (a : List ℕ) (d e : Config) → Steps m c a d → Steps n c a e → d ≡ e
unfolding Steps
steps-same m n c [] d e p q = sym p ∙ q
steps-same m n c (b ∷ a) d e p q =
    let s : p.0 ≡ q.0 = let x = p.1 in let y = q.1 in cc in
    steps-same m n q.0 a d e (subst (λ (z : Config). Steps m z a d) s p.3) q.3

-- never more than n brackets are open
pub steps_open : (n : ℕ) (c : Config) (a : List ℕ) (d : Config) → open_in c ≤ n → Steps n c a d → open_in d ≤ n
unfolding Steps
steps_open n c [] d h p = subst (λ (x : Config). open_in x ≤ n) p h
steps_open n c (b ∷ a) d h p = steps_open n p.0 a d p.2 p.3

-- behind a whole line
abbrev pub Final : Config → Type 0
Final (ready p ps) = ⊥
Final (inside f p ps) = ⊥
Final (after f p []) = Unit
Final (after f p (x ∷ ps)) = ⊥
Final (opened p ps) = ⊥
Final (numbered n p ps) = ⊥

-- nothing of the text can be read, and it is no end
abbrev pub Stops : Config → List ℕ → Type 0
Stops d [] = Final d → ⊥
Stops d (b ∷ r) = step d b ≡ none

-- the reading of s from byte q on stops at byte e
pub record Stopped (c : Config) (q : ℕ) (s : List ℕ) (e : ℕ) : Type 0 where
  pub read : List ℕ
  pub rest : List ℕ
  pub text : read ++ rest ≡ s
  pub at : e ≡ q + length read
  pub there : Config
  pub steps : Steps 8 c read there
  pub stops : Stops there rest

-- it meets a ninth bracket at byte e
pub record Opened (c : Config) (q : ℕ) (s : List ℕ) (e : ℕ) : Type 0 where
  pub read : List ℕ
  pub byte : ℕ
  pub rest : List ℕ
  pub text : read ++ (byte ∷ rest) ≡ s
  pub at : e ≡ q + length read
  pub there : Config
  pub then : Config
  pub steps : Steps 8 c read there
  pub goes : step there byte ≡ some then
  pub ninth : 8 < open_in then

-- it comes to the end of line l
pub record Wholly (c : Config) (s : List ℕ) (l : Line) : Type 0 where
  pub front : Front
  pub part : Part
  pub line : line_of front part ≡ l
  pub steps : Steps 8 c s (after front part [])

-- what each outcome says
abbrev pub OutcomeTold : Config → ℕ → List ℕ → Outcome → Type 0
OutcomeTold c q s (whole l) = Wholly c s l
OutcomeTold c q s (broken e) = Stopped c q s e
OutcomeTold c q s (deep e) = Opened c q s e

-- the same with one byte in front
later : (c : Config) (q b : ℕ) (s : List ℕ) (x : Config) (o : Outcome) → step c b ≡ some x → open_in x ≤ 8
    → OutcomeTold x (suc q) s o → OutcomeTold c q (b ∷ s) o
unfolding Steps
later c q b s x (whole l) e h r = record { front = r.front; part = r.part; line = r.line; steps = (x, e, h, r.steps) }
later c q b s x (broken k) e h r = record {
  read = b ∷ r.read;
  rest = r.rest;
  text = ap (λ (l : List ℕ). b ∷ l) r.text;
  at = let p = r.at in omega arith;
  there = r.there;
  steps = (x, e, h, r.steps);
  stops = r.stops;
}
later c q b s x (deep k) e h r = record {
  read = b ∷ r.read;
  byte = r.byte;
  rest = r.rest;
  text = ap (λ (l : List ℕ). b ∷ l) r.text;
  at = let p = r.at in omega arith;
  there = r.there;
  then = r.then;
  steps = (x, e, h, r.steps);
  goes = r.goes;
  ninth = r.ninth;
}

at-end : (c : Config) (q : ℕ) → OutcomeTold c q [] (finished c q)
unfolding Steps
at-end (ready p ps) q = record { read = []; rest = []; text = refl; at = omega arith; there = ready p ps; steps = refl; stops = λ z. z }
at-end (inside f p ps) q = record {
  read = [];
  rest = [];
  text = refl;
  at = omega arith;
  there = inside f p ps;
  steps = refl;
  stops = λ z. z;
}
at-end (after f p []) q = record { front = f; part = p; line = refl; steps = refl }
at-end (after f p (x ∷ ps)) q = record {
  read = [];
  rest = [];
  text = refl;
  at = omega arith;
  there = after f p (x ∷ ps);
  steps = refl;
  stops = λ z. z;
}
at-end (opened p ps) q = record { read = []; rest = []; text = refl; at = omega arith; there = opened p ps; steps = refl; stops = λ z. z }
at-end (numbered n p ps) q = record {
  read = [];
  rest = [];
  text = refl;
  at = omega arith;
  there = numbered n p ps;
  steps = refl;
  stops = λ z. z;
}

-- and so the reading ends
pub outcome-told : (s : List ℕ) (c : Config) (q : ℕ) → OutcomeTold c q s (outcome c q s)
unfolding outcome Steps
outcome-told [] c q = at-end c q
outcome-told (b ∷ s) c q = go (step c b) refl (λ x. outcome-told s x (suc q))
  where
    go : (o : Option Config) → step c b ≡ o → ((x : Config) → OutcomeTold x (suc q) s (outcome x (suc q) s))
        → OutcomeTold c q (b ∷ s) (continued o q (λ x. outcome x (suc q) s))
    go none e r = record { read = []; rest = b ∷ s; text = refl; at = omega arith; there = c; steps = refl; stops = e }
    go (some x) e r =
        split (OutcomeTold c q (b ∷ s)) (ltb 8 (open_in x)) (deep q) (outcome x (suc q) s)
        (λ t. record {
          read = [];
          byte = b;
          rest = s;
          text = refl;
          at = omega arith;
          there = c;
          then = x;
          steps = refl;
          goes = e;
          ninth = ltb-true 8 (open_in x) t;
        })
        (λ t. later c q b s x (outcome x (suc q) s) e (ltb-false 8 (open_in x) t) (r x))

-- where nothing has been read
start-sound : Sound start
unfolding BracketsFit
start-sound = (tt, tt)

start-text : shown start ≡ []
unfolding shown
start-text = refl

-- what is read from the start
pub from_start : (n : ℕ) (s : List ℕ) (d : Config) → Steps n start s d → (shown d ≡ s) × Sound d
from_start n s d p = let r = steps-told n start s d p start-sound in (r.0 ∙ ap (λ (l : List ℕ). l ++ s) start-text, r.1)

-- the text of a line leads from the start to its end
pub text-steps : (s : List ℕ) (t : LineText s) → Steps (depth t.line) start s (after (front_of t.line) (last_of t.line) [])
text-steps s t =
    subst (λ (x : List ℕ). Steps (depth t.line) start x (after (front_of t.line) (last_of t.line) [])) t.text
    (line-steps t.line (depth t.line) [] t.fits (omega arith))

-- a beginning that can be read is one with which some line begins
pub read-begins : (n : ℕ) (s : List ℕ) (d : Config) → Steps n start s d → Begins s
read-begins n s d p = let r = from_start n s d p in subst Begins r.0 (begins-shown d r.1)

-- one with which some line begins can be read
pub begins-read : (s : List ℕ) (h : Begins s) → (n : ℕ) × (d : Config) × Steps n start s d
begins-read s h =
    let t = h.whole in
    let l = t.line in
    let q = steps_prefix (depth l) start s h.rest (after (front_of l) (last_of l) []) (text-steps (s ++ h.rest) t) in
    (depth l, q.0, q.1)

-- the line of a text is one: the tree is determined by its text
pub unambiguous : (l m : Line) → Fits l → Fits m → written l ≡ written m → l ≡ m
unambiguous l m h k e =
    let a = text-steps (written m) (record { line = l; fits = h; text = e }) in
    let b = text-steps (written m) (record { line = m; fits = k; text = refl }) in
    let s : after (front_of l) (last_of l) [] ≡ after (front_of m) (last_of m) [] = steps-same (depth l) (depth m) start (written m) _ _ a b in
    let x : front_of l ≡ front_of m = cc in
    let y : last_of l ≡ last_of m = cc in
    sym (line_again l) ∙ ap (λ (z : Part). line_of (front_of l) z) y ∙ ap (λ (z : Front). line_of z (last_of m)) x ∙ line_again m
