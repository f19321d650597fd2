-- How a reading ends, as the refusals say it. No contract cites this file.
--     broken-breaks, stopped-steps      a reading that is broken off at e breaks the grammar there
--     not-deep, not-broken              in what can be read no bracket is too deep, and the grammar does not break
--     opened-deep, opened-steps         a reading that meets a ninth bracket at e
--     whole-line                        a reading that comes to an end has read a line
-- Assumes nothing.
use Prim.Native.Nat.{ℕ, ◌+◌, ◌<◌, ◌≤◌}
use native.Mathlib.Numerals.{add-one}
use native.Mathlib.Omega.{arith}
use mathlib.Core.Path.{◌≡◌, sym, ap, ◌∙◌, subst}
use mathlib.Core.Bool.{false}
use mathlib.Core.Logic.{⊎_elim, ◌⊎◌, inl, inr}
use mathlib.Core.List.{List, [], ◌∷◌, ◌++◌, append_assoc, append-nil}
use mathlib.Core.Option.{none, some, none-ne-some}
use lib.Dec.{eqb}
use lib.ListN.{length, get_or, take, drop, length-append, take-append-drop}
use lib.Seq.{take_at, get_or_at, take-suc, take-take}
use borrow.Author.Tests.{eqb-true}
use Rattle.seq.proofs.Laws.Lists.{keep_snoc, length-snoc}
use Rattle.seq.proofs.Laws.Tests.{true_or, either}
use Rattle.grammar.specs.Grammar.{Line, Fits, written, LineText, Begins}
use Rattle.grammar.specs.Brackets.{depth}
use Rattle.line.specs.Refusals.{Breaks, Deep}
use Rattle.grammar.specs.Reading.{Config, after, start, step, open_in, shown}
use Rattle.grammar.proofs.Laws.Reading.{line-text, line-fits}
use Rattle.grammar.proofs.Laws.Steps.{Steps, hop, steps_append, front_of, last_of}
use Rattle.grammar.proofs.Laws.Balance.{opening, closing, one, Balanced, step_balanced, steps_balanced}
use Rattle.grammar.proofs.Laws.Outcome.{Stopped, Opened, Wholly, Final, Stops, steps_prefix, steps-same, steps_open, from_start, text-steps}
use Rattle.grammar.proofs.Laws.Outcome.{read-begins, begins-read}

-- a beginning of what can be read can be read
pub steps-take : (n : ℕ) (a : List ℕ) (d : Config) (k : ℕ) → Steps n start a d → (x : Config) × Steps n start (take k a) x
steps-take n a d k p =
    let q = steps_prefix n start (take k a) (drop k a) d (subst (λ (l : List ℕ). Steps n start l d) (sym (take-append-drop k a)) p) in
    (q.0, q.1)

-- with more brackets allowed
steps-more : (m n : ℕ) (c : Config) (a : List ℕ) (d : Config) → m ≤ n → Steps m c a d → Steps n c a d
unfolding Steps
steps-more m n c [] d h p = p
steps-more m n c (b ∷ a) d h p = let o = p.2 in (p.0, p.1, omega arith, steps-more m n p.0 a d h p.3)

-- where a byte does not fit, no line begins so
no_step : (n : ℕ) (a : List ℕ) (d : Config) (b : ℕ) → Steps n start a d → step d b ≡ none → Begins (a ++ (b ∷ [])) → ⊥
unfolding Steps
no_step n a d b p e h =
    let r = begins-read (a ++ (b ∷ [])) h in
    let q = steps_prefix r.0 start a (b ∷ []) r.1 r.2 in
    let s : d ≡ q.0 = steps-same n r.0 start a d q.0 p q.1 in
    let t : step d b ≡ some q.2.0 = ap (λ (x : Config). step x b) s ∙ q.2.1 in
    none-ne-some q.2.0 (sym e ∙ t)

-- where no line ends
no_end : (n : ℕ) (s : List ℕ) (d : Config) → Steps n start s d → (Final d → ⊥) → LineText s → ⊥
no_end n s d p f t =
    let l = t.line in
    let end = after (front_of l) (last_of l) [] in
    let e : end ≡ d = steps-same (depth l) n start s end d (text-steps s t) p in
    f (subst Final e tt)

-- a line begins with each beginning of its text
line-begins : (s a r : List ℕ) → a ++ r ≡ s → LineText s → Begins a
line-begins s a r e t = record { rest = r; whole = subst LineText (sym e) t }

-- a byte behind which more brackets are open is `(` or `<`
opens-byte : (c d : Config) (b : ℕ) → Balanced c b (some d) → open_in c < open_in d → (b ≡ 40) ⊎ (b ≡ 60)
opens-byte c d b h l =
    ⊎_elim (λ t. ⊎_elim (λ x. inl (eqb-true b 40 x)) (λ x. inr (eqb-true b 60 x)) (either (eqb b 40) (eqb b 60) t)) none
    (true_or (opening b))
  where
    none : opening b ≡ false → (b ≡ 40) ⊎ (b ≡ 60)
    none t = let f : one (opening b) ≡ 0 = ap one t in absurd (let z : ⊥ = omega arith in z)

-- such a byte opens one, and closes none
byte-opens : (b : ℕ) → (b ≡ 40) ⊎ (b ≡ 60) → (one (opening b) ≡ 1) × (one (closing b) ≡ 0)
byte-opens b h =
    ⊎_elim (λ e. (ap (λ (k : ℕ). one (opening k)) e, ap (λ (k : ℕ). one (closing k)) e))
    (λ e. (ap (λ (k : ℕ). one (opening k)) e, ap (λ (k : ℕ). one (closing k)) e)) h

module _ (s : List ℕ) where
  -- a beginning of the text, taken by its length
  read_taken : (a r : List ℕ) (e : ℕ) → a ++ r ≡ s → e ≡ length a → take e s ≡ a
  read_taken a r e t l = ap (take e) (sym t) ∙ take_at a r e (sym l)

  -- a reading that stops at e breaks the grammar there
  pub broken-breaks : (e : ℕ) → Stopped start 0 s e → Breaks s e
  broken-breaks e w = go w.rest w.text w.stops
    where
      len : e ≡ length w.read
      len = let k = w.at in omega arith

      go : (r : List ℕ) → w.read ++ r ≡ s → Stops w.there r → Breaks s e
      go [] t h =
          let l : length (w.read ++ []) ≡ length w.read + 0 = length-append w.read [] in
          let m = ap length t in
          let k = len in
          record {
            inside = omega arith;
            begins =
                subst (λ (x : List ℕ). Begins (take e x)) t
                (subst Begins (sym (take_at w.read [] e (sym len))) (read-begins 8 w.read w.there w.steps));
            ends = λ q. absurd (let z : ⊥ = omega arith in z);
            no_line =
                no_end 8 s w.there (subst (λ (x : List ℕ). Steps 8 start x w.there) (sym (append-nil w.read) ∙ t) w.steps) h;
          }
      go (b ∷ r) t h =
          let l : length (w.read ++ (b ∷ r)) ≡ length w.read + length (b ∷ r) = length-append w.read (b ∷ r) in
          let m = ap length t in
          let k = len in
          let z = length-snoc w.read b in
          let split : s ≡ (w.read ++ (b ∷ [])) ++ r = sym t ∙ sym (append_assoc w.read (b ∷ []) r) in
          let more : take (e + 1) s ≡ w.read ++ (b ∷ []) = read_taken (w.read ++ (b ∷ [])) r (e + 1) (sym split) (omega arith) in
          record {
            inside = omega arith;
            begins =
                subst (λ (x : List ℕ). Begins (take e x)) t
                (subst Begins (sym (take_at w.read (b ∷ r) e (sym len))) (read-begins 8 w.read w.there w.steps));
            ends = λ q x. no_step 8 w.read w.there b w.steps h (subst Begins more x);
            no_line =
                λ x. no_step 8 w.read w.there b w.steps h
                (line-begins s (w.read ++ (b ∷ [])) r (append_assoc w.read (b ∷ []) r ∙ t) x);
          }

  -- where a beginning of length k is read, no bracket is too deep in it
  pub not-deep : (k : ℕ) (x : Config) → Steps 8 start (take k s) x → (q : ℕ) → q < k → Deep s q → ⊥
  not-deep k x p q l h =
      let y = steps-take 8 (take k s) x (q + 1) p in
      let a = take q s in
      let e : take (q + 1) s ≡ a ++ (get_or s q 0 ∷ []) = ap (λ (n : ℕ). take n s) (add-one q) ∙ take-suc s q 0 h.inside in
      let z : Steps 8 start (a ++ (get_or s q 0 ∷ [])) y.0 =
      subst (λ (t : List ℕ). Steps 8 start t y.0) (take-take (q + 1) k s (omega arith) ∙ e) y.1 in
      let few = steps_open 8 start (a ++ (get_or s q 0 ∷ [])) y.0 (omega arith) z in
      let b = steps_balanced 8 start (a ++ (get_or s q 0 ∷ [])) y.0 z in
      let o = keep_snoc opening a (get_or s q 0) in
      let c = keep_snoc closing a (get_or s q 0) in
      let i = byte-opens (get_or s q 0) h.bracket in
      let d = h.eight in
      omega arith

  -- nor does the grammar break before k
  pub not-broken : (n k : ℕ) (x : Config) → Steps n start (take k s) x → k ≤ length s → (q : ℕ) → q < k → Breaks s q → ⊥
  not-broken n k x p m q l h =
      let y = steps-take n (take k s) x (q + 1) p in
      h.ends (omega arith)
      (read-begins n (take (q + 1) s) y.0 (subst (λ (t : List ℕ). Steps n start t y.0) (take-take (q + 1) k s (omega arith)) y.1))

  -- the text in front of e can be read
  pub stopped-steps : (e : ℕ) (w : Stopped start 0 s e) → Steps 8 start (take e s) w.there
  stopped-steps e w =
      subst (λ (x : List ℕ). Steps 8 start x w.there) (sym (read_taken w.read w.rest e w.text (let k = w.at in omega arith)))
      w.steps

  -- a ninth bracket is one inside eight
  pub opened-deep : (e : ℕ) → Opened start 0 s e → Deep s e
  opened-deep e w =
      let len : e ≡ length w.read = let k = w.at in omega arith in
      let taken = read_taken w.read (w.byte ∷ w.rest) e w.text len in
      let l = length-append w.read (w.byte ∷ w.rest) in
      let m = ap length w.text in
      let balanced = Balanced w.there w.byte in
      let h : balanced (some w.then) = subst balanced w.goes (step_balanced w.there w.byte) in
      let few = steps_open 8 start w.read w.there (omega arith) w.steps in
      let nine = w.ninth in
      let is = opens-byte w.there w.then w.byte h (omega arith) in
      let b = steps_balanced 8 start w.read w.there w.steps in
      let up = byte-opens w.byte is in
      record {
        inside = omega arith;
        bracket =
            subst (λ (x : ℕ). (x ≡ 40) ⊎ (x ≡ 60))
            (sym (ap (λ (x : List ℕ). get_or x e 0) (sym w.text) ∙ get_or_at w.read w.byte w.rest 0 e (sym len))) is;
        eight = rw taken (omega arith);
      }

  -- and the text with it can be read, so that the grammar does not break there
  pub opened-steps : (e : ℕ) (w : Opened start 0 s e) → Steps (open_in w.then + 8) start (take (e + 1) s) w.then
  opened-steps e w =
      let len : e ≡ length w.read = let k = w.at in omega arith in
      subst (λ (x : List ℕ). Steps (open_in w.then + 8) start x w.then)
      (sym (take_at (w.read ++ (w.byte ∷ [])) w.rest (e + 1) (let z = length-snoc w.read w.byte in omega arith))
      ∙ ap (take (e + 1)) (append_assoc w.read (w.byte ∷ []) w.rest ∙ w.text))
      (steps_append (open_in w.then + 8) start w.read w.there (w.byte ∷ []) w.then
      (steps-more 8 (open_in w.then + 8) start w.read w.there (omega arith) w.steps)
      (hop (open_in w.then + 8) w.there w.byte w.then w.goes (omega arith)))

  -- a reading that comes to an end has read a line with that text
  pub whole-line : (l : Line) → Wholly start s l → Fits l × (written l ≡ s)
  unfolding shown
  whole-line l w =
      let r = from_start 8 s (after w.front w.part []) w.steps in (
        subst Fits w.line (line-fits w.front w.part r.1.0 r.1.1),
        ap written (sym w.line) ∙ line-text w.front w.part ∙ r.0,
      )
