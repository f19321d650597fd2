-- The open brackets of what has been read are those that its text opens and does not close. No contract cites this file.
--     opening, closing                  the bytes that open a bracket, and those that close one
--     one, keep_cons                    a byte counted, or not
--     Balanced, step_balanced           one more byte
--     steps_balanced                    a text, byte by byte
-- Assumes nothing.
use Prim.Native.Nat.{ℕ, suc, ◌+◌, ◌≤◌, max}
use native.Mathlib.Omega.{arith}
use mathlib.Core.Path.{◌≡◌, refl, sym, ap, ◌∙◌, subst}
use mathlib.Core.Bool.{Bool, true, false, cond, ◌&&◌, ◌||◌}
use mathlib.Core.List.{List, [], ◌∷◌}
use mathlib.Core.Option.{Option, none, some}
use lib.Dec.{eqb, leb, ltb}
use lib.ListN.{length}
use borrow.Author.Tests.{eqb-true, ne_eqb, leb-true}
use Rattle.seq.specs.Lists.{keep, cons_if}
use Rattle.seq.specs.Decimal.{digit}
use Rattle.seq.proofs.Laws.Tests.{both}
use Rattle.grammar.specs.Grammar as g
use Rattle.grammar.specs.Grammar.{Figure, Part, Item, arity, most_of, line_count, fewest_lines, most_lines}
use Rattle.grammar.specs.Reading.{Number, fresh, digits, grows, Partial, listing, semicolon, lettered, counting, Next, goes, closes}
use Rattle.grammar.specs.Reading.{stuck, first_lists, with_condition, behind, ending, step_in, Front, Context, Bracket, rounded, among}
use Rattle.grammar.specs.Reading.{Config, ready, inside, after, opened, numbered, line_of, filled, shut, parted, ended, within, step}
use Rattle.grammar.specs.Reading.{open_in}
use Rattle.grammar.proofs.Laws.Reading.{split, grows_tells}
use Rattle.grammar.proofs.Laws.Steps.{Steps, filled_open}

-- a byte opens a bracket: `(` or `<`
abbrev pub opening : ℕ → Bool
opening b = eqb b 40 || eqb b 60

-- it closes one: `)` or `>`
abbrev pub closing : ℕ → Bool
closing b = eqb b 41 || eqb b 62

-- a byte that opens or closes no bracket
abbrev Plain : ℕ → Type 0
Plain b = (opening b ≡ false) × (closing b ≡ false)

abbrev PlainNext : ℕ → Next → Type 0
PlainNext b (goes f) = Plain b
PlainNext b (closes f) = Plain b
PlainNext b stuck = Unit

plain-is : (b k : ℕ) → eqb b k ≡ true → Plain k → Plain b
plain-is b k e h = subst Plain (sym (eqb-true b k e)) h

plain-between : (b : ℕ) → 48 ≤ b → b ≤ 57 → Plain b
plain-between b l h = (
  rw (ne_eqb b 40 (λ q. omega arith), ne_eqb b 60 (λ q. omega arith)),
  rw (ne_eqb b 41 (λ q. omega arith), ne_eqb b 62 (λ q. omega arith)),
)

plain-digit : (most : ℕ) (x : Number) (b : ℕ) → grows most x b ≡ true → Plain b
plain-digit most x b e = let w = grows_tells most x b e in plain-between b w.low w.high

ending-plain : (f : Figure) (b : ℕ) → PlainNext b (ending f b)
ending-plain f b =
    split (PlainNext b) (eqb b 59) _ _ (λ e. plain-is b 59 e (refl, refl))
    (λ _. split (PlainNext b) (eqb b 93) _ _ (λ e. plain-is b 93 e (refl, refl)) (λ _. tt))

step_in-plain : (f : Partial) (b : ℕ) → PlainNext b (step_in f b)
unfolding step_in
step_in-plain (listing ns fresh) b = split (PlainNext b) (grows 65536 fresh b) _ _ (plain-digit 65536 fresh b) (λ _. tt)
step_in-plain (listing ns (digits n)) b =
    split (PlainNext b) (grows 65536 (digits n) b) _ _ (plain-digit 65536 (digits n) b)
    (λ _. split (PlainNext b) (eqb b 32) _ _ (λ e. plain-is b 32 e (refl, refl)) (λ _. ending-plain (first_lists (behind ns n)) b))
step_in-plain (semicolon f) b =
    split (PlainNext b) (eqb b 110) _ _ (λ e. plain-is b 110 e (refl, refl))
    (λ _. split (PlainNext b) (eqb b 98) _ _ (λ e. plain-is b 98 e (refl, refl))
    (λ _. split (PlainNext b) (eqb b 116) _ _ (λ e. plain-is b 116 e (refl, refl))
    (λ _. split (PlainNext b) (eqb b 115) _ _ (λ e. plain-is b 115 e (refl, refl))
    (λ _. split (PlainNext b) (eqb b 97) _ _ (λ e. plain-is b 97 e (refl, refl)) (λ _. tt)))))
step_in-plain (lettered f w) b = split (PlainNext b) (eqb b 32) _ _ (λ e. plain-is b 32 e (refl, refl)) (λ _. tt)
step_in-plain (counting f w ns fresh) b =
    split (PlainNext b) (grows (most_of w (length ns)) fresh b) _ _ (plain-digit (most_of w (length ns)) fresh b) (λ _. tt)
step_in-plain (counting f w ns (digits n)) b =
    split (PlainNext b) (grows (most_of w (length ns)) (digits n) b) _ _ (plain-digit (most_of w (length ns)) (digits n) b)
    (λ _. split (PlainNext b) (ltb (length ns + 1) (arity w)) _ _
    (λ _. split (PlainNext b) (eqb b 32) _ _ (λ e. plain-is b 32 e (refl, refl)) (λ _. tt))
    (λ _. ending-plain (with_condition f w (behind ns n)) b))

-- 1 for a byte that counts, else 0
abbrev pub one : Bool → ℕ
one t = cond t 1 0

-- behind a byte so many more brackets are open as it opens, and so many fewer as it closes
abbrev pub Balanced : Config → ℕ → Option Config → Type 0
Balanced c b none = Unit
Balanced c b (some d) = open_in d + one (closing b) ≡ open_in c + one (opening b)

-- a byte that opens or closes none leaves them
plain_balanced : (n b : ℕ) → Plain b → n + one (closing b) ≡ n + one (opening b)
plain_balanced n b h = ap (λ (t : Bool). n + one t) h.1 ∙ sym (ap (λ (t : Bool). n + one t) h.0)

byte_balanced : (n b k : ℕ) → eqb b k ≡ true → Plain k → n + one (closing b) ≡ n + one (opening b)
byte_balanced n b k e h = plain_balanced n b (plain-is b k e h)

-- one that opens a bracket
raised : (n b k : ℕ) → eqb b k ≡ true → opening k ≡ true → closing k ≡ false → suc n + one (closing b) ≡ n + one (opening b)
raised n b k e o c =
    let same = eqb-true b k e in
    let x : one (opening b) ≡ 1 = ap (λ (z : ℕ). one (opening z)) same ∙ ap one o in
    let y : one (closing b) ≡ 0 = ap (λ (z : ℕ). one (closing z)) same ∙ ap one c in
    omega arith

-- one that closes a bracket
lowered : (n b k : ℕ) → eqb b k ≡ true → opening k ≡ false → closing k ≡ true → n + one (closing b) ≡ suc n + one (opening b)
lowered n b k e o c =
    let same = eqb-true b k e in
    let x : one (opening b) ≡ 0 = ap (λ (z : ℕ). one (opening z)) same ∙ ap one o in
    let y : one (closing b) ≡ 1 = ap (λ (z : ℕ). one (closing z)) same ∙ ap one c in
    omega arith

-- an item in its context, behind a byte
filled_balanced : (p : Context) (i : Item) (ps : List Bracket) (b n : ℕ) → length ps + one (closing b) ≡ n
    → open_in (filled p i ps) + one (closing b) ≡ n
filled_balanced p i ps b n h = ap (λ (k : ℕ). k + one (closing b)) (filled_open p i ps) ∙ h

inside_balanced : (f : Next) (p : Context) (ps : List Bracket) (b : ℕ) (x : Partial) → PlainNext b f
    → Balanced (inside x p ps) b (within f p ps)
inside_balanced (goes f) p ps b x h = plain_balanced (length ps) b h
inside_balanced (closes f) p ps b x h =
    filled_balanced p (g.figure f) ps b (length ps + one (opening b)) (plain_balanced (length ps) b h)
inside_balanced stuck p ps b x h = tt

module _ (f : Front) (q : Part) (b : ℕ) where
  shut_balanced : (ps : List Bracket) → eqb b 41 ≡ true → Balanced (after f q ps) b (shut (line_of f q) ps)
  shut_balanced [] e = tt
  shut_balanced (rounded p ∷ ps) e =
      filled_balanced p (g.round (line_of f q)) ps b (suc (length ps) + one (opening b)) (lowered (length ps) b 41 e refl refl)
  shut_balanced (among n ls p ∷ ps) e = tt

  parted_balanced : (ps : List Bracket) → eqb b 44 ≡ true → Balanced (after f q ps) b (parted (line_of f q) ps)
  parted_balanced [] e = tt
  parted_balanced (rounded p ∷ ps) e = tt
  parted_balanced (among n ls p ∷ ps) e =
      split (Balanced (after f q (among n ls p ∷ ps)) b) (ltb (line_count (g.snoc ls (line_of f q))) most_lines) _ _
      (λ _. byte_balanced (suc (length ps)) b 44 e (refl, refl)) (λ _. tt)

  ended_balanced : (ps : List Bracket) → eqb b 62 ≡ true → Balanced (after f q ps) b (ended (line_of f q) ps)
  ended_balanced [] e = tt
  ended_balanced (rounded p ∷ ps) e = tt
  ended_balanced (among n ls p ∷ ps) e =
      split (Balanced (after f q (among n ls p ∷ ps)) b) (leb (max fewest_lines n) (line_count (g.snoc ls (line_of f q)))) _ _
      (λ _. filled_balanced p (g.at_least n (g.snoc ls (line_of f q))) ps b (suc (length ps) + one (opening b))
      (lowered (length ps) b 62 e refl refl))
      (λ _. tt)

-- so it is with every byte that can be read
pub step_balanced : (c : Config) (b : ℕ) → Balanced c b (step c b)
unfolding step
step_balanced (ready p ps) b =
    split (Balanced (ready p ps) b) (eqb b 40) _ _ (λ e. raised (length ps) b 40 e refl refl)
    (λ _. split (Balanced (ready p ps) b) (eqb b 91) _ _ (λ e. byte_balanced (length ps) b 91 e (refl, refl))
    (λ _. split (Balanced (ready p ps) b) (eqb b 60) _ _ (λ e. raised (length ps) b 60 e refl refl) (λ _. tt)))
step_balanced (inside f p ps) b = inside_balanced (step_in f b) p ps b f (step_in-plain f b)
step_balanced (after f q ps) b =
    split (Balanced (after f q ps) b) (eqb b 124) _ _ (λ e. byte_balanced (length ps) b 124 e (refl, refl))
    (λ _. split (Balanced (after f q ps) b) (eqb b 38) _ _ (λ e. byte_balanced (length ps) b 38 e (refl, refl))
    (λ _. split (Balanced (after f q ps) b) (eqb b 33) _ _ (λ e. byte_balanced (length ps) b 33 e (refl, refl))
    (λ _. split (Balanced (after f q ps) b) (eqb b 41) _ _ (shut_balanced f q b ps)
    (λ _. split (Balanced (after f q ps) b) (eqb b 44) _ _ (parted_balanced f q b ps)
    (λ _. split (Balanced (after f q ps) b) (eqb b 62) _ _ (ended_balanced f q b ps) (λ _. tt))))))
step_balanced (opened p ps) b =
    split (Balanced (opened p ps) b) (leb (digit 1) b && leb b (digit most_lines)) _ _
    (λ t.
    let r = both (leb (digit 1) b) (leb b (digit most_lines)) t in
    let l = leb-true (digit 1) b r.0 in
    let h = leb-true b (digit most_lines) r.1 in
    plain_balanced (suc (length ps)) b (plain-between b (omega arith) (omega arith)))
    (λ _. tt)
step_balanced (numbered n p ps) b =
    split (Balanced (numbered n p ps) b) (eqb b 58) _ _ (λ e. byte_balanced (suc (length ps)) b 58 e (refl, refl)) (λ _. tt)

-- how many bytes pass a test, with one more in front
pub keep_cons : (test : ℕ → Bool) (b : ℕ) (s : List ℕ) → length (keep test (b ∷ s)) ≡ one (test b) + length (keep test s)
unfolding keep
keep_cons test b s = go (test b)
  where
    go : (t : Bool) → length (cons_if t b (keep test s)) ≡ one t + length (keep test s)
    go true = omega arith
    go false = omega arith

-- along a way
pub steps_balanced : (n : ℕ) (c : Config) (s : List ℕ) (d : Config) → Steps n c s d
    → open_in d + length (keep (λ b. eqb b 41 || eqb b 62) s) ≡ open_in c + length (keep (λ b. eqb b 40 || eqb b 60) s)
unfolding Steps keep
steps_balanced n c [] d p = ap (λ (x : Config). open_in x + 0) (sym p)
steps_balanced n c (b ∷ s) d p =
    let x = p.0 in
    let h : open_in x + one (closing b) ≡ open_in c + one (opening b) = subst (Balanced c b) p.1 (step_balanced c b) in
    let r = steps_balanced n x s d p.3 in
    let a = keep_cons (λ y. eqb y 40 || eqb y 60) b s in
    let z = keep_cons (λ y. eqb y 41 || eqb y 62) b s in
    omega arith
