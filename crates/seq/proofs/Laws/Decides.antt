-- A test decides a fact. No contract cites this file.
--     Decides                         a test that is true where a fact holds, and false where it does not
--     holds, fails                    the test from the fact
--     decided, stable                 the fact holds or not; a fact that cannot fail holds
--     eqb_decides, leb_decides, ltb_decides, not_decides, and_decides, or_decides, nand_decides, same_decides
--     one-test                        two tests that decide one fact are the same
--     iff_decides                     a test that is true exactly if a fact holds decides it
-- Assumes nothing.
use Prim.Native.Nat.{ℕ, ◌<◌, ◌≤◌}
use native.Mathlib.Omega.{arith}
use mathlib.Core.Path.{◌≡◌, sym, ◌∙◌}
use mathlib.Core.Bool.{Bool, true, false, not, ◌&&◌, ◌||◌}
use mathlib.Core.Logic.{◌⊎◌, inl, inr, ⊎_elim, ◌↔◌}
use lib.Dec.{ltb, leb, eqb}
use borrow.Author.Tests.{ltb-true, ltb-false, leb-true, leb-false, eqb-true, eqb-false, not-true, not-false}
use Rattle.seq.proofs.Laws.Tests.{both, both_true, neither, either, true_or, contrary}

-- a test decides a fact: where it is true the fact holds, where it is false the fact does not
pub record Decides (t : Bool) (P : Type 0) : Type 0 where
  pub yes : t ≡ true → P
  pub no : t ≡ false → P → ⊥

module _ {P : Type 0} {t : Bool} (d : Decides t P) where
  -- the fact holds, so the test is true
  pub holds : P → t ≡ true
  holds p = ⊎_elim (λ e. e) (λ e. absurd (d.no e p)) (true_or t)

  -- the fact does not hold, so the test is false
  pub fails : (P → ⊥) → t ≡ false
  fails n = ⊎_elim (λ e. absurd (n (d.yes e))) (λ e. e) (true_or t)

  -- the fact holds or does not
  pub decided : P ⊎ (P → ⊥)
  decided = ⊎_elim (λ e. inl (d.yes e)) (λ e. inr (d.no e)) (true_or t)

  -- a fact that cannot fail holds
  pub stable : ((P → ⊥) → ⊥) → P
  stable n = ⊎_elim (λ p. p) (λ q. absurd (n q)) decided

  pub not_decides : Decides (not t) (P → ⊥)
  not_decides = record { yes = λ e. d.no (not-true t e); no = λ e n. n (d.yes (not-false t e)) }

pub eqb_decides : (a b : ℕ) → Decides (eqb a b) (a ≡ b)
eqb_decides a b = record { yes = eqb-true a b; no = eqb-false a b }

pub leb_decides : (a b : ℕ) → Decides (leb a b) (a ≤ b)
leb_decides a b = record { yes = leb-true a b; no = λ e h. let k : b < a = leb-false a b e in omega arith }

pub ltb_decides : (a b : ℕ) → Decides (ltb a b) (a < b)
ltb_decides a b = record { yes = ltb-true a b; no = λ e h. let k : b ≤ a = ltb-false a b e in omega arith }

module _ {P Q : Type 0} {s t : Bool} (d : Decides s P) (e : Decides t Q) where
  pub and_decides : Decides (s && t) (P × Q)
  and_decides = record {
    yes = λ q. let w = both s t q in (d.yes w.0, e.yes w.1);
    no = λ q pq. contrary (both_true s t (holds d pq.0) (holds e pq.1)) q;
  }

  pub or_decides : Decides (s || t) (P ⊎ Q)
  or_decides = record {
    yes = λ q. ⊎_elim (λ a. inl (d.yes a)) (λ b. inr (e.yes b)) (either s t q);
    no = λ q. let w = neither s t q in ⊎_elim (d.no w.0) (e.no w.1);
  }

  -- not both of two facts: one of them fails
  pub nand_decides : Decides (not (s && t)) ((P → ⊥) ⊎ (Q → ⊥))
  nand_decides = record {
    yes = λ q. ⊎_elim (λ (p : P). inr (λ (r : Q). (not_decides and_decides).yes q (p, r))) (λ (n : P → ⊥). inl n) (decided d);
    no = λ q w. let pq = and_decides.yes (not-false (s && t) q) in ⊎_elim (λ (n : P → ⊥). n pq.0) (λ (n : Q → ⊥). n pq.1) w;
  }

-- the same test decides each fact that says the same
pub same_decides : {P Q : Type 0} {t : Bool} → Decides t P → (P → Q) → (Q → P) → Decides t Q
same_decides d f g = record { yes = λ e. f (d.yes e); no = λ e q. d.no e (g q) }

-- two tests that decide one fact are the same
pub one-test : {P : Type 0} {s t : Bool} → Decides s P → Decides t P → s ≡ t
one-test {s = s} d e = ⊎_elim (λ p. p ∙ sym (holds e (d.yes p))) (λ p. p ∙ sym (fails e (d.no p))) (true_or s)

pub iff_decides : {P : Type 0} {t : Bool} → (t ≡ true) ↔ P → Decides t P
iff_decides w = record { yes = w.0; no = λ e p. contrary (w.1 p) e }
