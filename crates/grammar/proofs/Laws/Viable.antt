-- Whatever has been read, some line of the grammar begins with it. No contract cites this file.
--     begins-back      what a longer text begins with
--     begins-among, begins-after        open brackets can be closed, and lines that are wanting can be `[0]`
--     begins-counting                   numbers that are wanting can be 0
--     begins-shown     whatever has been read, some line begins with it
-- Assumes nothing.
use Prim.Native.Nat.{ℕ, zero, suc, ◌+◌, ◌<◌, ◌≤◌, max}
use native.Mathlib.Omega.{arith}
use mathlib.Core.Path.{◌≡◌, refl, sym, ap, ◌∙◌, subst}
use mathlib.Core.Logic.{⊎_elim}
use mathlib.Core.List.{List, [], ◌∷◌, ◌++◌, append_assoc, append-nil}
use mathlib.Core.Option.{some}
use lib.ListN.{length}
use borrow.Author.Tests.{lt-ltb, le-ltb, le-leb}
use Rattle.seq.proofs.Laws.Tests.{below_or}
use Rattle.seq.proofs.Laws.Lists.{length-snoc}
use Rattle.grammar.specs.Grammar as g
use Rattle.grammar.specs.Grammar.{Word, Figure, Part, Item, Lines, arity, most_of, line_count, written, part_text, fewest_lines}
use Rattle.grammar.specs.Grammar.{most_lines, Begins}
use Rattle.grammar.specs.Reading.{fresh, digits, grows, Partial, listing, semicolon, lettered, counting, Next, closes, first_lists}
use Rattle.grammar.specs.Reading.{with_condition, behind, step_in, Front, bare, Context, first, next, Bracket, rounded, among, Config}
use Rattle.grammar.specs.Reading.{ready, inside, after, opened, numbered, line_of, filled, within, step, front_text, shown}
use Rattle.grammar.proofs.Laws.Reading.{BracketsFit, Sound, StepTold, step-told, line-text, line-fits}

-- a beginning of what a line begins with
pub begins-back : (s k : List ℕ) → Begins (s ++ k) → Begins s
begins-back s k h = record { rest = k ++ h.rest; whole = rw append_assoc at h.whole }

-- a byte that can be read leads on
via : (c : Config) (b : ℕ) (d : Config) → Sound c → step c b ≡ some d → (Sound d → Begins (shown d)) → Begins (shown c)
via c b d h e go =
    let t : StepTold (shown c ++ (b ∷ [])) (some d) = subst (StepTold (shown c ++ (b ∷ []))) e (step-told c b h) in
    begins-back (shown c) (b ∷ []) (subst Begins t.0 (go t.1))

-- behind an item in its context, where it is so behind every part
begins-placed : (p : Context) (i : Item) (ps : List Bracket)
    → ((f : Front) (q : Part) → Sound (after f q ps) → Begins (shown (after f q ps)))
    → Sound (filled p i ps) → Begins (shown (filled p i ps))
begins-placed (first x) i ps r h = r x (g.alone i) h
begins-placed (next x y j) i ps r h = r x (g.join j y i) h

-- the figure `[0]`
abbrev zero_figure : Figure
zero_figure = first_lists (0 ∷ [])

-- behind a line between `<` and `>`, where at most k lines are missing: each can be `[0]`, and then `>` follows
begins-among : (k n : ℕ) (ls : Lines) (p : Context) (ps : List Bracket) (f : Front) (q : Part) → max fewest_lines n ≤ suc (line_count ls) + k
    → ((f : Front) (q : Part) → Sound (after f q ps) → Begins (shown (after f q ps)))
    → Sound (after f q (among n ls p ∷ ps)) → Begins (shown (after f q (among n ls p ∷ ps)))
unfolding step step_in grows line_count BracketsFit
begins-among zero n ls p ps f q l r h =
    via (after f q (among n ls p ∷ ps)) 62 (filled p (g.at_least n (g.snoc ls (line_of f q))) ps) h
    (rw (le-leb (max fewest_lines n) (suc (line_count ls)) (omega arith)))
    (begins-placed p (g.at_least n (g.snoc ls (line_of f q))) ps r)
begins-among (suc k) n ls p ps f q l r h =
    ⊎_elim
    (λ (m : suc (line_count ls) < max fewest_lines n).
    let few = h.2.0.0.number.few in
    let ms = g.snoc ls (line_of f q) in
    via (after f q (among n ls p ∷ ps)) 44 (ready (first bare) (among n ms p ∷ ps)) h
    (rw (lt-ltb (suc (line_count ls)) most_lines (omega arith)))
    (λ s. via (ready (first bare) (among n ms p ∷ ps)) 91 (inside (listing [] fresh) (first bare) (among n ms p ∷ ps)) s refl
    (λ t. via (inside (listing [] fresh) (first bare) (among n ms p ∷ ps)) 48
    (inside (listing [] (digits 0)) (first bare) (among n ms p ∷ ps)) t refl
    (λ u. via (inside (listing [] (digits 0)) (first bare) (among n ms p ∷ ps)) 93
    (after bare (g.alone (g.figure zero_figure)) (among n ms p ∷ ps)) u refl
    (λ v. begins-among k n ms p ps bare (g.alone (g.figure zero_figure)) (omega arith) r v)))))
    (λ (m : max fewest_lines n ≤ suc (line_count ls)).
    via (after f q (among n ls p ∷ ps)) 62 (filled p (g.at_least n (g.snoc ls (line_of f q))) ps) h
    (rw (le-leb (max fewest_lines n) (suc (line_count ls)) m))
    (begins-placed p (g.at_least n (g.snoc ls (line_of f q))) ps r))
    (below_or (suc (line_count ls)) (max fewest_lines n))

-- behind an item every open bracket can be closed
begins-after : (ps : List Bracket) (f : Front) (q : Part) → Sound (after f q ps) → Begins (shown (after f q ps))
unfolding step shown
begins-after [] f q h = record { rest = []; whole = record { line = line_of f q; fits = line-fits f q h.0 h.1; text = done } }
  where
    at-end : shown (after f q []) ≡ front_text f ++ part_text q
    at-end = refl

    done : written (line_of f q) ≡ shown (after f q []) ++ []
    done = line-text f q ∙ sym at-end ∙ sym (append-nil (shown (after f q [])))
begins-after (rounded p ∷ ps) f q h =
    via (after f q (rounded p ∷ ps)) 41 (filled p (g.round (line_of f q)) ps) h refl
    (begins-placed p (g.round (line_of f q)) ps (begins-after ps))
begins-after (among n ls p ∷ ps) f q h = begins-among (max fewest_lines n) n ls p ps f q (omega arith) (begins-after ps) h

-- behind an item in its context
begins-filled : (p : Context) (i : Item) (ps : List Bracket) → Sound (filled p i ps) → Begins (shown (filled p i ps))
begins-filled p i ps h = begins-placed p i ps (begins-after ps) h

-- a figure that may end here
begins-closed : (f : Partial) (x : Figure) (p : Context) (ps : List Bracket) → step_in f 93 ≡ closes x → Sound (inside f p ps)
    → Begins (shown (inside f p ps))
unfolding step
begins-closed f x p ps e h =
    via (inside f p ps) 93 (filled p (g.figure x) ps) h (ap (λ (n : Next). within n p ps) e) (begins-filled p (g.figure x) ps)

-- in a condition the numbers that are wanting can be 0
begins-counting : (k : ℕ) (f : Figure) (w : Word) (ns : List ℕ) (n : ℕ) (p : Context) (ps : List Bracket) → arity w ≤ length ns + k
    → Sound (inside (counting f w ns (digits n)) p ps) → Begins (shown (inside (counting f w ns (digits n)) p ps))
unfolding step step_in grows
begins-counting zero f w ns n p ps l h = absurd (let r = h.0.room in let z : ⊥ = omega arith in z)
begins-counting (suc k) f w ns n p ps l h =
    ⊎_elim
    (λ (m : length ns + 1 < arity w).
    via (inside (counting f w ns (digits n)) p ps) 32 (inside (counting f w (behind ns n) fresh) p ps) h
    (rw (lt-ltb (length ns + 1) (arity w) m))
    (λ s. via (inside (counting f w (behind ns n) fresh) p ps) 48 (inside (counting f w (behind ns n) (digits 0)) p ps) s
    (rw (le-leb 0 (most_of w (length (behind ns n))) (omega arith)))
    (λ t. begins-counting k f w (behind ns n) 0 p ps (let e = length-snoc ns n in omega arith) t)))
    (λ (m : arity w ≤ length ns + 1). begins-closed (counting f w ns (digits n)) (with_condition f w (behind ns n)) p ps
    (rw (le-ltb (length ns + 1) (arity w) m)) h)
    (below_or (length ns + 1) (arity w))

begins-fresh : (f : Figure) (w : Word) (ns : List ℕ) (p : Context) (ps : List Bracket) → Sound (inside (counting f w ns fresh) p ps)
    → Begins (shown (inside (counting f w ns fresh) p ps))
unfolding step step_in grows
begins-fresh f w ns p ps h =
    via (inside (counting f w ns fresh) p ps) 48 (inside (counting f w ns (digits 0)) p ps) h
    (rw (le-leb 0 (most_of w (length ns)) (omega arith))) (begins-counting (arity w) f w ns 0 p ps (omega arith))

begins-lettered : (f : Figure) (w : Word) (p : Context) (ps : List Bracket) → Sound (inside (lettered f w) p ps)
    → Begins (shown (inside (lettered f w) p ps))
unfolding step step_in
begins-lettered f w p ps h = via (inside (lettered f w) p ps) 32 (inside (counting f w [] fresh) p ps) h refl (begins-fresh f w [] p ps)

begins-digits : (ns : List ℕ) (n : ℕ) (p : Context) (ps : List Bracket) → Sound (inside (listing ns (digits n)) p ps)
    → Begins (shown (inside (listing ns (digits n)) p ps))
unfolding step_in grows
begins-digits ns n p ps h = begins-closed (listing ns (digits n)) (first_lists (behind ns n)) p ps refl h

begins_partial : (f : Partial) (p : Context) (ps : List Bracket) → Sound (inside f p ps) → Begins (shown (inside f p ps))
unfolding step step_in grows
begins_partial (listing ns fresh) p ps h =
    via (inside (listing ns fresh) p ps) 48 (inside (listing ns (digits 0)) p ps) h refl (begins-digits ns 0 p ps)
begins_partial (listing ns (digits n)) p ps h = begins-digits ns n p ps h
begins_partial (semicolon f) p ps h =
    via (inside (semicolon f) p ps) 115 (inside (lettered f g.span) p ps) h refl (begins-lettered f g.span p ps)
begins_partial (lettered f w) p ps h = begins-lettered f w p ps h
begins_partial (counting f w ns fresh) p ps h = begins-fresh f w ns p ps h
begins_partial (counting f w ns (digits n)) p ps h = begins-counting (arity w) f w ns n p ps (omega arith) h

-- an item is to come
begins-ready : (p : Context) (ps : List Bracket) → Sound (ready p ps) → Begins (shown (ready p ps))
unfolding step
begins-ready p ps h = via (ready p ps) 91 (inside (listing [] fresh) p ps) h refl (begins_partial (listing [] fresh) p ps)

-- `:` follows the number
begins-numbered : (n : ℕ) (p : Context) (ps : List Bracket) → Sound (numbered n p ps) → Begins (shown (numbered n p ps))
unfolding step
begins-numbered n p ps h =
    via (numbered n p ps) 58 (ready (first bare) (among n g.nil p ∷ ps)) h refl (begins-ready (first bare) (among n g.nil p ∷ ps))

-- whatever has been read, some line begins with it
pub begins-shown : (c : Config) → Sound c → Begins (shown c)
unfolding step
begins-shown (ready p ps) h = begins-ready p ps h
begins-shown (inside f p ps) h = begins_partial f p ps h
begins-shown (after f q ps) h = begins-after ps f q h
begins-shown (opened p ps) h = via (opened p ps) 49 (numbered 1 p ps) h refl (begins-numbered 1 p ps)
begins-shown (numbered n p ps) h = begins-numbered n p ps h
