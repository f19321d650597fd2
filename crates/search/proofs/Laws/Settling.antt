-- The patterns that can be found in a document, settled one by one, and the bits of those that are found. No contract cites this file.
--     bits-yes, bits-no                   one pattern more
--     Settling                            the patterns in front of k are settled, and their bits are known
--     settling-first, settling-away, settling-yes, settling-no, settling-done     from pattern to pattern
--     settling-small                      the bits stay below 256
--     settling-ready                      what pattern k asks, where it stands in the document
-- Assumes nothing.
use Prim.Native.Nat.{ℕ, ◌+◌, ◌*◌, ◌^◌, ◌<◌, ◌≤◌}
use native.Mathlib.Nat.{two-pow-succ}
use native.Mathlib.Numerals.{add-one}
use native.Mathlib.Omega.{arith}
use mathlib.Core.Path.{◌≡◌, refl, sym, ap, ◌∙◌}
use mathlib.Core.Bool.{Bool, true, false}
use mathlib.Core.Logic.{◌⊎◌, inl, inr, ⊎_elim, ◌≢◌}
use mathlib.Core.List.{List, [], ◌∷◌, ◌++◌, map, map-append}
use mathlib.Core.Option.{some}
use lib.ListN.{length, get_or, take, length-map}
use lib.Pow.{pow_mono}
use lib.Seq.{take-suc, take_all, length-take-le}
use Rattle.seq.proofs.Laws.Tests.{below_or, contrary}
use Rattle.seq.proofs.Laws.Numbers.{run_ext}
use Rattle.seq.proofs.Laws.Slices.{slice-run}
use Rattle.volume.specs.Layout.{lists_of}
use Rattle.plan.specs.declared.outline.Outline.{Outline}
use Rattle.plan.specs.Rows.{rows_of}
use Rattle.plan.specs.Patterns.{Pattern, no_row, patterns_of}
use Rattle.plan.specs.Check.{sizes}
use Rattle.plan.specs.Accepted.{pattern_at}
use Rattle.plan.specs.Inner.Outline.{vars_before, outline_at}
use Rattle.plan.specs.Inner.Stack.{bits_of}
use Rattle.plan.proofs.Laws.Stack.{bits-lt}
use Rattle.plan.proofs.Laws.Outline.{vars-within, outlined}
use Rattle.fulltext.specs.Documents.{found}
use Rattle.matcher.specs.declared.cursor.Document.{Document}
use Rattle.matcher.specs.Inner.Cursors.{AtDocument}
use Rattle.search.specs.Inner.Walk.{Stood, Candidate, Walks, LeastAt, Ready, Settled, SettledAll}
use Rattle.search.proofs.Laws.Walk.{vars-apart, Alike, stood-same, candidate-same}

bits-yes : (ts : List Bool) → bits_of (ts ++ (true ∷ [])) ≡ bits_of ts + 2 ^ length ts
unfolding bits_of
bits-yes [] = refl
bits-yes (t ∷ ts) = let e = bits-yes ts in rw two-pow-succ (omega arith)

bits-no : (ts : List Bool) → bits_of (ts ++ (false ∷ [])) ≡ bits_of ts
unfolding bits_of
bits-no [] = refl
bits-no (t ∷ ts) = let e = bits-no ts in omega arith

-- whether each of the first k patterns is found
abbrev found_in : List ℕ → List ℕ → ℕ → ℕ → List Bool
found_in v p d k = map (found (lists_of v) d) (take k (patterns_of (rows_of p)))

-- a pattern whose positions have not changed
least-same : (v p : List ℕ) (d j : ℕ) (ats ps nexts qs : List ℕ) → j < (sizes p).patterns → (sizes p).vars ≤ length ps → length qs ≡ length ps
    → Alike p ats ps nexts qs j → LeastAt v p d ps j → LeastAt v p d qs j
least-same v p d j ats ps nexts qs h room same a least t =
    let w = vars-within p j h in
    let first = vars_before p j in
    let n = length (pattern_at p j).vars in
    least t
    ∙ ap some
    (slice-run 0 ps first n (omega arith)
    ∙ run_ext (λ i. get_or ps i 0) (λ i. get_or qs i 0) first first n (λ i l. sym (a.positions (first + i) (omega arith, omega arith)))
    ∙ sym (slice-run 0 qs first n (omega arith)))

pub record Settling (v p ends docs : List ℕ) (d : ℕ) (ats₀ ps₀ ats ps : List ℕ) (bits weight k : ℕ) : Type 0 where
  pub most : k ≤ (sizes p).patterns
  pub ats-length : length ats ≡ length ats₀
  pub positions-length : length ps ≡ length ps₀
  pub bits_are : bits ≡ bits_of (found_in v p d k)
  pub weight_is : weight ≡ 2 ^ k
  pub least : (j : ℕ) → j < k → LeastAt v p d ps j
  pub stood : (j : ℕ) → j < k → get_or docs j 0 ≡ d → Stood v p ats ends j (d + 1)
  pub kept : (j : ℕ) → j < (sizes p).patterns → (k ≤ j) ⊎ (get_or docs j 0 ≢ d) → Candidate v p ats ends ps j d (get_or docs j 0)

module _ (v p ends docs : List ℕ) (d : ℕ) (ats₀ ps₀ : List ℕ) where
  pub settling-first : ((k : ℕ) → k < (sizes p).patterns → Candidate v p ats₀ ends ps₀ k d (get_or docs k 0))
      → Settling v p ends docs d ats₀ ps₀ ats₀ ps₀ 0 1 0
  unfolding bits_of
  settling-first c = record {
    most = omega arith;
    ats-length = refl;
    positions-length = refl;
    bits_are = refl;
    weight_is = refl;
    least = λ j h. absurd (let z : ⊥ = omega arith in z);
    stood = λ j h. absurd (let z : ⊥ = omega arith in z);
    kept = λ j h o. c j h;
  }

  module _ (ats ps : List ℕ) (bits weight k : ℕ) (s : Settling v p ends docs d ats₀ ps₀ ats ps bits weight k)
      (h : k < (sizes p).patterns) where
    many : length (found_in v p d k) ≡ k
    unfolding sizes
    many = length-map (take k (patterns_of (rows_of p))) (found (lists_of v) d) ∙ length-take-le k (patterns_of (rows_of p)) (omega arith)

    pub settling-small : (sizes p).patterns ≤ 8 → (weight ≤ 256) × (bits < 256)
    settling-small few =
        let w = s.weight_is in
        let t : 2 ^ k ≤ 256 = pow_mono {j = 8} (omega arith) in
        let b = s.bits_are in
        let l = bits-lt 8 (found_in v p d k) (let m = many in omega arith) in
        (omega arith, omega arith)

    found-last : found_in v p d (k + 1) ≡ found_in v p d k ++ (found (lists_of v) d (pattern_at p k) ∷ [])
    unfolding sizes
    found-last =
        ap (map (found (lists_of v) d))
        (ap (λ (i : ℕ). take i (patterns_of (rows_of p))) (add-one k) ∙ take-suc (patterns_of (rows_of p)) k no_row h)
        ∙ map-append (found (lists_of v) d) (take k (patterns_of (rows_of p))) (pattern_at p k ∷ [])

    -- the bits, where the pattern is found, and where it is not
    bits-found : found (lists_of v) d (pattern_at p k) ≡ true → bits + weight ≡ bits_of (found_in v p d (k + 1))
    bits-found t =
        sym (ap bits_of (found-last ∙ ap (λ (b : Bool). found_in v p d k ++ (b ∷ [])) t) ∙ bits-yes (found_in v p d k)
        ∙ (let b = s.bits_are in let w = s.weight_is in let m = ap (λ (n : ℕ). 2 ^ n) many in omega arith))

    bits-unfound : found (lists_of v) d (pattern_at p k) ≡ false → bits ≡ bits_of (found_in v p d (k + 1))
    bits-unfound t =
        sym (ap bits_of (found-last ∙ ap (λ (b : Bool). found_in v p d k ++ (b ∷ [])) t) ∙ bits-no (found_in v p d k) ∙ sym s.bits_are)

    doubled : weight * 2 ≡ 2 ^ (k + 1)
    doubled = let w = s.weight_is in rw (add-one k, two-pow-succ k) (omega arith)

    -- pattern k can be found in a later document first
    pub settling-away : get_or docs k 0 ≢ d → Settling v p ends docs d ats₀ ps₀ ats ps bits (weight * 2) (k + 1)
    settling-away n = record {
      most = omega arith;
      ats-length = s.ats-length;
      positions-length = s.positions-length;
      bits_are = bits-unfound absent;
      weight_is = doubled;
      least = λ j l. ⊎_elim
          (s.least j)
          (λ (m : k ≤ j). let q : j ≡ k = omega arith in rw q (λ t. absurd (contrary t absent)))
          (below_or j k);
      stood = λ j l e. ⊎_elim
          (λ (m : j < k). s.stood j m e)
          (λ (m : k ≤ j). absurd (n (let q : j ≡ k = omega arith in rw q at e)))
          (below_or j k);
      kept = λ j l o. s.kept j l (⊎_elim (λ (m : k + 1 ≤ j). inl (omega arith)) (λ (m : get_or docs j 0 ≢ d). inr m) o);
    }
      where
        c : Candidate v p ats ends ps k d (get_or docs k 0)
        c = s.kept k h (inr n)

        absent : found (lists_of v) d (pattern_at p k) ≡ false
        absent = c.absent d (omega arith) (let f = c.from in omega arith)

    module _ (e : get_or docs k 0 ≡ d) where
      -- what is asked to settle it
      pub settling-ready : (table : List Outline) (orders : List ℕ) → Walks v p table orders ends → (doc : Document) → doc.doc ≡ d → AtDocument v doc
          → (sizes p).vars ≤ length ats₀ → (sizes p).vars ≤ length ps₀ → Ready v p (outline_at table k) doc orders ends ats ps
      settling-ready table orders w doc same at a b =
          let o = outlined table w.tabled k h refl in
          record {
            accepted = w.accepted;
            pattern = o.there;
            entry = o.entry;
            document = at;
            ordered = rw (o.vars_are, o.first-is) (w.ordered k h);
            ends-room = w.ends-room;
            ats-room = let l = s.ats-length in omega arith;
            positions-room = let l = s.positions-length in omega arith;
            candidate = rw (o.pattern-is, same) (rw e at (s.kept k h (inl (omega arith))));
          }

      module _ (room : (sizes p).vars ≤ length ps₀) (b : Bool) (nexts qs : List ℕ) (t : Settled v p ends k d ats ps b nexts qs) where
        alike : (j : ℕ) → j < (sizes p).patterns → j ≢ k → Alike p ats ps nexts qs j
        alike j l n = record {
          cursors = λ x a. (t.others x (λ o. vars-apart p j k x n l h a o)).0;
          positions = λ x a. (t.others x (λ o. vars-apart p j k x n l h a o)).1;
        }

        next : (bits' : ℕ) → bits' ≡ bits_of (found_in v p d (k + 1)) → Settling v p ends docs d ats₀ ps₀ nexts qs bits' (weight * 2) (k + 1)
        next bits' right = record {
          most = omega arith;
          ats-length = t.ats-length ∙ s.ats-length;
          positions-length = t.positions-length ∙ s.positions-length;
          bits_are = right;
          weight_is = doubled;
          least = λ j l. ⊎_elim
              (λ (m : j < k).
              least-same v p d j ats ps nexts qs (omega arith) (let z = s.positions-length in omega arith) t.positions-length
              (alike j (omega arith) (λ q. omega arith)) (s.least j m))
              (λ (m : k ≤ j). let q : j ≡ k = omega arith in rw q t.least)
              (below_or j k);
          stood = λ j l z. ⊎_elim
              (λ (m : j < k). stood-same v p ats ends ps nexts qs j (d + 1) (alike j (omega arith) (λ q. omega arith)) (s.stood j m z))
              (λ (m : k ≤ j). let q : j ≡ k = omega arith in rw q t.stood)
              (below_or j k);
          kept = λ j l o. candidate-same v p ats ends ps nexts qs j d (alike j l (other j o)) (get_or docs j 0) (s.kept j l (before j o));
        }
          where
            other : (j : ℕ) → (k + 1 ≤ j) ⊎ (get_or docs j 0 ≢ d) → j ≢ k
            other j o q = ⊎_elim (λ (m : k + 1 ≤ j). omega arith) (λ (m : get_or docs j 0 ≢ d). m (rw q e)) o

            before : (j : ℕ) → (k + 1 ≤ j) ⊎ (get_or docs j 0 ≢ d) → (k ≤ j) ⊎ (get_or docs j 0 ≢ d)
            before j o = ⊎_elim (λ (m : k + 1 ≤ j). inl (omega arith)) (λ (m : get_or docs j 0 ≢ d). inr m) o

        -- the pattern is found, or not
        pub settling-yes : b ≡ true → Settling v p ends docs d ats₀ ps₀ nexts qs (bits + weight) (weight * 2) (k + 1)
        settling-yes z = next (bits + weight) (bits-found (sym t.found-is ∙ z))

        pub settling-no : b ≡ false → Settling v p ends docs d ats₀ ps₀ nexts qs bits (weight * 2) (k + 1)
        settling-no z = next bits (bits-unfound (sym t.found-is ∙ z))

  pub settling-done : (ats ps : List ℕ) (bits weight k : ℕ) → Settling v p ends docs d ats₀ ps₀ ats ps bits weight k → (sizes p).patterns ≤ k
      → SettledAll v p ends docs d ats₀ ps₀ bits ats ps
  unfolding sizes
  settling-done ats ps bits weight k s h = record {
    ats-length = s.ats-length;
    positions-length = s.positions-length;
    bits_are = s.bits_are ∙ ap (λ (fs : List Pattern). bits_of (map (found (lists_of v) d) fs)) (take_all k (patterns_of (rows_of p)) h);
    least = λ j l. s.least j (omega arith);
    stood = λ j l. s.stood j (omega arith);
    kept = λ j l n. s.kept j l (inr n);
  }
