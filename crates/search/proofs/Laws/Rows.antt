-- A row that is written from bits and positions. No contract cites this file.
--     Stored, stored-first, stored_one, stored_next, stored-over     what is written so far, and around it the words that were lent
--     stored-under, stored_back             the word under the first that is written does not count
--     stored-said, stored_flag              some words are written, and a flag in front of them, as a promise says it
--     zeros-back                            zeros fill a part
--     Pairing, pairing-first, pairing-next, pairing-done     positions with their starts are written one by one
--     row_first, row_next, row-le           the row, pattern by pattern
--     Writing, writing-first, writing-room, writing-next, writing-done     the row is written pattern by pattern
--     found-stored, unfound-stored          what the row shows of a pattern is written
--     row_is                                it is the row of the document, where the bits and the positions are those found there
--     least-small, row_small                the least match, and what the row shows of a pattern that is found, are positions of a document
-- Assumes nothing.
use Prim.Native.Nat.{ℕ, zero, suc, ◌+◌, ◌-◌, ◌*◌, ◌/◌, ◌%◌, ◌<◌, ◌≤◌}
use native.Mathlib.Nat.{zero-add}
use native.Mathlib.Numerals.{add-one}
use native.Mathlib.Omega.{arith}
use mathlib.Core.Path.{◌≡◌, refl, sym, ap, ap₂, ◌∙◌, subst}
use mathlib.Core.Bool.{Bool, true, false, cond, true≢false}
use mathlib.Core.Logic.{⊎_elim, ◌≢◌}
use mathlib.Core.List.{List, [], ◌∷◌, ◌++◌, map, append-nil, append_assoc}
use mathlib.Core.Option.{Option, none, some}
use lib.Dec.{eqb}
use lib.ListN.{length, get_or, set, take, drop, replicate, length-append, length-drop, length-map, length-set, length-replicate}
use lib.ListN.{take-append-drop}
use lib.Seq.{drop-cons, length-take-le, take-suc, take-length, take-set-le, drop-set-lt}
use Rattle.std.proofs.lemmas.List.{drop-drop}
use Rattle.seq.specs.Lists.{keep, joined}
use Rattle.seq.specs.Numbers.{run}
use Rattle.seq.proofs.Laws.Lists.{joined_append, length-snoc}
use Rattle.seq.proofs.Laws.Members.{Every, has_every, every_any, every-index, every_append, every_as, every-keep, every_map, first_has}
use Rattle.seq.proofs.Laws.Numbers.{run_append, run_ext}
use Rattle.seq.proofs.Laws.Runs.{map-run, run-get_or}
use Rattle.seq.proofs.Laws.Slices.{length_slice}
use Rattle.seq.proofs.Laws.Stores.{put_next, put-over}
use Rattle.seq.proofs.Laws.Tests.{true_or}
use Rattle.volume.specs.Posting.{doc_of, pos_of}
use Rattle.volume.specs.Layout.{lists_of}
use Rattle.plan.specs.declared.outline.Outline.{Outline}
use Rattle.plan.specs.Rows.{rows_of}
use Rattle.plan.specs.Patterns.{Pattern, no_row, patterns_of}
use Rattle.plan.specs.Check.{sizes}
use Rattle.plan.specs.Accepted.{pattern_at}
use Rattle.plan.specs.Inner.Outline.{vars_before, outline_at, Tabled}
use Rattle.plan.specs.Inner.Stack.{flag_of, bits_of, found_bits}
use Rattle.plan.proofs.Laws.Outline.{Outlined, outlined}
use Rattle.fulltext.specs.Positions.{list_of, positions_in}
use Rattle.fulltext.specs.Paragraphs.{para_start}
use Rattle.fulltext.specs.Matches.{with_each, tuples, matches, all_hold, starts_in, vars_in, least_in}
use Rattle.fulltext.specs.Documents.{present, found, with_starts, shown, shown_in, row_in, work_of, work}
use Rattle.fulltext.proofs.Laws.Counts.{length_pairs}
use Rattle.matcher.specs.Inner.Shortfall.{InDocument}
use Rattle.search.specs.Inner.Rows.{halved, shown_by, row_by}
use Rattle.search.specs.Inner.Walk.{LeastAt}

-- xs is written over the words d from index `from` on
pub record Stored (xs d : List ℕ) (from : ℕ) (out : List ℕ) : Type 0 where
  pub same_length : length out ≡ length d
  pub laid : out ≡ (take from d ++ xs) ++ drop (from + length xs) d

pub stored-first : (d : List ℕ) (from : ℕ) → Stored [] d from d
stored-first d from = record {
  same_length = refl;
  laid =
      let e : from ≡ from + 0 = omega arith in
      sym (take-append-drop from d) ∙ ap₂ (λ (a b : List ℕ). a ++ b) (sym (append-nil (take from d))) (ap (λ (n : ℕ). drop n d) e);
}

pub stored_next : (xs d : List ℕ) (from : ℕ) (out : List ℕ) → Stored xs d from out → from + length xs < length d
    → (i a : ℕ) → i ≡ from + length xs → Stored (xs ++ (a ∷ [])) d from (set out i a)
stored_next xs d from out s h i a e = record {
  same_length = length-set out i a ∙ s.same_length;
  laid =
      let n = length-snoc xs a in
      let more : (from + length xs) + 1 ≡ from + length (xs ++ (a ∷ [])) = omega arith in
      let t = length-take-le from d (omega arith) in
      let before : length (take from d ++ xs) ≡ from + length xs = length-append (take from d) xs ∙ omega arith in
      ap₂ (λ (ys : List ℕ) (j : ℕ). set ys j a) s.laid e
      ∙ put_next (take from d ++ xs) d (from + length xs) a before h
      ∙ ap₂ (λ (ys : List ℕ) (n : ℕ). ys ++ drop n d) (append_assoc (take from d) xs (a ∷ [])) more;
}

-- where something is written the word that stood there does not count
module _ (xs d : List ℕ) (from a : ℕ) (out : List ℕ) (some_words : 1 ≤ length xs) where
  front : take from (set d from a) ≡ take from d
  front = take-set-le from d from a (omega arith)

  rest : drop (from + length xs) (set d from a) ≡ drop (from + length xs) d
  rest = drop-set-lt (from + length xs) d from a (omega arith)

  stored-under : Stored xs d from out → Stored xs (set d from a) from out
  stored-under s = record {
    same_length = s.same_length ∙ sym (length-set d from a);
    laid = s.laid ∙ ap₂ (λ (u v : List ℕ). (u ++ xs) ++ v) (sym front) (sym rest);
  }

  stored_back : Stored xs (set d from a) from out → Stored xs d from out
  stored_back s = record {
    same_length = s.same_length ∙ length-set d from a;
    laid = s.laid ∙ ap₂ (λ (u v : List ℕ). (u ++ xs) ++ v) front rest;
  }

-- the first word is written
stored_one : (d : List ℕ) (from a : ℕ) → from < length d → Stored (a ∷ []) (set d from a) from (set d from a)
stored_one d from a h =
    stored-under (a ∷ []) d from a (set d from a) (omega arith)
    (stored_next [] d from d (stored-first d from) (omega arith) from a (omega arith))

-- more is written behind what is written
stored-over : (xs ys d : List ℕ) (from to : ℕ) (mid out : List ℕ) → from ≤ length d → to ≡ from + length xs → Stored xs d from mid
    → Stored ys mid to out → Stored (xs ++ ys) d from out
stored-over xs ys d from to mid out room e s t = record {
  same_length = t.same_length ∙ s.same_length;
  laid =
      let n = length-append xs ys in
      let more : to + length ys ≡ from + length (xs ++ ys) = omega arith in
      let w = length-take-le from d room in
      let before : length (take from d ++ xs) ≡ to = length-append (take from d) xs ∙ omega arith in
      t.laid
      ∙ ap (λ (zs : List ℕ). (take to zs ++ ys) ++ drop (to + length ys) zs)
      (s.laid ∙ ap (λ (i : ℕ). (take from d ++ xs) ++ drop i d) (sym e))
      ∙ put-over (take from d ++ xs) d ys to (length ys) before
      ∙ ap₂ (λ (zs : List ℕ) (i : ℕ). zs ++ drop i d) (append_assoc (take from d) xs ys) more;
}

-- n words are written, as a promise says it
stored-said : (xs d : List ℕ) (from n : ℕ) (out : List ℕ) → length xs ≡ n → from + n ≤ length d
    → out ≡ take from d ++ xs ++ drop (from + n) d → Stored xs d from out
stored-said xs d from n out e h l = record {
  same_length =
      let t = length-take-le from d (omega arith) in
      let a = length-append (take from d) xs in
      let b = length-append (take from d ++ xs) (drop (from + n) d) in
      let r = length-drop (from + n) d in
      ap length l ∙ omega arith;
  laid = l ∙ ap (λ (m : ℕ). (take from d ++ xs) ++ drop (from + m) d) (sym e);
}

-- a flag is written, and some words behind it, as a promise says it
stored_flag : (xs out : List ℕ) (to flag n : ℕ) (next : List ℕ) → length xs ≡ n → to + 1 + n ≤ length out
    → next ≡ take (to + 1) (set out to flag) ++ xs ++ drop (to + 1 + n) (set out to flag) → Stored (flag ∷ xs) out to next
stored_flag xs out to flag n next e h s =
    let l = length-set out to flag in
    stored-over (flag ∷ []) xs out to (to + 1) (set out to flag) next (omega arith) refl
    (stored_next [] out to out (stored-first out to) (omega arith) to flag (omega arith))
    (stored-said xs (set out to flag) (to + 1) n next e (omega arith) s)

-- n words from a on are filled with zeros, in a part that is lent and comes back
pub zeros-back : (xs part : List ℕ) (a n : ℕ) → a + n ≤ length xs → part ≡ replicate (length (take ((a + n) - a) (drop a xs))) 0
    → take a xs ++ (part ++ drop ((a + n) - a) (drop a xs)) ≡ take a xs ++ replicate n 0 ++ drop (a + n) xs
zeros-back xs part a n h e =
    let m : (a + n) - a ≡ n = omega arith in
    let l : length (take ((a + n) - a) (drop a xs)) ≡ n = ap (λ (k : ℕ). length (take k (drop a xs))) m ∙ length_slice xs a n h in
    ap₂ (λ (zeros rest : List ℕ). take a xs ++ (zeros ++ rest))
    (e ∙ ap (λ (k : ℕ). replicate k 0) l)
    (ap (λ (k : ℕ). drop k (drop a xs)) m ∙ drop-drop n a xs)
    ∙ sym (append_assoc (take a xs) (replicate n 0) (drop (a + n) xs))

-- positions with their starts, and one more
pairs-snoc : (starts ps : List ℕ) (p : ℕ)
    → with_starts starts (ps ++ (p ∷ [])) ≡ (with_starts starts ps ++ (p ∷ [])) ++ (para_start starts p ∷ [])
unfolding with_starts joined
pairs-snoc starts [] p = refl
pairs-snoc starts (q ∷ ps) p = ap (λ (l : List ℕ). q ∷ (para_start starts q ∷ l)) (pairs-snoc starts ps p)

-- the first x positions are written with their starts, from `to` on into a buffer that was lent as d
pub record Pairing (starts ps d : List ℕ) (to : ℕ) (out : List ℕ) (x : ℕ) : Type 0 where
  pub most : x ≤ length ps
  pub stored : Stored (with_starts starts (take x ps)) d to out

pub pairing-first : (starts ps d : List ℕ) (to : ℕ) → Pairing starts ps d to d 0
unfolding with_starts joined
pairing-first starts ps d to = record {
  most = omega arith;
  stored = stored-first d to;
}

module _ (starts ps d : List ℕ) (to : ℕ) (out : List ℕ) (x : ℕ) (w : Pairing starts ps d to out x) where
  pub pairing-next : x < length ps → to + 2 * length ps ≤ length d → (s : ℕ) → s ≡ para_start starts (get_or ps x 0)
      → Pairing starts ps d to (set (set out (to + 2 * x) (get_or ps x 0)) (to + 2 * x + 1) s) (x + 1)
  pairing-next h room s e =
      let p = get_or ps x 0 in
      let xs = with_starts starts (take x ps) in
      let l = length_pairs starts (take x ps) in
      let t = length-take-le x ps (omega arith) in
      let n = length-snoc xs p in
      let at = to + 2 * x in record {
        most = omega arith;
        stored =
            rw (add-one x, take-suc ps x 0 h, pairs-snoc starts (take x ps) p, e)
            (stored_next (xs ++ (p ∷ [])) d to (set out at p) (stored_next xs d to out w.stored (omega arith) at p (omega arith))
            (omega arith) (at + 1) (para_start starts p) (omega arith));
      }

  pub pairing-done : length ps ≤ x → out ≡ take to d ++ with_starts starts ps ++ drop (to + 2 * length ps) d
  pairing-done h =
      let e : x ≡ length ps = let m = w.most in omega arith in
      let l = length_pairs starts ps in
      let s : Stored (with_starts starts ps) d to out = rw (e, take-length ps) at w.stored in
      s.laid ∙ ap (λ (n : ℕ). (take to d ++ with_starts starts ps) ++ drop (to + n) d) l

halved-first : (bits : ℕ) → bits ≡ halved bits 0
unfolding halved
halved-first bits = refl

halved-next : (bits k : ℕ) → halved bits k / 2 ≡ halved bits (k + 1)
unfolding halved
halved-next bits k = sym (ap (halved bits) (add-one k))

module _ (starts : List ℕ) (table : List Outline) (d bits : ℕ) (ps : List ℕ) where
  pub row_first : row_by starts table d bits ps 0 ≡ d ∷ []
  unfolding row_by joined run
  row_first = refl

  row_more : (k m : ℕ)
      → row_by starts table d bits ps (k + m) ≡ row_by starts table d bits ps k ++ joined (run (shown_by starts table bits ps) k m)
  unfolding row_by
  row_more k m =
      ap (λ (xs : List ℕ). d ∷ xs)
      (ap joined (run_append (shown_by starts table bits ps) 0 k m)
      ∙ joined_append (run (shown_by starts table bits ps) 0 k) (run (shown_by starts table bits ps) (0 + k) m)
      ∙ ap (λ (i : ℕ). joined (run (shown_by starts table bits ps) 0 k) ++ joined (run (shown_by starts table bits ps) i m)) (zero-add k))

  row_next : (k : ℕ) → row_by starts table d bits ps (k + 1) ≡ row_by starts table d bits ps k ++ shown_by starts table bits ps k
  unfolding joined run
  row_next k = row_more k 1 ∙ ap (λ (xs : List ℕ). row_by starts table d bits ps k ++ xs) (append-nil (shown_by starts table bits ps k))

  pub row-le : (k n : ℕ) → k ≤ n → length (row_by starts table d bits ps k) ≤ length (row_by starts table d bits ps n)
  row-le k n h =
      let e : k + (n - k) ≡ n = omega arith in
      let a = ap (λ (i : ℕ). length (row_by starts table d bits ps i)) e in
      let b = ap length (row_more k (n - k)) in
      let c = length-append (row_by starts table d bits ps k) (joined (run (shown_by starts table bits ps) k (n - k))) in
      omega arith

  -- what it shows of pattern k, by its bit
  shown-found : (k : ℕ) → halved bits k % 2 ≡ 1
      → shown_by starts table bits ps k ≡ 1 ∷ with_starts starts (take (outline_at table k).vars (drop (outline_at table k).first ps))
  shown-found k e = rw e

  shown-unfound : (k : ℕ) → halved bits k % 2 ≡ 0 → shown_by starts table bits ps k ≡ 0 ∷ replicate (2 * (outline_at table k).vars) 0
  shown-unfound k e = rw e

  length-shown : (k : ℕ) → (outline_at table k).first + (outline_at table k).vars ≤ length ps
      → length (shown_by starts table bits ps k) ≡ 1 + 2 * (outline_at table k).vars
  length-shown k h = go (eqb (halved bits k % 2) 1)
    where
      own : List ℕ
      own = take (outline_at table k).vars (drop (outline_at table k).first ps)

      go : (t : Bool) → length (shown starts (outline_at table k).vars (cond t (some own) none)) ≡ 1 + 2 * (outline_at table k).vars
      go true =
          let l = length_slice ps (outline_at table k).first (outline_at table k).vars h in
          let m = length_pairs starts own in
          omega arith
      go false = let l = length-replicate {A = ℕ} (2 * (outline_at table k).vars) 0 in omega arith

  -- the row is written up to pattern k of n, into a buffer that was lent as out₀, its first word stored
  pub record Writing (out₀ : List ℕ) (from n : ℕ) (out : List ℕ) (to left k : ℕ) : Type 0 where
    pub most : k ≤ n
    pub stored : Stored (row_by starts table d bits ps k) out₀ from out
    pub to_is : to ≡ from + length (row_by starts table d bits ps k)
    pub left_is : left ≡ halved bits k

  pub writing-first : (out₀ : List ℕ) (from n : ℕ) → from < length out₀
      → Writing (set out₀ from d) from n (set out₀ from d) (from + 1) bits 0
  writing-first out₀ from n h = record {
    most = omega arith;
    stored = rw row_first (stored_one out₀ from d h);
    to_is = ap (λ (xs : List ℕ). from + length xs) (sym row_first);
    left_is = halved-first bits;
  }

  module _ (out₀ : List ℕ) (from n : ℕ) (out : List ℕ) (to left k : ℕ) (w : Writing out₀ from n out to left k) (h : k < n)
      (inside : (outline_at table k).first + (outline_at table k).vars ≤ length ps)
      (room : from + length (row_by starts table d bits ps n) ≤ length out₀) where
    row-length : length (row_by starts table d bits ps (k + 1)) ≡ length (row_by starts table d bits ps k) + (1 + 2 * (outline_at table k).vars)
    row-length =
        ap length (row_next k)
        ∙ length-append (row_by starts table d bits ps k) (shown_by starts table bits ps k)
        ∙ ap (λ (m : ℕ). length (row_by starts table d bits ps k) + m) (length-shown k inside)

    -- there is room for pattern k
    pub writing-room : to + 1 + 2 * (outline_at table k).vars ≤ length out
    writing-room =
        let a = row-length in
        let b = row-le (k + 1) n (omega arith) in
        let e = w.to_is in
        let l = w.stored.same_length in
        omega arith

    -- its flag is written, and behind it its positions with their starts
    pub found-stored : left % 2 ≡ 1 → (own : List ℕ) → own ≡ take (outline_at table k).vars (drop (outline_at table k).first ps)
        → (next : List ℕ)
        → next ≡ take (to + 1) (set out to (left % 2)) ++ with_starts starts own ++ drop (to + 1 + 2 * length own) (set out to (left % 2))
        → Stored (shown_by starts table bits ps k) out to next
    found-stored e own o next s =
        let r = writing-room in
        let l = length_pairs starts own in
        let m = ap length o ∙ length_slice ps (outline_at table k).first (outline_at table k).vars inside in
        let bit = ap (λ (b : ℕ). b % 2) (sym w.left_is) ∙ e in
        subst (λ (xs : List ℕ). Stored xs out to next)
        (ap₂ (λ (flag : ℕ) (ys : List ℕ). flag ∷ with_starts starts ys) e o ∙ sym (shown-found k bit))
        (stored_flag (with_starts starts own) out to (left % 2) (2 * length own) next l (omega arith) s)

    -- or zeros
    pub unfound-stored : left % 2 ≢ 1 → (vars : ℕ) → vars ≡ (outline_at table k).vars → (next : List ℕ)
        → next ≡ take (to + 1) (set out to (left % 2)) ++ replicate (2 * vars) 0 ++ drop (to + 1 + 2 * vars) (set out to (left % 2))
        → Stored (shown_by starts table bits ps k) out to next
    unfound-stored u vars m next s =
        let r = writing-room in
        let e : left % 2 ≡ 0 = omega arith in
        let bit = ap (λ (b : ℕ). b % 2) (sym w.left_is) ∙ e in
        subst (λ (xs : List ℕ). Stored xs out to next)
        (ap₂ (λ (flag n : ℕ). flag ∷ replicate (2 * n) 0) e m ∙ sym (shown-unfound k bit))
        (stored_flag (replicate (2 * vars) 0) out to (left % 2) (2 * vars) next (length-replicate (2 * vars) 0) (omega arith) s)

    -- the row is written up to the next pattern
    pub writing-next : (next : List ℕ) (vars : ℕ) → vars ≡ (outline_at table k).vars → Stored (shown_by starts table bits ps k) out to next
        → Writing out₀ from n next (to + 1 + 2 * vars) (left / 2) (k + 1)
    writing-next next vars m s = record {
      most = omega arith;
      stored =
          rw (row_next k)
          (stored-over (row_by starts table d bits ps k) (shown_by starts table bits ps k) out₀ from to out next (omega arith) w.to_is
          w.stored s);
      to_is = let a = row-length in let e = w.to_is in omega arith;
      left_is = ap (λ (b : ℕ). b / 2) w.left_is ∙ halved-next bits k;
    }

  pub writing-done : (out₀ : List ℕ) (from n : ℕ) (out : List ℕ) (to left k : ℕ) → Writing (set out₀ from d) from n out to left k → n ≤ k
      → out ≡ take from out₀ ++ row_by starts table d bits ps n ++ drop (from + length (row_by starts table d bits ps n)) out₀
  unfolding row_by
  writing-done out₀ from n out to left k w h =
      let e : k ≡ n = let m = w.most in omega arith in
      (stored_back (row_by starts table d bits ps n) out₀ from d out (omega arith) (rw e at w.stored)).laid

-- bit k of some answers is answer k
halved_bits : (ts : List Bool) (k : ℕ) → k ≤ length ts → halved (bits_of ts) k ≡ bits_of (drop k ts)
unfolding halved bits_of
halved_bits ts zero h = refl
halved_bits ts (suc k) h =
    let e = halved_bits ts k (omega arith) in
    let c = ap bits_of (drop-cons ts k false h) in
    let f = flag-le (get_or ts k false) in
    omega arith
  where
    flag-le : (t : Bool) → flag_of t ≤ 1
    flag-le true = omega arith
    flag-le false = omega arith

bit_is : (ts : List Bool) (k : ℕ) → k < length ts → halved (bits_of ts) k % 2 ≡ flag_of (get_or ts k false)
unfolding bits_of
bit_is ts k h =
    ap (λ (b : ℕ). b % 2) (halved_bits ts k (omega arith) ∙ ap bits_of (drop-cons ts k false h))
    ∙ low (get_or ts k false) (bits_of (drop (suc k) ts))
  where
    low : (t : Bool) (b : ℕ) → (b * 2 + flag_of t) % 2 ≡ flag_of t
    low true b = omega arith
    low false b = omega arith

get_d_map : {A B : Type 0} (g : A → B) (xs : List A) (i : ℕ) (d : A) (e : B) → i < length xs → get_or (map g xs) i e ≡ g (get_or xs i d)
get_d_map g [] i d e h = absurd (let z : ⊥ = omega arith in z)
get_d_map g (x ∷ xs) zero d e h = refl
get_d_map g (x ∷ xs) (suc i) d e h = get_d_map g xs i d e (omega arith)

-- a pattern that is not found has no least match
unfound-least : (lists : List (List ℕ)) (d : ℕ) (f : Pattern) → found lists d f ≡ false → least_in lists d f ≡ none
unfolding found
unfound-least lists d f e = go (least_in lists d f) e
  where
    go : (o : Option (List ℕ)) → present o ≡ false → o ≡ none
    go none z = refl
    go (some ps) z = absurd (true≢false z)

-- these are positions of a document: so are those of a list, and those of every tuple, the least match too
abbrev Small : List ℕ → Type 0
Small ps = Every (λ (p : ℕ). p ≤ 65535) ps

positions-small : (d : ℕ) (l : List ℕ) → Small (positions_in d l)
unfolding positions_in
positions-small d l =
    let here = keep (λ p. eqb (doc_of p) d) l in
    every_map (λ p. pos_of p) (λ (p : ℕ). p ≤ 65535) here (every_any (λ (p : ℕ). pos_of p ≤ 65535) (λ p. omega arith) here)

vars-small : (lists : List (List ℕ)) (d : ℕ) (vars : List ℕ) → Every Small (vars_in lists d vars)
vars-small lists d [] = tt
vars-small lists d (l ∷ vars) = (positions-small d (list_of lists l), vars-small lists d vars)

each-small : (l : List ℕ) (rest : List (List ℕ)) → Small l → Every Small rest → Every Small (with_each l rest)
unfolding with_each
each-small [] rest h t = tt
each-small (p ∷ l) rest h t =
    every_append Small (map (λ r. p ∷ r) rest) (with_each l rest)
    (every_map (λ r. p ∷ r) Small rest (every_as Small (λ r. Small (p ∷ r)) (λ r s. (h.0, s)) rest t)) (each-small l rest h.1 t)

tuples-small : (vs : List (List ℕ)) → Every Small vs → Every Small (tuples vs)
unfolding tuples
tuples-small [] h = (tt, tt)
tuples-small (l ∷ vs) h = each-small l (tuples vs) h.0 (tuples-small vs h.1)

least-small : (lists : List (List ℕ)) (d : ℕ) (f : Pattern) (ps : List ℕ) → least_in lists d f ≡ some ps → InDocument ps
unfolding least_in matches
least-small lists d f ps e =
    let ss = starts_in lists d in
    let vs = vars_in lists d f.vars in
    every-index (λ (p : ℕ). p ≤ 65535) 0 ps
    (has_every Small ps (matches ss vs f.predicates)
    (every-keep Small (λ qs. all_hold ss f.predicates qs) (tuples vs) (tuples-small vs (vars-small lists d f.vars)))
    (first_has ps (matches ss vs f.predicates) e))

module _ (v p : List ℕ) (table : List Outline) (tabled : Tabled p table) (d bits : ℕ) (ps : List ℕ) (bits_are : bits ≡ found_bits (found (lists_of v) d) p)
    (least : (k : ℕ) → k < (sizes p).patterns → LeastAt v p d ps k) where
  own_outline : (k : ℕ) → k < (sizes p).patterns → Outlined p k (outline_at table k)
  own_outline k h = outlined table tabled k h refl

  flag_is : (k : ℕ) → k < (sizes p).patterns → halved bits k % 2 ≡ flag_of (found (lists_of v) d (pattern_at p k))
  unfolding sizes
  flag_is k h =
      let n = length-map (patterns_of (rows_of p)) (found (lists_of v) d) in
      ap (λ (b : ℕ). halved b k % 2) bits_are
      ∙ bit_is (map (found (lists_of v) d) (patterns_of (rows_of p))) k (omega arith)
      ∙ ap flag_of (get_d_map (found (lists_of v) d) (patterns_of (rows_of p)) k no_row false h)

  shown-is : (k : ℕ) → k < (sizes p).patterns → shown_by (starts_in (lists_of v) d) table bits ps k ≡ shown_in (lists_of v) d (pattern_at p k)
  shown-is k h =
      rw ((own_outline k h).first-is, (own_outline k h).vars_are, flag_is k h)
      (ap (shown (starts_in (lists_of v) d) (length (pattern_at p k).vars)) (⊎_elim yes no (true_or (found (lists_of v) d (pattern_at p k)))))
    where
      own : Bool → Option (List ℕ)
      own t = cond (eqb (flag_of t) 1) (some (take (length (pattern_at p k).vars) (drop (vars_before p k) ps))) none

      yes : found (lists_of v) d (pattern_at p k) ≡ true → own (found (lists_of v) d (pattern_at p k)) ≡ least_in (lists_of v) d (pattern_at p k)
      yes t = ap own t ∙ sym (least k h t)

      no : found (lists_of v) d (pattern_at p k) ≡ false → own (found (lists_of v) d (pattern_at p k)) ≡ least_in (lists_of v) d (pattern_at p k)
      no t = ap own t ∙ sym (unfound-least (lists_of v) d (pattern_at p k) t)

  pub row_is : (n : ℕ) → n ≡ (sizes p).patterns → row_by (starts_in (lists_of v) d) table d bits ps n ≡ (work v p).row_of d
  unfolding row_by work work_of row_in sizes
  row_is n e =
      let shows = shown_by (starts_in (lists_of v) d) table bits ps in
      ap (λ (xss : List (List ℕ)). d ∷ joined xss)
      (ap (run shows 0) e
      ∙ run_ext shows (λ k. shown_in (lists_of v) d (pattern_at p k)) 0 0 (length (patterns_of (rows_of p)))
      (λ j l. rw (zero-add j) (shown-is j l))
      ∙ sym (map-run (shown_in (lists_of v) d) (pattern_at p) 0 (length (patterns_of (rows_of p))))
      ∙ ap (map (shown_in (lists_of v) d)) (run-get_or no_row (patterns_of (rows_of p))))

  pub row_small : (k : ℕ) → k < (sizes p).patterns → halved bits k % 2 ≡ 1
      → InDocument (take (outline_at table k).vars (drop (outline_at table k).first ps))
  row_small k h e =
      rw ((own_outline k h).first-is, (own_outline k h).vars_are)
      (least-small (lists_of v) d (pattern_at p k) (take (length (pattern_at p k).vars) (drop (vars_before p k) ps))
      (least k h (yes (found (lists_of v) d (pattern_at p k)) (sym (flag_is k h) ∙ e))))
    where
      yes : (t : Bool) → flag_of t ≡ 1 → t ≡ true
      yes true f = refl
      yes false f = absurd (let z : ⊥ = omega arith in z)
