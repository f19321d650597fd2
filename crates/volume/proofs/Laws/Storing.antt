-- The stores of `src/writing.rt`: the words of a block, a block, and all blocks. No contract cites this file.
--     Filling, filling-first, filling_again, filling-done      a block's words, stored one by one
--     Onward, onward-first, onward_again                       the same, from a list in which some are stored
--     put_body, put-sealed                                     a block's number and words, and its checksum behind them
--     words-made                                               words that are a stream's
--     Laying, laying-first, laying_again, laying-done          blocks, stored one by one
--     put_three                                                all blocks, stored in three runs
-- Assumes nothing.
use Prim.Native.Nat.{ℕ, ◌+◌, ◌*◌, ◌-◌, ◌<◌, ◌≤◌}
use native.Mathlib.Nat.{zero-add, sub_self}
use native.Mathlib.Omega.{arith}
use mathlib.Core.Path.{◌≡◌, refl, sym, ap, ◌∙◌}
use mathlib.Core.List.{List, [], ◌++◌, append_assoc, append-nil}
use lib.ListN.{length, take, drop, length-append, take-append-drop, drop_of_length-le}
use lib.Seq.{take_at, length-take-le}
use borrow.Rule.Slice.PartMut.{put_mid}
use Rattle.seq.specs.Lists.{at}
use Rattle.seq.specs.Numbers.{run}
use Rattle.seq.proofs.Laws.Numbers.{get_or-run}
use Rattle.seq.proofs.Laws.Stores.{put-over, put-part}
use Rattle.block.specs.Bytes.{bytes16, bytes32}
use Rattle.block.specs.Checksum.{check_a, check_b}
use Rattle.volume.specs.Write.{word_bytes, block_body, sealed, blocks_from}
use Rattle.volume.proofs.Laws.Write.{length-word_bytes, word_bytes-snoc, word_bytes_ext, length-block_body, length-blocks_from, blocks_from_append, blocks_from-snoc}

-- the words of a block that are stored so far: the first j of f's from `from` on
pub record Filling (f : ℕ → ℕ) (from : ℕ) (out₀ out : List ℕ) (j : ℕ) : Type 0 where
  pub within : j ≤ 126
  pub long : length out₀ ≡ 512
  pub same : length out ≡ length out₀
  pub stored : out ≡ take 4 out₀ ++ word_bytes f from j ++ drop (4 + 4 * j) out₀

four-more : (j : ℕ) → 4 + 4 * j + 4 ≡ 4 + 4 * (j + 1)
four-more j = omega arith

module _ (f : ℕ → ℕ) (from : ℕ) (out₀ : List ℕ) where
  pub filling-first : length out₀ ≡ 512 → Filling f from out₀ out₀ 0
  unfolding word_bytes
  filling-first h = record { within = omega arith; long = h; same = refl; stored = rw (append-nil (take 4 out₀)) (sym (take-append-drop 4 out₀)) }

  pub filling_again : (out next : List ℕ) (j x : ℕ) → Filling f from out₀ out j → j < 126 → x ≡ f (from + j) → length next ≡ length out
      → next ≡ take (4 + 4 * j) out ++ bytes32 x ++ drop (4 + 4 * j + 4) out → Filling f from out₀ next (j + 1)
  filling_again out next j x s h e l n =
      let size : length (take 4 out₀ ++ word_bytes f from j) ≡ 4 + 4 * j = rw (length-append, length-take-le 4 out₀ (omega arith), length-word_bytes f from j) in
      record {
        within = omega arith;
        long = s.long;
        same = l ∙ s.same;
        stored = n ∙ ap (λ (l : List ℕ). take (4 + 4 * j) l ++ bytes32 x ++ drop (4 + 4 * j + 4) l) s.stored
            ∙ put-over (take 4 out₀ ++ word_bytes f from j) out₀ (bytes32 x) (4 + 4 * j) 4 size
            ∙ rw (e, word_bytes-snoc f from j, ← four-more j, ← append_assoc (take 4 out₀) (word_bytes f from j) (bytes32 (f (from + j))));
      }

  pub filling-done : (out : List ℕ) (j : ℕ) → Filling f from out₀ out j → 126 ≤ j → out ≡ take 4 out₀ ++ word_bytes f from 126 ++ drop 508 out₀
  filling-done out j s h = let e : j ≡ 126 = omega arith in rw e at s.stored

-- from a list in which j₀ words are stored to one in which j are, whatever the list was at first
pub record Onward (f : ℕ → ℕ) (from : ℕ) (out₀ : List ℕ) (j₀ : ℕ) (out : List ℕ) (j : ℕ) : Type 0 where
  pub within : j ≤ 126
  pub long : length out ≡ 512
  pub carries : (first : List ℕ) → Filling f from first out₀ j₀ → Filling f from first out j

module _ (f : ℕ → ℕ) (from : ℕ) where
  pub onward-first : (first out₀ : List ℕ) (j₀ : ℕ) → Filling f from first out₀ j₀ → Onward f from out₀ j₀ out₀ j₀
  onward-first first out₀ j₀ s = record { within = s.within; long = s.same ∙ s.long; carries = λ e t. t }

  pub onward_again : (out₀ : List ℕ) (j₀ : ℕ) (out next : List ℕ) (j x : ℕ) → Onward f from out₀ j₀ out j → j < 126 → x ≡ f (from + j)
      → length next ≡ length out → next ≡ take (4 + 4 * j) out ++ bytes32 x ++ drop (4 + 4 * j + 4) out → Onward f from out₀ j₀ next (j + 1)
  onward_again out₀ j₀ out next j x o h e l n = record {
    within = omega arith;
    long = l ∙ o.long;
    carries = λ first s. filling_again f from first out next j x (o.carries first s) h e l n;
  }

-- its number and then its words
pub put_body : (f : ℕ → ℕ) (k : ℕ) (rest a b : List ℕ) → a ≡ bytes32 k ++ rest → b ≡ take 4 a ++ word_bytes f (126 * k) 126 ++ drop 508 a
    → take 508 b ≡ block_body f k
unfolding block_body
put_body f k rest a b p q =
    let front : take 4 a ≡ bytes32 k = ap (take 4) p in
    ap (take 508) q ∙ rw front (take_at (bytes32 k ++ word_bytes f (126 * k) 126) (drop 508 a) 508 (length-block_body f k))

-- words that are a stream's from an index on
pub words-made : (f : ℕ → ℕ) (words : List ℕ) (k m : ℕ) → words ≡ run f k m → word_bytes (at words) 0 m ≡ word_bytes f k m
words-made f words k m e = word_bytes_ext (at words) f 0 k m (λ j h. rw (zero-add j, e) (get_or-run f k m j 0 h))

-- two numbers of two bytes behind 508
put_seal : (out xs ys : List ℕ) → length out ≡ 512 → length xs ≡ 2
    → take 510 (take 508 out ++ xs ++ drop 510 out) ++ ys ++ drop 512 (take 508 out ++ xs ++ drop 510 out) ≡ take 508 out ++ (xs ++ ys)
put_seal out xs ys l e =
    let behind : length out ≤ 512 = omega arith in
    let none : drop 512 out ≡ [] = drop_of_length-le out behind in
    put-over (take 508 out ++ xs) out ys 510 2 (rw (length-append, length-take-le 508 out (omega arith), e))
    ∙ rw (none, append-nil, append_assoc)

-- the two sums behind the 508 bytes that they are of
pub put-sealed : (out mid last : List ℕ) (a b : ℕ) → length out ≡ 512 → (a ≡ check_a (take 508 out)) × (b ≡ check_b (take 508 out))
    → mid ≡ take 508 out ++ bytes16 a ++ drop 510 out → last ≡ take 510 mid ++ bytes16 b ++ drop 512 mid → last ≡ sealed (take 508 out)
unfolding sealed
put-sealed out mid last a b l s m e = e ∙ rw (m, ← s.0, ← s.1) (put_seal out (bytes16 a) (bytes16 b) l refl)

-- the blocks that are stored so far: those from `from` to k
pub record Laying (f : ℕ → ℕ) (from to : ℕ) (out₀ out : List ℕ) (k : ℕ) : Type 0 where
  pub low : from ≤ k
  pub high : k ≤ to
  pub room : 512 * to ≤ length out₀
  pub same : length out ≡ length out₀
  pub stored : out ≡ take (512 * from) out₀ ++ blocks_from f from (k - from) ++ drop (512 * k) out₀

block_more : (k : ℕ) → 512 * k + 512 ≡ 512 * (k + 1)
block_more k = omega arith

module _ (f : ℕ → ℕ) (from to : ℕ) (out₀ : List ℕ) where
  pub laying-first : from ≤ to → 512 * to ≤ length out₀ → Laying f from to out₀ out₀ from
  unfolding blocks_from
  laying-first h r = record {
    low = omega arith;
    high = h;
    room = r;
    same = refl;
    stored = rw (sub_self from, append-nil (take (512 * from) out₀)) (sym (take-append-drop (512 * from) out₀));
  }

  pub laying_again : (out ys : List ℕ) (k : ℕ) → Laying f from to out₀ out k → k < to → ys ≡ sealed (block_body f k)
      → length (put_mid (512 * k) (512 * k + 512 - 512 * k) out ys) ≡ length out₀ → Laying f from to out₀ (put_mid (512 * k) (512 * k + 512 - 512 * k) out ys) (k + 1)
  laying_again out ys k s h y l =
      let before = take (512 * from) out₀ in
      let done = blocks_from f from (k - from) in
      let room : 512 * from ≤ length out₀ = omega arith in
      let size : length (before ++ done) ≡ 512 * k = rw (length-append, length-take-le (512 * from) out₀ room, length-blocks_from f from (k - from)) (omega arith) in
      let more : k + 1 - from ≡ k - from + 1 = omega arith in
      let here : from + (k - from) ≡ k = omega arith in
      record {
        low = omega arith;
        high = omega arith;
        room = s.room;
        same = l;
        stored = put-part (before ++ done) out₀ out ys (512 * k) (512 * k + 512) size (omega arith) s.stored
            ∙ rw (y, block_more k, more, blocks_from-snoc f from (k - from), here, ← append_assoc before done (sealed (block_body f k)));
      }

  pub laying-done : (out : List ℕ) (k : ℕ) → Laying f from to out₀ out k → to ≤ k → out ≡ take (512 * from) out₀ ++ blocks_from f from (to - from) ++ drop (512 * to) out₀
  laying-done out k s h = let e : k ≡ to = omega arith in rw e at s.stored

-- the blocks from a to b stored behind the first a
put-blocks-next : (f : ℕ → ℕ) (d out next : List ℕ) (a b : ℕ) → a ≤ b → out ≡ blocks_from f 0 a ++ drop (512 * a) d
    → next ≡ take (512 * a) out ++ blocks_from f a (b - a) ++ drop (512 * b) out → next ≡ blocks_from f 0 b ++ drop (512 * b) d
put-blocks-next f d out next a b h o n =
    let whole : b ≡ a + (b - a) = omega arith in
    let size : 512 * b ≡ 512 * a + 512 * (b - a) = omega arith in
    let all : blocks_from f 0 b ≡ blocks_from f 0 a ++ blocks_from f a (b - a) = ap (blocks_from f 0) whole ∙ blocks_from_append f 0 a (b - a) ∙ rw (zero-add a) in
    n ∙ rw (o, all, size) (put-over (blocks_from f 0 a) d (blocks_from f a (b - a)) (512 * a) (512 * (b - a)) (length-blocks_from f 0 a))

-- the first n blocks stored in three runs
pub put_three : (f : ℕ → ℕ) (d x y z : List ℕ) (a b n : ℕ) → a ≤ b → b ≤ n → x ≡ take (512 * 0) d ++ blocks_from f 0 (a - 0) ++ drop (512 * a) d
    → y ≡ take (512 * a) x ++ blocks_from f a (b - a) ++ drop (512 * b) x → z ≡ take (512 * b) y ++ blocks_from f b (n - b) ++ drop (512 * n) y
    → z ≡ blocks_from f 0 n ++ drop (512 * n) d
unfolding blocks_from
put_three f d x y z a b n h l p q r =
    put-blocks-next f d y z b n l (put-blocks-next f d x y a b h (put-blocks-next f d d x 0 a (omega arith) refl p) q) r
