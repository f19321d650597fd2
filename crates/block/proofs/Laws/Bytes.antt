-- The laws of `specs/Bytes.antt`: a number is made of its bytes, and bytes are those of the number they make. No contract cites this file.
--     joined16, joined32       a number from its bytes
--     split16, split32         the bytes of the number that bytes make
--     le16-at, le32-at         a number stored at o is read there
--     bytes16-of, bytes32-of   the bytes at o are those of the number there
-- Assumes nothing.
use Prim.Native.Nat.{ℕ, suc, ◌+◌, ◌*◌, ◌/◌, ◌%◌, ◌<◌, ◌≤◌}
use native.Mathlib.Nat.{div-div-eq-div-mul, add-zero}
use native.Mathlib.Numerals.{add-one, add-two}
use native.Mathlib.Omega.{arith}
use mathlib.Core.Path.{◌≡◌, refl, sym, ap, ◌∙◌}
use mathlib.Core.List.{List, [], ◌∷◌, ◌++◌}
use lib.ListN.{length, get_or, take, drop}
use lib.Seq.{get_or-drop, drop-cons}
use Rattle.block.specs.Bytes.{IsBytes, le16, le32, bytes16, bytes32}

-- x / 65536 and x / 16777216, a byte at a time
digit3 : (x : ℕ) → x / 65536 ≡ x / 256 / 256
digit3 x = sym (div-div-eq-div-mul x 256 256)

digit4 : (x : ℕ) → x / 16777216 ≡ x / 256 / 256 / 256
digit4 x = sym (ap (λ (y : ℕ). y / 256) (div-div-eq-div-mul x 256 256) ∙ div-div-eq-div-mul x 65536 256)

joined16 : (x : ℕ) → x < 65536 → x % 256 + 256 * (x / 256 % 256) ≡ x
joined16 x h = omega arith

joined32 : (x : ℕ) → x < 4294967296 → x % 256 + 256 * (x / 256 % 256) + 65536 * (x / 65536 % 256) + 16777216 * (x / 16777216 % 256) ≡ x
joined32 x h = rw (digit3 x, digit4 x) (go (x / 256) refl (x / 256 / 256) refl (x / 256 / 256 / 256) refl)
  where
    go : (y : ℕ) → x / 256 ≡ y → (z : ℕ) → y / 256 ≡ z → (w : ℕ) → z / 256 ≡ w → x % 256 + 256 * (y % 256) + 65536 * (z % 256) + 16777216 * (w % 256) ≡ x
    go y ey z ez w ew =
        let a : x % 256 + 256 * y ≡ x = omega arith in
        let b : y % 256 + 256 * z ≡ y = omega arith in
        let c : z % 256 + 256 * w ≡ z = omega arith in
        let d : w < 256 = omega arith in
        let e : w % 256 ≡ w = omega arith in
        omega arith

low : (a m : ℕ) → a < 256 → (a + 256 * m) % 256 ≡ a
low a m h = omega arith

high : (a m : ℕ) → a < 256 → (a + 256 * m) / 256 ≡ m
high a m h = omega arith

split16 : (a b : ℕ) → a < 256 → b < 256 → bytes16 (a + 256 * b) ≡ a ∷ b ∷ []
split16 a b ha hb =
    let e : (a + 256 * b) / 256 % 256 ≡ b = rw (high a b ha) (omega arith) in
    rw (low a b ha, e)

split32 : (a b c d : ℕ) → a < 256 → b < 256 → c < 256 → d < 256 → bytes32 (a + 256 * b + 65536 * c + 16777216 * d) ≡ a ∷ b ∷ c ∷ d ∷ []
split32 a b c d ha hb hc hd =
    let e : a + 256 * b + 65536 * c + 16777216 * d ≡ a + 256 * (b + 256 * (c + 256 * d)) = omega arith in
    rw e (go (a + 256 * (b + 256 * (c + 256 * d))) refl)
  where
    go : (x : ℕ) → x ≡ a + 256 * (b + 256 * (c + 256 * d)) → bytes32 x ≡ a ∷ b ∷ c ∷ d ∷ []
    go x e =
        let x1 : x / 256 ≡ b + 256 * (c + 256 * d) = rw e (high a (b + 256 * (c + 256 * d)) ha) in
        let x2 : x / 256 / 256 ≡ c + 256 * d = rw x1 (high b (c + 256 * d) hb) in
        let x3 : x / 256 / 256 / 256 ≡ d = rw x2 (high c d hc) in
        let e0 : x % 256 ≡ a = rw e (low a (b + 256 * (c + 256 * d)) ha) in
        let e1 : x / 256 % 256 ≡ b = rw x1 (low b (c + 256 * d) hb) in
        let e2 : x / 65536 % 256 ≡ c = rw (digit3 x, x2) (low c d hc) in
        let e3 : x / 16777216 % 256 ≡ d = rw (digit4 x, x3) (omega arith) in
        rw (e0, e1, e2, e3)

-- an element behind o, by the rest from o
at_drop : (v zs : List ℕ) (o j : ℕ) → drop o v ≡ zs → get_or v (o + j) 0 ≡ get_or zs j 0
at_drop v zs o j e = sym (get_or-drop o v j 0) ∙ ap (λ (l : List ℕ). get_or l j 0) e

at_here : (v zs : List ℕ) (o : ℕ) → drop o v ≡ zs → get_or v o 0 ≡ get_or zs 0 0
at_here v zs o e = rw add-zero at (at_drop v zs o 0 e)

-- a number stored at o is read there
pub le16-at : (v ys : List ℕ) (o x : ℕ) → x < 65536 → drop o v ≡ bytes16 x ++ ys → le16 v o ≡ x
le16-at v ys o x h e = rw (at_here v (bytes16 x ++ ys) o e, at_drop v (bytes16 x ++ ys) o 1 e) (joined16 x h)

pub le32-at : (v ys : List ℕ) (o x : ℕ) → x < 4294967296 → drop o v ≡ bytes32 x ++ ys → le32 v o ≡ x
le32-at v ys o x h e =
    rw (at_here v (bytes32 x ++ ys) o e, at_drop v (bytes32 x ++ ys) o 1 e, at_drop v (bytes32 x ++ ys) o 2 e, at_drop v (bytes32 x ++ ys) o 3 e) (joined32 x h)

-- the rest from o, by its first elements
drop-two : (v : List ℕ) (o : ℕ) → o + 2 ≤ length v → drop o v ≡ get_or v o 0 ∷ get_or v (o + 1) 0 ∷ drop (o + 2) v
drop-two v o h =
    rw (add-one o, add-two o)
    (drop-cons v o 0 (omega arith) ∙ ap (λ (l : List ℕ). get_or v o 0 ∷ l) (drop-cons v (suc o) 0 (omega arith)))

pub drop-four : (v : List ℕ) (o : ℕ) → o + 4 ≤ length v → drop o v ≡ get_or v o 0 ∷ get_or v (o + 1) 0 ∷ get_or v (o + 2) 0 ∷ get_or v (o + 3) 0 ∷ drop (o + 4) v
drop-four v o h =
    let e3 : o + 2 + 1 ≡ o + 3 = omega arith in
    let e4 : o + 2 + 2 ≡ o + 4 = omega arith in
    drop-two v o (omega arith) ∙ ap (λ (l : List ℕ). get_or v o 0 ∷ get_or v (o + 1) 0 ∷ l) (drop-two v (o + 2) (omega arith) ∙ rw (e3, e4))

-- the bytes at o are those of the number there
pub bytes16-of : (v : List ℕ) (o : ℕ) → IsBytes v → o + 2 ≤ length v → take 2 (drop o v) ≡ bytes16 (le16 v o)
bytes16-of v o b h = ap (λ (l : List ℕ). take 2 l) (drop-two v o h) ∙ sym (split16 (get_or v o 0) (get_or v (o + 1) 0) (b o) (b (o + 1)))

pub bytes32-of : (v : List ℕ) (o : ℕ) → IsBytes v → o + 4 ≤ length v → take 4 (drop o v) ≡ bytes32 (le32 v o)
bytes32-of v o b h =
    ap (λ (l : List ℕ). take 4 l) (drop-four v o h)
    ∙ sym (split32 (get_or v o 0) (get_or v (o + 1) 0) (get_or v (o + 2) 0) (get_or v (o + 3) 0) (b o) (b (o + 1)) (b (o + 2)) (b (o + 3)))

-- a number that bytes make is a word
pub le32-lt : (v : List ℕ) (o : ℕ) → IsBytes v → le32 v o < 4294967296
le32-lt v o b = let h0 = b o in let h1 = b (o + 1) in let h2 = b (o + 2) in let h3 = b (o + 3) in omega arith
