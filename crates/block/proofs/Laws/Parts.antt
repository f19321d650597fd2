-- The laws of `specs/Parts.antt`: the checksum from sums of parts (02, N1). No contract cites this file.
--     weighed_append, weighed-weigh    two parts, one behind the other; the weights of a part by how many bytes stand behind it
--     parts-plain, parts-weighted      the sums of all parts are those of the bytes that they join to
--     joining                          two sums are joined alike in both orders
--     weighed-sum                      the weighted sum over indices
--     whole                            any parts in any order give the running pair
--     first-second, second-first       two parts in either order
--     in-any-order                     the statement of `specs/Demands.antt`
-- Assumes nothing.
use Prim.Native.Nat.{ℕ, suc, ◌+◌, ◌*◌, ◌-◌, ◌%◌}
use native.Mathlib.Nat.{add-zero, zero-add, suc-add, add-suc, add-mul, mul-add}
use native.Mathlib.Omega.{arith}
use mathlib.Core.Path.{◌≡◌, refl, sym, ap, ap₂, ◌∙◌}
use mathlib.Core.List.{List, [], ◌∷◌, ◌++◌, append-nil}
use lib.ListN.{length, take, length-append}
use lib.Seq.{length-take-le, take-append-add}
use Rattle.seq.specs.Lists.{at, total, joined, Permutation, same}
use Rattle.seq.specs.Numbers.{sum_to}
use Rattle.seq.proofs.Laws.Totals.{total_append, total_permuted}
use Rattle.seq.proofs.Laws.Numbers.{sum-front, sum_ext}
use Rattle.seq.proofs.Laws.Runs.{sum-total}
use Rattle.block.specs.declared.checksum.Half.{Half}
use Rattle.block.specs.Checksum.{check_b}
use Rattle.block.specs.Parts.{weighed, part_of, parts_of, sums_of, checksum_of}
use Rattle.block.specs.Demands.{Covered, Halves, InAnyOrder}
use Rattle.block.specs.Inner.Sums.{tot, weigh}
use Rattle.block.proofs.Laws.Checksum.{check_a-late, check_b-late}

weighed_append : (o : ℕ) (xs ys : List ℕ) → weighed o (xs ++ ys) ≡ weighed o xs + weighed (o + length xs) ys
unfolding weighed
weighed_append o [] ys = rw (add-zero o) (sym (zero-add (weighed o ys)))
weighed_append o (x ∷ xs) ys =
    let e : suc o + length xs ≡ o + length (x ∷ xs) = omega arith in
    let r = weighed_append (suc o) xs ys ∙ ap (λ (n : ℕ). weighed (suc o) xs + weighed n ys) e in
    omega arith

-- a part behind which n bytes of the block stand
pub weighed-weigh : (o n : ℕ) (xs : List ℕ) → o + length xs + n ≡ 508 → weighed o xs ≡ weigh xs + n * tot xs
unfolding weighed weigh total
weighed-weigh o n [] h = omega arith
weighed-weigh o n (x ∷ xs) h =
    let e : 508 - o ≡ length (x ∷ xs) + n = omega arith in
    rw (e, weighed-weigh (suc o) n xs (omega arith), add-mul (length (x ∷ xs)) n x, mul-add n x (tot xs)) (omega arith)

parts-plain : (o : ℕ) (xss : List (List ℕ)) → total (λ (p : Half). p.plain) (parts_of o xss) ≡ tot (joined xss)
unfolding parts_of total joined
parts-plain o [] = refl
parts-plain o (xs ∷ xss) = ap (λ (n : ℕ). tot xs + n) (parts-plain (o + length xs) xss) ∙ sym (total_append (λ x. x) xs (joined xss))

parts-weighted : (o : ℕ) (xss : List (List ℕ)) → total (λ (p : Half). p.weighted) (parts_of o xss) ≡ weighed o (joined xss)
unfolding parts_of total joined weighed
parts-weighted o [] = refl
parts-weighted o (xs ∷ xss) = ap (λ (n : ℕ). weighed o xs + n) (parts-weighted (o + length xs) xss) ∙ sym (weighed_append o xs (joined xss))

joining : (x y : Half) → sums_of (x ∷ y ∷ []) ≡ sums_of (y ∷ x ∷ [])
unfolding sums_of total
joining x y = ap₂ (λ (a b : ℕ). record { a = a % 65535; b = b % 65535 }) (omega arith) (omega arith)

-- the weighted sum over indices, from byte o on
weighed-sum : (o : ℕ) (xs : List ℕ) → weighed o xs ≡ sum_to (λ i. (508 - (o + i)) * at xs i) (length xs)
unfolding weighed sum_to
weighed-sum o [] = refl
weighed-sum o (x ∷ xs) =
    ap₂ (λ (a b : ℕ). a + b)
    (ap (λ (n : ℕ). (508 - n) * x) (sym (add-zero o)))
    (weighed-sum (suc o) xs ∙ sum_ext _ _ (length xs) (λ j h. ap (λ (n : ℕ). (508 - n) * at xs j) (suc-add o j ∙ sym (add-suc o j))))
    ∙ sym (sum-front (λ i. (508 - (o + i)) * at (x ∷ xs) i) (length xs))

module _ (xs : List ℕ) (h : length xs ≡ 508) where
  late : (508 + weighed 0 xs) % 65535 ≡ check_b xs
  late =
      let w : weighed 0 xs ≡ weigh xs + 0 * tot xs = weighed-weigh 0 0 xs (omega arith) in
      ap (λ (n : ℕ). n % 65535) (omega arith) ∙ sym (check_b-late xs)

  whole : (cuts : List (List ℕ)) → joined cuts ≡ xs → (ps : List Half) → Permutation (parts_of 0 cuts) ps → sums_of ps ≡ checksum_of xs
  unfolding sums_of
  whole cuts e ps s =
      ap₂ (λ (a b : ℕ). record { a = a; b = b })
      (ap (λ (n : ℕ). (1 + n) % 65535) (sym (total_permuted (λ (p : Half). p.plain) _ ps s) ∙ parts-plain 0 cuts ∙ ap tot e) ∙ sym (check_a-late xs))
      (ap (λ (n : ℕ). (508 + n) % 65535) (sym (total_permuted (λ (p : Half). p.weighted) _ ps s) ∙ parts-weighted 0 cuts ∙ ap (weighed 0) e) ∙ late)

  covered : Covered xs
  covered = record {
    parts = whole;
    plain = check_a-late xs ∙ ap (λ (n : ℕ). (1 + n) % 65535) (sym (sum-total xs) ∙ ap (sum_to (λ i. at xs i)) h);
    weighted =
        sym late
        ∙ ap (λ (n : ℕ). (508 + n) % 65535)
        (weighed-sum 0 xs ∙ ap (sum_to (λ i. (508 - (0 + i)) * at xs i)) h
        ∙ sum_ext _ _ 508 (λ j l. ap (λ (n : ℕ). (508 - n) * at xs j) (zero-add j)));
  }

-- the bytes of a block in two parts
module _ (xs ys : List ℕ) (h : length xs + length ys ≡ 508) where
  two : joined (xs ∷ ys ∷ []) ≡ xs ++ ys
  unfolding joined
  two = ap (λ (l : List ℕ). xs ++ l) (append-nil ys)

  first-second : sums_of (part_of 0 xs ∷ part_of (length xs) ys ∷ []) ≡ checksum_of (xs ++ ys)
  unfolding parts_of
  first-second =
      ap (λ (n : ℕ). sums_of (part_of 0 xs ∷ part_of n ys ∷ [])) (sym (zero-add (length xs)))
      ∙ whole (xs ++ ys) (length-append xs ys ∙ h) (xs ∷ ys ∷ []) two (parts_of 0 (xs ∷ ys ∷ [])) (same _)

  pub second-first : sums_of (part_of (length xs) ys ∷ part_of 0 xs ∷ []) ≡ checksum_of (xs ++ ys)
  second-first = joining (part_of (length xs) ys) (part_of 0 xs) ∙ first-second

-- the two halves of a block, 256 bytes each
halves : (xs ys : List ℕ) → length xs ≡ 256 → length ys ≡ 256 → Halves xs ys
halves xs ys h k =
    let m : length (take 252 ys) ≡ 252 = length-take-le 252 ys (omega arith) in
    let l : length xs + length (take 252 ys) ≡ 508 = omega arith in
    let e : xs ++ take 252 ys ≡ take 508 (xs ++ ys) = sym (take-append-add xs ys 252) ∙ ap (λ (n : ℕ). take (n + 252) (xs ++ ys)) h in
    record {
      first_then_second = rw h at (first-second xs (take 252 ys) l) ∙ ap checksum_of e;
      second_then_first = rw h at (second-first xs (take 252 ys) l) ∙ ap checksum_of e;
    }

pub in-any-order : InAnyOrder
in-any-order = record { covered = covered; halves = halves; joining = joining }
