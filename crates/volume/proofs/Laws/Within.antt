-- The limits on lists: lists within them have a volume that is accepted and holds them, and an accepted volume's lists are within them.
-- No contract cites this file.
--     words_append                     words in front of words
--     within-given                     lists within the limits, as counts and postings
--     given-within                     counts and postings within the limits, as lists
--     volume-good, volume-lists        the volume of lists within the limits
--     good-within                      the lists of an accepted volume
-- Assumes nothing.
use Prim.Native.Nat.{ℕ, suc, ◌+◌, ◌-◌, ◌<◌, ◌≤◌}
use native.Mathlib.Nat.{zero-add}
use native.Mathlib.Omega.{arith}
use mathlib.Core.Path.{◌≡◌, sym, ap, ◌∙◌, subst}
use mathlib.Core.Logic.{⊎_elim}
use mathlib.Core.List.{List, [], ◌∷◌, ◌++◌, map}
use lib.ListN.{length, get_or, length-map, get_or-append, get_or-eq_default}
use lib.Seq.{get_or-append-add}
use Rattle.seq.specs.Lists.{at, total, joined, rises}
use Rattle.seq.specs.Numbers.{run, sum_to}
use Rattle.seq.proofs.Laws.Tests.{below_or}
use Rattle.seq.proofs.Laws.Lists.{length-joined}
use Rattle.seq.proofs.Laws.Numbers.{length_run, get_or-run}
use Rattle.block.specs.Bytes.{IsBytes, IsWords}
use Rattle.volume.specs.Layout.{lead, word, list_count, count, posting_count, start, postings_of, lists_of}
use Rattle.volume.specs.Write.{volume_of, given_list, given_lists}
use Rattle.seq.specs.Lists.{Rising}
use Rattle.volume.specs.Demands.{Within}
use Rattle.seq.proofs.Laws.Decides.{holds}
use Rattle.seq.proofs.Laws.Rising.{rises_decides}
use Rattle.volume.proofs.Laws.Check.{Good}
use Rattle.seq.proofs.Laws.Runs.{sum-total}
use Rattle.volume.proofs.Laws.Stream.{word_lt}
use Rattle.volume.proofs.Laws.Lists.{length-given, given-counts, given-postings, given-list, given-lists, total-lengths}
use Rattle.volume.proofs.Laws.Volume.{Given, written-good, written-lists, length-lists_of, list-of, join-of}

-- words in front of words
pub words_append : (xs ys : List ℕ) → IsWords xs → IsWords ys → IsWords (xs ++ ys)
words_append xs ys a b i = ⊎_elim front behind (below_or i (length xs))
  where
    front : i < length xs → get_or (xs ++ ys) i 0 < 4294967296
    front h = rw (get_or-append xs ys 0 i h) (a i)

    behind : length xs ≤ i → get_or (xs ++ ys) i 0 < 4294967296
    behind h =
        let e : i ≡ length xs + (i - length xs) = omega arith in
        let f : get_or (xs ++ ys) i 0 ≡ get_or ys (i - length xs) 0 = ap (λ (k : ℕ). get_or (xs ++ ys) k 0) e ∙ get_or-append-add xs ys (i - length xs) 0 in
        rw f (b (i - length xs))

words-joined : (ls : List (List ℕ)) → ((i : ℕ) → i < length ls → IsWords (get_or ls i [])) → IsWords (joined ls)
unfolding joined
words-joined [] h = λ i. omega arith
words-joined (xs ∷ xss) h = words_append xs (joined xss) (h 0 (omega arith)) (words-joined xss (λ i l. h (suc i) (omega arith)))

-- values of a function that are words
words-run : (f : ℕ → ℕ) (k m : ℕ) → ((i : ℕ) → f i < 4294967296) → IsWords (run f k m)
words-run f k m h i = ⊎_elim inside behind (below_or i m)
  where
    inside : i < m → get_or (run f k m) i 0 < 4294967296
    inside l = rw (get_or-run f k m i 0 l) (h (k + i))

    behind : m ≤ i → get_or (run f k m) i 0 < 4294967296
    behind l = let e : get_or (run f k m) i 0 ≡ 0 = (let r : length (run f k m) ≤ i = rw (length_run f k m) l in get_or-eq_default (run f k m) 0 r) in rw e (omega arith)

pub within-given : (ls : List (List ℕ)) → Within ls → Given (map length ls) (joined ls)
within-given ls w = record {
  lists-some = let a = length-map ls length in let b = w.some in omega arith;
  lists-most = let a = length-map ls length in let b = w.most in omega arith;
  sum_is = sum-total (map length ls) ∙ total-lengths ls ∙ sym (length-joined ls);
  fits = let a = length-map ls length in let b = length-joined ls in let c = w.fits in omega arith;
  lists-rise = λ i h. let l : i < length ls = (let a = length-map ls length in omega arith) in ap rises (given-list ls i l) ∙ holds (rises_decides (get_or ls i [])) (w.rising i l);
  words = words-joined ls w.words;
}

module _ (cs ps : List ℕ) where
  given-at : (i : ℕ) → i < length cs → get_or (given_lists cs ps) i [] ≡ given_list cs ps i
  unfolding given_lists
  given-at i h = get_or-run (given_list cs ps) 0 (length cs) i [] h ∙ ap (given_list cs ps) (zero-add i)

  pub given-within : Given cs ps → Within (given_lists cs ps)
  given-within g = record {
    some = let a = length-given cs ps in let b = g.lists-some in omega arith;
    most = let a = length-given cs ps in let b = g.lists-most in omega arith;
    rising = λ i h. let l : i < length cs = (let a = length-given cs ps in omega arith) in subst Rising (sym (given-at i l)) ((rises_decides (given_list cs ps i)).yes (g.lists-rise i l));
    words = λ i h. let l : i < length cs = (let a = length-given cs ps in omega arith) in subst IsWords (sym (given-at i l)) (words-run (at ps) (sum_to (at cs) i) (at cs i) g.words);
    fits =
        let a = length-given cs ps in
        let b = length-joined (given_lists cs ps) in
        let c = ap length (given-postings cs ps (sym (sum-total cs) ∙ g.sum_is)) in
        let d = g.fits in
        omega arith;
  }

  pub within-back : Within (given_lists cs ps) → total (λ x. x) cs ≡ length ps → Given cs ps
  within-back w e = rw (given-counts cs ps, given-postings cs ps e) at (within-given (given_lists cs ps) w)

-- the volume of lists within the limits
module _ (ls : List (List ℕ)) (w : Within ls) where
  pub volume-good : Good (volume_of ls)
  unfolding volume_of
  volume-good = written-good (map length ls) (joined ls) (within-given ls w)

  pub volume-lists : lists_of (volume_of ls) ≡ ls
  unfolding volume_of
  volume-lists = written-lists (map length ls) (joined ls) (within-given ls w) ∙ given-lists ls

-- the lists of an accepted volume
module _ (v : List ℕ) (bytes : IsBytes v) (g : Good v) where
  pub good-within : Within (lists_of v)
  good-within = record {
    some = let a = length-lists_of v in let b = g.lists-some in omega arith;
    most = let a = length-lists_of v in let b = g.lists-most in omega arith;
    rising = λ i h. let l : i < list_count v = (let a = length-lists_of v in omega arith) in subst Rising (sym (list-of v i l)) ((rises_decides (postings_of v i)).yes (g.lists-rise i l));
    words = λ i h. let l : i < list_count v = (let a = length-lists_of v in omega arith) in subst IsWords (sym (list-of v i l)) (words-run (word v) (start v i) (count v i) (λ j. word_lt v j bytes));
    fits =
        let a = length-lists_of v in
        let b = length-joined (lists_of v) in
        let c = ap length (join-of v) ∙ length_run (word v) (lead (list_count v)) (posting_count v) in
        let d = g.fits in
        let e = g.blocks-most in
        omega arith;
  }
