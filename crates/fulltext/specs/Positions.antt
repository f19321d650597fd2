-- What a list of postings holds of a document, and the ends of some positions. Assumes nothing.
use Rattle.std.specs.Prelude.{ℕ, min, max, ◌&&◌, List, [], ◌∷◌, map, length, get_or, eqb, leb, ltb}
use Rattle.seq.specs.Lists.{keep}
use Rattle.volume.specs.Posting.{doc_of, pos_of}

-- one past the last document, and one past the last position
abbrev pub limit : ℕ
limit = 65536

-- list number l of a volume's lists
abbrev pub list_of : List (List ℕ) → ℕ → List ℕ
list_of lists l = get_or lists l []

-- the positions of document d in a list
unfoldable pub positions_in : ℕ → List ℕ → List ℕ
positions_in d l = map (λ p. pos_of p) (keep (λ p. eqb (doc_of p) d) l)

-- how many postings a list has from document a up to document b, b not counted
unfoldable pub count_in : ℕ → ℕ → List ℕ → ℕ
count_in a b l = length (keep (λ p. leb a (doc_of p) && ltb (doc_of p) b) l)

-- the largest and the smallest of some positions, 0 where there is none
abbrev pub largest : List ℕ → ℕ
largest [] = 0
largest (p ∷ ps) = max p (largest ps)

abbrev pub smallest_of : ℕ → List ℕ → ℕ
smallest_of p [] = p
smallest_of p (q ∷ qs) = min p (smallest_of q qs)

abbrev pub smallest : List ℕ → ℕ
smallest [] = 0
smallest (p ∷ ps) = smallest_of p ps
