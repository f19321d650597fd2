-- The documents of some postings, for `src/docs.rt`. No call's promise rests on this file. Assumes nothing.
use Rattle.std.specs.Prelude.{ℕ, ◌+◌, min, max, Bool, false, ◌||◌, Option, None, Some, List, [], ◌∷◌, ltb, leb}
use Rattle.volume.specs.Posting.{doc_of}
use Rattle.join.specs.declared.docs.DocRange.{DocRange}

-- the documents of both
abbrev pub wider : Option DocRange → Option DocRange → Option DocRange
wider None b = b
wider (Some a) None = Some a
wider (Some a) (Some b) = Some (record { low = min a.low b.low; last = max a.last b.last })

-- the lowest and the last document; none where there is no posting
unfoldable pub range_of : List ℕ → Option DocRange
range_of [] = None
range_of (x ∷ xs) = wider (Some (record { low = doc_of x; last = doc_of x })) (range_of xs)

-- there is a document in b, and the last one, raised by h, is over 65,535, or the lowest one, raised, is not above a's last
abbrev pub clash : ℕ → Option DocRange → Option DocRange → Bool
clash h a None = false
clash h None (Some b) = ltb 65535 (b.last + h)
clash h (Some a) (Some b) = ltb 65535 (b.last + h) || leb (b.low + h) a.last
