-- A posting: a document (01: scene) and a position in it (01: place) as one number. Assumes nothing.
use Rattle.std.specs.Prelude.{ℕ, ◌+◌, ◌*◌, ◌/◌, ◌%◌}
use Rattle.volume.specs.declared.posting.Posting.{Posting}

-- the posting of a document and a position
abbrev pub posting_of : ℕ → ℕ → Posting
posting_of doc pos = record { bits = doc * 65536 + pos }

-- the document of a posting
abbrev pub doc_of : ℕ → ℕ
doc_of bits = bits / 65536

-- the position of a posting
abbrev pub pos_of : ℕ → ℕ
pos_of bits = bits % 65536
