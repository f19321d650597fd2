-- Numbers as bytes, little-endian. Assumes nothing.
use Rattle.std.specs.Prelude.{ℕ, ◌+◌, ◌*◌, ◌/◌, ◌%◌, ◌<◌, List, [], ◌∷◌, get_or}

-- a list of bytes
abbrev pub IsBytes : List ℕ → Type 0
IsBytes v = (i : ℕ) → get_or v i 0 < 256

-- a list of 32-bit words
abbrev pub IsWords : List ℕ → Type 0
IsWords ws = (i : ℕ) → get_or ws i 0 < 4294967296

-- the 16-bit number at o, and the 32-bit number at o; 0 stands behind the end
abbrev pub le16 : List ℕ → ℕ → ℕ
le16 v o = get_or v o 0 + 256 * get_or v (o + 1) 0

abbrev pub le32 : List ℕ → ℕ → ℕ
le32 v o = get_or v o 0 + 256 * get_or v (o + 1) 0 + 65536 * get_or v (o + 2) 0 + 16777216 * get_or v (o + 3) 0

-- the bytes of a number
abbrev pub bytes16 : ℕ → List ℕ
bytes16 x = x % 256 ∷ x / 256 % 256 ∷ []

abbrev pub bytes32 : ℕ → List ℕ
bytes32 x = x % 256 ∷ x / 256 % 256 ∷ x / 65536 % 256 ∷ x / 16777216 % 256 ∷ []
