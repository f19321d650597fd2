-- What is stored in a lent buffer, for the contracts inside the crate. Assumes nothing.
use Rattle.std.specs.Prelude.{ℕ, ◌+◌, ◌≤◌, ◌≡◌, List, ◌++◌, length, take, drop}
use Rattle.lister.specs.declared.text.Text.{Text}

-- a buffer with xs stored from index `at` on, the rest as it was
unfoldable pub put : List ℕ → ℕ → List ℕ → List ℕ
put out at xs = take at out ++ xs ++ drop (at + length xs) out

-- xs is stored in a buffer from index `at` on, `end` is the index behind it, and it fits
pub record Stored (out : List ℕ) (at : ℕ) (xs out' : List ℕ) (end : ℕ) : Type 0 where
  pub laid : out' ≡ put out at xs
  pub behind : end ≡ at + length xs
  pub fits : end ≤ length out

-- the same of the text in a buffer up to an index
abbrev pub Added : List ℕ → Text → Text → Type 0
Added xs text text' = Stored text.out.now text.end xs text'.out.now text'.end
