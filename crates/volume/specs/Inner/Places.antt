-- Bytes that are whole blocks, for the functions that are called behind the test of the length; and where a list lies, for the
-- contract of `Volume::list_span`, by which `matcher` sets a cursor. No call's promise rests on this file.
-- Assumes nothing.
use Rattle.std.specs.Prelude.{ℕ, ◌*◌, ◌≡◌, List, length}
use Rattle.volume.specs.declared.layout.ListSpan.{ListSpan}
use Rattle.volume.specs.Layout.{blocks, count, start}

-- v is whole blocks
abbrev pub Whole : List ℕ → Type 0
Whole v = length v ≡ 512 * blocks v

-- where list i lies in the stream
abbrev pub list_span_of : List ℕ → ℕ → ListSpan
list_span_of v i = record { start = start v i; count = count v i }
