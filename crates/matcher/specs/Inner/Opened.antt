-- A document of an accepted volume, by a cursor on list 0 that has not passed it. Assumes nothing.
use Rattle.std.specs.Prelude.{ℕ, ◌+◌, ◌*◌, List}
use Rattle.volume.specs.Layout.{lists_of}
use Rattle.fulltext.specs.Matches.{starts_in}
use Rattle.matcher.specs.declared.cursor.OpenDocument.{OpenDocument}
use Rattle.matcher.specs.Inner.Cursors.{seek_from}

-- the starts of paragraphs in it
abbrev pub starts : OpenDocument → List ℕ
starts o = starts_in (lists_of o.volume.bytes.now) o.document.doc

-- the stream index of the first start behind position q of it
abbrev pub first_behind : OpenDocument → ℕ → ℕ
first_behind o q = seek_from o.volume.bytes.now (o.document.doc * 65536 + q + 1) o.document.starts.at o.document.starts.end
