-- What the lines of a book have still to tell.
use Rattle.std.specs.Prelude.{◌≡◌, ◌+◌, ◌<◌, [], List, length, Some, None, Ok, Err, Option, Result}
use Rattle.faults.specs.declared.LineFault.{LineFault}
use Rattle.texts.specs.Means.{rows_left}
use Rattle.texts.specs.Rows.{before, read_rows}
use Rattle.books.specs.declared.entries.Entries.{Entries}
use Rattle.books.specs.declared.line.Entry.{Entry}
use Rattle.books.specs.Lines.{Fits}
use Rattle.books.specs.Books.{advance, book_lines}

-- the entries of the lines that follow, or the first refused line's fault
abbrev pub left : Entries → Result (List Entry) LineFault
left e = read_rows (book_lines e.progress.room) e.progress.told (e.reader.line + 1) (rows_left e.reader)

-- one entry was given, or none was left, or a line was refused
abbrev pub EntryStep : Entries → Entries → Result (Option Entry) LineFault → Type 0
EntryStep a b (Ok None) = (left a ≡ Ok []) × (b.progress ≡ a.progress)
EntryStep a b (Ok (Some e)) = (left a ≡ before e (left b)) × (b.progress.told ≡ advance a.progress.told e) × (b.progress.room ≡ a.progress.room) × Fits a.progress.told a.progress.room e × (length (rows_left b.reader) < length (rows_left a.reader))
EntryStep a b (Err f) = left a ≡ Err f
