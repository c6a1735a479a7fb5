use Rattle.std.proofs.Common.{◌≡◌, length, take, drop}
use Rattle.texts.specs.Cut.{rows}
use Rattle.texts.specs.Means.{rows_left}
use Rattle.texts.specs.Rows.{read_rows}
use Rattle.books.specs.Books.{counts, book_lines, book_of}
use Rattle.books.specs.Entries.{left}
use Rattle.books.proofs.Passes.{after}
use Rattle.books.proofs.book.fill.Given as goal

abbrev pub invariant-loop-entry : goal.invariant-loop-entry
invariant-loop-entry l = record {
  room : l.entries.progress.room ≡ l.fn.room;
  kinds : drop l.entries.progress.told.places l.kinds ≡ drop l.entries.progress.told.places l.initial.kinds;
  legs : drop l.entries.progress.told.legs l.legs ≡ drop l.entries.progress.told.legs l.initial.legs;
  book : after (take l.entries.progress.told.places l.kinds) (take l.entries.progress.told.legs l.legs) (left l.entries) ≡ book_of (read_rows (book_lines l.fn.room) (counts 0 0) 1 (rows l.text));
}

abbrev pub decreases-loop-entry : goal.decreases-loop-entry
decreases-loop-entry l = length (rows_left l.entries.reader)
