use Rattle.std.proofs.Common.{◌≡◌, length}
use Rattle.texts.specs.Cut.{rows}
use Rattle.texts.specs.Means.{rows_left}
use Rattle.texts.specs.Rows.{read_rows, state_after}
use Rattle.books.specs.Books.{counts, book_lines}
use Rattle.books.specs.Entries.{left}
use Rattle.books.proofs.book.judge.Given as goal

abbrev pub invariant-loop : goal.invariant-loop
invariant-loop l =
    (l.entries.progress.room ≡ l.fn.room)
    × (state_after (book_lines l.fn.room) l.entries.progress.told (left l.entries) ≡ state_after (book_lines l.fn.room) (counts 0 0) (read_rows (book_lines l.fn.room) (counts 0 0) 1 (rows l.text)))

abbrev pub decreases-loop : goal.decreases-loop
decreases-loop l = length (rows_left l.entries.reader)
