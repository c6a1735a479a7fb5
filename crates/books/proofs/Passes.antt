-- How far a pass over the rows of a book has come.
use Rattle.std.proofs.Common.{◌≡◌, ℕ, ◌+◌, List, [], ◌∷◌, ◌++◌, length, Ok, Err, Result, refl, ap, ◌∙◌, arith}
use Rattle.streets.specs.declared.legs.LegRecord.{LegRecord}
use Rattle.faults.specs.declared.LineFault.{LineFault}
use Rattle.texts.specs.Rows.{last_state, state_after}
use Rattle.books.specs.declared.line.Entry.{Entry}
use Rattle.books.specs.declared.line.Entry.TheVariants.{Place, Leg}
use Rattle.books.specs.declared.line.Room.{Room}
use Rattle.books.specs.Books.{Told, book, counts, book_lines, kinds_of, legs_of, book_of, tally}

-- the counts after all entries are the lengths of the lists
last_counts : (room : Room) (t m : ℕ) (es : List Entry) → last_state (book_lines room) (counts t m) es ≡ counts (t + length (kinds_of es)) (m + length (legs_of es))
last_counts room t m [] = ap (λ n. counts n m) (omega arith) ∙ ap (counts (t + 0)) (omega arith)
last_counts room t m (Place k ∷ es) = last_counts room (t + 1) m es ∙ ap (λ n. counts n (m + length (legs_of es))) (omega arith)
last_counts room t m (Leg l ∷ es) = last_counts room t (m + 1) es ∙ ap (counts (t + length (kinds_of es))) (omega arith)

pub tallied : {F : Type 0} (room : Room) (r : Result (List Entry) F) → state_after (book_lines room) (counts 0 0) r ≡ tally (book_of r)
tallied room (Ok es) = ap Ok (last_counts room 0 0 es ∙ ap (λ n. counts n (0 + length (legs_of es))) (omega arith) ∙ ap (counts (length (kinds_of es))) (omega arith))
tallied room (Err f) = refl

-- what is written so far, joined to what is left to read
abbrev pub after : List ℕ → List LegRecord → Result (List Entry) LineFault → Result Told LineFault
after ks ls (Ok es) = Ok (book (ks ++ kinds_of es) (ls ++ legs_of es))
after ks ls (Err f) = Err f
