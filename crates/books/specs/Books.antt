-- What a street book means: the kinds and the legs that its lines tell in order, or the first refused line's fault.
use Rattle.std.specs.Prelude.{ℕ, ◌+◌, min, List, [], ◌∷◌, ◌++◌, length, drop, Ok, Err, Result}
use Rattle.streets.specs.declared.legs.LegRecord.{LegRecord}
use Rattle.faults.specs.declared.Text.TheVariants.{Book as OfBook}
use Rattle.faults.specs.declared.TextFault.{TextFault}
use Rattle.faults.specs.declared.LineFault.{LineFault}
use Rattle.texts.specs.Rows.{Grammar, read_rows, read_text}
use Rattle.texts.specs.Cut.{rows}
use Rattle.books.specs.declared.line.Entry.{Entry}
use Rattle.books.specs.declared.line.Entry.TheVariants.{Place, Leg}
use Rattle.books.specs.declared.line.Counts.{Counts}
use Rattle.books.specs.declared.line.Room.{Room}
use Rattle.books.specs.Lines.{line_of}

abbrev pub counts : ℕ → ℕ → Counts
counts t m = record { places = t; legs = m }

-- one place or one leg more
abbrev pub advance : Counts → Entry → Counts
advance told (Place k) = counts (told.places + 1) told.legs
advance told (Leg l) = counts told.places (told.legs + 1)

-- the lines of a book, where there is room for so much
abbrev pub book_lines : Room → Grammar Counts Entry
book_lines room = record { text = OfBook; line = λ s told fs. line_of s told room fs; next = advance }

-- what all lines of a text tell, or the first fault in one
abbrev pub all_told : Room → List ℕ → Result (List Entry) LineFault
all_told room t = read_rows (book_lines room) (counts 0 0) 1 (rows t)

abbrev pub kinds_of : List Entry → List ℕ
kinds_of [] = []
kinds_of (Place k ∷ es) = k ∷ kinds_of es
kinds_of (Leg l ∷ es) = kinds_of es

abbrev pub legs_of : List Entry → List LegRecord
legs_of [] = []
legs_of (Place k ∷ es) = legs_of es
legs_of (Leg l ∷ es) = l ∷ legs_of es

-- the kinds of the places, and the legs
pub record Told : Type 0 where
  pub kinds : List ℕ
  pub legs : List LegRecord

abbrev pub book : List ℕ → List LegRecord → Told
book ks ls = record { kinds = ks; legs = ls }

abbrev pub book_of : {F : Type 0} → Result (List Entry) F → Result Told F
book_of (Ok es) = Ok (book (kinds_of es) (legs_of es))
book_of (Err f) = Err f

-- whether all lines are accepted
abbrev pub finished : {F : Type 0} → Result (List Entry) F → Result (Unit {0}) F
finished (Ok es) = Ok tt
finished (Err f) = Err f

abbrev pub read_book : Room → List ℕ → Result Told TextFault
read_book room t = book_of (read_text (book_lines room) (counts 0 0) t)

-- the room in lists of these lengths: at most 64 places and 4,096 legs are told
abbrev pub room_in : ℕ → ℕ → Room
room_in k l = record { kinds = min k 64; legs = min l 4096 }

-- how many places and legs were told
abbrev pub tally : {F : Type 0} → Result Told F → Result Counts F
tally (Ok b) = Ok (counts (length b.kinds) (length b.legs))
tally (Err f) = Err f

-- xs over the front of ys, whose rest stays
abbrev pub over : {A : Type 0} → List A → List A → List A
over xs ys = xs ++ drop (length xs) ys
