-- A fault in a book says that it stands in a book.
use Rattle.std.proofs.Common.{◌≡◌, ℕ, eqb, ltb, List, length, drop, Err, refl}
use Rattle.faults.specs.declared.Spot.{Spot}
use Rattle.faults.specs.declared.LineFault.{LineFault}
use Rattle.faults.specs.declared.Text.TheVariants.{Book}
use Rattle.faults.specs.declared.Cause.TheVariants.{Line}
use Rattle.faults.specs.Faults.{next_field, fault_in, in_text}
use Rattle.texts.specs.Cut.{rows}
use Rattle.texts.specs.Rows.{read_rows, state_after}
use Rattle.texts.proofs.Steps.{turned, refused_is}
use Rattle.books.specs.Books.{counts, book_lines}
use Rattle.texts.specs.Numbers.{number_in, letter_in}
use Rattle.texts.specs.Rules.{is}
use Rattle.texts.proofs.Says.{Says, either_says, then_says, number_says}
use Rattle.books.specs.declared.line.Counts.{Counts}
use Rattle.books.specs.declared.line.Room.{Room}
use Rattle.books.specs.Lines.{place_of, leg_of, line_of}

module _ (s : Spot) (told : Counts) (room : Room) (fs : List (List ℕ)) where
  place_says : Says s.text (place_of s told room fs)
  unfolding place_of
  place_says =
      then_says _ (number_in 63 s fs) _ (number_says 63 s fs) (λ p.
      then_says _ (number_in 255 (next_field s) (drop 1 fs)) _ (number_says 255 (next_field s) (drop 1 fs)) (λ k.
      either_says _ (eqb p told.places) _ _ (either_says _ (eqb k 0) _ _ refl (either_says _ (ltb told.places room.kinds) _ _ tt refl)) refl))

  leg_says : Says s.text (leg_of s told room fs)
  unfolding leg_of
  leg_says =
      then_says _ (number_in 63 s fs) _ (number_says 63 s fs) (λ a.
      then_says _ (number_in 63 (next_field s) (drop 1 fs)) _ (number_says 63 (next_field s) (drop 1 fs)) (λ b.
      then_says _ (number_in 65535 (next_field (next_field s)) (drop 2 fs)) _ (number_says 65535 (next_field (next_field s)) (drop 2 fs)) (λ c.
      then_says _ (number_in 65535 (next_field (next_field (next_field s))) (drop 3 fs)) _ (number_says 65535 (next_field (next_field (next_field s))) (drop 3 fs)) (λ d.
      either_says _ (ltb a told.places) _ _ (either_says _ (ltb b told.places) _ _ (either_says _ (eqb a b) _ _ refl (either_says _ (ltb told.legs room.legs) _ _ tt refl)) refl) refl))))

pub line_says : (room : Room) (s : Spot) (told : Counts) (fs : List (List ℕ)) → Says s.text (line_of s told room fs)
unfolding line_of
line_says room s told fs =
    either_says _ (is 80 (letter_in fs)) _ _ (either_says _ (eqb (length fs) 3) _ _ (place_says (next_field s) told room (drop 1 fs)) refl)
    (either_says _ (is 76 (letter_in fs)) _ _ (either_says _ (eqb (length fs) 5) _ _ (leg_says (next_field s) told room (drop 1 fs)) refl) refl)

-- where the counts of a book are a fault, it was refused with that fault, which stands in a book
pub book_refused : (room : Room) (text : List ℕ) (f : LineFault) → Err f ≡ state_after (book_lines room) (counts 0 0) (read_rows (book_lines room) (counts 0 0) 1 (rows text)) →
    (read_rows (book_lines room) (counts 0 0) 1 (rows text) ≡ Err f) × (in_text f ≡ fault_in Book (Line f))
book_refused room text f e =
    let bad = refused_is (book_lines room) (counts 0 0) (read_rows (book_lines room) (counts 0 0) 1 (rows text)) f e in
    (bad, turned (book_lines room) (line_says room) (counts 0 0) 1 (rows text) f bad)
