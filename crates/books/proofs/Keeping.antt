-- Every accepted book is sensible.
use Rattle.std.proofs.Common.{◌≡◌, ℕ, ◌+◌, ◌<◌, ◌≤◌, Bool, true, false, cond, eqb, ltb, leb, List, [], ◌∷◌, length, drop, IfOk, Ok, Err, Result, arith}
use Rattle.std.proofs.lemmas.Bool.{ltb-true, eqb-false}
use Rattle.streets.specs.declared.legs.LegRecord.{LegRecord}
use Rattle.faults.specs.declared.Spot.{Spot}
use Rattle.faults.specs.declared.LineFault.{LineFault}
use Rattle.faults.specs.Faults.{spot, next_field}
use Rattle.texts.specs.Cut.{Row, rows}
use Rattle.texts.specs.Numbers.{number_in, letter_in}
use Rattle.texts.specs.Rules.{is}
use Rattle.texts.specs.Rows.{before, read_rows, in_text_of}
use Rattle.texts.proofs.Gives.{either_gives, then_gives, number_gives}
use Rattle.books.specs.declared.line.Entry.{Entry}
use Rattle.books.specs.declared.line.Entry.TheVariants.{Place, Leg}
use Rattle.books.specs.declared.line.Counts.{Counts}
use Rattle.books.specs.declared.line.Room.{Room}
use Rattle.books.specs.Lines.{place_of, leg_of, line_of}
use Rattle.books.specs.Books.{book, counts, advance, book_lines, kinds_of, legs_of, book_of, read_book}
use Rattle.books.specs.Sensible.{Each, Kind, Joins, Sensible}

-- what a line tells after some counts
abbrev Good : Room → Counts → Entry → Type 0
Good room told (Place k) = Kind k × (told.places < room.kinds)
Good room told (Leg l) = Joins told.places l × (told.legs < room.legs)

some_kind : (k : ℕ) → (k ≡ 0 → ⊥) → 1 ≤ k
some_kind k h = omega arith

module _ (s : Spot) (told : Counts) (room : Room) (fs : List (List ℕ)) where
  place_good : IfOk (place_of s told room fs) (Good room told)
  unfolding place_of
  place_good =
      then_gives (λ p. p ≤ 63) (Good room told) (number_in 63 s fs) _ (number_gives 63 s fs) (λ p hp.
      then_gives (λ k. k ≤ 255) (Good room told) (number_in 255 (next_field s) (drop 1 fs)) _ (number_gives 255 (next_field s) (drop 1 fs)) (λ k hk.
      either_gives (Good room told) (eqb p told.places) _ _
      (λ _. either_gives (Good room told) (eqb k 0) _ _ (λ _. tt)
      (λ z. either_gives (Good room told) (ltb told.places room.kinds) _ _ (λ r. ((some_kind k (eqb-false k 0 z), hk), ltb-true told.places room.kinds r)) (λ _. tt)))
      (λ _. tt)))

  leg_good : IfOk (leg_of s told room fs) (Good room told)
  unfolding leg_of
  leg_good =
      then_gives (λ a. a ≤ 63) (Good room told) (number_in 63 s fs) _ (number_gives 63 s fs) (λ a ha.
      then_gives (λ b. b ≤ 63) (Good room told) (number_in 63 (next_field s) (drop 1 fs)) _ (number_gives 63 (next_field s) (drop 1 fs)) (λ b hb.
      then_gives (λ c. c ≤ 65535) (Good room told) (number_in 65535 (next_field (next_field s)) (drop 2 fs)) _ (number_gives 65535 (next_field (next_field s)) (drop 2 fs)) (λ c hc.
      then_gives (λ d. d ≤ 65535) (Good room told) (number_in 65535 (next_field (next_field (next_field s))) (drop 3 fs)) _ (number_gives 65535 (next_field (next_field (next_field s))) (drop 3 fs)) (λ d hd.
      either_gives (Good room told) (ltb a told.places) _ _
      (λ x. either_gives (Good room told) (ltb b told.places) _ _
      (λ y. either_gives (Good room told) (eqb a b) _ _ (λ _. tt)
      (λ z. either_gives (Good room told) (ltb told.legs room.legs) _ _
      (λ r. (record { from_told = ltb-true a told.places x; to_told = ltb-true b told.places y; different = eqb-false a b z; climbs = hc; takes = hd }, ltb-true told.legs room.legs r))
      (λ _. tt)))
      (λ _. tt))
      (λ _. tt)))))

line_good : (s : Spot) (told : Counts) (room : Room) (fs : List (List ℕ)) → IfOk (line_of s told room fs) (Good room told)
unfolding line_of
line_good s told room fs =
    either_gives (Good room told) (is 80 (letter_in fs)) _ _
    (λ _. either_gives (Good room told) (eqb (length fs) 3) _ _ (λ _. place_good (next_field s) told room (drop 1 fs)) (λ _. tt))
    (λ _. either_gives (Good room told) (is 76 (letter_in fs)) _ _
    (λ _. either_gives (Good room told) (eqb (length fs) 5) _ _ (λ _. leg_good (next_field s) told room (drop 1 fs)) (λ _. tt))
    (λ _. tt))

-- the same of each line after those before it
abbrev AllGood : Room → Counts → List Entry → Type 0
AllGood room told [] = Unit {0}
AllGood room told (e ∷ es) = Good room told e × AllGood room (advance told e) es

before_good : (room : Room) (told : Counts) (e : Entry) (r : Result (List Entry) LineFault) → Good room told e → IfOk r (AllGood room (advance told e)) → IfOk (before e r) (AllGood room told)
before_good room told e (Ok es) g p = (g, p)
before_good room told e (Err f) g p = tt

rows_good : (room : Room) (told : Counts) (l : ℕ) (rs : List Row) → IfOk (read_rows (book_lines room) told l rs) (AllGood room told)
rows_good room told l [] = tt
rows_good room told l (r ∷ rs) =
    either_gives (AllGood room told) r.1 _ _
    (λ _. then_gives (Good room told) (AllGood room told) (line_of (spot (book_lines room).text l 0) told room r.0) _ (line_good (spot (book_lines room).text l 0) told room r.0) (λ e g. before_good room told e _ g (rows_good room (advance told e) (l + 1) rs)))
    (λ _. tt)

kinds_good : (room : Room) (told : Counts) (es : List Entry) → AllGood room told es → Each Kind (kinds_of es)
kinds_good room told [] g = tt
kinds_good room told (Place k ∷ es) g = (g.0.0, kinds_good room (advance told (Place k)) es g.1)
kinds_good room told (Leg l ∷ es) g = kinds_good room (advance told (Leg l)) es g.1

-- one place more leaves a leg between places
more_places : (n k : ℕ) (l : LegRecord) → n ≤ k → Joins n l → Joins k l
more_places n k l h j = record { from_told = omega (arith, j.from_told); to_told = omega (arith, j.to_told); different = j.different; climbs = j.climbs; takes = j.takes }

legs_good : (room : Room) (told : Counts) (es : List Entry) (n : ℕ) → AllGood room told es → told.places + length (kinds_of es) ≤ n → Each (Joins n) (legs_of es)
legs_good room told [] n g h = tt
legs_good room told (Place k ∷ es) n g h = legs_good room (advance told (Place k)) es n g.1 (omega arith)
legs_good room told (Leg l ∷ es) n g h = (more_places told.places n l (omega arith) g.0.0, legs_good room (advance told (Leg l)) es n g.1 (omega arith))

few_good : (room : Room) (told : Counts) (es : List Entry) → AllGood room told es → told.places ≤ room.kinds → told.legs ≤ room.legs → (told.places + length (kinds_of es) ≤ room.kinds) × (told.legs + length (legs_of es) ≤ room.legs)
few_good room told [] g h k = (omega arith, omega arith)
few_good room told (Place x ∷ es) g h k = let m = few_good room (advance told (Place x)) es g.1 (omega (arith, g.0.1)) k in (omega (arith, m.0), m.1)
few_good room told (Leg l ∷ es) g h k = let m = few_good room (advance told (Leg l)) es g.1 h (omega (arith, g.0.1)) in (m.0, omega (arith, m.1))

module _ (room : Room) (places : room.kinds ≤ 64) (legs : room.legs ≤ 4096) where
  sensible_entries : (es : List Entry) → AllGood room (counts 0 0) es → Sensible (book (kinds_of es) (legs_of es))
  sensible_entries es g =
      let few = few_good room (counts 0 0) es g (omega arith) (omega arith) in
      record {
        few_places = omega (arith, few.0);
        few_legs = omega (arith, few.1);
        kinds = kinds_good room (counts 0 0) es g;
        legs = legs_good room (counts 0 0) es (length (kinds_of es)) g (omega arith);
      }

  text_sensible : (r : Result (List Entry) LineFault) → IfOk r (AllGood room (counts 0 0)) → IfOk (book_of (in_text_of (book_lines room).text r)) Sensible
  text_sensible (Ok es) g = sensible_entries es g
  text_sensible (Err f) g = tt

book_either : {E : Type 0} (b : Bool) (x y : Result (List Entry) E) → IfOk (book_of x) Sensible → IfOk (book_of y) Sensible → IfOk (book_of (cond b x y)) Sensible
book_either true x y p q = p
book_either false x y p q = q

pub book_sensible : (room : Room) (t : List ℕ) → room.kinds ≤ 64 → room.legs ≤ 4096 → IfOk (read_book room t) Sensible
book_sensible room t places legs = book_either (leb (length t) 65535) _ _ (text_sensible room places legs (read_rows (book_lines room) (counts 0 0) 1 (rows t)) (rows_good room (counts 0 0) 1 (rows t))) tt
