-- What a line of a street book tells, or the first fault in it.
use Rattle.std.specs.Prelude.{ℕ, ◌<◌, cond, List, length, drop, Ok, Result, ◌==◌, nat_lt}
use Rattle.streets.specs.declared.legs.LegRecord.{LegRecord}
use Rattle.faults.specs.declared.FieldWrong.TheVariants.{NotLetter, NotNextPlace, UntoldPlace, SameEnds, KindZero}
use Rattle.faults.specs.declared.LineWrong.TheVariants.{FieldCount, Full}
use Rattle.faults.specs.declared.LineFault.{LineFault}
use Rattle.faults.specs.declared.Spot.{Spot}
use Rattle.faults.specs.Faults.{next_field}
use Rattle.texts.specs.Numbers.{number_in, letter_in}
use Rattle.texts.specs.Rules.{and_then, bad_field, bad_line, is}
use Rattle.books.specs.declared.line.Entry.{Entry}
use Rattle.books.specs.declared.line.Entry.TheVariants.{Place, Leg as LegEntry}
use Rattle.books.specs.declared.line.Counts.{Counts}
use Rattle.books.specs.declared.line.Room.{Room}

abbrev pub leg_record : ℕ → ℕ → ℕ → ℕ → LegRecord
leg_record a b c s = record { from = a; to = b; leg = record { climb = c; seconds = s } }

-- a place line: s is the spot of its letter, and fs are the fields that follow: place, kind
unfoldable pub place_of : Spot → Counts → Room → List (List ℕ) → Result Entry LineFault
place_of s told room fs =
    and_then (number_in 63 s fs) (λ place.
    and_then (number_in 255 (next_field s) (drop 1 fs)) (λ kind.
    cond (place == told.places)
    (cond (kind == 0) (bad_field KindZero s 3)
    (cond (nat_lt told.places room.kinds) (Ok (Place kind)) (bad_line Full s)))
    (bad_field NotNextPlace s 2)))

-- a leg line: from, to, climb, seconds
unfoldable pub leg_of : Spot → Counts → Room → List (List ℕ) → Result Entry LineFault
leg_of s told room fs =
    and_then (number_in 63 s fs) (λ from.
    and_then (number_in 63 (next_field s) (drop 1 fs)) (λ to.
    and_then (number_in 65535 (next_field (next_field s)) (drop 2 fs)) (λ climb.
    and_then (number_in 65535 (next_field (next_field (next_field s))) (drop 3 fs)) (λ seconds.
    cond (nat_lt from told.places)
    (cond (nat_lt to told.places)
    (cond (from == to) (bad_field SameEnds s 3)
    (cond (nat_lt told.legs room.legs) (Ok (LegEntry (leg_record from to climb seconds))) (bad_line Full s)))
    (bad_field UntoldPlace s 3))
    (bad_field UntoldPlace s 2)))))

-- a line: s is the spot before its fields fs, and `P` and `L` are the letters
unfoldable pub line_of : Spot → Counts → Room → List (List ℕ) → Result Entry LineFault
line_of s told room fs =
    cond (is 80 (letter_in fs))
    (cond (length fs == 3) (place_of (next_field s) told room (drop 1 fs)) (bad_line FieldCount s))
    (cond (is 76 (letter_in fs))
    (cond (length fs == 5) (leg_of (next_field s) told room (drop 1 fs)) (bad_line FieldCount s))
    (bad_field NotLetter s 1))

-- there is room for what an accepted line tells
abbrev pub Fits : Counts → Room → Entry → Type 0
Fits told room (Place k) = told.places < room.kinds
Fits told room (LegEntry l) = told.legs < room.legs
