-- The lines that the console prints.
use Rattle.std.specs.Prelude.{ℕ, cond, List, length, Ok, Err, Result, nat_lt}
use Rattle.console.specs.declared.line.Line.{Line}
use Rattle.console.specs.declared.line.build.LineRefusal.{LineRefusal}
use Rattle.console.specs.declared.line.build.LineRefusal.TheVariants.{NoRoom}

-- the bytes of a line
abbrev pub shown : Line → List ℕ
shown l = l.text.bytes

-- the number that stands for each refusal
abbrev pub number_of : LineRefusal → ℕ
number_of NoRoom = 50

-- a line's length, refused where the caller has fewer than 96 bytes
abbrev pub printed : ℕ → List ℕ → Result ℕ LineRefusal
printed room bytes = cond (nat_lt room 96) (Err NoRoom) (Ok (length bytes))
