-- The parts that the meaning of a line is put together from.
use Rattle.std.specs.Prelude.{◌≡◌, ℕ, Bool, false, cond, List, length, Some, None, Ok, Err, Option, Result, ◌==◌}
use Rattle.faults.specs.declared.FieldWrong.{FieldWrong}
use Rattle.faults.specs.declared.LineWrong.{LineWrong}
use Rattle.faults.specs.declared.LineWrong.TheVariants.{FieldCount}
use Rattle.faults.specs.declared.LineFault.{LineFault}
use Rattle.faults.specs.declared.LineFault.TheVariants.{Field}
use Rattle.faults.specs.declared.Spot.{Spot}
use Rattle.texts.specs.declared.reader.Reader.{Reader}
use Rattle.faults.specs.Faults.{spot, field_fault, line_fault}
use Rattle.texts.specs.Means.{rows_left}

-- go on with what was read, unless the line is refused
abbrev pub and_then : {A B : Type 0} → Result A LineFault → (A → Result B LineFault) → Result B LineFault
and_then (Ok a) k = k a
and_then (Err f) k = Err f

-- refused: field f of the line that the spot is in, or that line as a whole
abbrev pub bad_field : {A : Type 0} → FieldWrong → Spot → ℕ → Result A LineFault
bad_field w s f = Err (Field (field_fault w (spot s.text s.line f)))

abbrev pub bad_line : {A : Type 0} → LineWrong → Spot → Result A LineFault
bad_line w s = Err (line_fault w s.text s.line)

-- refused unless so many fields are left
abbrev pub counted : ℕ → Spot → List (List ℕ) → Result (Unit {0}) LineFault
counted n s fs = cond (length fs == n) (Ok tt) (bad_line FieldCount s)

-- whether the letter is b
abbrev pub is : ℕ → Option ℕ → Bool
is b (Some c) = c == b
is b None = false

-- a reader that stays in its line
abbrev pub Kept : Reader → Reader → Type 0
Kept a b = (rows_left b ≡ rows_left a) × (b.which ≡ a.which) × (b.line ≡ a.line)
