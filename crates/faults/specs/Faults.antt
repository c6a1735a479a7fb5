-- What the faults of a text say: a number, a line and a field.
use Rattle.std.specs.Prelude.{ℕ, ◌+◌, Some, None, Option}
use Rattle.faults.specs.declared.Text.{Text}
use Rattle.faults.specs.declared.Spot.{Spot}
use Rattle.faults.specs.declared.FieldWrong.{FieldWrong}
use Rattle.faults.specs.declared.FieldWrong.TheVariants.{NotLetter, NotNumber, AboveBound, NotNextPlace, UntoldPlace, SameEnds, KindZero, NotNextStop, WrongParent, WrongLink}
use Rattle.faults.specs.declared.LineWrong.{LineWrong}
use Rattle.faults.specs.declared.LineWrong.TheVariants.{Unended, FieldCount, Full}
use Rattle.faults.specs.declared.TextWrong.{TextWrong}
use Rattle.faults.specs.declared.TextWrong.TheVariants.{TooLong, NoLines}
use Rattle.faults.specs.declared.Fault.{Fault}
use Rattle.faults.specs.declared.LineFault.{LineFault}
use Rattle.faults.specs.declared.LineFault.TheVariants.{Field, Whole as WholeLine}
use Rattle.faults.specs.declared.Cause.{Cause}
use Rattle.faults.specs.declared.Cause.TheVariants.{Whole as WholeText, Line}
use Rattle.faults.specs.declared.TextFault.{TextFault}

-- the number that stands for each fault
abbrev pub number_of_field : FieldWrong → ℕ
number_of_field NotLetter = 12
number_of_field NotNumber = 14
number_of_field AboveBound = 15
number_of_field NotNextPlace = 16
number_of_field UntoldPlace = 17
number_of_field SameEnds = 18
number_of_field KindZero = 19
number_of_field NotNextStop = 21
number_of_field WrongParent = 22
number_of_field WrongLink = 23

abbrev pub number_of_line : LineWrong → ℕ
number_of_line Unended = 11
number_of_line FieldCount = 13
number_of_line Full = 20

abbrev pub number_of_text : TextWrong → ℕ
number_of_text TooLong = 10
number_of_text NoLines = 24

-- the fault of a field
abbrev pub FieldFault : Type 0
FieldFault = Fault FieldWrong

abbrev pub number_in_line : LineFault → ℕ
number_in_line (Field f) = number_of_field f.wrong
number_in_line (WholeLine f) = number_of_line f.wrong

-- where a line's fault stands
abbrev pub spot_in_line : LineFault → Spot
spot_in_line (Field f) = f.at
spot_in_line (WholeLine f) = f.at

-- which text a line's fault stands in
abbrev pub text_of : LineFault → Text
text_of (Field f) = f.at.text
text_of (WholeLine f) = f.at.text

abbrev pub number_of_cause : Cause → ℕ
number_of_cause (WholeText w) = number_of_text w
number_of_cause (Line f) = number_in_line f

abbrev pub line_of_cause : Cause → ℕ
line_of_cause (WholeText w) = 0
line_of_cause (Line f) = (spot_in_line f).line

abbrev pub field_of_cause : Cause → ℕ
field_of_cause (WholeText w) = 0
field_of_cause (Line f) = (spot_in_line f).field

-- where a fault stands, if it stands in a line
abbrev pub spot_of_cause : Cause → Option Spot
spot_of_cause (WholeText w) = None
spot_of_cause (Line f) = Some (spot_in_line f)

-- the number, line and field of a text's fault
abbrev pub number_of : TextFault → ℕ
number_of f = number_of_cause f.cause

abbrev pub line_of : TextFault → ℕ
line_of f = line_of_cause f.cause

abbrev pub field_of : TextFault → ℕ
field_of f = field_of_cause f.cause

-- a fault of the text that the line stands in
abbrev pub fault_in : Text → Cause → TextFault
fault_in t c = record { text = t; cause = c }

-- a line's fault lies whole inside its text's
abbrev pub in_text : LineFault → TextFault
in_text f = fault_in (text_of f) (Line f)

abbrev pub spot : Text → ℕ → ℕ → Spot
spot t l f = record { text = t; line = l; field = f }

-- the spot of the next field
abbrev pub next_field : Spot → Spot
next_field s = spot s.text s.line (s.field + 1)

-- the fault of one field, and the fault of a line as a whole
abbrev pub field_fault : FieldWrong → Spot → FieldFault
field_fault w s = record { wrong = w; at = s }

abbrev pub line_fault : LineWrong → Text → ℕ → LineFault
line_fault w t l = WholeLine (record { wrong = w; at = spot t l 0 })
