-- What a number field says.
use Rattle.std.specs.Prelude.{ℕ, ◌+◌, ◌-◌, ◌*◌, Bool, cond, ◌&&◌, List, [], ◌∷◌, length, Some, None, Ok, Err, Option, Result, ◌==◌, nat_le, slice_index}
use Rattle.std.specs.Str.{all_ascii_digits}
use Rattle.faults.specs.declared.FieldWrong.TheVariants.{NotNumber, AboveBound}
use Rattle.faults.specs.declared.Spot.{Spot}
use Rattle.faults.specs.declared.LineFault.{LineFault}
use Rattle.faults.specs.declared.LineFault.TheVariants.{Field}
use Rattle.faults.specs.declared.LineWrong.TheVariants.{FieldCount}
use Rattle.faults.specs.Faults.{FieldFault, field_fault, line_fault, next_field}

-- the value of decimal digits that follow the number n
abbrev pub decimal_after : ℕ → List ℕ → ℕ
decimal_after n [] = n
decimal_after n (c ∷ cs) = decimal_after (n * 10 + (c - 48)) cs

abbrev pub decimal : List ℕ → ℕ
decimal cs = decimal_after 0 cs

-- one to five digits
abbrev pub is_number : List ℕ → Bool
is_number cs = nat_le 1 (length cs) && (nat_le (length cs) 5 && all_ascii_digits cs)

-- the number in the field at a spot, at most bound
abbrev pub numeral : ℕ → Spot → List ℕ → Result ℕ FieldFault
numeral bound s cs =
    cond (is_number cs)
    (cond (nat_le (decimal cs) bound) (Ok (decimal cs)) (Err (field_fault AboveBound s)))
    (Err (field_fault NotNumber s))

-- the number that a value which was read is
abbrev pub valued : {A B F : Type 0} → (A → B) → Result A F → Result B F
valued value (Ok a) = Ok (value a)
valued value (Err f) = Err f

-- a field's fault lies whole inside its line's
abbrev pub in_line : {A : Type 0} → Result A FieldFault → Result A LineFault
in_line (Ok v) = Ok v
in_line (Err f) = Err (Field f)

-- a field of the one byte b
abbrev pub only : ℕ → List ℕ → Bool
only b f = length f == 1 && slice_index f 0 == b

-- a number, or none where a lone `-` stands
abbrev pub some_of : Result ℕ FieldFault → Result (Option ℕ) FieldFault
some_of (Ok v) = Ok (Some v)
some_of (Err f) = Err f

abbrev pub numeral_or_dash : ℕ → Spot → List ℕ → Result (Option ℕ) FieldFault
numeral_or_dash bound s f = cond (only 45 f) (Ok None) (some_of (numeral bound s f))

-- the number in the first of the fields fs, which follow the spot s
abbrev pub number_in : ℕ → Spot → List (List ℕ) → Result ℕ LineFault
number_in bound s [] = Err (line_fault FieldCount s.text s.line)
number_in bound s (f ∷ fs) = in_line (numeral bound (next_field s) f)

abbrev pub number_or_dash_in : ℕ → Spot → List (List ℕ) → Result (Option ℕ) LineFault
number_or_dash_in bound s [] = Err (line_fault FieldCount s.text s.line)
number_or_dash_in bound s (f ∷ fs) = in_line (numeral_or_dash bound (next_field s) f)

-- the byte of the first of the fields, if that is one byte
abbrev pub letter_in : List (List ℕ) → Option ℕ
letter_in [] = None
letter_in (f ∷ fs) = cond (length f == 1) (Some (slice_index f 0)) None
