-- What a reader has still to give, and where it stands.
use Rattle.std.specs.Prelude.{◌≡◌, ℕ, ◌+◌, ◌<◌, Bool, true, false, List, [], ◌∷◌, length, take, drop, Ok, Err, Result}
use Rattle.texts.specs.declared.reader.Reader.{Reader}
use Rattle.faults.specs.declared.Spot.{Spot}
use Rattle.faults.specs.declared.LineFault.{LineFault}
use Rattle.faults.specs.declared.LineWrong.TheVariants.{Unended}
use Rattle.faults.specs.Faults.{spot, next_field, line_fault}
use Rattle.texts.specs.Cut.{Row, rows, fields_from}

-- the rows that follow the line at hand
abbrev pub rows_left : Reader → List Row
rows_left r = rows (drop r.next r.text.now)

-- the fields of the line at hand that were not handed out
abbrev pub fields_left : Reader → List (List ℕ)
fields_left r = fields_from (take r.end r.text.now) r.pos

-- the spot of the field handed out last, field 0 before the first of a line
abbrev pub spot_of : Reader → Spot
spot_of r = spot r.which r.line r.field

-- a reader went from a to b over one line
pub record NewLine (a b : Reader) : Type 0 where
  pub row : rows_left a ≡ (fields_left b, true) ∷ rows_left b
  pub same_text : b.which ≡ a.which
  pub counted : b.line ≡ a.line + 1
  pub first : b.field ≡ 0

-- it went over one line, found no line, or found one without its end
abbrev pub LineStep : Reader → Reader → Result Bool LineFault → Type 0
LineStep a b (Ok more) = (more ≡ true → NewLine a b) × (more ≡ false → (rows_left a ≡ []) × (b ≡ a))
LineStep a b (Err f) = ((fs : List (List ℕ)) × (rows_left a ≡ (fs, false) ∷ [])) × (f ≡ line_fault Unended a.which (a.line + 1)) × (b ≡ a)

-- a reader went from a to b over one field f of the line at hand
abbrev pub FieldStep : Reader → Reader → List ℕ → Type 0
FieldStep a b f = (fields_left a ≡ f ∷ fields_left b) × (spot_of b ≡ next_field (spot_of a)) × (rows_left b ≡ rows_left a)

-- a reader went from a to b over one field, or past the last field nowhere
abbrev pub Moved : Reader → Reader → Type 0
Moved a b = (fields_left b ≡ drop 1 (fields_left a)) × (0 < length (fields_left a) → spot_of b ≡ next_field (spot_of a)) × (b.which ≡ a.which) × (b.line ≡ a.line) × (rows_left b ≡ rows_left a)
