-- How a text is read: line by line, and the first refused line decides.
use Rattle.std.specs.Prelude.{ℕ, ◌+◌, cond, List, [], ◌∷◌, length, Ok, Err, Result, nat_le}
use Rattle.faults.specs.declared.Text.{Text}
use Rattle.faults.specs.declared.Spot.{Spot}
use Rattle.faults.specs.declared.LineWrong.TheVariants.{Unended}
use Rattle.faults.specs.declared.TextWrong.TheVariants.{TooLong}
use Rattle.faults.specs.declared.LineFault.{LineFault}
use Rattle.faults.specs.declared.Cause.TheVariants.{Whole, Line}
use Rattle.faults.specs.declared.TextFault.{TextFault}
use Rattle.texts.specs.Cut.{Row, rows}
use Rattle.faults.specs.Faults.{spot, line_fault, fault_in}
use Rattle.texts.specs.Rules.{and_then}

-- an entry before those that follow it, unless one of them is refused
abbrev pub before : {E : Type 0} → E → Result (List E) LineFault → Result (List E) LineFault
before e (Ok es) = Ok (e ∷ es)
before e (Err f) = Err f

-- a line's fault lies whole inside its text's
abbrev pub in_text_of : {A : Type 0} → Text → Result A LineFault → Result A TextFault
in_text_of t (Ok a) = Ok a
in_text_of t (Err f) = Err (fault_in t (Line f))

-- a text whose lines tell entries: `line` is what a line's fields tell at a state, and `next` the state after an entry
pub record Grammar (S E : Type 0) : Type 0 where
  pub text : Text
  pub line : Spot → S → List (List ℕ) → Result E LineFault
  pub next : S → E → S

-- the entries of the rows from line l on, in a state s
abbrev pub read_rows : {S E : Type 0} → Grammar S E → S → ℕ → List Row → Result (List E) LineFault
read_rows g s l [] = Ok []
read_rows g s l (r ∷ rs) =
    cond r.1
    (and_then (g.line (spot g.text l 0) s r.0) (λ e. before e (read_rows g (g.next s e) (l + 1) rs)))
    (Err (line_fault Unended g.text l))

-- the entries of a text of at most 65,535 bytes
abbrev pub read_text : {S E : Type 0} → Grammar S E → S → List ℕ → Result (List E) TextFault
read_text g s t = cond (nat_le (length t) 65535) (in_text_of g.text (read_rows g s 1 (rows t))) (Err (fault_in g.text (Whole TooLong)))

-- the state after all entries
abbrev pub last_state : {S E : Type 0} → Grammar S E → S → List E → S
last_state g s [] = s
last_state g s (e ∷ es) = last_state g (g.next s e) es

abbrev pub state_after : {S E F : Type 0} → Grammar S E → S → Result (List E) F → Result S F
state_after g s (Ok es) = Ok (last_state g s es)
state_after g s (Err f) = Err f
