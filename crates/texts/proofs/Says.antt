-- A fault says which text it stands in.
use Rattle.std.proofs.Common.{◌≡◌, ℕ, Bool, true, false, cond, leb, List, [], ◌∷◌, Ok, Err, Result, refl}
use Rattle.faults.specs.declared.Text.{Text}
use Rattle.faults.specs.declared.Spot.{Spot}
use Rattle.faults.specs.declared.LineFault.{LineFault}
use Rattle.faults.specs.Faults.{FieldFault, text_of, next_field}
use Rattle.texts.specs.Numbers.{is_number, decimal, numeral, some_of, only, numeral_or_dash, in_line, number_in, number_or_dash_in}
use Rattle.texts.specs.Rules.{and_then}

-- a fault, if there is one, stands in the text t
abbrev pub Says : {A : Type 0} → Text → Result A LineFault → Type 0
Says t (Ok a) = Unit {0}
Says t (Err f) = text_of f ≡ t

pub either_says : {A : Type 0} (t : Text) (b : Bool) (x y : Result A LineFault) → Says t x → Says t y → Says t (cond b x y)
either_says t true x y p q = p
either_says t false x y p q = q

pub then_says : {A B : Type 0} (t : Text) (r : Result A LineFault) (k : A → Result B LineFault) → Says t r → ((a : A) → Says t (k a)) → Says t (and_then r k)
then_says t (Ok a) k p q = q a
then_says t (Err f) k p q = p

abbrev Inside : {A : Type 0} → Text → Result A FieldFault → Type 0
Inside t (Ok a) = Unit {0}
Inside t (Err f) = f.at.text ≡ t

inside_either : {A : Type 0} (t : Text) (b : Bool) (x y : Result A FieldFault) → Inside t x → Inside t y → Inside t (cond b x y)
inside_either t true x y p q = p
inside_either t false x y p q = q

inside_line : {A : Type 0} (t : Text) (r : Result A FieldFault) → Inside t r → Says t (in_line r)
inside_line t (Ok a) p = tt
inside_line t (Err f) p = p

inside_some : (t : Text) (r : Result ℕ FieldFault) → Inside t r → Inside t (some_of r)
inside_some t (Ok a) p = tt
inside_some t (Err f) p = p

inside_numeral : (bound : ℕ) (s : Spot) (cs : List ℕ) → Inside s.text (numeral bound s cs)
inside_numeral bound s cs = inside_either s.text (is_number cs) _ _ (inside_either s.text (leb (decimal cs) bound) _ _ tt refl) refl

pub number_says : (bound : ℕ) (s : Spot) (fs : List (List ℕ)) → Says s.text (number_in bound s fs)
number_says bound s [] = refl
number_says bound s (f ∷ fs) = inside_line s.text (numeral bound (next_field s) f) (inside_numeral bound (next_field s) f)

pub dash_says : (bound : ℕ) (s : Spot) (fs : List (List ℕ)) → Says s.text (number_or_dash_in bound s fs)
dash_says bound s [] = refl
dash_says bound s (f ∷ fs) = inside_line s.text (numeral_or_dash bound (next_field s) f) (inside_either s.text (only 45 f) _ _ tt (inside_some s.text (numeral bound (next_field s) f) (inside_numeral bound (next_field s) f)))
