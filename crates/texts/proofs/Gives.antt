-- What is known of a value that was read.
use Rattle.std.proofs.Common.{◌≡◌, ℕ, ◌≤◌, Bool, true, false, cond, leb, List, [], ◌∷◌, IfOk, Ok, Err, Result, refl}
use Rattle.std.proofs.lemmas.Bool.{leb-true}
use Rattle.faults.specs.declared.Spot.{Spot}
use Rattle.faults.specs.declared.LineFault.{LineFault}
use Rattle.faults.specs.Faults.{FieldFault, next_field}
use Rattle.texts.specs.Numbers.{is_number, decimal, numeral, in_line, number_in}
use Rattle.texts.specs.Rules.{and_then}

pub either_gives : {A E : Type 0} (P : A → Type 0) (b : Bool) (x y : Result A E) → (b ≡ true → IfOk x P) → (b ≡ false → IfOk y P) → IfOk (cond b x y) P
either_gives P true x y p q = p refl
either_gives P false x y p q = q refl

pub then_gives : {A B : Type 0} (Q : A → Type 0) (P : B → Type 0) (r : Result A LineFault) (k : A → Result B LineFault) → IfOk r Q → ((a : A) → Q a → IfOk (k a) P) → IfOk (and_then r k) P
then_gives Q P (Ok a) k p q = q a p
then_gives Q P (Err f) k p q = tt

line_gives : {A : Type 0} (P : A → Type 0) (r : Result A FieldFault) → IfOk r P → IfOk (in_line r) P
line_gives P (Ok a) p = p
line_gives P (Err f) p = tt

-- a number that was read is at most its bound
pub number_gives : (bound : ℕ) (s : Spot) (fs : List (List ℕ)) → IfOk (number_in bound s fs) (λ v. v ≤ bound)
number_gives bound s [] = tt
number_gives bound s (f ∷ fs) = line_gives (λ v. v ≤ bound) (numeral bound (next_field s) f) (either_gives (λ v. v ≤ bound) (is_number f) _ _ (λ _. either_gives (λ v. v ≤ bound) (leb (decimal f) bound) _ _ (λ h. leb-true (decimal f) bound h) (λ _. tt)) (λ _. tt))
