-- Cells whose legs, rides and kinds of the pairs of places stay as they were are filled as they were.
use Rattle.std.proofs.Common.{◌≡◌, ℕ, ◌+◌, ◌*◌, ◌<◌, List, get_or, Option, sym, ◌∙◌, subst}
use Rattle.std.proofs.lemmas.Nat.{mul-add-lt}
use Rattle.measures.specs.Meaning.{MeasureMeaning}
use Rattle.streets.specs.Meaning.{StreetMeaning}
use Rattle.plans.specs.Walks.{RideOf}
use Rattle.cells.specs.declared.cell.Cell.{Cell}
use Rattle.tables.specs.Tables.{blank, leg_in, ride_in, kind_in}
use Rattle.rides.specs.Cells.{Filled}

module _ {M V : Type 0} (m : MeasureMeaning V) (s : StreetMeaning) (old new : List (Cell M V))
    (legs : (i : ℕ) → i < s.places * s.places → (get_or new i blank).leg ≡ (get_or old i blank).leg)
    (rides : (i : ℕ) → i < s.places * s.places → (get_or new i blank).ride ≡ (get_or old i blank).ride)
    (kinds : (i : ℕ) → i < s.places * s.places → (get_or new i blank).kind ≡ (get_or old i blank).kind) where
  inside : (a b : ℕ) → a < s.places → b < s.places → a * s.places + b < s.places * s.places
  inside a b h k = mul-add-lt a s.places b s.places h k

  same_leg : (a b : ℕ) → a < s.places → b < s.places → leg_in new s.places a b ≡ leg_in old s.places a b
  unfolding leg_in
  same_leg a b h k = legs (a * s.places + b) (inside a b h k)

  same_ride : (a b : ℕ) → a < s.places → b < s.places → ride_in new s.places a b ≡ ride_in old s.places a b
  unfolding ride_in
  same_ride a b h k = rides (a * s.places + b) (inside a b h k)

  same_kind : (p : ℕ) → p < s.places → kind_in new s.places p ≡ kind_in old s.places p
  unfolding kind_in
  same_kind p h = kinds (p * s.places + p) (inside p p h h)

  pub still_filled : Filled m s old → Filled m s new
  still_filled filled = record {
    legs = λ a b h k. same_leg a b h k ∙ filled.legs a b h k;
    rides = λ a b h k. subst (λ (o : Option V). RideOf m s a b o) (sym (same_ride a b h k)) (filled.rides a b h k);
    kinds = λ p h. same_kind p h ∙ filled.kinds p h;
  }
