-- Cells that hold a street's legs, rides and kinds, and the own values by them, hold the task of the job over the street.
use Rattle.std.proofs.Common.{◌≡◌, ℕ, ◌<◌, true, cond, ◌&&◌, List, length, Some, None, Option, sym, refl, ap, ◌∙◌, subst, arith}
use Rattle.std.specs.List.{slice_get}
use Rattle.std.proofs.lemmas.Bool.{lt-ltb, eqb-true}
use Rattle.measures.specs.Laws.{Laws}
use Rattle.measures.specs.Meaning.{MeasureMeaning}
use Rattle.streets.specs.Meaning.{StreetMeaning, Sound}
use Rattle.jobs.specs.Trees.{tie_of, tied, Tree}
use Rattle.jobs.specs.declared.stops.Stop.{Stop}
use Rattle.jobs.specs.declared.stops.Tie.{Tie}
use Rattle.jobs.specs.declared.stops.Link.{Link}
use Rattle.jobs.specs.declared.stops.Link.TheVariants.{Direct, Ride}
use Rattle.plans.specs.Plans.{fits}
use Rattle.cells.specs.declared.cell.Cell.{Cell}
use Rattle.tables.specs.Tables.{leg_in, ride_in, own_in, OwnsOnly}
use Rattle.rides.specs.Cells.{Filled}
use Rattle.rides.proofs.Still.{still_filled}
use Rattle.tours.specs.Jobs.{kind_of, is_ride, ride_of, job_meaning}
use Rattle.tours.specs.Tasks.{task_of}
use Rattle.tours.proofs.Stops.{hung}
use Rattle.tours.proofs.Turns.{tour_laws_lem}
use Rattle.minima.specs.Tables.{by_link, by_tie, link_in, Holds}
use Rattle.fitting.specs.Owns.{own_by}

-- a stop's link in the cells' words is the one that it means: of a ride the ride, else the leg
module _ {V : Type 0} (leg ride : Option V) where
  same_link : (l : Link) → by_link l leg ride ≡ cond (is_ride l) ride leg
  same_link Direct = refl
  same_link Ride = refl

  of_tie : (i : ℕ) (t : Option Tie) → 0 < i → tied i t ≡ true → by_tie t leg ride ≡ cond (ride_of t) ride leg
  of_tie i None z h = let e = eqb-true i 0 h in absurd (omega arith)
  of_tie i (Some t) z h = same_link t.link

module _ {M V : Type 0} (m : MeasureMeaning V) (laws : Laws m.nought m.joined m.before) (s : StreetMeaning) (old new : List (Cell M V)) (filled : Filled m s old) (only : OwnsOnly old new) where
  pub filled_still : Filled m s new
  filled_still = still_filled m s old new (λ i _. only.legs i) (λ i _. only.rides i) (λ i _. only.kinds i) filled

  module _ (sound : Sound s) (stops : List Stop) (tree : Tree stops) (owns : (i q : ℕ) → i < length stops → q < s.places → own_in new s.places i q ≡ own_by m old s.places stops i q) where
    own_is : (i q : ℕ) → i < length stops → q < s.places → own_in new s.places i q ≡ (task_of m s (job_meaning stops)).own i q
    own_is i q l h = owns i q l h ∙ ap (λ kind. cond (fits (kind_of (slice_get stops i)) kind) (Some m.nought) None) (filled.kinds q h)
        ∙ ap (λ b. cond (b && fits (kind_of (slice_get stops i)) (s.kind q)) (Some m.nought) None) (sym (lt-ltb q s.places h))

    link_is : (i p q : ℕ) → 0 < i → i < length stops → p < s.places → q < s.places → link_in new s.places stops i p q ≡ (task_of m s (job_meaning stops)).link i p q
    link_is i p q z l h k = of_tie (leg_in new s.places p q) (ride_in new s.places p q) i (tie_of (slice_get stops i)) z (hung stops tree i l)
        ∙ sym ((tour_laws_lem m laws).linked s (job_meaning stops) (leg_in new s.places) (ride_in new s.places) sound filled_still.legs filled_still.rides i p q z h k)

    pub holds_street : Holds new s.places stops (task_of m s (job_meaning stops))
    holds_street = record {
      count = refl;
      size = refl;
      parents = λ i l. refl;
      owns = own_is;
      links = link_is;
      rooted = (tour_laws_lem m laws).rooted s stops tree;
    }

-- the same where the number of places goes under another name
pub street_held : {M V : Type 0} (m : MeasureMeaning V) → Laws m.nought m.joined m.before → (n : ℕ) (stops : List Stop) → Tree stops → (old new : List (Cell M V)) → OwnsOnly old new →
    ((i q : ℕ) → i < length stops → q < n → own_in new n i q ≡ own_by m old n stops i q) → (s : StreetMeaning) → Sound s → s.places ≡ n → Filled m s old → Holds new n stops (task_of m s (job_meaning stops)) × Filled m s new
street_held m laws n stops tree old new only owns s sound e filled = (
  subst (λ (k : ℕ). ((i q : ℕ) → i < length stops → q < k → own_in new k i q ≡ own_by m old k stops i q) → Holds new k stops (task_of m s (job_meaning stops))) e (holds_street m laws s old new filled only sound stops tree) owns,
  filled_still m laws s old new filled only,
)
