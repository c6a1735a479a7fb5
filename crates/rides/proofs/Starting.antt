-- The table at the start, pair by pair, and the rides at the end.
use Rattle.std.proofs.Common.{◌≡◌, ℕ, ◌+◌, ◌*◌, ◌<◌, ◌≤◌, List, map, length, Ok, Err, refl, ◌∙◌, subst, inl}
use Rattle.measures.specs.Meaning.{MeasureMeaning}
use Rattle.measures.specs.Laws.{Laws}
use Rattle.streets.specs.Meaning.{StreetMeaning, Sound}
use Rattle.plans.proofs.Closure.{best_start}
use Rattle.plans.proofs.Rides.{best_ride}
use Rattle.tables.specs.Tables.{leg_in, ride_in, kind_in}
use Rattle.tables.proofs.Reading.{same_mapped}
use Rattle.cells.specs.declared.cell.Cell.{Cell}
use Rattle.rides.specs.Cells.{Fills}
use Rattle.rides.specs.declared.table.TooFewCells.{TooFewCells}
use Rattle.rides.specs.Rounds.{Behind, RidesOnly, Started, Full}

module _ {M V : Type 0} (m : MeasureMeaning V) (s : StreetMeaning) (n : ℕ) where
  pub start_full : Laws m.nought m.joined m.before → (cells : List (Cell M V)) → Started m s n n 0 cells → Full m s n 0 (ride_in cells n)
  start_full laws cells started = record { best = λ a b ha hb. best_start m laws s a b _ (started.rides a b ha hb (inl ha)) }

-- a part that is the same in each cell
module _ {M V : Type 0} (old new : List (Cell M V)) where
  same_leg : (n a b : ℕ) → map (λ (c : Cell M V). c.leg) new ≡ map (λ (c : Cell M V). c.leg) old → leg_in new n a b ≡ leg_in old n a b
  unfolding leg_in
  same_leg n a b e = same_mapped (λ c. c.leg) old new e (a * n + b)

  same_kind : (n p : ℕ) → map (λ (c : Cell M V). c.kind) new ≡ map (λ (c : Cell M V). c.kind) old → kind_in new n p ≡ kind_in old n p
  unfolding kind_in
  same_kind n p e = same_mapped (λ c. c.kind) old new e (p * n + p)

-- what the steps have come to: the legs and kinds from the start, the rides from the closure
abbrev pub Done : {M V : Type 0} → MeasureMeaning V → StreetMeaning → ℕ → List (Cell M V) → List (Cell M V) → List (Cell M V) → Type 0
Done m s n old started new = Started m s n n 0 started × Behind n old started × RidesOnly n started new × Full m s n n (ride_in new n)

pub done_fills : {M V : Type 0} (m : MeasureMeaning V) → Laws m.nought m.joined m.before → (s : StreetMeaning) → Sound s → (n : ℕ) (old started new : List (Cell M V)) → n ≡ s.places →
    n * n ≤ length old → Done m s n old started new → Fills m s (Ok n) old new
done_fills m laws s sound n old started new e room done = record {
  told = (
    e,
    subst (λ (k : ℕ). k * k ≤ length old) e room,
    record {
      legs = λ a b ha hb. same_leg started new s.places a b d.2.0 ∙ d.0.legs a b ha hb (inl ha);
      rides = λ a b ha hb. best_ride m laws s sound a b _ (d.3.best a b ha hb);
      kinds = λ p h. same_kind started new s.places p d.2.1 ∙ d.0.kinds p h;
    },
  );
  behind = d.2.2 ∙ d.1;
} where
  d : Done m s s.places old started new
  d = subst (λ (k : ℕ). Done m s k old started new) e done

-- with too few cells nothing is done
pub short_fills : {M V : Type 0} (m : MeasureMeaning V) (s : StreetMeaning) (n : ℕ) (old : List (Cell M V)) (short : TooFewCells) → n ≡ s.places → length old < n * n → Fills m s (Err short) old old
short_fills m s n old short e less = record { told = (subst (λ (k : ℕ). length old < k * k) e less, refl); behind = refl }
