-- A table that is made, started and closed fills the cells that it was made of.
use Rattle.std.proofs.Common.{◌≡◌, ℕ, ◌*◌, ◌≤◌, List, length, Ok, sym, ◌∙◌, subst}
use Rattle.measures.specs.Meaning.{MeasureMeaning}
use Rattle.measures.specs.Laws.{Laws}
use Rattle.streets.specs.Meaning.{StreetMeaning, Sound}
use Rattle.tables.specs.Tables.{ride_in}
use Rattle.cells.specs.declared.cell.Cell.{Cell}
use Rattle.rides.specs.declared.pairs.PairTable.{PairTable}
use Rattle.rides.specs.Cells.{Fills}
use Rattle.rides.specs.Rounds.{Behind, RidesOnly, Started, Full}
use Rattle.rides.specs.PairTables.{TableChanged, RidesChanged, StartedTo, FullBelow}
use Rattle.rides.proofs.Starting.{done_fills, start_full}

pub table_fills : {M V : Type 0} (m : MeasureMeaning V) → Laws m.nought m.joined m.before → (s : StreetMeaning) → Sound s → (n : ℕ) (old new : List (Cell M V)) (made started closed : PairTable M V) →
    n ≡ s.places → n * n ≤ length old → made.n ≡ n → made.cells.now ≡ old →
    StartedTo m s started.n 0 started → TableChanged made started → (FullBelow m s 0 started → FullBelow m s started.n closed) → RidesChanged started closed →
    new ≡ closed.cells.now → Fills m s (Ok n) old new
table_fills {M} {V} m laws s sound n old new made started closed e room a b begun p rounds q w =
    subst (λ (x : List (Cell M V)). Fills m s (Ok n) old x) (sym w) (done_fills m laws s sound n old started.cells.now closed.cells.now e room (
      subst (λ (k : ℕ). Started m s k k 0 started.cells.now) sn begun,
      subst (λ (x : List (Cell M V)). Behind n x started.cells.now) b (subst (λ (k : ℕ). Behind k made.cells.now started.cells.now) a p.1),
      subst (λ (k : ℕ). RidesOnly k started.cells.now closed.cells.now) sn q.1,
      subst (λ (k : ℕ). Full m s n k (ride_in closed.cells.now n)) sn (subst (λ (x : ℕ). Full m s x started.n (ride_in closed.cells.now x)) (q.0.0 ∙ sn) (rounds (start_full m s started.n laws started.cells.now begun))),
    ))
  where
    sn : started.n ≡ n
    sn = p.0.0 ∙ a
