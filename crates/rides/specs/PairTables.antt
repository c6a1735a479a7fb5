-- What changes in a table of pairs, and what it holds at the start and in the rounds of the closure.
use Rattle.std.specs.Prelude.{◌≡◌, ℕ}
use Rattle.measures.specs.Meaning.{MeasureMeaning}
use Rattle.streets.specs.Meaning.{StreetMeaning}
use Rattle.tables.specs.Tables.{ride_in}
use Rattle.rides.specs.declared.pairs.PairTable.{PairTable}
use Rattle.rides.specs.Rounds.{Behind, RidesOnly, Started, Full, Mid}

-- the table has as many places as before, and stands in the same cells
abbrev pub SameTable : {M V : Type 0} → PairTable M V → PairTable M V → Type 0
SameTable old new = (new.n ≡ old.n) × (new.cells.ghost_name ≡ old.cells.ghost_name)

-- the table may have changed, and the cells behind it have not
abbrev pub TableChanged : {M V : Type 0} → PairTable M V → PairTable M V → Type 0
TableChanged old new = SameTable old new × Behind old.n old.cells.now new.cells.now

-- only rides have changed
abbrev pub RidesChanged : {M V : Type 0} → PairTable M V → PairTable M V → Type 0
RidesChanged old new = SameTable old new × RidesOnly old.n old.cells.now new.cells.now

-- the pairs before (i, j) hold the leg's value, as leg and as ride, and the places before i their kind
abbrev pub StartedTo : {M V : Type 0} → MeasureMeaning V → StreetMeaning → ℕ → ℕ → PairTable M V → Type 0
StartedTo m s i j t = Started m s t.n i j t.cells.now

-- every ride is the best by places below k
abbrev pub FullBelow : {M V : Type 0} → MeasureMeaning V → StreetMeaning → ℕ → PairTable M V → Type 0
FullBelow m s k t = Full m s t.n k (ride_in t.cells.now t.n)

-- round k has come to the pair (i, j)
abbrev pub RoundAt : {M V : Type 0} → MeasureMeaning V → StreetMeaning → ℕ → ℕ → ℕ → PairTable M V → Type 0
RoundAt m s k i j t = Mid m s t.n k i j (ride_in t.cells.now t.n)
