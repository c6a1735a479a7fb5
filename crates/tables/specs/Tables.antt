-- Where the tables stand in a list of cells: for n places and m stops first n x n pairs of places, then m x n stops at
-- places, then the waiting subspaces.
use Rattle.std.specs.Prelude.{◌≡◌, ℕ, ◌+◌, ◌*◌, ◌<◌, List, get_or, Option, ◌≢◌, slice_index_or}
use Rattle.cells.specs.Cells.{empty_cell}
use Rattle.cells.specs.declared.cell.Cell.{Cell}
use Rattle.cells.specs.declared.cell.Entry.{Entry}

-- the one cell that is read outside a list
abbrev pub blank : {M V : Type 0} → Cell M V
blank = empty_cell

-- the leg from place a to place b
unfoldable pub leg_in : {M V : Type 0} → List (Cell M V) → ℕ → ℕ → ℕ → Option V
leg_in cells n a b = (get_or cells (a * n + b) blank).leg

-- the ride from place a to place b
unfoldable pub ride_in : {M V : Type 0} → List (Cell M V) → ℕ → ℕ → ℕ → Option V
ride_in cells n a b = (get_or cells (a * n + b) blank).ride

-- the kind of place p, which stands in the cell of the pair (p, p)
unfoldable pub kind_in : {M V : Type 0} → List (Cell M V) → ℕ → ℕ → ℕ
kind_in cells n p = (get_or cells (p * n + p) blank).kind

-- the own value of stop s at place q
unfoldable pub own_in : {M V : Type 0} → List (Cell M V) → ℕ → ℕ → ℕ → Option V
own_in cells n s q = (get_or cells (n * n + (s * n + q)) blank).own

-- the least value of the subtree of stop s at place q
unfoldable pub best_in : {M V : Type 0} → List (Cell M V) → ℕ → ℕ → ℕ → Option V
best_in cells n s q = (get_or cells (n * n + (s * n + q)) blank).best

-- the least value of the link and the subtree of stop s where its parent stands at place p
unfoldable pub hang_in : {M V : Type 0} → List (Cell M V) → ℕ → ℕ → ℕ → Option V
hang_in cells n s p = (get_or cells (n * n + (s * n + p)) blank).hang

-- the waiting subspace in cell i
unfoldable pub entry_in : {M V : Type 0} → List (Cell M V) → ℕ → Entry V
entry_in cells i = (get_or cells i blank).entry

-- the cells below k are as they were
abbrev pub Kept : {M V : Type 0} → ℕ → List (Cell M V) → List (Cell M V) → Type 0
Kept k old new = (i : ℕ) → i < k → slice_index_or new i blank ≡ slice_index_or old i blank

-- the legs, rides, kinds, own values and waiting subspaces are as they were
pub record Stays {M V : Type 0} (old new : List (Cell M V)) : Type 0 where
  pub legs : (i : ℕ) → (get_or new i blank).leg ≡ (get_or old i blank).leg
  pub rides : (i : ℕ) → (get_or new i blank).ride ≡ (get_or old i blank).ride
  pub kinds : (i : ℕ) → (get_or new i blank).kind ≡ (get_or old i blank).kind
  pub owns : (i : ℕ) → (get_or new i blank).own ≡ (get_or old i blank).own
  pub entries : (i : ℕ) → (get_or new i blank).entry ≡ (get_or old i blank).entry

-- only own values have changed: all else is as it was
pub record OwnsOnly {M V : Type 0} (old new : List (Cell M V)) : Type 0 where
  pub legs : (i : ℕ) → (get_or new i blank).leg ≡ (get_or old i blank).leg
  pub rides : (i : ℕ) → (get_or new i blank).ride ≡ (get_or old i blank).ride
  pub kinds : (i : ℕ) → (get_or new i blank).kind ≡ (get_or old i blank).kind
  pub bests : (i : ℕ) → (get_or new i blank).best ≡ (get_or old i blank).best
  pub hangs : (i : ℕ) → (get_or new i blank).hang ≡ (get_or old i blank).hang
  pub entries : (i : ℕ) → (get_or new i blank).entry ≡ (get_or old i blank).entry

-- v has become the own value in cell at, and nothing else has changed
pub record OwnWritten {M V : Type 0} (at : ℕ) (v : Option V) (old new : List (Cell M V)) : Type 0 where
  pub there : (get_or new at blank).own ≡ v
  pub others : (i : ℕ) → (i ≢ at) → (get_or new i blank).own ≡ (get_or old i blank).own
  pub only : OwnsOnly old new

-- v has become the least value of a subtree in cell at, and nothing else has changed
pub record BestWritten {M V : Type 0} (at : ℕ) (v : Option V) (old new : List (Cell M V)) : Type 0 where
  pub there : (get_or new at blank).best ≡ v
  pub bests : (i : ℕ) → (i ≢ at) → (get_or new i blank).best ≡ (get_or old i blank).best
  pub hangs : (i : ℕ) → (get_or new i blank).hang ≡ (get_or old i blank).hang
  pub stays : Stays old new

-- v has become the least value of a link and a subtree in cell at, and nothing else has changed
pub record HangWritten {M V : Type 0} (at : ℕ) (v : Option V) (old new : List (Cell M V)) : Type 0 where
  pub there : (get_or new at blank).hang ≡ v
  pub hangs : (i : ℕ) → (i ≢ at) → (get_or new i blank).hang ≡ (get_or old i blank).hang
  pub bests : (i : ℕ) → (get_or new i blank).best ≡ (get_or old i blank).best
  pub stays : Stays old new

-- a cell with another waiting subspace
abbrev pub with_entry : {M V : Type 0} → Entry V → Cell M V → Cell M V
with_entry e c = record { leg = c.leg; ride = c.ride; kind = c.kind; own = c.own; best = c.best; hang = c.hang; entry = e; measure = c.measure }

-- e has become the waiting subspace in cell at, and nothing else has changed
pub record EntryWritten {M V : Type 0} (at : ℕ) (e : Entry V) (old new : List (Cell M V)) : Type 0 where
  pub there : entry_in new at ≡ e
  pub cell : get_or new at blank ≡ with_entry e (slice_index_or old at blank)
  pub others : (i : ℕ) → (i ≢ at) → slice_index_or new i blank ≡ slice_index_or old i blank
