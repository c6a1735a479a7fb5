-- The terms of a bound as the cells have them, and the choice of a place.
use Rattle.std.specs.Prelude.{◌≡◌, ℕ, ◌+◌, cond, length, Some, Option, ◌==◌, nat_lt}
use Rattle.measures.specs.Optional.{both}
use Rattle.measures.specs.Meaning.{MeasureMeaning}
use Rattle.sets.specs.Sets.{has_bit}
use Rattle.jobs.specs.Trees.{parent_in}
use Rattle.measures.specs.Scales.{optional, total}
use Rattle.trees.specs.Tasks.{Task, put}
use Rattle.trees.specs.Minima.{bound}
use Rattle.trees.specs.Subspaces.{Picked}
use Rattle.cells.specs.Cells.{places_of}
use Rattle.tables.specs.Tables.{own_in, hang_in}
use Rattle.minima.specs.declared.board.Board.{Board}
use Rattle.minima.specs.Tables.{link_in, hanging_in, Tables}
use Rattle.jobs.specs.Jobs.{stops_of}
use Rattle.bounds.specs.declared.choice.Choice.{Choice}
use Rattle.bounds.specs.declared.prefixes.Prefix.{Prefix}

-- what stop s adds at place q where its parent stands at place p
abbrev pub cost_in : {M V : Type 0} → MeasureMeaning V → Board M V → ℕ → ℕ → ℕ → Option V
cost_in meaning b s p q = cond (s == 0) (own_in b.cells.now b.n s q) (both meaning.joined (own_in b.cells.now b.n s q) (link_in b.cells.now b.n (stops_of b.job.now) s p q))

-- what stop s adds to the bound of the prefix of P with i stops
abbrev pub term_in : {M V : Type 0} → MeasureMeaning V → Board M V → ℕ → (ℕ → ℕ) → ℕ → Option V
term_in meaning b i P s = cond (nat_lt s i) (cost_in meaning b s (P (parent_in (stops_of b.job.now) s)) (P s)) (cond (nat_lt (parent_in (stops_of b.job.now) s) i) (hang_in b.cells.now b.n s (P (parent_in (stops_of b.job.now) s))) (Some meaning.nought))

-- the join of what all stops but stop i add to that bound
abbrev pub rest_in : {M V : Type 0} → MeasureMeaning V → Board M V → ℕ → (ℕ → ℕ) → Option V
rest_in meaning b i P = total (optional meaning) (length (stops_of b.job.now)) (λ s. cond (s == i) (Some meaning.nought) (term_in meaning b i P s))

-- what stop i and all below it add at place q: the link from its parent's place, which the root has not, its own value,
-- and what hangs on it
abbrev pub here_in : {M V : Type 0} → MeasureMeaning V → Board M V → ℕ → (ℕ → ℕ) → ℕ → Option V
here_in meaning b i P q = both meaning.joined (cond (i == 0) (Some meaning.nought) (link_in b.cells.now b.n (stops_of b.job.now) i (P (parent_in (stops_of b.job.now) i)) q)) (both meaning.joined (own_in b.cells.now b.n i q) (hanging_in meaning b.cells.now b.n (stops_of b.job.now) i q))

-- in every task that the cells of a prefix hold, v is the bound of the prefix with place q for stop i
unfoldable pub IsBound : {M V : Type 0} → MeasureMeaning V → Prefix M V → ℕ → Option V → Type 0
IsBound {M} {V} meaning p q v = (τ : Task (Option V)) (H : ℕ → ℕ → Option V) → Tables meaning p.board.now.cells.now p.board.now.n (stops_of p.board.now.job.now) τ H →
    v ≡ bound (optional meaning) τ H (p.i + 1) (put (places_of p.places.now) p.i q)

-- in every such task, r is the first of the places below k for stop i, of those not excluded, whose bound is least
unfoldable pub Picks : {M V : Type 0} → MeasureMeaning V → Prefix M V → ℕ → ℕ → Choice V → Type 0
Picks {M} {V} meaning p excluded k r = (τ : Task (Option V)) (H : ℕ → ℕ → Option V) → Tables meaning p.board.now.cells.now p.board.now.n (stops_of p.board.now.job.now) τ H →
    Picked (optional meaning) k (has_bit excluded) (λ q. bound (optional meaning) τ H (p.i + 1) (put (places_of p.places.now) p.i q)) r.place r.value
