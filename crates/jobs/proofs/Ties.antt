-- A job's stops make a tree: each parent has a smaller number.
use Rattle.std.proofs.Common.{◌≡◌, ℕ, ◌<◌, ◌≤◌, true, List, length, Some, None, Option, sym, refl, subst, arith}
use Rattle.std.specs.List.{slice_get}
use Rattle.std.proofs.lemmas.List.{length-take-le}
use Rattle.std.proofs.lemmas.Bool.Decides.{nat_tests}
use Rattle.jobs.specs.declared.stops.Stop.{Stop}
use Rattle.jobs.specs.declared.stops.Tie.{Tie}
use Rattle.jobs.specs.declared.job.Job.{Job}
use Rattle.jobs.specs.Trees.{tie_of, parent_of, tie_in, tied, AllTied, Tree}
use Rattle.jobs.specs.Jobs.{stops_of}

tie_below : (s : ℕ) (o : Option Tie) → tied s o ≡ true → (parent_of o ≤ s) × (0 < s → parent_of o < s)
tie_below s None h = (omega arith, λ z. z)
tie_below s (Some t) h = let l : t.parent < s = grind (arith, nat_tests) in (omega arith, λ _. l)

stop_below : (s : ℕ) (o : Option Stop) → ((stop : Stop) → o ≡ Some stop → tied s stop.tie ≡ true) → (parent_of (tie_of o) ≤ s) × (0 < s → parent_of (tie_of o) < s)
stop_below s None h = (omega arith, λ z. z)
stop_below s (Some stop) h = tie_below s stop.tie (h stop refl)

-- no parent has a greater number, and the root alone counts as its own
module _ (stops : List Stop) (all : AllTied stops) where
  pub below : (s : ℕ) → (parent_of (tie_of (slice_get stops s)) ≤ s) × (0 < s → parent_of (tie_of (slice_get stops s)) < s)
  below s = stop_below s (slice_get stops s) (all s)

  pub root : parent_of (tie_of (slice_get stops 0)) ≡ 0
  root = let h = (below 0).0 in omega arith

pub both_below : (j : Job) (s : ℕ) → (parent_of (tie_of (slice_get (stops_of j) s)) ≤ s) × (0 < s → parent_of (tie_of (slice_get (stops_of j) s)) < s)
both_below j = below (stops_of j) j.draft.hung

pub tied_below : (j : Job) (s : ℕ) → parent_of (tie_of (slice_get (stops_of j) s)) ≤ s
tied_below j s = (both_below j s).0

-- the parent of a tie has no greater number
pub parent_below : (j : Job) (s : ℕ) (t : Tie) → Some t ≡ tie_in (stops_of j) s → t.parent ≤ s
parent_below j s t e = let h : parent_of (tie_in (stops_of j) s) ≤ s = tied_below j s in subst (λ (o : Option Tie). parent_of o ≤ s) (sym e) h

pub root_itself : (j : Job) → parent_of (tie_of (slice_get (stops_of j) 0)) ≡ 0
root_itself j = root (stops_of j) j.draft.hung

pub few_stops : (j : Job) → length (stops_of j) ≤ 12
few_stops j = let r = j.draft.room in let b = j.draft.few in let a = length-take-le j.draft.len j.draft.stops (omega arith) in omega arith

pub some_stop : (j : Job) → 0 < length (stops_of j)
some_stop j = let r = j.draft.room in let b = j.draft.few in let a = length-take-le j.draft.len j.draft.stops (omega arith) in let s = j.some in omega arith

-- a job's stops keep its rules
pub job_tree : (j : Job) → Tree (stops_of j)
job_tree j = record { some = some_stop j; few = few_stops j; hung = j.draft.hung }
