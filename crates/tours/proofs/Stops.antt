-- Stops that keep the rules of a job mean a tree with its root at stop 0.
use Rattle.std.proofs.Common.{◌≡◌, ℕ, ◌<◌, true, List, length, get_or, Option, ap, ◌∙◌}
use Rattle.std.specs.List.{slice_get}
use Rattle.std.proofs.lemmas.Option.{slice_get-get_or}
use Rattle.jobs.specs.Trees.{any_stop, tie_of, parent_of, tied, Tree as StopTree}
use Rattle.jobs.specs.declared.stops.Stop.{Stop}
use Rattle.jobs.proofs.Ties.{below, root}
use Rattle.plans.specs.Job.{Tree}
use Rattle.tours.specs.Jobs.{job_meaning}

module _ (stops : List Stop) (tree : StopTree stops) where
  -- each stop of the list is tied by the rule
  pub hung : (i : ℕ) → i < length stops → tied i (tie_of (slice_get stops i)) ≡ true
  hung i l = let e = slice_get-get_or stops i any_stop l in ap (λ (o : Option Stop). tied i (tie_of o)) e ∙ tree.hung i (get_or stops i any_stop) e

  pub stops_tree : Tree (job_meaning stops)
  stops_tree = record { some = tree.some; few = tree.few; rooted = λ i z l. (below stops tree.hung i).1 z }

  pub stops_root : parent_of (tie_of (slice_get stops 0)) ≡ 0
  stops_root = root stops tree.hung
