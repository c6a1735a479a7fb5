-- The task that a job over a street sets: its values by tables.
use Rattle.std.specs.Prelude.{ℕ, cond, ◌&&◌, Some, None, Option, nat_lt}
use Rattle.measures.specs.Meaning.{MeasureMeaning}
use Rattle.streets.specs.Meaning.{StreetMeaning}
use Rattle.plans.specs.Job.{JobMeaning}
use Rattle.plans.specs.Plans.{fits}
use Rattle.plans.specs.Computed.{link_from}
use Rattle.trees.specs.Tasks.{Task}

-- the own value of stop i at place q: zero at a place of the street that fits the stop, none elsewhere
abbrev pub own_from : {V : Type 0} → MeasureMeaning V → StreetMeaning → JobMeaning → ℕ → ℕ → Option V
own_from m s j i q = cond (nat_lt q s.places && fits (j.kind i) (s.kind q)) (Some m.nought) None

-- the task of a job over a street: the street's places, the job's stops and parents, own values, and the links' values
abbrev pub task_of : {V : Type 0} → MeasureMeaning V → StreetMeaning → JobMeaning → Task (Option V)
task_of m s j = record { n = s.places; m = j.stops; par = j.parent; own = own_from m s j; link = link_from m s j }
