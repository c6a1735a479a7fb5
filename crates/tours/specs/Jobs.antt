-- What the stops of a job mean.
use Rattle.std.specs.Prelude.{ℕ, Bool, true, false, List, length, Some, None, Option}
use Rattle.std.specs.List.{slice_get}
use Rattle.jobs.specs.declared.stops.Stop.{Stop}
use Rattle.jobs.specs.declared.stops.Tie.{Tie}
use Rattle.jobs.specs.declared.stops.Link.{Link}
use Rattle.jobs.specs.declared.stops.Link.TheVariants.{Direct, Ride}
use Rattle.jobs.specs.Trees.{tie_of, parent_of}
use Rattle.plans.specs.Job.{JobMeaning}

-- the kind that a stop wants, any past the last stop
abbrev pub kind_of : Option Stop → ℕ
kind_of (Some stop) = stop.kind
kind_of None = 0

-- whether a link is a ride
abbrev pub is_ride : Link → Bool
is_ride Direct = false
is_ride Ride = true

-- whether the link by a tie is a ride
abbrev pub ride_of : Option Tie → Bool
ride_of (Some tie) = is_ride tie.link
ride_of None = false

-- the job that a list of stops stands for
abbrev pub job_meaning : List Stop → JobMeaning
job_meaning stops = record {
  stops = length stops;
  kind = λ i. kind_of (slice_get stops i);
  parent = λ i. parent_of (tie_of (slice_get stops i));
  rides = λ i. ride_of (tie_of (slice_get stops i));
}
