-- The stops that a draft and a job stand for.
use Rattle.std.specs.Prelude.{List, take}
use Rattle.jobs.specs.declared.stops.Stop.{Stop}
use Rattle.jobs.specs.declared.job.Draft.{Draft}
use Rattle.jobs.specs.declared.job.Job.{Job}

-- the stops of a draft, in order
abbrev pub drafted : Draft → List Stop
drafted d = take d.len d.stops

-- the stops of a job, in order
abbrev pub stops_of : Job → List Stop
stops_of j = drafted j.draft
