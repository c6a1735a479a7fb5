use Rattle.std.proofs.Common.{length, ◌-◌}
use Rattle.jobs.specs.Jobs.{drafted}
use Rattle.plan_cases.proofs.read_job.Given as goal

abbrev pub decreases-loop-stop : goal.decreases-loop-stop
decreases-loop-stop l = 12 - length (drafted l.draft)
