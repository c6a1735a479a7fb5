-- What a job text means: the stops that its lines tell in order, or the first refused line's fault.
use Rattle.std.specs.Prelude.{ℕ, ◌+◌, List, [], ◌∷◌, length, Ok, Err, Result}
use Rattle.jobs.specs.declared.job.Draft.{Draft}
use Rattle.jobs.specs.declared.stops.Stop.{Stop}
use Rattle.jobs.specs.Jobs.{drafted}
use Rattle.faults.specs.declared.Text.TheVariants.{Job as OfJob}
use Rattle.faults.specs.declared.TextWrong.TheVariants.{NoLines}
use Rattle.faults.specs.declared.Cause.TheVariants.{Whole}
use Rattle.faults.specs.declared.TextFault.{TextFault}
use Rattle.faults.specs.Faults.{fault_in}
use Rattle.texts.specs.Rows.{Grammar, read_text}
use Rattle.job_texts.specs.Lines.{line_of}

-- the lines of a job: the state is how many stops were told
abbrev pub job_lines : Grammar ℕ Stop
job_lines = record { text = OfJob; line = line_of; next = λ told stop. told + 1 }

-- a job has lines
abbrev pub lined : Result (List Stop) TextFault → Result (List Stop) TextFault
lined (Ok []) = Err (fault_in OfJob (Whole NoLines))
lined (Ok (s ∷ ss)) = Ok (s ∷ ss)
lined (Err f) = Err f

abbrev pub read_job : List ℕ → Result (List Stop) TextFault
read_job t = lined (read_text job_lines 0 t)

-- how many stops were told
abbrev pub tally : Result (List Stop) TextFault → Result ℕ TextFault
tally (Ok ss) = Ok (length ss)
tally (Err f) = Err f

-- the stops in a draft that was made
abbrev pub drafted_in : {E : Type 0} → Result Draft E → Result (List Stop) E
drafted_in (Ok d) = Ok (drafted d)
drafted_in (Err f) = Err f
