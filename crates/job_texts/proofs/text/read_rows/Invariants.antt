use Rattle.std.proofs.Common.{◌≡◌, ◌+◌, length}
use Rattle.jobs.specs.Jobs.{drafted}
use Rattle.faults.specs.declared.Text.TheVariants.{Job}
use Rattle.texts.specs.Cut.{rows}
use Rattle.texts.specs.Means.{rows_left}
use Rattle.texts.specs.Rows.{read_rows}
use Rattle.job_texts.specs.Texts.{job_lines}
use Rattle.job_texts.proofs.Passes.{after}
use Rattle.job_texts.proofs.text.read_rows.Given as goal

abbrev pub invariant-loop-reader : goal.invariant-loop-reader
invariant-loop-reader l =
    (l.reader.which ≡ Job)
    × (after (drafted l.draft) (read_rows job_lines (length (drafted l.draft)) (l.reader.line + 1) (rows_left l.reader)) ≡ read_rows job_lines 0 1 (rows l.text))

abbrev pub decreases-loop-reader : goal.decreases-loop-reader
decreases-loop-reader l = length (rows_left l.reader)
