-- How far a pass over the rows of a job text has come, and that its faults say job.
use Rattle.std.proofs.Common.{◌≡◌, ℕ, eqb, ltb, List, ◌++◌, length, drop, Some, None, Ok, Err, Option, Result, refl}
use Rattle.jobs.specs.declared.stops.Stop.{Stop}
use Rattle.faults.specs.declared.LineFault.{LineFault}
use Rattle.faults.specs.declared.Spot.{Spot}
use Rattle.faults.specs.declared.Text.TheVariants.{Job}
use Rattle.faults.specs.declared.Cause.TheVariants.{Line}
use Rattle.faults.specs.Faults.{next_field, fault_in, in_text}
use Rattle.texts.specs.Cut.{rows}
use Rattle.texts.specs.Rows.{read_rows}
use Rattle.texts.proofs.Steps.{turned}
use Rattle.job_texts.specs.Texts.{job_lines}
use Rattle.texts.specs.Numbers.{number_in, number_or_dash_in, letter_in}
use Rattle.texts.specs.Rules.{is}
use Rattle.texts.proofs.Says.{Says, either_says, then_says, number_says, dash_says}
use Rattle.job_texts.specs.declared.line.StopLine.{StopLine}
use Rattle.job_texts.specs.Lines.{link_of, tie_of, parts_of, judged, line_of}

-- the stops so far, joined to what is left to read
abbrev pub after : List Stop → Result (List Stop) LineFault → Result (List Stop) LineFault
after ss (Ok rest) = Ok (ss ++ rest)
after ss (Err f) = Err f

-- a fault of a line says the text that the line stands in
link_says : (s : Spot) (p : ℕ) (link : Option ℕ) → Says s.text (link_of s p link)
link_says s p link = either_says _ (is 100 link) _ _ tt (either_says _ (is 114 link) _ _ tt refl)

tie_says : (s : Spot) (t : ℕ) (parent link : Option ℕ) → Says s.text (tie_of s t parent link)
tie_says s t None link = either_says _ (eqb t 0) _ _ (either_says _ (is 45 link) _ _ tt refl) refl
tie_says s t (Some p) link = either_says _ (ltb p t) _ _ (link_says s p link) refl

judged_says : (s : Spot) (t : ℕ) (line : StopLine) → Says s.text (judged s t line)
judged_says s t line = either_says _ (eqb line.number t) _ _ (then_says _ (tie_of s t line.parent line.letter) _ (tie_says s t line.parent line.letter) (λ tied. tt)) refl

parts_say : (s : Spot) (fs : List (List ℕ)) → Says s.text (parts_of s fs)
parts_say s fs =
    then_says _ (number_in 11 s fs) _ (number_says 11 s fs) (λ n.
    then_says _ (number_or_dash_in 11 (next_field s) (drop 1 fs)) _ (dash_says 11 (next_field s) (drop 1 fs)) (λ p.
    then_says _ (number_in 255 (next_field (next_field s)) (drop 2 fs)) _ (number_says 255 (next_field (next_field s)) (drop 2 fs)) (λ k. tt)))

pub line_says : (s : Spot) (t : ℕ) (fs : List (List ℕ)) → Says s.text (line_of s t fs)
unfolding line_of
line_says s t fs =
    either_says _ (is 83 (letter_in fs)) _ _
    (either_says _ (eqb (length fs) 5) _ _ (then_says _ (parts_of (next_field s) (drop 1 fs)) _ (parts_say (next_field s) (drop 1 fs)) (judged_says (next_field s) t)) refl)
    refl

-- so the fault of a job text says that it stands in a job
pub job_refused : (text : List ℕ) (f : LineFault) → read_rows job_lines 0 1 (rows text) ≡ Err f → (read_rows job_lines 0 1 (rows text) ≡ Err f) × (in_text f ≡ fault_in Job (Line f))
job_refused text f e = (e, turned job_lines line_says 0 1 (rows text) f e)
