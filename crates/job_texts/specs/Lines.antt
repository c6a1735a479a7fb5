-- What a line of a job text tells, or the first fault in it.
use Rattle.std.specs.Prelude.{◌≡◌, ℕ, ◌<◌, true, cond, List, length, drop, Some, None, Ok, Option, Result, IfOk, ◌==◌, nat_lt}
use Rattle.jobs.specs.Trees.{tied}
use Rattle.jobs.specs.declared.stops.Link.{Link}
use Rattle.jobs.specs.declared.stops.Link.TheVariants.{Direct, Ride}
use Rattle.jobs.specs.declared.stops.Tie.{Tie}
use Rattle.jobs.specs.declared.stops.Stop.{Stop}
use Rattle.faults.specs.declared.FieldWrong.TheVariants.{NotLetter, NotNextStop, WrongParent, WrongLink}
use Rattle.faults.specs.declared.LineWrong.TheVariants.{FieldCount}
use Rattle.faults.specs.declared.LineFault.{LineFault}
use Rattle.faults.specs.declared.Spot.{Spot}
use Rattle.faults.specs.Faults.{next_field}
use Rattle.texts.specs.Numbers.{number_in, number_or_dash_in, letter_in}
use Rattle.job_texts.specs.declared.line.StopLine.{StopLine}
use Rattle.texts.specs.Rules.{and_then, bad_field, bad_line, is}

abbrev pub tie : ℕ → Link → Option Tie
tie p l = Some (record { parent = p; link = l })

abbrev pub stop : ℕ → Option Tie → Stop
stop k t = record { kind = k; tie = t }

-- the link to a parent: `d` is direct, `r` a ride
abbrev pub link_of : Spot → ℕ → Option ℕ → Result (Option Tie) LineFault
link_of s p link = cond (is 100 link) (Ok (tie p Direct)) (cond (is 114 link) (Ok (tie p Ride)) (bad_field WrongLink s 5))

-- how stop t is tied: stop 0 has `-` for parent and link, every other a parent below it
abbrev pub tie_of : Spot → ℕ → Option ℕ → Option ℕ → Result (Option Tie) LineFault
tie_of s t None link = cond (t == 0) (cond (is 45 link) (Ok None) (bad_field WrongLink s 5)) (bad_field WrongParent s 3)
tie_of s t (Some p) link = cond (nat_lt p t) (link_of s p link) (bad_field WrongParent s 3)

abbrev pub stop_line : ℕ → Option ℕ → ℕ → Option ℕ → StopLine
stop_line n p k l = record { number = n; parent = p; kind = k; letter = l }

-- the fields after the letter, whose spot is s: stop, parent, kind, link
abbrev pub parts_of : Spot → List (List ℕ) → Result StopLine LineFault
parts_of s fs =
    and_then (number_in 11 s fs) (λ number.
    and_then (number_or_dash_in 11 (next_field s) (drop 1 fs)) (λ parent.
    and_then (number_in 255 (next_field (next_field s)) (drop 2 fs)) (λ kind.
    Ok (stop_line number parent kind (letter_in (drop 3 fs))))))

-- what they tell where t stops were told before
abbrev pub judged : Spot → ℕ → StopLine → Result Stop LineFault
judged s t line =
    cond (line.number == t)
    (and_then (tie_of s t line.parent line.letter) (λ tied. Ok (stop line.kind tied)))
    (bad_field NotNextStop s 2)

abbrev pub stop_of : Spot → ℕ → List (List ℕ) → Result Stop LineFault
stop_of s t fs = and_then (parts_of s fs) (judged s t)

-- a line: s is the spot before its fields fs, and `S` is the letter
unfoldable pub line_of : Spot → ℕ → List (List ℕ) → Result Stop LineFault
line_of s t fs =
    cond (is 83 (letter_in fs))
    (cond (length fs == 5) (stop_of (next_field s) t (drop 1 fs)) (bad_line FieldCount s))
    (bad_field NotLetter s 1)

-- a stop that is told after `told` others keeps the rules of a job: there is room for it, and it is tied as it may be
abbrev pub Keeps : ℕ → Result Stop LineFault → Type 0
Keeps told r = IfOk r (λ s. (told < 12) × (tied told s.tie ≡ true))
