-- The rules that the stops of a job keep.
use Rattle.std.specs.Prelude.{◌≡◌, ℕ, ◌≤◌, Bool, true, cond, ◌&&◌, List, length, Some, None, Ok, Err, Option, Result, ◌||◌, ◌==◌, nat_lt, codes}
use Rattle.std.specs.List.{slice_get}
use Rattle.jobs.specs.declared.stops.Link.{Link}
use Rattle.jobs.specs.declared.stops.Link.TheVariants.{Direct, Ride}
use Rattle.jobs.specs.declared.stops.UnknownLink.{UnknownLink}
use Rattle.jobs.specs.declared.stops.Stop.{Stop}
use Rattle.jobs.specs.declared.stops.Tie.{Tie}
use Rattle.jobs.specs.declared.stops.Refused.{Refused}
use Rattle.jobs.specs.declared.stops.Refused.TheVariants.{Full, WrongTie, Empty}

-- the link that a letter stands for: `d` is direct, `r` a ride
abbrev pub linked : ℕ → Result Link UnknownLink
linked letter = cond (letter == 100) (Ok Direct) (cond (letter == 114) (Ok Ride) (Err (record { letter = letter })))

-- how a link is printed
abbrev pub name_of : Link → List ℕ
name_of Direct = codes "direct"
name_of Ride = codes "ride"

-- a stop of any kind that hangs on no other
abbrev pub any_stop : Stop
any_stop = record { kind = 0; tie = None }

-- a place of this kind may stand for the stop: the stop's kind is 0, which means any, or the same
abbrev pub takes : Stop → ℕ → Bool
takes stop kind = stop.kind == 0 || stop.kind == kind

-- how a stop hangs on its parent; the root, and what is no stop, has no tie
abbrev pub tie_of : Option Stop → Option Tie
tie_of (Some stop) = stop.tie
tie_of None = None

-- the parent by a tie, 0 without one
abbrev pub parent_of : Option Tie → ℕ
parent_of (Some tie) = tie.parent
parent_of None = 0

-- the tie of stop s
abbrev pub tie_in : List Stop → ℕ → Option Tie
tie_in stops s = tie_of (slice_get stops s)

-- the parent of stop s; the root counts as its own
abbrev pub parent_in : List Stop → ℕ → ℕ
parent_in stops s = parent_of (tie_in stops s)

-- stop c hangs on stop s
abbrev pub child_in : List Stop → ℕ → ℕ → Bool
child_in stops s c = nat_lt 0 c && parent_in stops c == s

-- stop 0 alone has no tie; any other hangs on a stop with a smaller number
abbrev pub tied : ℕ → Option Tie → Bool
tied s None = s == 0
tied s (Some t) = nat_lt t.parent s

-- every stop of a list is tied so
abbrev pub AllTied : List Stop → Type 0
AllTied stops = (s : ℕ) (stop : Stop) → slice_get stops s ≡ Some stop → tied s stop.tie ≡ true

-- the stops of a job: 1 to 12 of them, a tree with its root at stop 0
pub record Tree (stops : List Stop) : Type 0 where
  pub some : 1 ≤ length stops
  pub few : length stops ≤ 12
  pub hung : AllTied stops

-- whether one more stop may stand behind a list of stops, and why not
abbrev pub judged : List Stop → Stop → Result (Unit {0}) Refused
judged stops stop = cond (nat_lt (length stops) 12) (cond (tied (length stops) stop.tie) (Ok tt) (Err WrongTie)) (Err Full)

-- how many stops there are, refused where there is none
abbrev pub counted : List Stop → Result ℕ Refused
counted stops = cond (length stops == 0) (Err Empty) (Ok (length stops))
