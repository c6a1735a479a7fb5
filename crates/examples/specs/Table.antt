-- The worked examples.
use Rattle.std.specs.Prelude.{ℕ, true, false, List, [], ◌∷◌, Some, None}
use Rattle.measures.specs.Time.{time_of}
use Rattle.measures.specs.Longest.{longest_of}
use Rattle.measures.specs.Climb.{climb_of}
use Rattle.streets.specs.declared.legs.LegRecord.{LegRecord}
use Rattle.examples.specs.Cases.{Case, joins, direct_is, ride_is, plans_are, Town, Stop, Entry, by_time, by_longest, by_climb}

-- a leg record: from, to, climb, seconds
abbrev pub leg : ℕ → ℕ → ℕ → ℕ → LegRecord
leg a b c s = record { from = a; to = b; leg = record { climb = c; seconds = s } }

-- four places, with two ways from the first to the last
abbrev pub square : Town
square = record { kinds = 1 ∷ 2 ∷ 2 ∷ 3 ∷ []; legs = leg 0 1 10 60 ∷ leg 0 2 0 130 ∷ leg 1 3 0 120 ∷ leg 2 3 20 40 ∷ [] }

-- a stop of kind 1, from there by a direct link one of kind 2, from there by a ride link one of kind 3
abbrev pub errand : List Stop
errand = record { kind = 1; parent = 0; rides = false } ∷ record { kind = 2; parent = 0; rides = false } ∷ record { kind = 3; parent = 1; rides = true } ∷ []

-- three places: 0 to 1 in 100 seconds, or by 2 in twice 30
abbrev pub triangle : Town
triangle = record { kinds = 1 ∷ 1 ∷ 1 ∷ []; legs = leg 0 1 0 100 ∷ leg 0 2 0 30 ∷ leg 2 1 0 30 ∷ [] }

-- and 1 to 0 in 5
abbrev pub round : Town
round = record { kinds = 1 ∷ 1 ∷ 1 ∷ []; legs = leg 0 1 0 100 ∷ leg 0 2 0 30 ∷ leg 2 1 0 30 ∷ leg 1 0 0 5 ∷ [] }

-- no place at all
abbrev pub nowhere : Town
nowhere = record { kinds = []; legs = [] }

-- one stop of any kind
abbrev pub anywhere : List Stop
anywhere = record { kind = 0; parent = 0; rides = false } ∷ []

-- a plan with its score
abbrev pub entry : {V : Type 0} → List ℕ → V → Entry V
entry ps v = record { places = ps; score = v }

-- all of them
abbrev pub table : List Case
table =
    -- the plans of the errand over the square, in the order of each measure
    plans_are by_time square errand (entry (0 ∷ 2 ∷ 3 ∷ []) (time_of 170) ∷ entry (0 ∷ 1 ∷ 3 ∷ []) (time_of 180) ∷ [])
    ∷ plans_are by_longest square errand (entry (0 ∷ 1 ∷ 3 ∷ []) (longest_of 120) ∷ entry (0 ∷ 2 ∷ 3 ∷ []) (longest_of 130) ∷ [])
    ∷ plans_are by_climb square errand (entry (0 ∷ 1 ∷ 3 ∷ []) (climb_of 10 180) ∷ entry (0 ∷ 2 ∷ 3 ∷ []) (climb_of 20 170) ∷ [])
    -- joins are held at 4,294,967,295, and a climb that reaches it takes the seconds with it
    ∷ joins by_time (time_of 4294967290) (time_of 10) (time_of 4294967295)
    ∷ joins by_climb (climb_of 4294967290 5) (climb_of 10 1) (climb_of 4294967295 4294967295)
    -- a direct link and rides over the triangle
    ∷ direct_is by_time triangle 0 1 (Some (time_of 100))
    ∷ ride_is by_time triangle 0 1 (Some (time_of 60))
    ∷ ride_is by_longest triangle 0 1 (Some (longest_of 30))
    ∷ ride_is by_time triangle 0 0 None
    ∷ ride_is by_time round 0 0 (Some (time_of 65))
    -- a single stop scores zero, wherever it is
    ∷ plans_are by_time triangle anywhere (entry (0 ∷ []) (time_of 0) ∷ entry (1 ∷ []) (time_of 0) ∷ entry (2 ∷ []) (time_of 0) ∷ [])
    ∷ plans_are by_longest triangle anywhere (entry (0 ∷ []) (longest_of 0) ∷ entry (1 ∷ []) (longest_of 0) ∷ entry (2 ∷ []) (longest_of 0) ∷ [])
    ∷ plans_are by_climb triangle anywhere (entry (0 ∷ []) (climb_of 0 0) ∷ entry (1 ∷ []) (climb_of 0 0) ∷ entry (2 ∷ []) (climb_of 0 0) ∷ [])
    -- without places there is no plan
    ∷ plans_are by_time nowhere anywhere []
    ∷ []
