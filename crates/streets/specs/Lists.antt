-- The street that a list of kinds and a list of leg records stand for.
use Rattle.std.specs.Prelude.{ℕ, min, Bool, cond, ◌&&◌, ◌||◌, List, [], ◌∷◌, length, take, Some, None, Option, ◌==◌, nat_le, nat_lt, slice_index}
use Rattle.streets.specs.Meaning.{StreetMeaning}
use Rattle.streets.specs.declared.legs.Leg.{Leg}
use Rattle.streets.specs.declared.legs.LegRecord.{LegRecord}

-- whether a record tells the leg from a to b
abbrev pub tells : LegRecord → ℕ → ℕ → Bool
tells r a b = r.from == a && r.to == b

-- what a later record says goes before what an earlier one said
abbrev pub later : Option Leg → Option Leg → Option Leg
later (Some l) o = Some l
later None o = o

-- the leg of the last record that tells the pair
abbrev pub last_leg : List LegRecord → ℕ → ℕ → Option Leg
last_leg [] a b = None
last_leg (r ∷ rs) a b = later (last_leg rs a b) (cond (tells r a b) (Some r.leg) None)

-- only the first 64 kinds count
abbrev pub counted : List ℕ → ℕ
counted kinds = min (length kinds) 64

-- only the first 4,096 records count, and of them those between two different places
abbrev pub list_meaning : List ℕ → List LegRecord → StreetMeaning
list_meaning kinds records = record {
  places = counted kinds;
  kind = λ p. cond (nat_lt p (counted kinds)) (slice_index kinds p) 0;
  leg = λ a b. cond (nat_le (counted kinds) a || (nat_le (counted kinds) b || a == b)) None (last_leg (take 4096 records) a b);
}
