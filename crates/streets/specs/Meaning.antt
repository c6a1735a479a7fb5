-- What a street means.
use Rattle.std.specs.Prelude.{◌≡◌, ℕ, ◌<◌, ◌≤◌, Some, None, Option}
use Rattle.streets.specs.declared.legs.Leg.{Leg}

-- how many places there are, each place's kind, and the leg from one place to another
pub record StreetMeaning : Type 0 where
  pub places : ℕ
  pub kind : ℕ → ℕ
  pub leg : ℕ → ℕ → Option Leg

-- what every street keeps: at most 64 places; outside them the kind is 0 and there is no leg; and no leg from a place to itself
pub record Sound (s : StreetMeaning) : Type 0 where
  pub few : s.places ≤ 64
  pub kind_outside : (p : ℕ) → s.places ≤ p → s.kind p ≡ 0
  pub leg_inside : (a b : ℕ) (l : Leg) → s.leg a b ≡ Some l → (a < s.places) × (b < s.places)
  pub no_loop : (a : ℕ) → s.leg a a ≡ None
