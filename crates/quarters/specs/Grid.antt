-- The street that a quarter stands for: a grid of crossings.
use Rattle.std.specs.Prelude.{ℕ, ◌+◌, ◌*◌, ◌/◌, ◌%◌, Bool, cond, ◌&&◌, ◌||◌, Some, None, ◌==◌, nat_le, nat_lt}
use Rattle.streets.specs.Meaning.{StreetMeaning}
use Rattle.streets.specs.declared.legs.Leg.{Leg}

-- what a quarter is given: its width, height, number of kinds, and the seconds and the climb of a leg
pub record Grid : Type 0 where
  pub width : ℕ
  pub height : ℕ
  pub kinds : ℕ
  pub seconds : ℕ
  pub climb : ℕ

-- x is at least low and at most high
abbrev pub within : ℕ → ℕ → ℕ → Bool
within low x high = nat_le low x && nat_le x high

-- the ranges that a quarter keeps
abbrev pub in_range : Grid → Bool
in_range g = within 1 g.width 64 && (within 1 g.height 64 && (nat_le (g.width * g.height) 64 && (within 1 g.kinds 255 && (nat_le g.seconds 65535 && nat_le g.climb 65535))))

module _ (g : Grid) where
  -- place p is the crossing (column p, row p)
  abbrev pub column : ℕ → ℕ
  column p = p % g.width

  abbrev pub row : ℕ → ℕ
  row p = p / g.width

  abbrev pub inside : ℕ → Bool
  inside p = nat_lt p (g.width * g.height)

  -- b is the next crossing above a
  abbrev pub up : ℕ → ℕ → Bool
  up a b = column a == column b && row a + 1 == row b

  -- b is the next crossing to the right of a
  abbrev pub right : ℕ → ℕ → Bool
  right a b = row a == row b && column a + 1 == column b

  abbrev pub leg_of : ℕ → Leg
  leg_of c = record { climb = c; seconds = g.seconds }

  abbrev pub grid_meaning : StreetMeaning
  grid_meaning = record {
    places = g.width * g.height;
    kind = λ p. cond (inside p) (1 + (column p + row p) % g.kinds) 0;
    leg = λ a b. cond (inside a && inside b)
        (cond (up a b) (Some (leg_of g.climb))
        (cond (up b a || (right a b || right b a)) (Some (leg_of 0)) None))
        None;
  }
