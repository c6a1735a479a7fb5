-- A quarter as the code holds it.
use Rattle.std.specs.Prelude.{ℕ}
use Rattle.quarters.specs.Grid.{Grid}
use Rattle.quarters.specs.declared.quarter.Quarter.{Quarter}
use Rattle.quarters.specs.declared.quarter.grid.QuarterRefusal.{QuarterRefusal}
use Rattle.quarters.specs.declared.quarter.grid.QuarterRefusal.TheVariants.{OutOfRange}

abbrev pub grid : ℕ → ℕ → ℕ → ℕ → ℕ → Grid
grid w h q s c = record { width = w; height = h; kinds = q; seconds = s; climb = c }

-- what a quarter was made from
abbrev pub grid_of : Quarter → Grid
grid_of q = grid q.width q.height q.kinds q.seconds q.climb

-- the number that stands for each refusal
abbrev pub number_of : QuarterRefusal → ℕ
number_of OutOfRange = 51
