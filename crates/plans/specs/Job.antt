-- What a job means.
use Rattle.std.specs.Prelude.{ℕ, ◌<◌, ◌≤◌, Bool}

-- a rooted tree of stops: how many stops there are, each stop's kind (0 stands for any kind), and for each stop but
-- the root, stop 0, its parent and whether its link is a ride; else the link is direct
pub record JobMeaning : Type 0 where
  pub stops : ℕ
  pub kind : ℕ → ℕ
  pub parent : ℕ → ℕ
  pub rides : ℕ → Bool

-- what every job keeps: 1 to 12 stops, and each parent has a smaller number
pub record Tree (j : JobMeaning) : Type 0 where
  pub some : 1 ≤ j.stops
  pub few : j.stops ≤ 12
  pub rooted : (i : ℕ) → 0 < i → i < j.stops → j.parent i < i
