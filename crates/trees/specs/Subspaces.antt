-- Subspaces of plans, the first plan of each, and the split by it.
use Rattle.std.specs.Prelude.{◌≡◌, ℕ, zero, suc, ◌+◌, ◌<◌, ◌≤◌, Bool, true, false, cond, ◌==◌, ◌≢◌, nat_lt}
use Rattle.measures.specs.Scales.{Scale}
use Rattle.trees.specs.Tasks.{Task, Placed, put}
use Rattle.trees.specs.Minima.{bound}
use Rattle.sets.specs.Placements.{Same}

-- A subspace: the plans that have the given places for the stops below its depth and no excluded place at that stop;
-- with the first of them, and that plan's score or none. A depth that is no stop makes an empty subspace.
pub record Subspace (W : Type 0) : Type 0 where
  pub places : ℕ → ℕ
  pub depth : ℕ
  pub excluded : ℕ → Bool
  pub worth : W

-- the places Q are in the subspace
pub record In {W : Type 0} (τ : Task W) (S : Subspace W) (Q : ℕ → ℕ) : Type 0 where
  pub placed : Placed τ Q
  pub deep : S.depth < τ.m
  pub same : Same S.depth S.places Q
  pub allowed : S.excluded (Q S.depth) ≡ false

-- q is the first place below n, of those not excluded, where f is least, and v is that least value, none if there is none
pub record Picked {W : Type 0} (σ : Scale W) (n : ℕ) (excluded : ℕ → Bool) (f : ℕ → W) (q : ℕ) (v : W) : Type 0 where
  pub below : (r : ℕ) → r < n → excluded r ≡ false → σ.leq v (f r) ≡ true
  pub first : (v ≢ σ.none) → (r : ℕ) → r < q → excluded r ≡ false → σ.leq (f r) v ≡ false
  pub there : (v ≢ σ.none) → (q < n) × (excluded q ≡ false) × (f q ≡ v)

-- from stop j on, up to stop k, each place of P is the first one whose bound is the least, which is v
pub record Found {W : Type 0} (σ : Scale W) (τ : Task W) (H : ℕ → ℕ → W) (k : ℕ) (P : ℕ → ℕ) (j : ℕ) (excluded : ℕ → Bool) (v : W) : Type 0 where
  pub placed : (s : ℕ) → s < k → P s < τ.n
  pub allowed : excluded (P j) ≡ false
  pub steady : (i : ℕ) → j < i → i ≤ k → bound σ τ H i P ≡ v
  pub first : (i r : ℕ) → j ≤ i → i < k → r < P i → (i ≡ j → excluded r ≡ false) → σ.leq (bound σ τ H (i + 1) (put P i r)) v ≡ false

-- the subspace's places are found so, unless no bound at its depth is a value
pub record First {W : Type 0} (σ : Scale W) (τ : Task W) (H : ℕ → ℕ → W) (S : Subspace W) : Type 0 where
  pub deep : (S.worth ≢ σ.none) → S.depth < τ.m
  pub below : (r : ℕ) → S.depth < τ.m → r < τ.n → S.excluded r ≡ false → σ.leq S.worth (bound σ τ H (S.depth + 1) (put S.places S.depth r)) ≡ true
  pub there : (S.worth ≢ σ.none) → Found σ τ H τ.m S.places S.depth S.excluded S.worth

-- S' holds the plans of S that differ from its first plan at stop t for the first time
pub record Split {W : Type 0} (S : Subspace W) (t : ℕ) (S' : Subspace W) : Type 0 where
  pub depth : S'.depth ≡ t
  pub same : Same t S.places S'.places
  pub to : (r : ℕ) → S'.excluded r ≡ false → (r ≢ S.places t) × (t ≡ S.depth → S.excluded r ≡ false)
  pub from : (r : ℕ) → (r ≢ S.places t) → (t ≡ S.depth → S.excluded r ≡ false) → S'.excluded r ≡ false

-- from stop i on, for d stops: P's places are the same as Q's, or have the smaller one first
unfoldable pub not_later : ℕ → ℕ → (ℕ → ℕ) → (ℕ → ℕ) → Bool
not_later zero i P Q = true
not_later (suc d) i P Q = cond (nat_lt (P i) (Q i)) true (cond (P i == Q i) (not_later d (i + 1) P Q) false)

-- the order of subspaces by their first plans, the places of d stops being compared; those without a plan come last
abbrev pub sooner : {W : Type 0} → (W → W → Bool) → ℕ → Subspace W → Subspace W → Bool
sooner leq d S T = cond (leq S.worth T.worth) (cond (leq T.worth S.worth) (not_later d 0 S.places T.places) true) false
