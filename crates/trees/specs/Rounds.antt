-- The plans given in turn, and the waiting subspaces that hold those not given.
use Rattle.std.specs.Prelude.{◌≡◌, ℕ, ◌+◌, ◌<◌, ◌⊎◌, List, [], ◌∷◌, ◌≢◌}
use Rattle.measures.specs.Scales.{Scale}
use Rattle.trees.specs.Tasks.{Task, score, Placed, Before}
use Rattle.trees.specs.Subspaces.{Subspace, In, First, Split}
use Rattle.sets.specs.Placements.{Same}

-- Q is none of the plans given
abbrev pub Unlike : ℕ → List (ℕ → ℕ) → (ℕ → ℕ) → Type 0
Unlike m [] Q = Unit {0}
Unlike m (G ∷ given) Q = (Same m G Q → ⊥) × Unlike m given Q

-- every plan given comes before Q
abbrev pub AllBefore : {W : Type 0} → Scale W → Task W → List (ℕ → ℕ) → (ℕ → ℕ) → Type 0
AllBefore σ τ [] Q = Unit {0}
AllBefore σ τ (G ∷ given) Q = Before σ τ G Q × AllBefore σ τ given Q

-- every plan given comes before each that was given later; the last given stands at the front
abbrev pub InOrder : {W : Type 0} → Scale W → Task W → List (ℕ → ℕ) → Type 0
InOrder σ τ [] = Unit {0}
InOrder σ τ (G ∷ given) = AllBefore σ τ given G × InOrder σ τ given

-- P with score v is the first plan in order that is not given
pub record FirstLeft {W : Type 0} (σ : Scale W) (τ : Task W) (given : List (ℕ → ℕ)) (P : ℕ → ℕ) (v : W) : Type 0 where
  pub placed : Placed τ P
  pub scored : score σ τ P ≡ v
  pub some : v ≡ σ.none → ⊥
  pub new : Unlike τ.m given P
  pub foremost : (Q : ℕ → ℕ) → Placed τ Q → Unlike τ.m given Q → Same τ.m P Q ⊎ Before σ τ P Q

-- no plan is left: whatever is not given has no score
abbrev pub NoneLeft : {W : Type 0} → Scale W → Task W → List (ℕ → ℕ) → Type 0
NoneLeft σ τ given = (Q : ℕ → ℕ) → Placed τ Q → Unlike τ.m given Q → score σ τ Q ≡ σ.none

-- each plan was the first one left when it was given; the last given stands at the front
pub data InTurn {W : Type 0} (σ : Scale W) (τ : Task W) : List (ℕ → ℕ) → Type 0 where
  nothing : InTurn σ τ []
  next : {given : List (ℕ → ℕ)} {P : ℕ → ℕ} {v : W} → FirstLeft σ τ given P v → InTurn σ τ given → InTurn σ τ (P ∷ given)

-- the plans not given are parted among the subspaces E 0 .. E (len - 1): each is in one of them and in no other, no
-- given one is in any, and each subspace knows its first plan
pub record Partition {W : Type 0} (σ : Scale W) (τ : Task W) (H : ℕ → ℕ → W) (given : List (ℕ → ℕ)) (len : ℕ) (E : ℕ → Subspace W) : Type 0 where
  pub cover : (Q : ℕ → ℕ) → Placed τ Q → Unlike τ.m given Q → (w : ℕ) × (w < len) × In τ (E w) Q
  pub fresh : (w : ℕ) (Q : ℕ → ℕ) → w < len → In τ (E w) Q → Unlike τ.m given Q
  pub apart : (w v : ℕ) (Q : ℕ → ℕ) → w < len → v < len → In τ (E w) Q → In τ (E v) Q → w ≡ v
  pub first : (w : ℕ) → w < len → First σ τ H (E w)

-- of the subspaces with a plan, w has the first one
pub record Chosen {W : Type 0} (σ : Scale W) (τ : Task W) (len : ℕ) (E : ℕ → Subspace W) (w : ℕ) : Type 0 where
  pub within : w < len
  pub some : (E w).worth ≡ σ.none → ⊥
  pub least : (v : ℕ) → v < len → ((E v).worth ≢ σ.none) → Same τ.m (E w).places (E v).places ⊎ Before σ τ (E w).places (E v).places

-- subspace w is split by its first plan: the part at its own depth takes its place, and the parts at the stops behind
-- take the places from `at` on, which were empty; every other subspace stays
pub record Parted {W : Type 0} (τ : Task W) (w len at : ℕ) (E E' : ℕ → Subspace W) : Type 0 where
  pub room : (u : ℕ) → (E w).depth + 1 + u < τ.m → at + u < len
  pub free : (u : ℕ) (Q : ℕ → ℕ) → (E w).depth + 1 + u < τ.m → In τ (E (at + u)) Q → ⊥
  pub kept : (v : ℕ) → v < len → (v ≢ w) → ((u : ℕ) → (E w).depth + 1 + u < τ.m → v ≢ at + u) → E' v ≡ E v
  pub here : Split (E w) (E w).depth (E' w)
  pub behind : (u : ℕ) → (E w).depth + 1 + u < τ.m → Split (E w) ((E w).depth + 1 + u) (E' (at + u))
