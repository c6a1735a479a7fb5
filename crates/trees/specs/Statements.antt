-- What holds of every tree of stops over every scale: the statements that the search rests on.
use Rattle.std.specs.Prelude.{◌≡◌, ℕ, ◌<◌, ◌≤◌, ◌||◌, ◌⊎◌, List, ◌∷◌, ◌==◌, ◌≢◌}
use Rattle.measures.specs.Scales.{Scale}
use Rattle.trees.specs.Tasks.{Task, Rooted, score, Placed, Before, LeastFrom}
use Rattle.trees.specs.Minima.{hanging, Minimal, bound}
use Rattle.trees.specs.Subtrees.{in_subtree, subtree_value, hung_value, SubtreeLeast}
use Rattle.trees.specs.Subspaces.{Subspace, In, First, Split}
use Rattle.trees.specs.Rounds.{Unlike, AllBefore, InOrder, FirstLeft, NoneLeft, InTurn, Partition, Chosen, Parted}
use Rattle.sets.specs.Placements.{Same}

-- the bound of a prefix is the least score of a plan that begins with it, none where no plan does
abbrev pub BoundIsLeast : {W : Type 0} → Scale W → Type 0
BoundIsLeast {W} σ = (τ : Task W) (H : ℕ → ℕ → W) → Rooted τ → Minimal σ τ H → (i : ℕ) (P : ℕ → ℕ) → 0 < i → i ≤ τ.m → ((s : ℕ) → s < i → P s < τ.n) → LeastFrom σ τ i P (bound σ τ H i P)

-- a stop is in the subtree of s exactly if it is s or its parent is in it; a stop's link and its subtree are worth the
-- join of both; and the subtree of the root is worth the score
abbrev pub SubtreesAddUp : {W : Type 0} → Scale W → Type 0
SubtreesAddUp {W} σ = (τ : Task W) → Rooted τ →
    ((s c : ℕ) → c < τ.m → in_subtree τ s c ≡ (c == s || in_subtree τ s (τ.par c)))
    × ((s : ℕ) (Q : ℕ → ℕ) → 0 < s → s < τ.m → hung_value σ τ s Q ≡ σ.joined (τ.link s (Q (τ.par s)) (Q s)) (subtree_value σ τ s Q))
    × ((Q : ℕ → ℕ) → 0 < τ.m → subtree_value σ τ 0 Q ≡ score σ τ Q)

-- a table that is minimal by its recursion holds the least values of the subtrees over all places
abbrev pub MinimaAreLeast : {W : Type 0} → Scale W → Type 0
MinimaAreLeast {W} σ = (τ : Task W) (H : ℕ → ℕ → W) → Rooted τ → Minimal σ τ H → (s : ℕ) → s < τ.m → SubtreeLeast σ τ s (λ q. σ.joined (τ.own s q) (hanging σ τ H s q)) (H s)

-- the first plan of a subspace is a plan of it with its true score, and comes before every other; none means that the
-- subspace has no plan
abbrev pub FirstComesFirst : {W : Type 0} → Scale W → Type 0
FirstComesFirst {W} σ = (τ : Task W) (H : ℕ → ℕ → W) → Rooted τ → Minimal σ τ H → (S : Subspace W) → First σ τ H S →
    (S.worth ≡ σ.none → (Q : ℕ → ℕ) → In τ S Q → score σ τ Q ≡ σ.none)
    × ((S.worth ≢ σ.none) → In τ S S.places × (score σ τ S.places ≡ S.worth) × ((Q : ℕ → ℕ) → In τ S Q → Same τ.m S.places Q ⊎ Before σ τ S.places Q))

-- every plan of a subspace is its first one or is in one of its parts; a part holds only plans of the subspace, never
-- its first one, and no two parts hold the same plan
abbrev pub SplitLosesNothing : {W : Type 0} → Scale W → Type 0
SplitLosesNothing {W} σ = (τ : Task W) (H : ℕ → ℕ → W) → Rooted τ → Minimal σ τ H → (S : Subspace W) → First σ τ H S → (S.worth ≢ σ.none) →
    ((Q : ℕ → ℕ) → In τ S Q → Same τ.m S.places Q ⊎ ((t : ℕ) × (S.depth ≤ t) × (t < τ.m) × ((S' : Subspace W) → Split S t S' → In τ S' Q)))
    × ((t : ℕ) (S' : Subspace W) (Q : ℕ → ℕ) → S.depth ≤ t → t < τ.m → Split S t S' → In τ S' Q → In τ S Q × (Same τ.m S.places Q → ⊥))
    × ((t u : ℕ) (S' S'' : Subspace W) (Q : ℕ → ℕ) → S.depth ≤ t → S.depth ≤ u → Split S t S' → Split S u S'' → In τ S' Q → In τ S'' Q → t ≡ u)

-- where the plans not given are parted among waiting subspaces, the least of their first plans is the first plan left
abbrev pub LeastIsFirstLeft : {W : Type 0} → Scale W → Type 0
LeastIsFirstLeft {W} σ = (τ : Task W) (H : ℕ → ℕ → W) → Rooted τ → Minimal σ τ H → (given : List (ℕ → ℕ)) (len : ℕ) (E : ℕ → Subspace W) → Partition σ τ H given len E →
    (w : ℕ) → Chosen σ τ len E w → FirstLeft σ τ given (E w).places (E w).worth

-- and where none of them has a plan, no plan is left
abbrev pub NoneWaiting : {W : Type 0} → Scale W → Type 0
NoneWaiting {W} σ = (τ : Task W) (H : ℕ → ℕ → W) → Rooted τ → Minimal σ τ H → (given : List (ℕ → ℕ)) (len : ℕ) (E : ℕ → Subspace W) → Partition σ τ H given len E →
    ((w : ℕ) → w < len → (E w).worth ≡ σ.none) → NoneLeft σ τ given

-- splitting the subspace of the plan that is given keeps the partition
abbrev pub SplitKeepsPartition : {W : Type 0} → Scale W → Type 0
SplitKeepsPartition {W} σ = (τ : Task W) (H : ℕ → ℕ → W) → Rooted τ → Minimal σ τ H → (given : List (ℕ → ℕ)) (len : ℕ) (E E' : ℕ → Subspace W) (w at : ℕ) → Partition σ τ H given len E →
    Chosen σ τ len E w → Parted τ w len at E E' → ((v : ℕ) → v < len → First σ τ H (E' v)) → Partition σ τ H ((E w).places ∷ given) len E'

-- plans that are given in turn are in order: each comes before every later one and before every plan not given
abbrev pub InTurnInOrder : {W : Type 0} → Scale W → Type 0
InTurnInOrder {W} σ = (τ : Task W) (given : List (ℕ → ℕ)) → InTurn σ τ given →
    InOrder σ τ given × ((Q : ℕ → ℕ) → Placed τ Q → Unlike τ.m given Q → AllBefore σ τ given Q)
