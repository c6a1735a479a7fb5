-- Orders, and the first of the least entries of a list.
use Rattle.std.specs.Prelude.{◌≡◌, ℕ, ◌<◌, Bool, true, false, ◌⊎◌, List, length, Option, MatchOption, slice_index_or}

-- of any two one is at or before the other, and at-or-before carries over a chain
pub record Ordered {X : Type 0} (precedes : X → X → Bool) : Type 0 where
  pub total : (a b : X) → (precedes a b ≡ true) ⊎ (precedes b a ≡ true)
  pub trans : (a b c : X) → precedes a b ≡ true → precedes b c ≡ true → precedes a c ≡ true

-- entry i is at or before every entry, and no entry in front of it is at or before it
pub record First {X : Type 0} (precedes : X → X → Bool) (xs : List X) (i : ℕ) : Type 0 where
  pub within : i < length xs
  pub least : (k : ℕ) (d : X) → k < length xs → precedes (slice_index_or xs i d) (slice_index_or xs k d) ≡ true
  pub first : (k : ℕ) (d : X) → k < i → precedes (slice_index_or xs k d) (slice_index_or xs i d) ≡ false

-- the index of the first least entry, or none exactly for an empty list
abbrev pub FirstLeast : {X : Type 0} → (X → X → Bool) → List X → Option ℕ → Type 0
FirstLeast precedes xs r = MatchOption r (length xs ≡ 0) (λ i. First precedes xs i)
