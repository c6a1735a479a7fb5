-- The laws of a measure.
use Rattle.std.specs.Prelude.{◌≡◌, ◌≤◌, Bool, true, ◌⊎◌, length}
use Rattle.measures.specs.declared.shown.Shown.{Shown}
use Rattle.measures.specs.declared.shown.Shown.TheVariants.{One, Two}
use Rattle.measures.specs.Meaning.{MeasureMeaning}

-- the seven laws of zero, join and order
pub record Laws {V : Type 0} (nought : V) (joined : V → V → V) (before : V → V → Bool) : Type 0 where
  -- 1: of two values one is at or before the other
  pub total : (a b : V) → (before a b ≡ true) ⊎ (before b a ≡ true)
  -- 2: both ways round only if equal
  pub antisym : (a b : V) → before a b ≡ true → before b a ≡ true → a ≡ b
  -- 3: at-or-before carries over a chain
  pub trans : (a b c : V) → before a b ≡ true → before b c ≡ true → before a c ≡ true
  -- 4: joining is associative
  pub assoc : (a b c : V) → joined (joined a b) c ≡ joined a (joined b c)
  -- 5: and commutative
  pub comm : (a b : V) → joined a b ≡ joined b a
  -- 6: zero joined to a value gives that value, and zero is at or before every value
  pub zero_joined : (a : V) → joined nought a ≡ a
  pub zero_least : (a : V) → before nought a ≡ true
  -- 7: joining the same to both keeps the order
  pub mono : (a b c : V) → before a b ≡ true → before (joined a c) (joined b c) ≡ true

-- each number shown is at most 4,294,967,295
abbrev pub Showable : Shown → Type 0
Showable (One a) = a ≤ 4294967295
Showable (Two a b) = (a ≤ 4294967295) × (b ≤ 4294967295)

-- all that a measure proves: the seven laws, that its values can be shown, and that its name has 1 to 16 bytes
pub record Lawful {V : Type 0} (m : MeasureMeaning V) : Type 0 where
  pub laws : Laws m.nought m.joined m.before
  pub showable : (a : V) → Showable (m.shown a)
  pub named : (1 ≤ length m.called) × (length m.called ≤ 16)
