-- The laws of a measure hold of its values with none added as the worst.
use Rattle.std.proofs.Common.{◌≡◌, true, ◌⊎◌, Some, None, Option, sym, refl, ap, inl, inr}
use Rattle.measures.specs.Optional.{both}
use Rattle.std.proofs.lemmas.Bool.{false≢true}
use Rattle.measures.specs.Laws.{Laws}
use Rattle.measures.specs.Meaning.{MeasureMeaning}
use Rattle.measures.specs.Scales.{optional, at_most, Sound}

module _ {V : Type 0} (meaning : MeasureMeaning V) (laws : Laws meaning.nought meaning.joined meaning.before) where
  absorbs' : (a : Option V) → both meaning.joined a None ≡ None
  absorbs' (Some x) = refl
  absorbs' None = refl

  worst' : (a : Option V) → at_most meaning.before a None ≡ true
  worst' (Some x) = refl
  worst' None = refl

  total' : (a b : Option V) → (at_most meaning.before a b ≡ true) ⊎ (at_most meaning.before b a ≡ true)
  total' a None = inl (worst' a)
  total' None b = inr (worst' b)
  total' (Some x) (Some y) = laws.total x y

  antisym' : (a b : Option V) → at_most meaning.before a b ≡ true → at_most meaning.before b a ≡ true → a ≡ b
  antisym' (Some x) (Some y) h k = ap {B = Option V} Some (laws.antisym x y h k)
  antisym' (Some x) None h k = absurd (false≢true k)
  antisym' None (Some y) h k = absurd (false≢true h)
  antisym' None None h k = refl

  trans' : (a b c : Option V) → at_most meaning.before a b ≡ true → at_most meaning.before b c ≡ true → at_most meaning.before a c ≡ true
  trans' a b None h k = worst' a
  trans' a None (Some z) h k = absurd (false≢true k)
  trans' None (Some y) (Some z) h k = absurd (false≢true h)
  trans' (Some x) (Some y) (Some z) h k = laws.trans x y z h k

  assoc' : (a b c : Option V) → both meaning.joined (both meaning.joined a b) c ≡ both meaning.joined a (both meaning.joined b c)
  assoc' (Some x) (Some y) (Some z) = ap {B = Option V} Some (laws.assoc x y z)
  assoc' (Some x) (Some y) None = refl
  assoc' (Some x) None c = refl
  assoc' None b c = refl

  comm' : (a b : Option V) → both meaning.joined a b ≡ both meaning.joined b a
  comm' a None = absorbs' a
  comm' None b = sym (absorbs' b)
  comm' (Some x) (Some y) = ap {B = Option V} Some (laws.comm x y)

  zero' : (a : Option V) → both meaning.joined (Some meaning.nought) a ≡ a
  zero' (Some x) = ap {B = Option V} Some (laws.zero_joined x)
  zero' None = refl

  least' : (a : Option V) → at_most meaning.before (Some meaning.nought) a ≡ true
  least' (Some x) = laws.zero_least x
  least' None = refl

  mono' : (a b c : Option V) → at_most meaning.before a b ≡ true → at_most meaning.before (both meaning.joined a c) (both meaning.joined b c) ≡ true
  mono' a None c h = worst' (both meaning.joined a c)
  mono' None (Some y) c h = absurd (false≢true h)
  mono' (Some x) (Some y) None h = refl
  mono' (Some x) (Some y) (Some z) h = laws.mono x y z h

  pub lifted : Sound (optional meaning)
  lifted = record {
    laws = record { total = total'; antisym = antisym'; trans = trans'; assoc = assoc'; comm = comm'; zero_joined = zero'; zero_least = least'; mono = mono' };
    absorbs = absorbs';
    worst = worst';
  }
