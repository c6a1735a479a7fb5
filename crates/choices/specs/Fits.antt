-- Which places fit a stop, and what the choices of a stop are.
use Rattle.std.specs.Prelude.{◌≡◌, ℕ, Bool, ◌&&◌, ◌||◌, Some, None, Err, Option, Result, MatchResult, ◌==◌, nat_lt}
use Rattle.streets.specs.Meaning.{StreetMeaning}
use Rattle.jobs.specs.declared.stops.Stop.{Stop}
use Rattle.sets.specs.Sets.{has_bit, count_to, Least}
use Rattle.choices.specs.declared.answers.Choices.{Choices}
use Rattle.choices.specs.declared.answers.Refusal.{Refusal}
use Rattle.choices.specs.declared.answers.Refusal.TheVariants.{NoSuchStop}

-- a place of the street has the kind; kind 0 means any kind
abbrev pub of_kind : StreetMeaning → ℕ → ℕ → Bool
of_kind m kind p = kind == 0 || m.kind p == kind

-- p is a place of the street that has the kind
abbrev pub fits : StreetMeaning → ℕ → ℕ → Bool
fits m kind p = nat_lt p m.places && of_kind m kind p

-- the places that fit a kind: their set, how many they are, and the least of them, 64 where there is none
pub record Chosen (m : StreetMeaning) (kind : ℕ) (c : Choices) : Type 0 where
  pub set : (p : ℕ) → has_bit c.set.bits p ≡ fits m kind p
  pub size : c.size ≡ count_to (fits m kind) m.places
  pub least : Least (fits m kind) 64 c.least

-- what is answered for a stop that the job has, or for none
abbrev pub Answered : StreetMeaning → Option Stop → Result Choices Refusal → Type 0
Answered m None r = r ≡ Err NoSuchStop
Answered m (Some stop) r = MatchResult r (λ c. Chosen m stop.kind c) (λ _. ⊥)

-- the number of a refusal
abbrev pub number_of : Refusal → ℕ
number_of NoSuchStop = 52
