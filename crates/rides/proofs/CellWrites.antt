-- Writing the cell of a pair.
use Rattle.std.proofs.Common.{◌≡◌, ℕ, ◌+◌, ◌*◌, ◌/◌, ◌%◌, ◌<◌, ◌≢◌, List, map, length, get_or, set, Option, sym, ap, ◌∙◌, arith}
use Rattle.std.proofs.Math.ListN.{get_or-map}
use Rattle.std.proofs.Math.Seq.{map-set_same}
use Rattle.std.proofs.lemmas.List.{drop-set-lt, get_or-set_same, get_or-set_other, length-map, map-set}
use Rattle.std.proofs.lemmas.Nat.{div-mul-add, mod-mul-add}
use Rattle.tables.specs.Tables.{blank, leg_in, ride_in, kind_in}
use Rattle.cells.specs.declared.cell.Cell.{Cell}
use Rattle.tables.proofs.Reading.{same_mapped}
use Rattle.rides.specs.Rounds.{Written, KindWritten, SameLegs, SameKinds}

-- two pairs with the same cell are the same
same_row : (n a b c d : ℕ) → b < n → d < n → a * n + b ≡ c * n + d → a ≡ c
same_row n a b c d p q e = sym (div-mul-add a n b p) ∙ ap (λ (m : ℕ). m / n) e ∙ div-mul-add c n d q

same_column : (n a b c d : ℕ) → b < n → d < n → a * n + b ≡ c * n + d → b ≡ d
same_column n a b c d p q e = sym (mod-mul-add a n b p) ∙ ap (λ (m : ℕ). m % n) e ∙ mod-mul-add c n d q

-- two pairs with the same cell are the same
other_pair : (n a b c d : ℕ) → b < n → d < n → (c ≡ a → d ≡ b → ⊥) → (c * n + d) ≢ (a * n + b)
other_pair n a b c d hb hd no_same e = no_same (same_row n c d a b hd hb e) (same_column n c d a b hd hb e)

-- a part is written in one cell and is as it was in the others
module _ {M V X : Type 0} (part : Cell M V → X) (old new : List (Cell M V)) (i : ℕ) (v : X) (e : map part new ≡ set (map part old) i v) where
  there : i < length old → part (get_or new i blank) ≡ v
  there l = sym (get_or-map part new i blank) ∙ ap (λ xs. get_or xs i (part blank)) e ∙ get_or-set_same (map part old) i v (part blank) (let k = length-map old part in omega arith)

  elsewhere : (k : ℕ) → k ≢ i → part (get_or new k blank) ≡ part (get_or old k blank)
  elsewhere k ne = sym (get_or-map part new k blank) ∙ ap (λ xs. get_or xs k (part blank)) e ∙ get_or-set_other (map part old) i k v (part blank) ne ∙ get_or-map part old k blank

module _ {M V : Type 0} (old new : List (Cell M V)) (n : ℕ) where
  pub leg_written : (a b : ℕ) (v : Option V) → b < n → a * n + b < length old → map (λ (c : Cell M V). c.leg) new ≡ set (map (λ (c : Cell M V). c.leg) old) (a * n + b) v → Written leg_in n a b v old new
  unfolding leg_in
  leg_written a b v hb l e = record { there = there (λ c. c.leg) old new (a * n + b) v e l; others = λ c d hc hd ne. elsewhere (λ c. c.leg) old new (a * n + b) v e (c * n + d) (other_pair n a b c d hb hd ne) }

  pub ride_written : (a b : ℕ) (v : Option V) → b < n → a * n + b < length old → map (λ (c : Cell M V). c.ride) new ≡ set (map (λ (c : Cell M V). c.ride) old) (a * n + b) v → Written ride_in n a b v old new
  unfolding ride_in
  ride_written a b v hb l e = record { there = there (λ c. c.ride) old new (a * n + b) v e l; others = λ c d hc hd ne. elsewhere (λ c. c.ride) old new (a * n + b) v e (c * n + d) (other_pair n a b c d hb hd ne) }

  pub same_legs : map (λ (c : Cell M V). c.leg) new ≡ map (λ (c : Cell M V). c.leg) old → SameLegs n old new
  unfolding leg_in
  same_legs e a b = same_mapped (λ c. c.leg) old new e (a * n + b)

  pub same_rides : map (λ (c : Cell M V). c.ride) new ≡ map (λ (c : Cell M V). c.ride) old → (a b : ℕ) → ride_in new n a b ≡ ride_in old n a b
  unfolding ride_in
  same_rides e a b = same_mapped (λ c. c.ride) old new e (a * n + b)

  pub same_kinds : map (λ (c : Cell M V). c.kind) new ≡ map (λ (c : Cell M V). c.kind) old → SameKinds n old new
  unfolding kind_in
  same_kinds e p = same_mapped (λ c. c.kind) old new e (p * n + p)

  pub kind_written : (p kind : ℕ) → p < n → p * n + p < length old → map (λ (c : Cell M V). c.kind) new ≡ set (map (λ (c : Cell M V). c.kind) old) (p * n + p) kind →
      map (λ (c : Cell M V). c.leg) new ≡ map (λ (c : Cell M V). c.leg) old → map (λ (c : Cell M V). c.ride) new ≡ map (λ (c : Cell M V). c.ride) old → KindWritten n p kind old new
  unfolding kind_in
  kind_written p kind hp l e legs rides = record {
    there = there (λ c. c.kind) old new (p * n + p) kind e l;
    others = λ q hq ne. elsewhere (λ c. c.kind) old new (p * n + p) kind e (q * n + q) (other_pair n p p q q hp hq (λ e _. ne e));
    legs = same_legs legs;
    rides = same_rides rides;
  }

-- what a write leaves: a part of each cell, and the cells behind
pub ruleset left_by_write = (map-set_same, drop-set-lt)
