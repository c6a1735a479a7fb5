-- A cell behind the tables changes nothing in them.
use Rattle.std.proofs.Common.{◌≡◌, ℕ, ◌+◌, ◌*◌, ◌<◌, ◌≤◌, Bool, true, false, ◌&&◌, ◌||◌, List, length, get_or, refl, ap, ◌∙◌, ap₂, arith}
use Rattle.std.proofs.lemmas.Nat.{mul-add-lt}
use Rattle.measures.specs.Meaning.{MeasureMeaning}
use Rattle.jobs.specs.declared.stops.Stop.{Stop}
use Rattle.jobs.specs.Trees.{tie_in}
use Rattle.cells.specs.declared.cell.Cell.{Cell}
use Rattle.tables.specs.Tables.{blank, leg_in, ride_in, own_in, hang_in, entry_in, Kept}
use Rattle.minima.specs.Tables.{by_tie, link_in}
use Rattle.waiting.specs.Queues.{TablesKept}

module _ {M V : Type 0} (old new : List (Cell M V)) (n k : ℕ) (stops : List Stop) (behind : n * n + length stops * n ≤ k) (kept : Kept k old new) where
  own_kept : (s q : ℕ) → s < length stops → q < n → own_in new n s q ≡ own_in old n s q
  unfolding own_in
  own_kept s q h l = let x = mul-add-lt s n q (length stops) h l in ap (λ (c : Cell M V). c.own) (kept (n * n + (s * n + q)) (omega arith))

  hang_kept : (s p : ℕ) → s < length stops → p < n → hang_in new n s p ≡ hang_in old n s p
  unfolding hang_in
  hang_kept s p h l = let x = mul-add-lt s n p (length stops) h l in ap (λ (c : Cell M V). c.hang) (kept (n * n + (s * n + p)) (omega arith))

  link_kept : (s p q : ℕ) → p < n → q < n → link_in new n stops s p q ≡ link_in old n stops s p q
  unfolding leg_in ride_in
  link_kept s p q h l = let x = mul-add-lt p n q n h l in ap₂ (by_tie (tie_in stops s)) (ap (λ (c : Cell M V). c.leg) (kept (p * n + q) (omega arith))) (ap (λ (c : Cell M V). c.ride) (kept (p * n + q) (omega arith)))

  pub tables_kept : (meaning : MeasureMeaning V) → TablesKept meaning n stops old new
  tables_kept meaning τ H tables = record {
    holds = record {
      count = tables.holds.count;
      size = tables.holds.size;
      parents = tables.holds.parents;
      owns = λ s q l h. own_kept s q l h ∙ tables.holds.owns s q l h;
      links = λ s p q z l h k. link_kept s p q h k ∙ tables.holds.links s p q z l h k;
      rooted = tables.holds.rooted;
    };
    hangs = λ s p z l h. hang_kept s p l h ∙ tables.hangs s p z l h;
    minimal = tables.minimal;
  }

pub same_entry : {M V : Type 0} (old new : List (Cell M V)) (i : ℕ) → get_or new i blank ≡ get_or old i blank → entry_in new i ≡ entry_in old i
unfolding entry_in
same_entry {M} {V} old new i e = ap (λ (c : Cell M V). c.entry) e

-- what one more excluded place says
and_true : (b : Bool) → (b && true) ≡ b
and_true true = refl
and_true false = refl

pub one_bit : (a b c : Bool) → c ≡ true → (a || (b && c)) ≡ (a || b)
one_bit a b c h = ap (λ x. a || (b && x)) h ∙ ap (λ x. a || x) (and_true b)
