-- The list street keeps what every street keeps.
use Rattle.std.specs.Prelude.{◌≡◌, ℕ, ◌≤◌, Bool, true, false, cond, ◌||◌, List, take, Some, None, Option, ◌==◌, nat_le, nat_lt, slice_index, refl}
use Rattle.std.proofs.Common.{arith}
use Rattle.std.proofs.lemmas.Bool.{or_parts, or_right, leb-false, le-ltb, eq-eqb, cond-true, cond-false}
use Rattle.std.proofs.lemmas.Option.{none-some}
use Rattle.streets.specs.Meaning.{Sound}
use Rattle.streets.specs.Lists.{list_meaning, counted, last_leg}
use Rattle.streets.specs.declared.legs.LegRecord.{LegRecord}

out_if : {X : Type 0} (t : Bool) (o : Option X) (x : X) → cond t None o ≡ Some x → t ≡ false
out_if true o x e = absurd (none-some _ e)
out_if false o x e = refl

-- a kind that is asked for outside the places
pub outside : (n p k : ℕ) → n ≤ p → cond (nat_lt p n) k 0 ≡ 0
outside n p k h = cond-false _ _ _ (le-ltb p n h)

pub list_sound : (kinds : List ℕ) (records : List LegRecord) → Sound (list_meaning kinds records)
list_sound kinds records = record {
  few = omega arith;
  kind_outside = λ p h. outside (counted kinds) p (slice_index kinds p) h;
  leg_inside = λ a b l e.
      let t = or_parts (nat_le (counted kinds) a) (nat_le (counted kinds) b || a == b) (out_if _ (last_leg (take 4096 records) a b) l e) in
      let u = or_parts (nat_le (counted kinds) b) (a == b) t.1 in
      (leb-false (counted kinds) a t.0, leb-false (counted kinds) b u.0);
  no_loop = λ a. cond-true _ _ _ (or_right (nat_le (counted kinds) a) _ (or_right (nat_le (counted kinds) a) _ (eq-eqb a a refl)));
}
