-- The quarter keeps what every street keeps.
use Rattle.std.specs.Prelude.{◌≡◌, ℕ, ◌+◌, ◌*◌, ◌%◌, ◌≤◌, Bool, true, false, cond, ◌&&◌, ◌||◌, Some, None, Option, ◌==◌, refl}
use Rattle.std.proofs.Common.{arith}
use Rattle.std.proofs.lemmas.Bool.{and_parts, and_right, ltb-true, ne_eqb}
use Rattle.streets.specs.Meaning.{Sound}
use Rattle.std.proofs.lemmas.Option.{none-some}
use Rattle.streets.specs.Sounds.{outside}
use Rattle.quarters.specs.Grid.{Grid, grid_meaning, inside, up, right, row, column, leg_of}

in_if : {X : Type 0} (t : Bool) (o : Option X) (x : X) → cond t o None ≡ Some x → t ≡ true
in_if true o x e = refl
in_if false o x e = absurd (none-some _ e)

-- no crossing is its own neighbour
not_next : (n : ℕ) → (n + 1 == n) ≡ false
not_next n = ne_eqb (n + 1) n (λ e. omega arith)

none_either : {X : Type 0} (t : Bool) → cond {A = Option X} t None None ≡ None
none_either true = refl
none_either false = refl

pub grid_sound : (g : Grid) → g.width * g.height ≤ 64 → Sound (grid_meaning g)
grid_sound g few = record {
  few = few;
  kind_outside = λ p h. outside (g.width * g.height) p (1 + (column g p + row g p) % g.kinds) h;
  leg_inside = λ a b l e.
      let t = and_parts (inside g a) (inside g b) (in_if (inside g a && inside g b) (cond (up g a b) (Some (leg_of g g.climb)) (cond (up g b a || (right g a b || right g b a)) (Some (leg_of g 0)) None)) l e) in
      (ltb-true a _ t.0, ltb-true b _ t.1);
  no_loop = λ a.
      let u : up g a a ≡ false = and_right (column g a == column g a) _ (not_next (row g a)) in
      let r : right g a a ≡ false = and_right (row g a == row g a) _ (not_next (column g a)) in
      rw (u, r) (none_either (inside g a && inside g a));
}
