-- Which text a fault of the lines says.
use Rattle.std.proofs.Common.{◌≡◌, ℕ, ◌+◌, List, [], ◌∷◌, Ok, Err, Result, refl, ap, subst, arith}
use Rattle.faults.specs.declared.Spot.{Spot}
use Rattle.faults.specs.declared.LineFault.{LineFault}
use Rattle.faults.specs.declared.Cause.TheVariants.{Line}
use Rattle.texts.specs.Cut.{Row}
use Rattle.faults.specs.Faults.{spot, fault_in, in_text}
use Rattle.texts.specs.Rows.{Grammar, before, read_rows, state_after}
use Rattle.texts.proofs.Says.{Says, either_says, then_says}

module _ {S E : Type 0} (g : Grammar S E) (line_says : (p : Spot) (s : S) (fs : List (List ℕ)) → Says p.text (g.line p s fs)) where
  before_says : (e : E) (r : Result (List E) LineFault) → Says g.text r → Says g.text (before e r)
  before_says e (Ok es) p = tt
  before_says e (Err f) p = p

  -- a fault of the lines says the text that they stand in
  pub rows_say : (s : S) (l : ℕ) (rs : List Row) → Says g.text (read_rows g s l rs)
  rows_say s l [] = tt
  rows_say s l (r ∷ rs) = either_says g.text r.1 _ _ (then_says g.text (g.line (spot g.text l 0) s r.0) _ (line_says (spot g.text l 0) s r.0) (λ e. before_says e _ (rows_say (g.next s e) (l + 1) rs))) refl

  -- so the fault of the text says it too
  pub turned : (s : S) (l : ℕ) (rs : List Row) (f : LineFault) → read_rows g s l rs ≡ Err f → in_text f ≡ fault_in g.text (Line f)
  turned s l rs f bad = ap (λ t. fault_in t (Line f)) (subst (Says g.text) bad (rows_say s l rs))

-- where the state after a text is a fault, the text was refused with it
pub refused_is : {S E : Type 0} (g : Grammar S E) (s : S) (r : Result (List E) LineFault) (f : LineFault) → Err f ≡ state_after g s r → r ≡ Err f
refused_is g s (Ok es) f e = absurd (grind arith)
refused_is g s (Err h) f e = grind arith
