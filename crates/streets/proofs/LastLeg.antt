-- The last record of a list that tells a pair.
use Rattle.std.proofs.Common.{◌≡◌, ℕ, zero, suc, ◌<◌, true, false, cond, List, [], ◌∷◌, length, get_or, Some, None, sym, refl, ap, ◌∙◌, arith}
use Rattle.std.proofs.lemmas.Bool.{cond-true, cond-false}
use Rattle.streets.specs.declared.legs.LegRecord.{LegRecord}
use Rattle.streets.specs.Lists.{last_leg, later, tells}

-- no record tells the pair
pub last_none : (rs : List LegRecord) (a b : ℕ) → ((k : ℕ) (d : LegRecord) → k < length rs → tells (get_or rs k d) a b ≡ false) → last_leg rs a b ≡ None
last_none [] a b h = refl
last_none (r ∷ rs) a b h = ap (λ o. later o (cond (tells r a b) (Some r.leg) None)) (last_none rs a b (λ k d l. h (suc k) d (omega arith))) ∙ cond-false _ _ _ (h 0 r (omega arith))

-- record i tells the pair, and none behind it does
pub last_some : (rs : List LegRecord) (i : ℕ) (x : LegRecord) (a b : ℕ) → i < length rs → x ≡ get_or rs i x → tells x a b ≡ true → ((k : ℕ) (d : LegRecord) → i < k → k < length rs → tells (get_or rs k d) a b ≡ false) → last_leg rs a b ≡ Some x.leg
last_some [] i x a b l e t h = absurd (omega arith)
last_some (r ∷ rs) zero x a b l e t h =
    ap (λ o. later o (cond (tells r a b) (Some r.leg) None)) (last_none rs a b (λ k d m. h (suc k) d (omega arith) (omega arith)))
    ∙ ap (λ y. cond (tells y a b) (Some y.leg) None) (sym e) ∙ cond-true _ _ _ t
last_some (r ∷ rs) (suc i) x a b l e t h =
    ap (λ o. later o (cond (tells r a b) (Some r.leg) None)) (last_some rs i x a b (omega arith) e t (λ k d m n. h (suc k) d (omega arith) (omega arith)))
