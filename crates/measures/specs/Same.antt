-- Values with equal numbers are equal.
use Rattle.std.specs.Prelude.{◌≡◌, ℕ, ◌≤◌}
use Rattle.std.proofs.Math.Path.{PathP}
use mathlib.Core.HLevel.{is_prop→PathP}
use Rattle.std.proofs.Math.Bridge.{le_prop}
use Rattle.measures.specs.declared.values.TimeValue.{TimeValue}
use Rattle.measures.specs.declared.values.LongestValue.{LongestValue}
use Rattle.measures.specs.declared.values.ClimbValue.{ClimbValue}

-- a number's bound has one proof
pub same_fit : {m n : ℕ} (e : m ≡ n) (p : m ≤ 4294967295) (q : n ≤ 4294967295) → PathP (λ j. e j ≤ 4294967295) p q
same_fit e p q = is_prop→PathP (λ k. e k ≤ 4294967295) (λ k. le_prop) p q

pub same_time : (a b : TimeValue) → a.seconds ≡ b.seconds → a ≡ b
same_time a b e j = record { seconds = e j; fits = same_fit e a.fits b.fits j }

pub same_longest : (a b : LongestValue) → a.seconds ≡ b.seconds → a ≡ b
same_longest a b e j = record { seconds = e j; fits = same_fit e a.fits b.fits j }

pub same_climb : (a b : ClimbValue) → a.climb ≡ b.climb → a.seconds ≡ b.seconds → a ≡ b
same_climb a b d e j = record { climb = d j; seconds = e j; fits = (same_fit d a.fits.0 b.fits.0 j, same_fit e a.fits.1 b.fits.1 j) }
