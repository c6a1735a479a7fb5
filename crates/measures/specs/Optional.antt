-- Values that may be missing.
use Rattle.std.specs.Prelude.{Some, None, Option}

-- two values joined, none where one of them is missing
abbrev pub both : {V : Type 0} → (V → V → V) → Option V → Option V → Option V
both joined (Some x) (Some y) = Some (joined x y)
both joined (Some x) None = None
both joined None o = None
