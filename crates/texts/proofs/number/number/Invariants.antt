use Rattle.std.proofs.Common.{◌≡◌, ◌^◌, ◌<◌, drop}
use Rattle.std.specs.Str.{all_ascii_digits}
use Rattle.texts.specs.Numbers.{decimal_after, decimal}
use Rattle.texts.proofs.number.number.Given as goal

abbrev pub invariant-loop-b : goal.invariant-loop-b
invariant-loop-b g l = (decimal_after l.value (drop l.b-index l.part) ≡ decimal l.part) × (all_ascii_digits (drop l.b-index l.part) ≡ all_ascii_digits l.part) × (l.value < 10 ^ l.b-index)
