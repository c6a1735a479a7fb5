-- What a token holds.
use Rattle.std.specs.Prelude.{◌≡◌, ℕ, Bool, true, false, ◌&&◌, List, nat_le, slice_index}
use Rattle.texts.specs.Numbers.{only}
use Rattle.texts.specs.declared.reader.Token.{Token}
use Rattle.texts.specs.declared.reader.Token.TheVariants.{Word, Dash, Number}

-- the bytes of a token
abbrev pub part_of : Token → List ℕ
part_of (Word p s) = p.now
part_of (Dash p s) = p.now
part_of (Number p s) = p.now

-- where in the text they start
abbrev pub start_of : Token → ℕ
start_of (Word p s) = s
start_of (Dash p s) = s
start_of (Number p s) = s

abbrev pub digit_first : List ℕ → Bool
digit_first f = nat_le 48 (slice_index f 0) && nat_le (slice_index f 0) 57

-- a lone `-` is a dash, a field that begins with a digit is a number, and every other one is a word
abbrev pub Sorted : Token → Type 0
Sorted (Word p s) = (only 45 p.now ≡ false) × (digit_first p.now ≡ false)
Sorted (Dash p s) = only 45 p.now ≡ true
Sorted (Number p s) = digit_first p.now ≡ true
