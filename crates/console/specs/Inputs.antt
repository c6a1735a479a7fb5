-- What the console reads: a street book and a job text, the book first.
use Rattle.std.specs.Prelude.{ℕ, cond, List, length, Ok, Err, Result, nat_le}
use Rattle.jobs.specs.declared.stops.Stop.{Stop}
use Rattle.faults.specs.declared.TextFault.{TextFault}
use Rattle.faults.specs.Faults as faults
use Rattle.books.specs.declared.line.Room.{Room}
use Rattle.books.specs.Books.{Told, read_book, counts}
use Rattle.job_texts.specs.Texts.{read_job}
use Rattle.console.specs.Limits as limits
use Rattle.console.specs.declared.limit.LimitRefusal.TheVariants.{TooLong}
use Rattle.console.specs.declared.inputs.Inputs.{Inputs}
use Rattle.console.specs.declared.inputs.InputRefusal.{InputRefusal}
use Rattle.console.specs.declared.inputs.InputRefusal.TheVariants.{Limit, Text}

-- the number, line and field of a refusal
abbrev pub number_of : InputRefusal → ℕ
number_of (Limit r) = limits.number_of r
number_of (Text f) = faults.number_of f

abbrev pub line_of : InputRefusal → ℕ
line_of (Limit r) = 0
line_of (Text f) = faults.line_of f

abbrev pub field_of : InputRefusal → ℕ
field_of (Limit r) = 0
field_of (Text f) = faults.field_of f

-- what a text of at most 4,096 bytes was read as
abbrev pub in_input : {A : Type 0} → Result A TextFault → Result A InputRefusal
in_input (Ok a) = Ok a
in_input (Err f) = Err (Text f)

abbrev pub limited : {A : Type 0} → List ℕ → Result A TextFault → Result A InputRefusal
limited t r = cond (nat_le (length t) 4096) (in_input r) (Err (Limit TooLong))

abbrev pub book_in : Room → List ℕ → Result Told InputRefusal
book_in room t = limited t (read_book room t)

abbrev pub job_in : List ℕ → Result (List Stop) InputRefusal
job_in t = limited t (read_job t)

-- how much was read; the book's refusal goes before the job's
abbrev pub inputs_of : Result Told InputRefusal → Result (List Stop) InputRefusal → Result Inputs InputRefusal
inputs_of (Err f) job = Err f
inputs_of (Ok b) (Err f) = Err f
inputs_of (Ok b) (Ok stops) = Ok (record { street = counts (length b.kinds) (length b.legs); stops = length stops })
