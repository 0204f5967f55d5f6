-- What a port card means: a state, and rules over it.
use Rattle.std.specs.Prelude.{ℕ, Ok, Err, Result}
use Rattle.bus.specs.declared.cards.Trouble.{Trouble}
use Rattle.bus.specs.declared.cards.Trouble.TheVariants.{NoCard, Spent}

-- the number that a refusal is known by
abbrev pub trouble_number : Trouble → ℕ
trouble_number NoCard = 1
trouble_number Spent = 2

-- what comes of a clear input: the card's next state, and the byte for the accumulator
pub record Clear (S : Type 0) : Type 0 where
  pub next : S
  pub byte : ℕ

-- Of a state, a port and a byte (for an input the accumulator, for an output the byte put out):
-- what comes of a clear transfer, or the trouble that stands in its way.
pub record Rules (S : Type 0) : Type 0 where
  pub input : S → ℕ → ℕ → Result (Clear S) Trouble
  pub output : S → ℕ → ℕ → Result S Trouble

-- what a call answers, and the card's state after it
pub record Transfer (S R : Type 0) : Type 0 where
  pub answer : Result R Trouble
  pub after : S

-- an input that the rules find clear gives its byte and moves the state on; any other leaves it
abbrev pub input_done : {S : Type 0} → S → Result (Clear S) Trouble → Transfer S ℕ
input_done s (Ok clear) = record { answer = Ok clear.byte; after = clear.next }
input_done s (Err trouble) = record { answer = Err trouble; after = s }

-- an output that the rules find clear moves the state on; any other leaves it
abbrev pub output_done : {S : Type 0} → S → Result S Trouble → Transfer S (Unit {0})
output_done s (Ok next) = record { answer = Ok tt; after = next }
output_done s (Err trouble) = record { answer = Err trouble; after = s }

-- a call of an input in a state: port and accumulator
abbrev pub input_of : {S : Type 0} → Rules S → S → ℕ → ℕ → Transfer S ℕ
input_of rules s port a = input_done s (rules.input s port a)

-- a call of an output in a state: port and byte
abbrev pub output_of : {S : Type 0} → Rules S → S → ℕ → ℕ → Transfer S (Unit {0})
output_of rules s port b = output_done s (rules.output s port b)
