-- The latch card: what it holds, its rules, and what each call on it comes to.
use Rattle.std.specs.Prelude.{ℕ, ◌-◌, Bool, true, false, cond, ◌&&◌, List, replicate, Ok, Err, Result, nat_le, nat_lt, slice_index, slice_index_or, slice_set}
use Rattle.bus.specs.declared.cards.Trouble.{Trouble}
use Rattle.bus.specs.declared.cards.Trouble.TheVariants.{NoCard}
use Rattle.bus.specs.declared.latches.LatchCard.{LatchCard}
use Rattle.bus.specs.Card.{Clear, Rules}

-- input ports are 0 to 7
abbrev pub is_input : ℕ → Bool
is_input p = nat_lt p 8

-- output ports are 8 to 31
abbrev pub is_output : ℕ → Bool
is_output p = nat_le 8 p && nat_lt p 32

-- inputs and outputs together
abbrev pub is_port : ℕ → Bool
is_port p = nat_lt p 32

-- The state. The bytes to answer and the offer latches stand by input port, the bytes put out by
-- output port less 8.
pub record Latches : Type 0 where
  pub inputs : List ℕ
  pub offers : List ℕ
  pub outputs : List ℕ

-- the state of a card
abbrev pub latches_of : LatchCard → Latches
latches_of c = record { inputs = c.inputs; offers = c.offers; outputs = c.outputs }

-- whether each port is fitted
abbrev pub fitted_of : LatchCard → List Bool
fitted_of c = c.fitted

-- an input answers its byte, and its offer latch takes the accumulator
abbrev pub input_at : Latches → ℕ → ℕ → Clear Latches
input_at s p a = record {
  next = record { inputs = s.inputs; offers = slice_set s.offers p a; outputs = s.outputs };
  byte = slice_index s.inputs p;
}

-- an output sets its byte
abbrev pub with_output : Latches → ℕ → ℕ → Latches
with_output s p b = record { inputs = s.inputs; offers = s.offers; outputs = slice_set s.outputs (p - 8) b }

-- a transfer is clear at a port of its way that is fitted
abbrev pub latch_rules : List Bool → Rules Latches
latch_rules fitted = record {
  input = λ s p a. cond (is_input p && slice_index_or fitted p false) (Ok (input_at s p a)) (Err NoCard);
  output = λ s p b. cond (is_output p && slice_index_or fitted p false) (Ok (with_output s p b)) (Err NoCard);
}

-- what a new card holds
abbrev pub zeroed : Latches
zeroed = record { inputs = replicate 8 0; offers = replicate 8 0; outputs = replicate 24 0 }

-- the marks of a new card
abbrev pub all_fitted : List Bool
all_fitted = replicate 32 true

-- what a call answers that is carried out where the port is of the right sort
abbrev pub answer_if : Bool → Result (Unit {0}) Trouble
answer_if sort = cond sort (Ok tt) (Err NoCard)

-- another byte to answer at an input port
abbrev pub with_input : Latches → ℕ → ℕ → Latches
with_input s p b =
    cond (is_input p) (record { inputs = slice_set s.inputs p b; offers = s.offers; outputs = s.outputs }) s

-- the offer latch of an input port
abbrev pub offer_at : Latches → ℕ → Result ℕ Trouble
offer_at s p = cond (is_input p) (Ok (slice_index s.offers p)) (Err NoCard)

-- the byte put out at an output port
abbrev pub output_at : Latches → ℕ → Result ℕ Trouble
output_at s p = cond (is_output p) (Ok (slice_index s.outputs (p - 8))) (Err NoCard)

-- the marks with one of them set
abbrev pub marked : List Bool → ℕ → Bool → List Bool
marked fitted p mark = cond (is_port p) (slice_set fitted p mark) fitted
