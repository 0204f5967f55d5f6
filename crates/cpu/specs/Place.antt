-- A place: all that two machines are compared by, and what both engines work on.
use Rattle.std.specs.Prelude.{ℕ}
use Rattle.bus.specs.Store.{Cells, byte_at, written}
use Rattle.bus.specs.Card.{Rules}
use Rattle.bus.specs.Wiring.{Wiring}
use Rattle.cpu.specs.declared.processors.Processor.{Processor}
use Rattle.cpu.specs.Processor.{View, view_of, powered}

-- What the processor holds, the cells with their kinds, and the port card's rules and state.
pub record Place (S : Type 0) : Type 0 where
  pub processor : View
  pub cells : Cells
  pub rules : Rules S
  pub state : S

-- A processor that is wired so.
abbrev pub place_of : {S : Type 0} → Processor → Wiring S → Place S
place_of p w = record { processor = view_of p; cells = w.cells; rules = w.rules; state = w.state }

-- A processor just powered up, and wired so.
abbrev pub powered_place : {S : Type 0} → Wiring S → Place S
powered_place w = record { processor = powered; cells = w.cells; rules = w.rules; state = w.state }

-- The byte at an address.
abbrev pub byte_in : {S : Type 0} → Place S → ℕ → ℕ
byte_in p address = byte_at p.cells address

-- One part of a place changed, and the others as they were.
abbrev pub with_processor : {S : Type 0} → Place S → View → Place S
with_processor p v = record { processor = v; cells = p.cells; rules = p.rules; state = p.state }

abbrev pub with_state : {S : Type 0} → Place S → S → Place S
with_state p s = record { processor = p.processor; cells = p.cells; rules = p.rules; state = s }

-- A byte written to an address.
abbrev pub writing : {S : Type 0} → Place S → ℕ → ℕ → Place S
writing p address byte = record {
  processor = p.processor;
  cells = written p.cells address byte;
  rules = p.rules;
  state = p.state;
}
