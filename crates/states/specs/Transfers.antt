-- A cycle's one transfer.
use Rattle.std.specs.Prelude.{ℕ, Some, None, Ok, Err, Option, Result}
use Rattle.isa.specs.declared.cycles.Transfer.{Transfer}
use Rattle.isa.specs.declared.cycles.Transfer.TheVariants.{Fetch, Read, WriteRegister, WriteImmediate, Input, Output}
use Rattle.isa.specs.RegisterFile.{held, memory_address}
use Rattle.bus.specs.declared.cards.Trouble.{Trouble}
use Rattle.bus.specs.Card.{Clear}
use Rattle.cpu.specs.Place.{Place, byte_in, with_state, writing}

-- The byte that a transfer gave, 0 where it gives none, and the place after it.
pub record Moved (S : Type 0) : Type 0 where
  pub got : ℕ
  pub place : Place S

abbrev pub reads : {S : Type 0} → ℕ → Place S → Result (Moved S) Trouble
reads byte p = Ok (record { got = byte; place = p })

abbrev pub leaves : {S : Type 0} → Place S → Result (Moved S) Trouble
leaves p = Ok (record { got = 0; place = p })

abbrev pub from_card : {S : Type 0} → Place S → Result (Clear S) Trouble → Result (Moved S) Trouble
from_card p (Ok clear) = reads clear.byte (with_state p clear.next)
from_card p (Err trouble) = Err trouble

abbrev pub to_card : {S : Type 0} → Place S → Result S Trouble → Result (Moved S) Trouble
to_card p (Ok next) = leaves (with_state p next)
to_card p (Err trouble) = Err trouble

-- The address of M in a place.
abbrev pub memory_in : {S : Type 0} → Place S → ℕ
memory_in p = memory_address p.processor.registers

-- A transfer, from the address of a fetch and byte 2.
abbrev pub moves : {S : Type 0} → Option Transfer → ℕ → ℕ → Place S → Result (Moved S) Trouble
moves None address low p = leaves p
moves (Some Fetch) address low p = reads (byte_in p address) p
moves (Some Read) address low p = reads (byte_in p (memory_in p)) p
moves (Some (WriteRegister s)) address low p = leaves (writing p (memory_in p) (held p.processor.registers s))
moves (Some WriteImmediate) address low p = leaves (writing p (memory_in p) low)
moves (Some (Input port)) address low p = from_card p (p.rules.input p.state port p.processor.registers.a)
moves (Some (Output port)) address low p = to_card p (p.rules.output p.state port p.processor.registers.a)
