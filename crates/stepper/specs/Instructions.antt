-- What each instruction does, from the place where its first byte is taken: the rows of the instruction table, in its order.
use Rattle.std.specs.Prelude.{ℕ, ◌*◌, Bool, true, false, cond, Ok, Err, Result}
use Rattle.isa.specs.declared.register_file.Register.TheVariants.{A}
use Rattle.isa.specs.declared.instructions.Operand.TheVariants.{Register as Reg, Memory, Immediate}
use Rattle.isa.specs.declared.instructions.Instruction.{Instruction}
use Rattle.isa.specs.declared.instructions.Instruction.TheVariants.{Load, LoadMemory, StoreMemory, LoadImmediate, StoreImmediate, Increment, Decrement, Arithmetic, Rotate, Jump, Call, Return, Restart, Input, Output, Halt}
use Rattle.isa.specs.RegisterFile.{held, memory_address}
use Rattle.isa.specs.Conditions.{holds}
use Rattle.bus.specs.declared.cards.Trouble.{Trouble}
use Rattle.bus.specs.Card.{Clear}
use Rattle.cpu.specs.declared.faults.Fault.{Fault}
use Rattle.cpu.specs.AddressRing.{jumped, called, returned}
use Rattle.cpu.specs.Processor.{View, with_ring, with_stopped, pc_in, advancing}
use Rattle.cpu.specs.Effects.{target_of, loading, counting_up, counting_down, combining, rotating}
use Rattle.cpu.specs.Faults.{card_fault}
use Rattle.cpu.specs.Place.{Place, byte_in, with_processor, with_state, writing}

-- An instruction carried out: the place that it leaves, and its states.
pub record Performed (S : Type 0) : Type 0 where
  pub place : Place S
  pub states : ℕ

abbrev pub done : {S : Type 0} → Place S → ℕ → Result (Performed S) Fault
done p n = Ok (record { place = p; states = n })

-- The processor alone changes.
abbrev pub doing : {S : Type 0} → Place S → View → ℕ → Result (Performed S) Fault
doing p v n = done (with_processor p v) n

-- The next byte of the instruction, and the place once it is read.
abbrev pub next_byte : {S : Type 0} → Place S → ℕ
next_byte p = byte_in p (pc_in p.processor)

abbrev pub fetched : {S : Type 0} → Place S → Place S
fetched p = with_processor p (advancing p.processor)

-- M.
abbrev pub memory_in : {S : Type 0} → Place S → ℕ
memory_in p = memory_address p.processor.registers

abbrev pub memory_byte : {S : Type 0} → Place S → ℕ
memory_byte p = byte_in p (memory_in p)

-- The target that bytes 2 and 3 give, and the place once they are read.
abbrev pub target_next : {S : Type 0} → Place S → ℕ
target_next p = target_of (next_byte p) (next_byte (fetched p))

abbrev pub jumping : {S : Type 0} → Place S → ℕ → View
jumping p target = with_ring p.processor (jumped p.processor.ring target)

abbrev pub calling : {S : Type 0} → Place S → ℕ → View
calling p target = with_ring p.processor (called p.processor.ring target)

abbrev pub returning : {S : Type 0} → Place S → View
returning p = with_ring p.processor (returned p.processor.ring)

-- An input that is clear gives the accumulator its byte; a transfer that is not is refused in cycle two.
abbrev pub inputs : {S : Type 0} → ℕ → Place S → Result (Clear S) Trouble → Result (Performed S) Fault
inputs pc p (Ok clear) = doing (with_state p clear.next) (loading p.processor A clear.byte) 8
inputs pc p (Err trouble) = Err (card_fault pc 2 trouble)

abbrev pub outputs : {S : Type 0} → ℕ → Place S → Result S Trouble → Result (Performed S) Fault
outputs pc p (Ok next) = done (with_state p next) 6
outputs pc p (Err trouble) = Err (card_fault pc 2 trouble)

-- Each instruction. The program counter at its start is pc.
abbrev pub performs : {S : Type 0} → ℕ → Instruction → Place S → Result (Performed S) Fault
performs pc (Load d s) p = doing p (loading p.processor d (held p.processor.registers s)) 5
performs pc (LoadMemory d) p = doing p (loading p.processor d (memory_byte p)) 8
performs pc (StoreMemory s) p = done (writing p (memory_in p) (held p.processor.registers s)) 7
performs pc (LoadImmediate d) p = doing p (loading (fetched p).processor d (next_byte p)) 8
performs pc StoreImmediate p = done (writing (fetched p) (memory_in p) (next_byte p)) 9
performs pc (Increment d) p = doing p (counting_up p.processor d) 5
performs pc (Decrement d) p = doing p (counting_down p.processor d) 5
performs pc (Arithmetic g (Reg s)) p = doing p (combining p.processor g (held p.processor.registers s)) 5
performs pc (Arithmetic g Memory) p = doing p (combining p.processor g (memory_byte p)) 8
performs pc (Arithmetic g Immediate) p = doing p (combining (fetched p).processor g (next_byte p)) 8
performs pc (Rotate r) p = doing p (rotating p.processor r) 5
performs pc (Jump c) p =
    cond (holds c p.processor.flags) (doing p (jumping (fetched (fetched p)) (target_next p)) 11) (done (fetched (fetched p)) 9)
performs pc (Call c) p =
    cond (holds c p.processor.flags) (doing p (calling (fetched (fetched p)) (target_next p)) 11) (done (fetched (fetched p)) 9)
performs pc (Return c) p = cond (holds c p.processor.flags) (doing p (returning p) 5) (done p 3)
performs pc (Restart a) p = doing p (calling p (8 * a)) 5
performs pc (Input m) p = inputs pc p (p.rules.input p.state m p.processor.registers.a)
performs pc (Output m) p = outputs pc p (p.rules.output p.state m p.processor.registers.a)
performs pc Halt p = doing p (with_stopped p.processor true) 4

-- Whether an instruction goes to a port.
abbrev pub goes_to_port : Instruction → Bool
goes_to_port (Load d s) = false
goes_to_port (LoadMemory d) = false
goes_to_port (StoreMemory s) = false
goes_to_port (LoadImmediate d) = false
goes_to_port StoreImmediate = false
goes_to_port (Increment d) = false
goes_to_port (Decrement d) = false
goes_to_port (Arithmetic g o) = false
goes_to_port (Rotate r) = false
goes_to_port (Jump c) = false
goes_to_port (Call c) = false
goes_to_port (Return c) = false
goes_to_port (Restart a) = false
goes_to_port (Input m) = true
goes_to_port (Output m) = true
goes_to_port Halt = false
