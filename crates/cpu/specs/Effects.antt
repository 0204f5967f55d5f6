-- The effect column of the instruction table: what each instruction does to the processor.
use Rattle.std.specs.Prelude.{ℕ, ◌+◌, ◌*◌, ◌%◌, Bool, true, cond}
use Rattle.isa.specs.declared.register_file.Register.{Register}
use Rattle.isa.specs.declared.register_file.Register.TheVariants.{A}
use Rattle.isa.specs.declared.instructions.Group.{Group}
use Rattle.isa.specs.declared.instructions.Operand.{Operand}
use Rattle.isa.specs.declared.instructions.Operand.TheVariants.{Register as Reg, Memory, Immediate}
use Rattle.isa.specs.declared.instructions.Rotation.{Rotation}
use Rattle.isa.specs.declared.instructions.Instruction.{Instruction}
use Rattle.isa.specs.declared.instructions.Instruction.TheVariants.{Load, LoadMemory, StoreMemory, LoadImmediate, StoreImmediate, Increment, Decrement, Arithmetic, Rotate, Jump, Call, Return, Restart, Input, Output, Halt}
use Rattle.isa.specs.RegisterFile.{held, replaced}
use Rattle.alu.specs.declared.outcomes.Outcome.{Outcome}
use Rattle.alu.specs.Arithmetic.{combined, incremented, decremented}
use Rattle.alu.specs.Rotations.{rotated}
use Rattle.cpu.specs.AddressRing.{jumped, called, returned}
use Rattle.cpu.specs.Processor.{View, with_registers, with_flags, with_ring, with_stopped}

-- The target of a jump or a call, from bytes 2 and 3.
abbrev pub target_of : ℕ → ℕ → ℕ
target_of low high = high % 64 * 256 + low

-- A register takes a byte.
abbrev pub loading : View → Register → ℕ → View
loading v d byte = with_registers v (replaced v.registers d byte)

-- A register takes a result, and the flags tell of it.
abbrev pub taking : View → Register → Outcome → View
taking v d o = with_flags (loading v d o.value) o.flags

abbrev pub counting_up : View → Register → View
counting_up v d = taking v d (incremented (held v.registers d) v.flags.carry)

abbrev pub counting_down : View → Register → View
counting_down v d = taking v d (decremented (held v.registers d) v.flags.carry)

abbrev pub combining : View → Group → ℕ → View
combining v p operand = taking v A (combined p v.registers.a operand v.flags.carry)

abbrev pub rotating : View → Rotation → View
rotating v r = taking v A (rotated r v.registers.a v.flags)

-- The operand of a group: a register, or the byte that cycle two gave.
abbrev pub operand_byte : Operand → View → ℕ → ℕ
operand_byte (Reg s) v low = held v.registers s
operand_byte Memory v low = low
operand_byte Immediate v low = low

-- The processor after an instruction, from the bytes that cycles two and three gave and whether it is taken.
abbrev pub finished : Instruction → Bool → ℕ → ℕ → View → View
finished (Load d s) taken low high v = loading v d (held v.registers s)
finished (LoadMemory d) taken low high v = loading v d low
finished (StoreMemory s) taken low high v = v
finished (LoadImmediate d) taken low high v = loading v d low
finished StoreImmediate taken low high v = v
finished (Increment d) taken low high v = counting_up v d
finished (Decrement d) taken low high v = counting_down v d
finished (Arithmetic p o) taken low high v = combining v p (operand_byte o v low)
finished (Rotate r) taken low high v = rotating v r
finished (Jump c) taken low high v = cond taken (with_ring v (jumped v.ring (target_of low high))) v
finished (Call c) taken low high v = cond taken (with_ring v (called v.ring (target_of low high))) v
finished (Return c) taken low high v = cond taken (with_ring v (returned v.ring)) v
finished (Restart a) taken low high v = with_ring v (called v.ring (8 * a))
finished (Input m) taken low high v = loading v A low
finished (Output m) taken low high v = v
finished Halt taken low high v = with_stopped v true
