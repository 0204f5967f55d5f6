-- The plain code of an instruction, or its refusal.
use Rattle.std.specs.Prelude.{ℕ, Bool, cond, ◌&&◌, Ok, Err, Result, nat_le, nat_lt}
use Rattle.isa.specs.declared.refusals.Refusal.{Refusal}
use Rattle.isa.specs.declared.refusals.Refusal.TheVariants.{NoInstruction}
use Rattle.isa.specs.declared.conditions.Condition.{Condition}
use Rattle.isa.specs.declared.conditions.Condition.TheVariants.{Always, When}
use Rattle.isa.specs.declared.instructions.Group.{Group}
use Rattle.isa.specs.declared.instructions.Operand.{Operand}
use Rattle.isa.specs.declared.instructions.Operand.TheVariants.{Register as Reg, Memory, Immediate}
use Rattle.isa.specs.declared.instructions.Instruction.{Instruction}
use Rattle.isa.specs.declared.instructions.Instruction.TheVariants.{Load, LoadMemory, StoreMemory, LoadImmediate, StoreImmediate, Increment, Decrement, Arithmetic, Rotate, Jump, Call, Return, Restart, Input, Output, Halt}
use Rattle.isa.specs.RegisterFile.{register_code}
use Rattle.isa.specs.Conditions.{condition_code}
use Rattle.isa.specs.Codes.{group_code, rotation_code, bits, port_bits}

abbrev pub conditional : ℕ → Condition → ℕ → ℕ → ℕ
conditional h Always always when = bits h 0 always
conditional h (When flag f) always when = bits h (condition_code flag f) when

abbrev pub arithmetic_code : Group → Operand → ℕ
arithmetic_code p (Reg s) = bits 2 (group_code p) (register_code s)
arithmetic_code p Memory = bits 2 (group_code p) 7
arithmetic_code p Immediate = bits 0 (group_code p) 4

-- The code, if the table has the instruction.
abbrev pub where_defined : Bool → ℕ → Result ℕ Refusal
where_defined b c = cond b (Ok c) (Err NoInstruction)

abbrev pub encoded : Instruction → Result ℕ Refusal
encoded (Load d s) = Ok (bits 3 (register_code d) (register_code s))
encoded (LoadMemory d) = Ok (bits 3 (register_code d) 7)
encoded (StoreMemory s) = Ok (bits 3 7 (register_code s))
encoded (LoadImmediate d) = Ok (bits 0 (register_code d) 6)
encoded StoreImmediate = Ok (bits 0 7 6)
encoded (Increment d) = where_defined (nat_lt 0 (register_code d)) (bits 0 (register_code d) 0)
encoded (Decrement d) = where_defined (nat_lt 0 (register_code d)) (bits 0 (register_code d) 1)
encoded (Arithmetic p o) = Ok (arithmetic_code p o)
encoded (Rotate r) = Ok (bits 0 (rotation_code r) 2)
encoded (Jump c) = Ok (conditional 1 c 4 0)
encoded (Call c) = Ok (conditional 1 c 6 2)
encoded (Return c) = Ok (conditional 0 c 7 3)
encoded (Restart a) = where_defined (nat_lt a 8) (bits 0 a 5)
encoded (Input m) = where_defined (nat_lt m 8) (port_bits m)
encoded (Output m) = where_defined (nat_le 8 m && nat_lt m 32) (port_bits m)
encoded Halt = Ok 0
