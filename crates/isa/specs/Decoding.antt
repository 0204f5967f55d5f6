-- The instruction of a byte, by its bit fields.
use Rattle.std.specs.Prelude.{ℕ, zero, suc, ◌/◌, ◌%◌, cond, Some, None, Option, Ok, Err, Result, ◌==◌, nat_lt}
use Rattle.isa.specs.declared.refusals.Refusal.{Refusal}
use Rattle.isa.specs.declared.refusals.Refusal.TheVariants.{NoInstruction}
use Rattle.isa.specs.declared.conditions.Condition.TheVariants.{Always}
use Rattle.isa.specs.declared.instructions.Group.{Group}
use Rattle.isa.specs.declared.instructions.Group.TheVariants.{Add, AddCarry, Subtract, SubtractBorrow, And, Xor, Or, Compare}
use Rattle.isa.specs.declared.instructions.Operand.{Operand}
use Rattle.isa.specs.declared.instructions.Operand.TheVariants.{Register as Reg, Memory, Immediate}
use Rattle.isa.specs.declared.instructions.Rotation.{Rotation}
use Rattle.isa.specs.declared.instructions.Rotation.TheVariants.{Left, Right, LeftThroughCarry, RightThroughCarry}
use Rattle.isa.specs.declared.instructions.Instruction.{Instruction}
use Rattle.isa.specs.declared.instructions.Instruction.TheVariants.{Load, LoadMemory, StoreMemory, LoadImmediate, StoreImmediate, Increment, Decrement, Arithmetic, Rotate, Jump, Call, Return, Restart, Input, Output, Halt}
use Rattle.isa.specs.RegisterFile.{register_of}
use Rattle.isa.specs.Conditions.{condition_of}

abbrev pub group_of : ℕ → Group
group_of zero = Add
group_of (suc zero) = AddCarry
group_of (suc (suc zero)) = Subtract
group_of (suc (suc (suc zero))) = SubtractBorrow
group_of (suc (suc (suc (suc zero)))) = And
group_of (suc (suc (suc (suc (suc zero))))) = Xor
group_of (suc (suc (suc (suc (suc (suc zero)))))) = Or
group_of (suc (suc (suc (suc (suc (suc (suc n))))))) = Compare

abbrev pub operand_of : ℕ → Operand
operand_of s = cond (s == 7) Memory (Reg (register_of s))

abbrev pub rotation_of : ℕ → Rotation
rotation_of zero = Left
rotation_of (suc zero) = Right
rotation_of (suc (suc zero)) = LeftThroughCarry
rotation_of (suc (suc (suc n))) = RightThroughCarry

-- A code above 7 is none of a group or an operand, and one above 3 none of a rotation.
abbrev pub group_with_code : ℕ → Result Group Refusal
group_with_code p = cond (nat_lt p 8) (Ok (group_of p)) (Err NoInstruction)

abbrev pub operand_with_code : ℕ → Result Operand Refusal
operand_with_code s = cond (nat_lt s 8) (Ok (operand_of s)) (Err NoInstruction)

abbrev pub rotation_with_code : ℕ → Result Rotation Refusal
rotation_with_code r = cond (nat_lt r 4) (Ok (rotation_of r)) (Err NoInstruction)

abbrev pub port_of : ℕ → Instruction
port_of m = cond (nat_lt m 8) (Input m) (Output m)

-- The bytes 00 mmm lll.
abbrev pub quarter0 : ℕ → ℕ → Option Instruction
quarter0 m zero = cond (m == 0) (Some Halt) (cond (m == 7) None (Some (Increment (register_of m))))
quarter0 m (suc zero) = cond (m == 0) (Some Halt) (cond (m == 7) None (Some (Decrement (register_of m))))
quarter0 m (suc (suc zero)) = cond (nat_lt m 4) (Some (Rotate (rotation_of m))) None
quarter0 m (suc (suc (suc zero))) = Some (Return (condition_of m))
quarter0 m (suc (suc (suc (suc zero)))) = Some (Arithmetic (group_of m) Immediate)
quarter0 m (suc (suc (suc (suc (suc zero))))) = Some (Restart m)
quarter0 m (suc (suc (suc (suc (suc (suc zero)))))) = cond (m == 7) (Some StoreImmediate) (Some (LoadImmediate (register_of m)))
quarter0 m (suc (suc (suc (suc (suc (suc (suc n))))))) = Some (Return Always)

-- The bytes 01 mmm lll, of which p is the bits 5 to 1.
abbrev pub quarter1 : ℕ → ℕ → ℕ → Instruction
quarter1 p m zero = Jump (condition_of m)
quarter1 p m (suc zero) = port_of p
quarter1 p m (suc (suc zero)) = Call (condition_of m)
quarter1 p m (suc (suc (suc zero))) = port_of p
quarter1 p m (suc (suc (suc (suc zero)))) = Jump Always
quarter1 p m (suc (suc (suc (suc (suc zero))))) = port_of p
quarter1 p m (suc (suc (suc (suc (suc (suc zero)))))) = Call Always
quarter1 p m (suc (suc (suc (suc (suc (suc (suc n))))))) = port_of p

-- The bytes 11 mmm lll.
abbrev pub quarter3 : ℕ → ℕ → Instruction
quarter3 m l =
    cond (l == 7) (cond (m == 7) Halt (LoadMemory (register_of m)))
    (cond (m == 7) (StoreMemory (register_of l)) (Load (register_of m) (register_of l)))

abbrev pub by_fields : ℕ → ℕ → ℕ → ℕ → Option Instruction
by_fields zero p m l = quarter0 m l
by_fields (suc zero) p m l = Some (quarter1 p m l)
by_fields (suc (suc zero)) p m l = Some (Arithmetic (group_of m) (operand_of l))
by_fields (suc (suc (suc n))) p m l = Some (quarter3 m l)

abbrev pub decoded : ℕ → Option Instruction
decoded c = by_fields (c / 64) (c / 2 % 32) (c / 8 % 8) (c % 8)
