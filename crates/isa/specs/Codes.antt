-- The code column of the instruction table: which bytes are codes of which instruction.
use Rattle.std.specs.Prelude.{ℕ, ◌+◌, ◌*◌, ◌/◌, ◌%◌, Bool, ◌&&◌, ◌||◌, ◌==◌, nat_le, nat_lt}
use Rattle.isa.specs.declared.conditions.Condition.TheVariants.{Always, When}
use Rattle.isa.specs.declared.instructions.Group.{Group}
use Rattle.isa.specs.declared.instructions.Group.TheVariants.{Add, AddCarry, Subtract, SubtractBorrow, And, Xor, Or, Compare}
use Rattle.isa.specs.declared.instructions.Operand.TheVariants.{Register as Reg, Memory, Immediate}
use Rattle.isa.specs.declared.instructions.Rotation.{Rotation}
use Rattle.isa.specs.declared.instructions.Rotation.TheVariants.{Left, Right, LeftThroughCarry, RightThroughCarry}
use Rattle.isa.specs.declared.instructions.Instruction.{Instruction}
use Rattle.isa.specs.declared.instructions.Instruction.TheVariants.{Load, LoadMemory, StoreMemory, LoadImmediate, StoreImmediate, Increment, Decrement, Arithmetic, Rotate, Jump, Call, Return, Restart, Input, Output, Halt}
use Rattle.isa.specs.RegisterFile.{register_code}
use Rattle.isa.specs.Conditions.{condition_code}

abbrev pub group_code : Group → ℕ
group_code Add = 0
group_code AddCarry = 1
group_code Subtract = 2
group_code SubtractBorrow = 3
group_code And = 4
group_code Xor = 5
group_code Or = 6
group_code Compare = 7

abbrev pub rotation_code : Rotation → ℕ
rotation_code Left = 0
rotation_code Right = 1
rotation_code LeftThroughCarry = 2
rotation_code RightThroughCarry = 3

-- The byte with bits hh mmm lll.
abbrev pub bits : ℕ → ℕ → ℕ → ℕ
bits h m l = h * 64 + m * 8 + l

-- The byte 01 mmmmm 1.
abbrev pub port_bits : ℕ → ℕ
port_bits m = 64 + 2 * m + 1

-- c is hh xxx lll, with any bits xxx.
abbrev pub any_middle : ℕ → ℕ → ℕ → Bool
any_middle h l c = c / 64 == h && c % 8 == l

-- Whether c is a code of the instruction.
abbrev pub has_code : Instruction → ℕ → Bool
-- 11 ddd sss
has_code (Load d s) c = c == bits 3 (register_code d) (register_code s)
-- 11 ddd 111
has_code (LoadMemory d) c = c == bits 3 (register_code d) 7
-- 11 111 sss
has_code (StoreMemory s) c = c == bits 3 7 (register_code s)
-- 00 ddd 110
has_code (LoadImmediate d) c = c == bits 0 (register_code d) 6
-- 00 111 110
has_code StoreImmediate c = c == bits 0 7 6
-- 00 ddd 000, d from 1 to 6
has_code (Increment d) c = nat_lt 0 (register_code d) && c == bits 0 (register_code d) 0
-- 00 ddd 001, d from 1 to 6
has_code (Decrement d) c = nat_lt 0 (register_code d) && c == bits 0 (register_code d) 1
-- 10 ppp sss
has_code (Arithmetic p (Reg s)) c = c == bits 2 (group_code p) (register_code s)
-- 10 ppp 111
has_code (Arithmetic p Memory) c = c == bits 2 (group_code p) 7
-- 00 ppp 100
has_code (Arithmetic p Immediate) c = c == bits 0 (group_code p) 4
-- 00 0rr 010
has_code (Rotate r) c = c == bits 0 (rotation_code r) 2
-- 01 xxx 100
has_code (Jump Always) c = any_middle 1 4 c
-- 01 fcc 000
has_code (Jump (When flag f)) c = c == bits 1 (condition_code flag f) 0
-- 01 xxx 110
has_code (Call Always) c = any_middle 1 6 c
-- 01 fcc 010
has_code (Call (When flag f)) c = c == bits 1 (condition_code flag f) 2
-- 00 xxx 111
has_code (Return Always) c = any_middle 0 7 c
-- 00 fcc 011
has_code (Return (When flag f)) c = c == bits 0 (condition_code flag f) 3
-- 00 aaa 101
has_code (Restart a) c = nat_lt a 8 && c == bits 0 a 5
-- 01 00m mm1
has_code (Input m) c = nat_lt m 8 && c == port_bits m
-- 01 rrm mm1, rr from 1 to 3: the port is 8 × r + m
has_code (Output m) c = (nat_le 8 m && nat_lt m 32) && c == port_bits m
-- 00 000 00x, 11 111 111
has_code Halt c = nat_lt c 2 || c == 255

-- The six bytes of no instruction.
abbrev pub undefined : ℕ → Bool
undefined c = c == 0x22 || (c == 0x2a || (c == 0x32 || (c == 0x38 || (c == 0x39 || c == 0x3a))))
