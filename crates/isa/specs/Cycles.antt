-- The states column of the instruction table: the cycles of each instruction, what each moves and how many states it takes.
use Rattle.std.specs.Prelude.{◌≡◌, ℕ, ◌+◌, Bool, true, cond, is_some, Some, None, Option, nat_lt}
use Rattle.isa.specs.declared.conditions.Flags.{Flags}
use Rattle.isa.specs.declared.instructions.Operand.{Operand}
use Rattle.isa.specs.declared.instructions.Operand.TheVariants.{Register as Reg, Memory, Immediate}
use Rattle.isa.specs.declared.instructions.Instruction.{Instruction}
use Rattle.isa.specs.declared.instructions.Instruction.TheVariants.{Load, LoadMemory, StoreMemory, LoadImmediate, StoreImmediate, Increment, Decrement, Arithmetic, Rotate, Jump, Call, Return, Restart, Input, Output, Halt}
use Rattle.isa.specs.declared.cycles.Cycle.{Cycle}
use Rattle.isa.specs.declared.cycles.Cycle.TheVariants.{First, Second, Third}
use Rattle.isa.specs.declared.cycles.CycleKind.{CycleKind}
use Rattle.isa.specs.declared.cycles.CycleKind.TheVariants.{Pci, Pcr, Pcw, Pcc}
use Rattle.isa.specs.declared.cycles.Transfer.{Transfer}
use Rattle.isa.specs.declared.cycles.Transfer.TheVariants.{Fetch, Read, WriteRegister, WriteImmediate, Input as FromPort, Output as ToPort}
use Rattle.isa.specs.Conditions.{holds}

abbrev pub cycle_number : Cycle → ℕ
cycle_number First = 1
cycle_number Second = 2
cycle_number Third = 3

-- An instruction is taken if its condition holds, or if it has none.
abbrev pub taken_under : Instruction → Flags → Bool
taken_under (Load d s) f = true
taken_under (LoadMemory d) f = true
taken_under (StoreMemory s) f = true
taken_under (LoadImmediate d) f = true
taken_under StoreImmediate f = true
taken_under (Increment d) f = true
taken_under (Decrement d) f = true
taken_under (Arithmetic p o) f = true
taken_under (Rotate r) f = true
taken_under (Jump c) f = holds c f
taken_under (Call c) f = holds c f
taken_under (Return c) f = holds c f
taken_under (Restart a) f = true
taken_under (Input m) f = true
taken_under (Output m) f = true
taken_under Halt f = true

-- One row: the states of cycle one, and of cycles two and three with their transfers, where there are such cycles.
pub record Later : Type 0 where
  pub moves : Option Transfer
  pub lasts : ℕ

pub record Row : Type 0 where
  pub first : ℕ
  pub second : Later
  pub third : Later

abbrev pub moving : Transfer → ℕ → Later
moving t n = record { moves = Some t; lasts = n }

abbrev pub none : Later
none = record { moves = None; lasts = 0 }

abbrev pub one : ℕ → Row
one a = record { first = a; second = none; third = none }

abbrev pub two : ℕ → Later → Row
two a b = record { first = a; second = b; third = none }

abbrev pub three : ℕ → Later → Later → Row
three a b c = record { first = a; second = b; third = c }

abbrev pub operand_row : Operand → Row
operand_row (Reg s) = one 5
operand_row Memory = two 3 (moving Read 5)
operand_row Immediate = two 3 (moving Fetch 5)

-- The row of an instruction, by whether it is taken.
abbrev pub row_of : Instruction → Bool → Row
row_of (Load d s) taken = one 5
row_of (LoadMemory d) taken = two 3 (moving Read 5)
row_of (StoreMemory s) taken = two 4 (moving (WriteRegister s) 3)
row_of (LoadImmediate d) taken = two 3 (moving Fetch 5)
row_of StoreImmediate taken = three 3 (moving Fetch 3) (moving WriteImmediate 3)
row_of (Increment d) taken = one 5
row_of (Decrement d) taken = one 5
row_of (Arithmetic p o) taken = operand_row o
row_of (Rotate r) taken = one 5
row_of (Jump c) taken = three 3 (moving Fetch 3) (moving Fetch (cond taken 5 3))
row_of (Call c) taken = three 3 (moving Fetch 3) (moving Fetch (cond taken 5 3))
row_of (Return c) taken = one (cond taken 5 3)
row_of (Restart a) taken = one 5
row_of (Input m) taken = two 3 (moving (FromPort m) 5)
row_of (Output m) taken = two 3 (moving (ToPort m) 3)
row_of Halt taken = one 4

-- What a cycle moves; it is the same whether the instruction is taken or not.
abbrev pub transfer_in : Instruction → Cycle → Option Transfer
transfer_in i First = Some Fetch
transfer_in i Second = (row_of i true).second.moves
transfer_in i Third = (row_of i true).third.moves

abbrev pub states_in : Instruction → Bool → Cycle → ℕ
states_in i taken First = (row_of i taken).first
states_in i taken Second = (row_of i taken).second.lasts
states_in i taken Third = (row_of i taken).third.lasts

abbrev pub table_states_of : Instruction → Bool → ℕ
table_states_of i taken = states_in i taken First + states_in i taken Second + states_in i taken Third

abbrev pub kind_of : Transfer → CycleKind
kind_of Fetch = Pcr
kind_of Read = Pcr
kind_of (WriteRegister s) = Pcw
kind_of WriteImmediate = Pcw
kind_of (FromPort m) = Pcc
kind_of (ToPort m) = Pcc

abbrev pub kind_of_later : Option Transfer → Option CycleKind
kind_of_later (Some t) = Some (kind_of t)
kind_of_later None = None

abbrev pub kind_in : Instruction → Cycle → Option CycleKind
kind_in i First = Some Pci
kind_in i Second = kind_of_later (transfer_in i Second)
kind_in i Third = kind_of_later (transfer_in i Third)

-- A cycle moves something exactly where it has states.
abbrev pub MovesIfItHasStates : Instruction → Cycle → Option Transfer → Type 0
MovesIfItHasStates i c r = (taken : Bool) → is_some r ≡ nat_lt 0 (states_in i taken c)
