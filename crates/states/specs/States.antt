-- The states one by one, as far as they touch neither store nor card.
use Rattle.std.specs.Prelude.{ℕ, Bool, true, false, cond, Some, None, Option}
use Rattle.isa.specs.declared.instructions.Instruction.{Instruction}
use Rattle.isa.specs.declared.instructions.Instruction.TheVariants.{Load, LoadMemory, StoreMemory, LoadImmediate, StoreImmediate, Increment, Decrement, Arithmetic, Rotate, Jump, Call, Return, Restart, Input, Output, Halt}
use Rattle.isa.specs.declared.cycles.Cycle.{Cycle}
use Rattle.isa.specs.declared.cycles.Cycle.TheVariants.{First, Second, Third}
use Rattle.isa.specs.declared.cycles.CycleKind.TheVariants.{Pci}
use Rattle.isa.specs.declared.cycles.Transfer.{Transfer}
use Rattle.isa.specs.declared.cycles.Transfer.TheVariants.{Fetch, Read, WriteRegister, WriteImmediate, Input as FromPort, Output as ToPort}
use Rattle.isa.specs.Cycles.{cycle_number, transfer_in, kind_in, table_states_of}
use Rattle.cpu.specs.Processor.{View, with_stopped, pc_in, advancing}
use Rattle.cpu.specs.Effects.{finished}
use Rattle.states.specs.declared.ticks.State.{State}
use Rattle.states.specs.declared.ticks.State.TheVariants as state
use Rattle.states.specs.declared.ticks.Ticked.{Ticked}
use Rattle.states.specs.declared.in_hand.Opening.{Opening}
use Rattle.states.specs.declared.in_hand.Underway.{Underway}
use Rattle.states.specs.declared.in_hand.InHand.{InHand}
use Rattle.states.specs.declared.in_hand.InHand.TheVariants.{Start, Opening as Opens, Opened, Underway as Goes}
use Rattle.states.specs.declared.following.Following.{Following}
use Rattle.states.specs.declared.following.Following.TheVariants.{Phase as Then, Cycle as Enter, End}
use Rattle.states.specs.Sequencing.{following, hand_after}

-- What a state tells, and the hand and the processor after it.
pub record Quiet : Type 0 where
  pub told : Ticked
  pub hand : InHand
  pub processor : View

abbrev pub quiet : Ticked → InHand → View → Quiet
quiet t h v = record { told = t; hand = h; processor = v }

-- The states of cycle one before the first byte is taken.
abbrev pub cycle_one : State → Ticked
cycle_one s = record { state = s; cycle = 1; kind = Some Pci; ended = None }

abbrev pub idle : Ticked
idle = record { state = state.Stopped; cycle = 0; kind = None; ended = None }

abbrev pub starting : Bool → View → InHand
starting jammed v = Opens (record { jammed = jammed; start = pc_in v })

-- INT low: T1, or STOPPED on a stopped machine.
abbrev pub begins_own : Bool → View → Quiet
begins_own true v = quiet idle Start v
begins_own false v = quiet (cycle_one state.T1) (starting false v) v

-- At a start: INT high gives T1I, which begins a jammed instruction and ends stopped.
abbrev pub begins : Bool → View → Quiet
begins true v = quiet (cycle_one state.T1I) (starting true v) (with_stopped v false)
begins false v = begins_own v.stopped v

-- T2 of cycle one: the program counter moves on, except after T1I.
abbrev pub opens : Opening → View → Quiet
opens o v = quiet (cycle_one state.T2) (Opened o) (cond o.jammed v (advancing v))

-- A state of an instruction under way, by what follows it.
abbrev pub ended_by : Underway → Following → Option ℕ
ended_by w (Then next) = None
ended_by w (Enter cycle) = None
ended_by w End = Some (table_states_of w.instruction w.taken)

abbrev pub tells : State → Underway → Option ℕ → Ticked
tells s w ended = record {
  state = s;
  cycle = cycle_number w.cycle;
  kind = kind_in w.instruction w.cycle;
  ended = ended;
}

-- Registers, flags, ring number and stopped mark change in the instruction's last state alone.
abbrev pub processor_after : Underway → Following → View → View
processor_after w (Then next) v = v
processor_after w (Enter cycle) v = v
processor_after w End v = finished w.instruction w.taken w.low w.high v

abbrev pub proceeds_by : State → Underway → View → Following → Quiet
proceeds_by s w v f = quiet (tells s w (ended_by w f)) (hand_after w f) (processor_after w f v)

abbrev pub proceeds : State → Underway → View → Quiet
proceeds s w v = proceeds_by s w v (following w.instruction w.taken w.cycle w.next)

-- READY low: WAIT, which alters nothing.
abbrev pub waits_opened : Opening → View → Quiet
waits_opened o v = quiet (cycle_one state.Wait) (Opened o) v

abbrev pub waits_underway : Underway → View → Quiet
waits_underway w v = quiet (tells state.Wait w None) (Goes w) v

-- T2 of a later cycle: the program counter moves on if the cycle fetches at it.
abbrev pub moving : Option Transfer → View → View
moving None v = v
moving (Some Fetch) v = advancing v
moving (Some Read) v = v
moving (Some (WriteRegister s)) v = v
moving (Some WriteImmediate) v = v
moving (Some (FromPort port)) v = v
moving (Some (ToPort port)) v = v

abbrev pub addressed : Underway → ℕ → Underway
addressed w address = record {
  instruction = w.instruction;
  start = w.start;
  taken = w.taken;
  cycle = w.cycle;
  next = w.next;
  address = address;
  low = w.low;
  high = w.high;
}

abbrev pub addresses : Underway → View → Quiet
addresses w v = proceeds state.T2 (addressed w (pc_in v)) (moving (transfer_in w.instruction w.cycle) v)

-- T3 of a later cycle: byte 2 comes in cycle two, byte 3 in cycle three.
abbrev pub low_with : Cycle → ℕ → ℕ → ℕ
low_with First got low = low
low_with Second got low = got
low_with Third got low = low

abbrev pub high_with : Cycle → ℕ → ℕ → ℕ
high_with First got high = high
high_with Second got high = high
high_with Third got high = got

abbrev pub having : Underway → ℕ → Underway
having w got = record {
  instruction = w.instruction;
  start = w.start;
  taken = w.taken;
  cycle = w.cycle;
  next = w.next;
  address = w.address;
  low = low_with w.cycle got w.low;
  high = high_with w.cycle got w.high;
}

abbrev pub is_halt : Instruction → Bool
is_halt (Load d s) = false
is_halt (LoadMemory d) = false
is_halt (StoreMemory s) = false
is_halt (LoadImmediate d) = false
is_halt StoreImmediate = false
is_halt (Increment d) = false
is_halt (Decrement d) = false
is_halt (Arithmetic p o) = false
is_halt (Rotate r) = false
is_halt (Jump c) = false
is_halt (Call c) = false
is_halt (Return c) = false
is_halt (Restart a) = false
is_halt (Input m) = false
is_halt (Output m) = false
is_halt Halt = true

-- The fourth state of a halt is STOPPED, which looks at no level.
abbrev pub fourth_state : Instruction → State
fourth_state i = cond (is_halt i) state.Stopped state.T4
