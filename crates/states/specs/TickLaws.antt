-- What every tick keeps to, whatever the store and the port card: laws of the one definition `ticked`.
use Rattle.std.specs.Prelude.{◌≡◌, ℕ, ◌+◌, Bool, true, false, cond, not, ◌⊎◌, Some, None, Ok, Err, Option, ◌==◌, ◌≢◌}
use Rattle.isa.specs.declared.cycles.Transfer.{Transfer}
use Rattle.isa.specs.declared.cycles.Transfer.TheVariants.{Fetch, Read, WriteRegister, WriteImmediate, Input, Output}
use Rattle.isa.specs.declared.instructions.Instruction.{Instruction}
use Rattle.isa.specs.Decoding.{decoded}
use Rattle.isa.specs.Cycles.{cycle_number, taken_under, transfer_in, table_states_of}
use Rattle.bus.specs.Store.{Cells, written}
use Rattle.bus.specs.Card.{Clear}
use Rattle.bus.specs.declared.cards.Trouble.{Trouble}
use Rattle.cpu.specs.declared.faults.Fault.{Fault}
use Rattle.cpu.specs.AddressRing.{advanced}
use Rattle.cpu.specs.Faults.{decoder_fault, card_fault}
use Rattle.cpu.specs.Place.{Place}
use Rattle.states.specs.declared.ticks.Levels.{Levels}
use Rattle.states.specs.declared.ticks.State.{State}
use Rattle.states.specs.declared.ticks.State.TheVariants.{T1, T1I, T2, Wait, T3, T4, T5, Stopped}
use Rattle.states.specs.declared.ticks.Ticked.{Ticked}
use Rattle.states.specs.declared.in_hand.InHand.{InHand}
use Rattle.states.specs.declared.in_hand.InHand.TheVariants.{Start, Opening as Opens, Opened, Underway as Goes}
use Rattle.states.specs.Situation.{Situation}
use Rattle.states.specs.Sequencing.{states_in_hand, sound}
use Rattle.states.specs.Ticks.{Outcome, first_byte, ticked}

-- The cells and the card's state that one transfer can leave: a read leaves both, a write changes one cell, an input or an
-- output that the rules find clear moves the card to the state that they give.
pub data ByOneTransfer {S : Type 0} (p : Place S) : Cells → S → Type 0 where
  by_a_read : ByOneTransfer p p.cells p.state
  by_a_write : (address byte : ℕ) → ByOneTransfer p (written p.cells address byte) p.state
  by_an_input : (port a : ℕ) (clear : Clear S) → p.rules.input p.state port a ≡ Ok clear → ByOneTransfer p p.cells clear.next
  by_an_output : (port byte : ℕ) (next : S) → p.rules.output p.state port byte ≡ Ok next → ByOneTransfer p p.cells next

-- A tick that leaves store and card alone.
abbrev pub Untouched : {S : Type 0} → Situation S → Outcome S → Type 0
Untouched s o = (o.after.place.cells ≡ s.place.cells) × (o.after.place.state ≡ s.place.state)

-- A tick with READY high that answers T3, and does what one transfer does.
abbrev pub Transfers : {S : Type 0} → Levels → Situation S → Outcome S → Type 0
Transfers l s o =
    (l.ready ≡ true) × ((t : Ticked) × (o.answer ≡ Ok t) × (t.state ≡ T3)) ×
    ByOneTransfer s.place o.after.place.cells o.after.place.state

-- Whether the cycle in hand reads a byte of the instruction at the program counter. The first byte of a jammed
-- instruction is not read there.
abbrev pub is_fetch : Option Transfer → Bool
is_fetch None = false
is_fetch (Some Fetch) = true
is_fetch (Some Read) = false
is_fetch (Some (WriteRegister s)) = false
is_fetch (Some WriteImmediate) = false
is_fetch (Some (Input port)) = false
is_fetch (Some (Output port)) = false

abbrev pub fetches : InHand → Bool
fetches Start = false
fetches (Opens o) = not o.jammed
fetches (Opened o) = not o.jammed
fetches (Goes w) = is_fetch (transfer_in w.instruction w.cycle)

-- T1I clears the stopped mark, and the STOPPED state that ends a halt sets it; every other state keeps it.
abbrev pub stopped_after : State → Option ℕ → Bool → Bool
stopped_after T1 ended stopped = stopped
stopped_after T1I ended stopped = false
stopped_after T2 ended stopped = stopped
stopped_after Wait ended stopped = stopped
stopped_after T3 ended stopped = stopped
stopped_after T4 ended stopped = stopped
stopped_after T5 ended stopped = stopped
stopped_after Stopped None stopped = stopped
stopped_after Stopped (Some states) stopped = true

-- What an accepted tick counts for: a wait, an idle state, the table states of the instruction that it ends.
abbrev pub wait_in : State → ℕ
wait_in T1 = 0
wait_in T1I = 0
wait_in T2 = 0
wait_in Wait = 1
wait_in T3 = 0
wait_in T4 = 0
wait_in T5 = 0
wait_in Stopped = 0

abbrev pub wait : Ticked → ℕ
wait t = wait_in t.state

abbrev pub idle : Ticked → ℕ
idle t = cond (t.cycle == 0) 1 0

abbrev pub states_of : Option ℕ → ℕ
states_of None = 0
states_of (Some states) = states

-- The fault of a refused tick: the decoder's where the first byte is due, the port card's in a later cycle.
abbrev pub FaultOf : InHand → Fault → Type 0
FaultOf Start f = ⊥
FaultOf (Opens o) f = ⊥
FaultOf (Opened o) f = f ≡ decoder_fault o.start
FaultOf (Goes w) f = (trouble : Trouble) × (f ≡ card_fault w.start (cycle_number w.cycle) trouble)

-- The states that the table gives the instruction in hand. The one whose first byte is due is the one that this byte
-- stands for.
abbrev pub TableStates : {S : Type 0} → Levels → Place S → InHand → ℕ → Type 0
TableStates l p Start n = ⊥
TableStates l p (Opens o) n = ⊥
TableStates l p (Opened o) n =
    (i : Instruction) × (decoded (first_byte o l.jam p) ≡ Some i) × (n ≡ table_states_of i (taken_under i p.processor.flags))
TableStates l p (Goes w) n = n ≡ table_states_of w.instruction w.taken

-- The laws of one tick.
pub record Lawful {S : Type 0} (l : Levels) (s : Situation S) (o : Outcome S) : Type 0 where
  -- No tick alters the card's rules.
  pub rules : o.after.place.rules ≡ s.place.rules
  -- It leaves what one transfer at most can leave, and only in T3 with READY high.
  pub transfers : Untouched s o ⊎ Transfers l s o
  -- A WAIT changes nothing but what it answers.
  pub waits : (t : Ticked) → o.answer ≡ Ok t → t.state ≡ Wait → o.after ≡ s
  -- Nor does an idle state.
  pub idles : (t : Ticked) → o.answer ≡ Ok t → t.cycle ≡ 0 → o.after ≡ s
  -- A refused tick leaves all as it was. It comes with READY high, and its fault names the instruction's start and cycle.
  pub refuses : (f : Fault) → o.answer ≡ Err f → (o.after ≡ s) × (l.ready ≡ true) × FaultOf s.hand f
  -- In T2 the program counter moves on by one, if the cycle fetches at it; else the ring stays.
  pub second : (t : Ticked) → o.answer ≡ Ok t → t.state ≡ T2 →
      o.after.place.processor.ring ≡ cond (fetches s.hand) (advanced s.place.processor.ring) s.place.processor.ring
  -- In every other state but an instruction's last, the ring stays.
  pub ring : (t : Ticked) → o.answer ≡ Ok t → t.ended ≡ None → (t.state ≢ T2) →
      o.after.place.processor.ring ≡ s.place.processor.ring
  -- Registers and flags change in an instruction's last state alone, and so does the ring number.
  pub registers : (t : Ticked) → o.answer ≡ Ok t → t.ended ≡ None →
      (o.after.place.processor.registers ≡ s.place.processor.registers) ×
      (o.after.place.processor.flags ≡ s.place.processor.flags) ×
      (o.after.place.processor.ring.number ≡ s.place.processor.ring.number)
  -- The stopped mark changes only in T1I and in the last state of a halt.
  pub stopped : (t : Ticked) → o.answer ≡ Ok t →
      o.after.place.processor.stopped ≡ stopped_after t.state t.ended s.place.processor.stopped
  -- Every accepted tick is accounted for: it adds one to the states in hand, unless it waits, idles or ends an
  -- instruction, which turns the states in hand into the table's states.
  pub accounts : (t : Ticked) → o.answer ≡ Ok t →
      1 + states_in_hand s.hand ≡ states_of t.ended + wait t + idle t + states_in_hand o.after.hand
  -- An instruction ends at a start, neither in a wait nor idly, and answers the states that the table gives it.
  pub ends : (t : Ticked) → o.answer ≡ Ok t → (states : ℕ) → t.ended ≡ Some states →
      (o.after.hand ≡ Start) × (wait t ≡ 0) × (idle t ≡ 0) × TableStates l s.place s.hand states
  -- The hand stays sound.
  pub stays_sound : sound o.after.hand ≡ true

-- Every tick of a machine keeps the laws, for each card state.
abbrev pub LawfulTicks : Type 0 → Type 0
LawfulTicks S = (l : Levels) (s : Situation S) → sound s.hand ≡ true → Lawful l s (ticked l s)

-- The states in hand are zero exactly at an instruction's start.
abbrev pub ZeroAtAStart : Type 0
ZeroAtAStart = (h : InHand) → sound h ≡ true → (states_in_hand h ≡ 0 → h ≡ Start) × (h ≡ Start → states_in_hand h ≡ 0)
