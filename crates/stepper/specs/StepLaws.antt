-- What every step keeps to, whatever the store and the port card: laws of the one definition `stepped`.
use Rattle.std.specs.Prelude.{◌≡◌, ℕ, ◌*◌, Bool, true, false, cond, Some, None, Ok, Err}
use Rattle.isa.specs.declared.instructions.Operand.TheVariants.{Register as Reg, Memory, Immediate}
use Rattle.isa.specs.declared.instructions.Instruction.{Instruction}
use Rattle.isa.specs.declared.instructions.Instruction.TheVariants.{Load, LoadMemory, StoreMemory, LoadImmediate, StoreImmediate, Increment, Decrement, Arithmetic, Rotate, Jump, Call, Return, Restart, Input, Output, Halt}
use Rattle.isa.specs.Decoding.{decoded}
use Rattle.isa.specs.Cycles.{taken_under, table_states_of}
use Rattle.cpu.specs.declared.faults.Fault.{Fault}
use Rattle.cpu.specs.AddressRing.{Ring, jumped, called, returned}
use Rattle.cpu.specs.Nesting.{advances}
use Rattle.cpu.specs.Processor.{pc_in}
use Rattle.cpu.specs.Faults.{decoder_fault}
use Rattle.cpu.specs.Place.{Place}
use Rattle.stepper.specs.declared.feeds.Feed.{Feed}
use Rattle.stepper.specs.declared.feeds.Feed.TheVariants.{Own, Jam}
use Rattle.stepper.specs.Instructions.{target_next}
use Rattle.stepper.specs.Steps.{Outcome, first_byte, opened, stepped}

-- How many bytes an instruction has after the first.
abbrev pub more_bytes : Instruction → ℕ
more_bytes (Load d s) = 0
more_bytes (LoadMemory d) = 0
more_bytes (StoreMemory s) = 0
more_bytes (LoadImmediate d) = 1
more_bytes StoreImmediate = 1
more_bytes (Increment d) = 0
more_bytes (Decrement d) = 0
more_bytes (Arithmetic g (Reg s)) = 0
more_bytes (Arithmetic g Memory) = 0
more_bytes (Arithmetic g Immediate) = 1
more_bytes (Rotate r) = 0
more_bytes (Jump c) = 2
more_bytes (Call c) = 2
more_bytes (Return c) = 0
more_bytes (Restart a) = 0
more_bytes (Input m) = 0
more_bytes (Output m) = 0
more_bytes Halt = 0

-- Where an instruction leads once its bytes are read: on, unless it is a jump, a call or a return that is taken, or a
-- restart.
abbrev pub leads_to : Instruction → Bool → ℕ → Ring → Ring
leads_to (Load d s) taken target r = r
leads_to (LoadMemory d) taken target r = r
leads_to (StoreMemory s) taken target r = r
leads_to (LoadImmediate d) taken target r = r
leads_to StoreImmediate taken target r = r
leads_to (Increment d) taken target r = r
leads_to (Decrement d) taken target r = r
leads_to (Arithmetic g o) taken target r = r
leads_to (Rotate s) taken target r = r
leads_to (Jump c) taken target r = cond taken (jumped r target) r
leads_to (Call c) taken target r = cond taken (called r target) r
leads_to (Return c) taken target r = cond taken (returned r) r
leads_to (Restart a) taken target r = called r (8 * a)
leads_to (Input m) taken target r = r
leads_to (Output m) taken target r = r
leads_to Halt taken target r = r

-- INd and DCd.
abbrev pub Counts : Instruction → Type 0
Counts (Load d s) = ⊥
Counts (LoadMemory d) = ⊥
Counts (StoreMemory s) = ⊥
Counts (LoadImmediate d) = ⊥
Counts StoreImmediate = ⊥
Counts (Increment d) = Unit {0}
Counts (Decrement d) = Unit {0}
Counts (Arithmetic g o) = ⊥
Counts (Rotate r) = ⊥
Counts (Jump c) = ⊥
Counts (Call c) = ⊥
Counts (Return c) = ⊥
Counts (Restart a) = ⊥
Counts (Input m) = ⊥
Counts (Output m) = ⊥
Counts Halt = ⊥

-- An instruction carried out, from the place where its first byte is taken.
pub record DoneBy {S : Type 0} (i : Instruction) (from after : Place S) (states : ℕ) : Type 0 where
  -- It answers the states that the table gives it.
  pub states_are : states ≡ table_states_of i (taken_under i from.processor.flags)
  -- The program counter passes its other bytes, and goes where the instruction leads.
  pub ring : after.processor.ring ≡
      leads_to i (taken_under i from.processor.flags) (target_next from) (advances (more_bytes i) from.processor.ring)
  -- INd and DCd keep carry.
  pub carry : Counts i → after.processor.flags.carry ≡ from.processor.flags.carry
  -- The card's rules stay.
  pub rules : after.rules ≡ from.rules

-- A step that is to do something: a jam, or an own one of a processor that is not stopped.
abbrev pub Awake : {S : Type 0} → Feed → Place S → Type 0
Awake Own p = p.processor.stopped ≡ false
Awake (Jam byte) p = Unit {0}

-- The laws of one step.
pub record Lawful {S : Type 0} (feed : Feed) (p : Place S) (o : Outcome S) : Type 0 where
  -- A refused step leaves all as it was.
  pub refuses : (f : Fault) → o.answer ≡ Err f → o.after ≡ p
  -- So does an own step of a stopped processor.
  pub stays_stopped : feed ≡ Own → p.processor.stopped ≡ true → (o.answer ≡ Ok None) × (o.after ≡ p)
  -- A byte of no instruction is refused by the decoder.
  pub undefined : Awake feed p → decoded (first_byte feed p) ≡ None → o.answer ≡ Err (decoder_fault (pc_in p.processor))
  -- A step carried out does the instruction of its first byte.
  pub is_carried_out : (states : ℕ) → o.answer ≡ Ok (Some states) →
      (i : Instruction) × (decoded (first_byte feed p) ≡ Some i) × DoneBy i (opened feed p) o.after states

-- Every step keeps the laws, for each card state.
abbrev pub LawfulSteps : Type 0 → Type 0
LawfulSteps S = (feed : Feed) (p : Place S) → Lawful feed p (stepped feed p)
