-- What an instruction under way comes to: the rest of its cycles, one by one, and its effect.
use Rattle.std.proofs.Common.{◌≡◌, ℕ, Bool, true, false, cond, ltb, Ok, Err, Result, refl}
use Rattle.isa.specs.declared.instructions.Operand.TheVariants.{Register as Reg, Memory, Immediate}
use Rattle.isa.specs.declared.instructions.Instruction.{Instruction}
use Rattle.isa.specs.declared.instructions.Instruction.TheVariants.{Load, LoadMemory, StoreMemory, LoadImmediate, StoreImmediate, Increment, Decrement, Arithmetic, Rotate, Jump, Call, Return, Restart, Input, Output, Halt}
use Rattle.isa.specs.declared.cycles.Cycle.{Cycle}
use Rattle.isa.specs.declared.cycles.Cycle.TheVariants.{First, Second, Third}
use Rattle.isa.specs.Conditions.{holds}
use Rattle.isa.specs.Cycles.{cycle_number, taken_under, transfer_in, states_in, table_states_of}
use Rattle.bus.specs.declared.cards.Trouble.{Trouble}
use Rattle.bus.specs.Card.{Clear}
use Rattle.cpu.specs.declared.faults.Fault.{Fault}
use Rattle.cpu.specs.Processor.{pc_in}
use Rattle.cpu.specs.Effects.{finished}
use Rattle.cpu.specs.Faults.{card_fault}
use Rattle.cpu.specs.Place.{Place, with_processor}
use Rattle.stepper.specs.Instructions.{Performed, done, doing, fetched, target_next, jumping, calling, returning, inputs, outputs, performs}
use Rattle.states.specs.declared.in_hand.Phase.{Phase}
use Rattle.states.specs.declared.in_hand.Phase.TheVariants.{T1, T2, T3, T4, T5}
use Rattle.states.specs.declared.in_hand.Underway.{Underway}
use Rattle.states.specs.declared.following.Following.{Following}
use Rattle.states.specs.declared.following.Following.TheVariants.{Phase as Then, Cycle as Enter, End}
use Rattle.states.specs.Sequencing.{next_cycle, following, turns_to}
use Rattle.states.specs.States.{moving, low_with, high_with}
use Rattle.states.specs.Transfers.{Moved, from_card, to_card, moves}

-- What goes on from the bytes that cycles two and three gave, and a place.
abbrev pub Onward : Type 0 → Type 0
Onward S = ℕ → ℕ → Place S → Result (Performed S) Fault

-- The end of an instruction.
abbrev pub last : {S : Type 0} → Instruction → Bool → Onward S
last i taken low high p = done (with_processor p (finished i taken low high p.processor)) (table_states_of i taken)

-- The transfer of a cycle is made or refused, and what comes after it goes on.
abbrev pub moved : {S : Type 0} → ℕ → Cycle → Onward S → ℕ → ℕ → Result (Moved S) Trouble → Result (Performed S) Fault
moved pc c onward low high (Ok m) = onward (low_with c m.got low) (high_with c m.got high) m.place
moved pc c onward low high (Err trouble) = Err (card_fault pc (cycle_number c) trouble)

abbrev pub from_t3 : {S : Type 0} → ℕ → Instruction → Cycle → Onward S → ℕ → Onward S
from_t3 pc i c onward address low high p = moved pc c onward low high (moves (transfer_in i c) address low p)

abbrev pub from_t1 : {S : Type 0} → ℕ → Instruction → Cycle → Onward S → Onward S
from_t1 pc i c onward low high p =
    from_t3 pc i c onward (pc_in p.processor) low high (with_processor p (moving (transfer_in i c) p.processor))

-- What is left once the transfer of a cycle is made.
abbrev pub after_two : {S : Type 0} → ℕ → Instruction → Bool → Onward S
after_two pc i taken low high p =
    cond (ltb 0 (states_in i taken Third)) (from_t1 pc i Third (last i taken) low high p) (last i taken low high p)

abbrev pub after_one : {S : Type 0} → ℕ → Instruction → Bool → Onward S
after_one pc i taken low high p =
    cond (ltb 0 (states_in i taken Second)) (from_t1 pc i Second (after_two pc i taken) low high p) (last i taken low high p)

abbrev pub after_cycle : {S : Type 0} → Cycle → ℕ → Instruction → Bool → Onward S
after_cycle First pc i taken low high p = after_one pc i taken low high p
after_cycle Second pc i taken low high p = after_two pc i taken low high p
after_cycle Third pc i taken low high p = last i taken low high p

abbrev pub rest : {S : Type 0} → Cycle → Underway → Place S → Result (Performed S) Fault
rest c w p = after_cycle c w.start w.instruction w.taken w.low w.high p

abbrev pub finish_at : {S : Type 0} → Phase → Cycle → Underway → Place S → Result (Performed S) Fault
finish_at T1 c w p = from_t1 w.start w.instruction c (after_cycle c w.start w.instruction w.taken) w.low w.high p
finish_at T2 c w p = from_t1 w.start w.instruction c (after_cycle c w.start w.instruction w.taken) w.low w.high p
finish_at T3 c w p =
    from_t3 w.start w.instruction c (after_cycle c w.start w.instruction w.taken) w.address w.low w.high p
finish_at T4 c w p = rest c w p
finish_at T5 c w p = rest c w p

-- What an instruction under way comes to from a place on.
abbrev pub finish : {S : Type 0} → Underway → Place S → Result (Performed S) Fault
finish w p = finish_at w.next w.cycle w p

abbrev pub finishes : {S : Type 0} → Following → Underway → Place S → Result (Performed S) Fault
finishes (Then next) w p = finish (turns_to w w.cycle next) p
finishes (Enter cycle) w p = finish (turns_to w cycle T1) p
finishes End w p = last w.instruction w.taken w.low w.high p

-- Past the last state of a cycle, the other cycles are left.
pub finishes_cycle : {S : Type 0} (c : Cycle) (w : Underway) (p : Place S) →
    finishes (next_cycle w.instruction w.taken c) w p ≡ rest c w p
finishes_cycle First w p = go (ltb 0 (states_in w.instruction w.taken Second))
  where
    go : (b : Bool) → finishes (cond b (Enter Second) End) w p ≡ cond b (finish (turns_to w Second T1) p) (finishes End w p)
    go true = refl
    go false = refl
finishes_cycle Second w p = go (ltb 0 (states_in w.instruction w.taken Third))
  where
    go : (b : Bool) → finishes (cond b (Enter Third) End) w p ≡ cond b (finish (turns_to w Third T1) p) (finishes End w p)
    go true = refl
    go false = refl
finishes_cycle Third w p = refl

pub finishes-T3 : {S : Type 0} (w : Underway) (p : Place S) →
    finishes (following w.instruction w.taken w.cycle T3) w p ≡ rest w.cycle w p
finishes-T3 w p = go (ltb 3 (states_in w.instruction w.taken w.cycle))
  where
    go : (b : Bool) → finishes (cond b (Then T4) (next_cycle w.instruction w.taken w.cycle)) w p ≡ rest w.cycle w p
    go true = refl
    go false = finishes_cycle w.cycle w p

pub finishes-T4 : {S : Type 0} (w : Underway) (p : Place S) →
    finishes (following w.instruction w.taken w.cycle T4) w p ≡ rest w.cycle w p
finishes-T4 w p = go (ltb 4 (states_in w.instruction w.taken w.cycle))
  where
    go : (b : Bool) → finishes (cond b (Then T5) (next_cycle w.instruction w.taken w.cycle)) w p ≡ rest w.cycle w p
    go true = refl
    go false = finishes_cycle w.cycle w p

-- An instruction of the table is what is left once its first byte is taken.
pub performs_rest : {S : Type 0} (pc : ℕ) (i : Instruction) (p : Place S) →
    performs pc i p ≡ after_one pc i (taken_under i p.processor.flags) 0 0 p
performs_rest pc (Load d s) p = refl
performs_rest pc (LoadMemory d) p = refl
performs_rest pc (StoreMemory s) p = refl
performs_rest pc (LoadImmediate d) p = refl
performs_rest pc StoreImmediate p = refl
performs_rest pc (Increment d) p = refl
performs_rest pc (Decrement d) p = refl
performs_rest pc (Arithmetic g (Reg s)) p = refl
performs_rest pc (Arithmetic g Memory) p = refl
performs_rest pc (Arithmetic g Immediate) p = refl
performs_rest pc (Rotate r) p = refl
performs_rest pc (Jump c) p = go (holds c p.processor.flags)
  where
    go : (b : Bool) →
        cond b (doing p (jumping (fetched (fetched p)) (target_next p)) 11) (done (fetched (fetched p)) 9) ≡ after_one pc (Jump c) b 0 0 p
    go true = refl
    go false = refl
performs_rest pc (Call c) p = go (holds c p.processor.flags)
  where
    go : (b : Bool) →
        cond b (doing p (calling (fetched (fetched p)) (target_next p)) 11) (done (fetched (fetched p)) 9) ≡ after_one pc (Call c) b 0 0 p
    go true = refl
    go false = refl
performs_rest pc (Return c) p = go (holds c p.processor.flags)
  where
    go : (b : Bool) → cond b (doing p (returning p) 5) (done p 3) ≡ after_one pc (Return c) b 0 0 p
    go true = refl
    go false = refl
performs_rest pc (Restart a) p = refl
performs_rest {S} pc (Input m) p = go (p.rules.input p.state m p.processor.registers.a)
  where
    go : (r : Result (Clear S) Trouble) → inputs pc p r ≡ moved pc Second (after_two pc (Input m) true) 0 0 (from_card p r)
    go (Ok clear) = refl
    go (Err trouble) = refl
performs_rest {S} pc (Output m) p = go (p.rules.output p.state m p.processor.registers.a)
  where
    go : (r : Result S Trouble) → outputs pc p r ≡ moved pc Second (after_two pc (Output m) true) 0 0 (to_card p r)
    go (Ok next) = refl
    go (Err trouble) = refl
performs_rest pc Halt p = refl
