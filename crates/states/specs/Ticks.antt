-- One tick, by the machine's place in the instruction and the levels of READY and INT.
use Rattle.std.specs.Prelude.{ℕ, Bool, true, false, cond, Some, None, Ok, Err, Option, Result}
use Rattle.isa.specs.declared.instructions.Instruction.{Instruction}
use Rattle.isa.specs.declared.cycles.Cycle.TheVariants.{First}
use Rattle.isa.specs.Decoding.{decoded}
use Rattle.isa.specs.Cycles.{cycle_number, taken_under, transfer_in}
use Rattle.bus.specs.declared.cards.Trouble.{Trouble}
use Rattle.cpu.specs.declared.faults.Fault.{Fault}
use Rattle.cpu.specs.Faults.{decoder_fault, card_fault}
use Rattle.cpu.specs.Place.{Place, byte_in, with_processor}
use Rattle.states.specs.declared.ticks.Levels.{Levels}
use Rattle.states.specs.declared.ticks.State.TheVariants as state
use Rattle.states.specs.declared.ticks.Ticked.{Ticked}
use Rattle.states.specs.declared.in_hand.Phase.{Phase}
use Rattle.states.specs.declared.in_hand.Phase.TheVariants.{T1, T2, T3, T4, T5}
use Rattle.states.specs.declared.in_hand.Opening.{Opening}
use Rattle.states.specs.declared.in_hand.Underway.{Underway}
use Rattle.states.specs.declared.in_hand.InHand.{InHand}
use Rattle.states.specs.declared.in_hand.InHand.TheVariants.{Start, Opening as Opens, Opened, Underway as Goes}
use Rattle.states.specs.Situation.{Situation, situation}
use Rattle.states.specs.States.{Quiet, begins, opens, waits_opened, waits_underway, proceeds, addresses, having, fourth_state}
use Rattle.states.specs.Transfers.{Moved, moves}

-- What a tick answers, and the situation after it.
pub record Outcome (S : Type 0) : Type 0 where
  pub answer : Result Ticked Fault
  pub after : Situation S

-- A state without a transfer touches neither store nor card.
abbrev pub quietly : {S : Type 0} → Place S → Quiet → Outcome S
quietly p q = record { answer = Ok q.told; after = situation q.hand (with_processor p q.processor) }

-- A refused tick leaves the situation as it was.
abbrev pub refused : {S : Type 0} → InHand → Place S → Fault → Outcome S
refused h p f = record { answer = Err f; after = situation h p }

-- T3 of cycle one takes the first byte: after T1I the jam byte, else the one at the program counter of the start.
abbrev pub first_byte : {S : Type 0} → Opening → ℕ → Place S → ℕ
first_byte o jam p = cond o.jammed jam (byte_in p o.start)

abbrev pub decoded_as : Opening → Instruction → Bool → Underway
decoded_as o i taken = record {
  instruction = i;
  start = o.start;
  taken = taken;
  cycle = First;
  next = T3;
  address = o.start;
  low = 0;
  high = 0;
}

abbrev pub takes : {S : Type 0} → Opening → Place S → Option Instruction → Outcome S
takes o p (Some i) = quietly p (proceeds state.T3 (decoded_as o i (taken_under i p.processor.flags)) p.processor)
takes o p None = refused (Opened o) p (decoder_fault o.start)

abbrev pub opened : {S : Type 0} → Bool → ℕ → Opening → Place S → Outcome S
opened true jam o p = takes o p (decoded (first_byte o jam p))
opened false jam o p = quietly p (waits_opened o p.processor)

-- T3 of a later cycle has its one transfer.
abbrev pub transferred : {S : Type 0} → Underway → Place S → Result (Moved S) Trouble → Outcome S
transferred w p (Ok moved) = quietly moved.place (proceeds state.T3 (having w moved.got) p.processor)
transferred w p (Err trouble) = refused (Goes w) p (card_fault w.start (cycle_number w.cycle) trouble)

abbrev pub transfers : {S : Type 0} → Bool → Underway → Place S → Outcome S
transfers true w p = transferred w p (moves (transfer_in w.instruction w.cycle) w.address w.low p)
transfers false w p = quietly p (waits_underway w p.processor)

-- The states of an instruction under way, in their order.
abbrev pub goes : {S : Type 0} → Phase → Bool → Underway → Place S → Outcome S
goes T1 ready w p = quietly p (proceeds state.T1 w p.processor)
goes T2 ready w p = quietly p (addresses w p.processor)
goes T3 ready w p = transfers ready w p
goes T4 ready w p = quietly p (proceeds (fourth_state w.instruction) w p.processor)
goes T5 ready w p = quietly p (proceeds state.T5 w p.processor)

abbrev pub ticked_in : {S : Type 0} → Levels → InHand → Place S → Outcome S
ticked_in l Start p = quietly p (begins l.int p.processor)
ticked_in l (Opens o) p = quietly p (opens o p.processor)
ticked_in l (Opened o) p = opened l.ready l.jam o p
ticked_in l (Goes w) p = goes w.next l.ready w p

abbrev pub ticked : {S : Type 0} → Levels → Situation S → Outcome S
ticked l s = ticked_in l s.hand s.place
