-- One step.
use Rattle.std.specs.Prelude.{◌≡◌, ℕ, false, cond, Some, None, Ok, Err, Option, Result}
use Rattle.isa.specs.declared.instructions.Instruction.{Instruction}
use Rattle.isa.specs.Decoding.{decoded}
use Rattle.cpu.specs.declared.faults.Fault.{Fault}
use Rattle.cpu.specs.Processor.{with_stopped, pc_in}
use Rattle.cpu.specs.Faults.{decoder_fault}
use Rattle.cpu.specs.Place.{Place, with_processor}
use Rattle.stepper.specs.declared.feeds.Feed.{Feed}
use Rattle.stepper.specs.declared.feeds.Feed.TheVariants.{Own, Jam}
use Rattle.stepper.specs.Instructions.{Performed, next_byte, fetched, performs}

-- The first byte, and the place once it is taken: an own one is read at the program counter, which moves on by one; a jam
-- byte leaves the program counter and ends stopped.
abbrev pub first_byte : {S : Type 0} → Feed → Place S → ℕ
first_byte Own p = next_byte p
first_byte (Jam byte) p = byte

abbrev pub opened : {S : Type 0} → Feed → Place S → Place S
opened Own p = fetched p
opened (Jam byte) p = with_processor p (with_stopped p.processor false)

-- The instruction of the first byte carried out, from the place once it is taken.
abbrev pub carried_out : {S : Type 0} → ℕ → Option Instruction → Place S → Result (Performed S) Fault
carried_out pc (Some i) p = performs pc i p
carried_out pc None p = Err (decoder_fault pc)

-- What a step answers, and the place after it. It answers the states of the instruction carried out, and none where an own
-- step finds the processor stopped.
pub record Outcome (S : Type 0) : Type 0 where
  pub answer : Result (Option ℕ) Fault
  pub after : Place S

-- A refused step leaves the place as it was.
abbrev pub settled : {S : Type 0} → Place S → Result (Performed S) Fault → Outcome S
settled p (Ok performed) = record { answer = Ok (Some performed.states); after = performed.place }
settled p (Err fault) = record { answer = Err fault; after = p }

abbrev pub taken_from : {S : Type 0} → Feed → Place S → Outcome S
taken_from f p = settled p (carried_out (pc_in p.processor) (decoded (first_byte f p)) (opened f p))

-- An own step of a stopped processor does nothing.
abbrev pub stepped : {S : Type 0} → Feed → Place S → Outcome S
stepped Own p = cond p.processor.stopped (record { answer = Ok None; after = p }) (taken_from Own p)
stepped (Jam byte) p = taken_from (Jam byte) p

-- What the code of an instruction owes to its definition: the place and states of one carried out, or a fault and store and
-- card as they were.
abbrev pub PerformedBy : {S : Type 0} → Result (Performed S) Fault → Result ℕ Fault → Place S → Place S → Type 0
PerformedBy outcome (Ok states) before after = outcome ≡ Ok (record { place = after; states = states })
PerformedBy outcome (Err fault) before after =
    (outcome ≡ Err fault) × (after.cells ≡ before.cells) × (after.rules ≡ before.rules) × (after.state ≡ before.state)
