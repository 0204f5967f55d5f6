-- Faults: what each refusal says.
use Rattle.std.specs.Prelude.{ℕ, Ok, Err, Result}
use Rattle.bus.specs.declared.cards.Trouble.{Trouble}
use Rattle.bus.specs.declared.cards.Trouble.TheVariants.{NoCard as NoCardThere, Spent as CardSpent}
use Rattle.cpu.specs.declared.faults.Cause.{Cause}
use Rattle.cpu.specs.declared.faults.Cause.TheVariants.{NoCard, Spent, NoInstruction}
use Rattle.cpu.specs.declared.faults.Layer.TheVariants.{Decoder, PortCard}
use Rattle.cpu.specs.declared.faults.Fault.{Fault}

-- The number of each cause.
abbrev pub cause_number : Cause → ℕ
cause_number NoCard = 1
cause_number Spent = 2
cause_number NoInstruction = 3

abbrev pub cause_of : Trouble → Cause
cause_of NoCardThere = NoCard
cause_of CardSpent = Spent

-- The decoder refuses in cycle one, a port card in the cycle of the transfer.
abbrev pub decoder_fault : ℕ → Fault
decoder_fault pc = record { cause = NoInstruction; layer = Decoder; pc = pc; cycle = 1 }

abbrev pub card_fault : ℕ → ℕ → Trouble → Fault
card_fault pc cycle t = record { cause = cause_of t; layer = PortCard; pc = pc; cycle = cycle }

-- A card's answer, with the place of the instruction added to its trouble.
abbrev pub placed : {A : Type 0} → ℕ → ℕ → Result A Trouble → Result A Fault
placed pc cycle (Ok value) = Ok value
placed pc cycle (Err t) = Err (card_fault pc cycle t)
