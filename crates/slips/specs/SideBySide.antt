-- Both engines side by side, in terms of the history of the state engine and of the list that it makes.
use Rattle.std.specs.Prelude.{◌≡◌, ℕ, List, [], ◌∷◌, length, Some, None, Ok, Err, Option, Result}
use Rattle.bus.specs.Store.{Cells}
use Rattle.bus.specs.Card.{Rules}
use Rattle.bus.specs.Wiring.{Wiring, wired}
use Rattle.bus.specs.declared.buses.Board.{Board}
use Rattle.cpu.specs.declared.faults.Fault.{Fault}
use Rattle.cpu.specs.Place.{Place}
use Rattle.states.specs.Situation.{Situation}
use Rattle.agreement.specs.Calls.{Event, tick, hold, examine, deposit, release, run, History}
use Rattle.agreement.specs.InstructionMachine.{nothing, program_of, fed}
use Rattle.agreement.specs.Agreement.{endings, accepted, waited, idled, total, sum}
use Rattle.runs.specs.declared.outcomes.RunFault.{RunFault}
use Rattle.states.specs.declared.tallies.Tally.{Tally}
use Rattle.states.specs.Tallies.{nothing as no_counts, plus, counted_step}
use Rattle.slips.specs.Feeding.{states_of}
use Rattle.slips.specs.Sheets.{Kept}

-- What a board is wired to.
abbrev pub wiring_of : {S C T : Type 0} → (S → Cells) → (C → Rules T) → (C → T) → Board S C → Wiring T
wiring_of cells rules state b = wired (cells b.store) (rules b.card) (state b.card)

-- At power-up nothing is counted and no instruction has begun.
abbrev pub at_power_up : {S : Type 0} → Place S → Kept S
at_power_up start = record { counts = no_counts; steps = no_counts; begun = nothing; ended = start.processor; twin = start }

-- What the ticks of a history count for.
pub record CountsOf (es : List Event) (c : Tally) : Type 0 where
  pub ticks : c.accepted ≡ total accepted es
  pub instructions : c.instructions ≡ length (endings es)
  pub table_states : c.table_states ≡ sum (endings es)
  pub waits : c.waits ≡ total waited es
  pub idle : c.idle ≡ total idled es

-- What the steps that gave these answers count for, the last first.
abbrev pub steps_of : List (Result (Option ℕ) Fault) → Tally
steps_of [] = no_counts
steps_of (answer ∷ before) = plus (steps_of before) (counted_step (states_of answer))

-- The fault of the last call, if it was a refused tick, with that tick's index.
abbrev pub fault_after : List Event → Option RunFault
fault_after [] = None
fault_after (tick l (Ok t) ∷ es) = None
fault_after (tick l (Err f) ∷ es) = Some (record { fault = f; tick = total accepted es })
fault_after (hold granted ∷ es) = None
fault_after (examine address byte ∷ es) = None
fault_after (deposit address byte answer ∷ es) = None
fault_after (release ∷ es) = None

-- Both engines after a history of one machine: the counts of the ticks, the instruction engine fed the list that the history
-- makes, and the processor as the last instruction ended.
pub record SideBySide {S : Type 0} (start : Place S) (es : List Event) (s : Situation S) (k : Kept S) (fault : Option RunFault) : Type 0 where
  pub history : History start es s run
  pub counts : CountsOf es k.counts
  pub steps : k.steps ≡ steps_of (fed start (program_of es).items).answers
  pub begun : k.begun ≡ (program_of es).begun
  pub twin : k.twin ≡ (fed start (program_of es).items).place
  pub ended : k.ended ≡ k.twin.processor
  pub refused : fault ≡ fault_after es
