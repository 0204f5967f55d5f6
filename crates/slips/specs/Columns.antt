-- The two columns of a slip.
use Rattle.std.specs.Prelude.{◌≡◌, ℕ, ◌+◌, List, [], length, Option}
use Rattle.cpu.specs.Processor.{View}
use Rattle.cpu.specs.Place.{Place}
use Rattle.states.specs.declared.in_hand.InHand.TheVariants.{Start}
use Rattle.states.specs.declared.ticks.Levels.{Levels}
use Rattle.states.specs.Sequencing.{states_in_hand}
use Rattle.states.specs.Situation.{Situation, situation}
use Rattle.agreement.specs.Calls.{Event, run, History}
use Rattle.agreement.specs.InstructionMachine.{program_of, fed}
use Rattle.agreement.specs.Agreement.{endings, accepted, waited, idled, total, sum}
use Rattle.report.specs.Readouts.{readout_of}
use Rattle.runs.specs.declared.outcomes.RunFault.{RunFault}
use Rattle.runs.specs.Histories.{and_ticks}
use Rattle.states.specs.declared.tallies.Tally.{Tally}
use Rattle.slips.specs.declared.columns.Column.{Column}
use Rattle.slips.specs.declared.columns.Slip.{Slip}
use Rattle.slips.specs.SideBySide.{fault_after}

abbrev pub column_of : (instructions states waits idle in_hand ticks : ℕ) → View → Column
column_of instructions states waits idle in_hand ticks v = record {
  tally = record { accepted = ticks; instructions = instructions; table_states = states; waits = waits; idle = idle };
  in_hand = in_hand;
  readout = readout_of v;
}

-- The slip of what was counted. The ticks of the instruction engine are its states, the waits, the idle states and the states
-- in hand.
abbrev pub slip_from : Tally → Tally → ℕ → View → View → Option RunFault → Slip
slip_from c steps in_hand ended twin fault = record {
  states = column_of c.instructions c.table_states c.waits c.idle in_hand c.accepted ended;
  steps = column_of steps.instructions steps.table_states c.waits c.idle in_hand (steps.table_states + c.waits + c.idle + in_hand) twin;
  fault = fault;
}

-- What a history comes to: the ticks by what they count for, and the processor of the instruction machine, fed the list that
-- the history makes.
abbrev pub account_of : {S : Type 0} → Place S → List Event → Situation S → Column
account_of start es s =
    column_of (length (endings es)) (sum (endings es)) (total waited es) (total idled es) (states_in_hand s.hand) (total accepted es)
    (fed start (program_of es).items).place.processor

-- The ticks of a schedule from power-up, up to the first that is refused.
abbrev pub calls_of : {S : Type 0} → Place S → List Levels → List Event
calls_of start ls = and_ticks ls (situation Start start) []

-- The slip of a schedule: each column is what the history of its ticks comes to, and so the two are equal.
pub record SlipOf {S : Type 0} (start : Place S) (ls : List Levels) (slip : Slip) : Type 0 where
  pub after : Situation S
  pub history : History start (calls_of start ls) after run
  pub states : slip.states ≡ account_of start (calls_of start ls) after
  pub steps : slip.steps ≡ account_of start (calls_of start ls) after
  pub fault : slip.fault ≡ fault_after (calls_of start ls)
