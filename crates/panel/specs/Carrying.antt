-- What each command comes to.
use Rattle.std.specs.Prelude.{ℕ, Bool, true, false, cond, List, Option, Ok, Err, Result}
use Rattle.bus.specs.Store.{answer_at}
use Rattle.bus.specs.Latch.{Latches, is_input, with_input}
use Rattle.bus.specs.declared.cards.Trouble.TheVariants.{NoCard}
use Rattle.cpu.specs.declared.faults.Fault.{Fault}
use Rattle.cpu.specs.Processor.{View}
use Rattle.cpu.specs.Place.{Place, byte_in, writing, with_state}
use Rattle.states.specs.declared.ticks.Levels.{Levels}
use Rattle.states.specs.declared.ticks.Ticked.{Ticked}
use Rattle.states.specs.Sequencing.{states_in_hand}
use Rattle.states.specs.Situation.{Situation, situation}
use Rattle.states.specs.Ticks.{ticked}
use Rattle.stepper.specs.declared.feeds.Feed.{Feed}
use Rattle.stepper.specs.Steps.{stepped}
use Rattle.agreement.specs.Calls.{Key, run, held}
use Rattle.machine.specs.Holding.{at_start, key_after}
use Rattle.runs.specs.declared.outcomes.Ran.{Ran}
use Rattle.runs.specs.declared.refusals.ScheduleRefusal.{ScheduleRefusal}
use Rattle.runs.specs.Runs.{ran}
use Rattle.report.specs.Readouts.{readout_of}
use Rattle.panel.specs.declared.answers.Answer.{Answer}
use Rattle.panel.specs.declared.answers.Answer.TheVariants.{Ticked as TickedSo, Refused, Ran as RanSo, BadSchedule, Stepped as SteppedSo, Held as HeldSo, RefusedBy, Examined, Deposited, Latched, Holds, Mistaken}
use Rattle.panel.specs.declared.holdings.Holding.{Holding}
use Rattle.panel.specs.declared.commands.Command.{Command}
use Rattle.panel.specs.declared.commands.Command.TheVariants.{Tick, Run, Step, Hold, Examine, Deposit, Release, Input, Registers, StepRegisters}
use Rattle.panel.specs.declared.commands.Mistake.TheVariants.{IsHeld, IsNotHeld}
use Rattle.panel.specs.declared.refusals.Refusal.TheVariants.{InsideInstruction, Port}
use Rattle.panel.specs.Desk.{Desk, with_key, with_machine, with_beside}

-- What a command answers, and the desk after it.
pub record Outcome : Type 0 where
  pub answer : Answer
  pub after : Desk

abbrev pub outcome : Answer → Desk → Outcome
outcome a d = record { answer = a; after = d }

-- A command that the key in hand does not allow leaves everything as it was.
abbrev pub where_running : Key → Desk → Outcome → Outcome
where_running run d o = o
where_running held d o = outcome (Mistaken IsHeld) d

abbrev pub where_held : Key → Desk → Outcome → Outcome
where_held run d o = outcome (Mistaken IsNotHeld) d
where_held held d o = o

-- A tick of the machine.
abbrev pub tick_told : Result Ticked Fault → Answer
tick_told (Ok x) = TickedSo x
tick_told (Err f) = Refused f

abbrev pub ticks : Levels → Desk → Outcome
ticks l d =
    where_running d.key d (outcome (tick_told (ticked l d.machine).answer) (with_machine d (ticked l d.machine).after))

-- A run of the machine.
abbrev pub run_told : Result Ran ScheduleRefusal → Answer
run_told (Ok r) = RanSo r
run_told (Err refusal) = BadSchedule refusal

abbrev pub runs : List ℕ → Desk → Outcome
runs schedule d =
    where_running d.key d (outcome (run_told (ran schedule d.machine).answer) (with_machine d (ran schedule d.machine).after))

-- A step of the processor beside it.
abbrev pub step_told : Result (Option ℕ) Fault → Answer
step_told (Ok s) = SteppedSo s
step_told (Err f) = Refused f

abbrev pub steps : Feed → Desk → Outcome
steps feed d = outcome (step_told (stepped feed d.beside).answer) (with_beside d (stepped feed d.beside).after)

-- A hold: granted at an instruction's start, and else refused.
abbrev pub hold_told : Bool → Answer
hold_told true = HeldSo true
hold_told false = RefusedBy InsideInstruction

abbrev pub holds : Desk → Outcome
holds d =
    where_running d.key d (outcome (hold_told (at_start d.machine.hand)) (with_key d (key_after (at_start d.machine.hand))))

-- A look into a cell of the held machine's store, and a write to one.
abbrev pub examines : ℕ → Desk → Outcome
examines address d = where_held d.key d (outcome (Examined address (byte_in d.machine.place address)) d)

abbrev pub wrote : ℕ → ℕ → Situation Latches → Situation Latches
wrote address byte s = situation s.hand (writing s.place address byte)

abbrev pub deposits : ℕ → ℕ → Desk → Outcome
deposits address byte d =
    where_held d.key d (outcome (Deposited address byte (answer_at d.machine.place.cells address)) (with_machine d (wrote address byte d.machine)))

abbrev pub releases : Desk → Outcome
releases d = where_held d.key d (outcome (HeldSo false) (with_key d run))

-- Another byte to answer at an input port, of both cards. Another port is refused by 1.
abbrev pub latched : ℕ → ℕ → Place Latches → Place Latches
latched port byte p = with_state p (with_input p.state port byte)

abbrev pub latches : ℕ → ℕ → Desk → Desk
latches port byte d = record {
  key = d.key;
  machine = situation d.machine.hand (latched port byte d.machine.place);
  beside = latched port byte d.beside;
}

abbrev pub inputs : ℕ → ℕ → Desk → Outcome
inputs port byte d = outcome (cond (is_input port) (Latched port byte) (RefusedBy (Port NoCard))) (latches port byte d)

-- What a processor holds, and the states that its instruction has spent.
abbrev pub holding : View → ℕ → Holding
holding v in_hand = record { readout = readout_of v; stopped = v.stopped; hand = in_hand }

abbrev pub machine_registers : Desk → Outcome
machine_registers d = outcome (Holds (holding d.machine.place.processor (states_in_hand d.machine.hand))) d

-- The processor beside the machine is always at an instruction's start.
abbrev pub beside_registers : Desk → Outcome
beside_registers d = outcome (Holds (holding d.beside.processor 0)) d

-- A command carried out, with this schedule for a run.
abbrev pub carried_out : Command → List ℕ → Desk → Outcome
carried_out (Tick levels) schedule d = ticks levels d
carried_out Run schedule d = runs schedule d
carried_out (Step feed) schedule d = steps feed d
carried_out Hold schedule d = holds d
carried_out (Examine address) schedule d = examines address d
carried_out (Deposit address byte) schedule d = deposits address byte d
carried_out Release schedule d = releases d
carried_out (Input port byte) schedule d = inputs port byte d
carried_out Registers schedule d = machine_registers d
carried_out StepRegisters schedule d = beside_registers d
