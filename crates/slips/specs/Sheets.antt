-- What is kept of both engines while a schedule runs.
use Rattle.std.specs.Prelude.{ℕ, ◌+◌, ◌<◌, Some, None, Option, ◌==◌}
use Rattle.cpu.specs.declared.processors.Processor.{Processor}
use Rattle.cpu.specs.Processor.{View, view_of}
use Rattle.cpu.specs.Place.{Place}
use Rattle.states.specs.declared.ticks.Ticked.{Ticked}
use Rattle.agreement.specs.InstructionMachine.{Begun, nothing, begun_after}
use Rattle.states.specs.declared.tallies.Tally.{Tally}
use Rattle.states.specs.Tallies.{nothing as no_counts, plus, counted, counted_step, Within}
use Rattle.slips.specs.declared.sheets.Sheet.{Sheet}
use Rattle.slips.specs.declared.beginnings.Beginning.TheVariants.{Nothing}
use Rattle.slips.specs.Feeding.{begun_of, place_fed, states_fed}

-- The sheet at power-up: nothing is counted and no instruction has begun.
abbrev pub blank : Processor → Sheet
blank processor = record { counts = no_counts; steps = no_counts; beginning = Nothing; ended = processor }

-- The counts of both engines, how the instruction in hand began, the state engine's processor as the last instruction ended,
-- and the place of the instruction engine.
pub record Kept (S : Type 0) : Type 0 where
  pub counts : Tally
  pub steps : Tally
  pub begun : Begun
  pub ended : View
  pub twin : Place S

abbrev pub kept_of : {S : Type 0} → Sheet → Place S → Kept S
kept_of sheet twin = record {
  counts = sheet.counts;
  steps = sheet.steps;
  begun = begun_of sheet.beginning;
  ended = view_of sheet.ended;
  twin = twin;
}

-- A tick that ended no instruction is counted; one that ended one also feeds the instruction engine.
abbrev pub noted_by : {S : Type 0} → Option ℕ → Begun → View → Tally → Kept S → Kept S
noted_by None b v c k = record { counts = c; steps = k.steps; begun = b; ended = k.ended; twin = k.twin }
noted_by (Some states) b v c k = record {
  counts = c;
  steps = plus k.steps (counted_step (states_fed b k.twin));
  begun = nothing;
  ended = v;
  twin = place_fed b k.twin;
}

-- An accepted tick, with the jam byte that it brought and the processor after it.
abbrev pub noted : {S : Type 0} → ℕ → Ticked → View → Kept S → Kept S
noted jam t v k =
    noted_by t.ended (begun_after k.begun jam t.state (t.cycle == 1)) v (plus k.counts (counted t)) k

-- No count of a tally was raised by more than one tick can raise it.
abbrev pub RaisedByOne : Tally → Tally → Type 0
RaisedByOne before after = (n : ℕ) → n < 16843009 → Within n before → Within (n + 1) after
