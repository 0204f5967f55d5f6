-- What comes of a tape that is run from power-up.
use Rattle.std.specs.Prelude.{◌≡◌, ℕ, true, Result, Ok, Err, List, ◌++◌, length, drop}
use Rattle.bus.specs.Store.{Cells}
use Rattle.bus.specs.Flat.{flat}
use Rattle.bus.specs.Latch.{latch_rules, zeroed, all_fitted}
use Rattle.bus.specs.Wiring.{wired}
use Rattle.cpu.specs.Processor.{View}
use Rattle.cpu.specs.Place.{powered_place}
use Rattle.states.specs.Situation.{powered_up}
use Rattle.report.specs.Readouts.{readout_of}
use Rattle.report.specs.declared.summary.Report.{Report}
use Rattle.tape.specs.Tape.{Ending, stopped, bad, full, Reads}
use Rattle.tape.specs.declared.refusals.TapeRefusal.{TapeRefusal}
use Rattle.tape.specs.declared.refusals.TapeRefusal.TheVariants.{BadWord, BufferFull}
use Rattle.runner.specs.declared.running.Finished.{Finished}
use Rattle.states.specs.Tallies.{nothing}
use Rattle.runner.specs.Running.{runs}
use Rattle.runner.specs.Stepping.{steps}

-- What a report tells of a processor and a run.
abbrev pub report_of : View → Finished → Report
report_of v f = record { readout = readout_of v; tally = f.tally; ending = f.ending }

-- What a run over a memory comes to: how it finished, and the processor and the cells after it.
pub record Run : Type 0 where
  pub finished : Finished
  pub processor : View
  pub cells : Cells

-- The two runs over a memory that is all RAM, with a latch card all fitted and zero, from power-up: by ticks and by steps.
abbrev pub by_ticks : List ℕ → Run
by_ticks memory =
    let ran = runs 60000 true nothing (powered_up (wired (flat memory 0) (latch_rules all_fitted) zeroed)) in
    record { finished = ran.finished; processor = ran.after.place.processor; cells = ran.after.place.cells }

abbrev pub by_steps : List ℕ → Run
by_steps memory =
    let ran = steps 20000 true nothing (powered_place (wired (flat memory 0) (latch_rules all_fitted) zeroed)) in
    record { finished = ran.finished; processor = ran.after.processor; cells = ran.after.cells }

-- The report is that of the run, and the memory's cells are as the run left them; the bytes past the cells stay, and the
-- memory's length.
pub record MemoryRun (by : List ℕ → Run) (before after : List ℕ) (outcome : Result Report TapeRefusal) : Type 0 where
  pub reports : outcome ≡ Ok (report_of (by before).processor (by before).finished)
  pub cells : flat after 0 ≡ (by before).cells
  pub past : drop 16384 after ≡ drop 16384 before
  pub size : length after ≡ length before

-- The memory with the words of the tape at its front.
abbrev pub loaded : List ℕ → List ℕ → List ℕ
loaded words memory = words ++ drop (length words) memory

-- A tape that ends well is run; a refused one gives its refusal and leaves the words before the fault.
abbrev pub ComesTo : (List ℕ → Run) → List ℕ → List ℕ → Result Report TapeRefusal → Ending → Type 0
ComesTo by memory after outcome (stopped place) = MemoryRun by memory after outcome
ComesTo by memory after outcome (bad place) = (outcome ≡ Err (BadWord place)) × (after ≡ memory)
ComesTo by memory after outcome (full place) = (outcome ≡ Err (BufferFull place)) × (after ≡ memory)

-- The tape has these words and this ending, and the memory that holds them comes to the outcome.
pub record TapeRun (by : List ℕ → Run) (tape before after : List ℕ) (outcome : Result Report TapeRefusal) : Type 0 where
  pub words : List ℕ
  pub ending : Ending
  pub reads : Reads (length before) tape words ending
  pub comes_to : ComesTo by (loaded words before) after outcome ending
