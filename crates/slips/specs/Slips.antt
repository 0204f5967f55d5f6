-- The slip of a tape and a schedule.
use Rattle.std.specs.Prelude.{◌≡◌, ℕ, List, ◌++◌, length, drop, replicate, Ok, Err, Result}
use Rattle.bus.specs.Flat.{flat}
use Rattle.bus.specs.Latch.{Latches, latch_rules, all_fitted, zeroed}
use Rattle.bus.specs.Wiring.{wired}
use Rattle.cpu.specs.Place.{Place, powered_place}
use Rattle.tape.specs.Tape.{Ending, stopped, bad, full, Reads}
use Rattle.tape.specs.declared.refusals.TapeRefusal.TheVariants.{BadWord, BufferFull}
use Rattle.runs.specs.Schedules.{judged, levels_of}
use Rattle.slips.specs.declared.columns.Slip.{Slip}
use Rattle.slips.specs.declared.refusals.SlipRefusal.{SlipRefusal}
use Rattle.slips.specs.declared.refusals.SlipRefusal.TheVariants.{BadTape, BadSchedule, NoMemory}
use Rattle.slips.specs.Columns.{SlipOf}

-- A processor just powered up over a memory that is all RAM, with a latch card all fitted and zero.
abbrev pub powered_over : List ℕ → Place Latches
powered_over memory = powered_place (wired (flat memory 0) (latch_rules all_fitted) zeroed)

-- The memory that holds the words of a tape, and zeros after them.
abbrev pub holding : List ℕ → List ℕ
holding words = words ++ drop (length words) (replicate 16384 0)

-- A good tape and a good schedule give the slip, whose columns are equal; a bad tape gives its refusal, and else a bad
-- schedule gives its own.
abbrev pub Tells : Ending → List ℕ → List ℕ → Result Slip SlipRefusal → Type 0
Tells (stopped place) words schedule (Ok slip) =
    (judged schedule ≡ Ok tt) × SlipOf (powered_over (holding words)) (levels_of schedule) slip × (slip.states ≡ slip.steps)
Tells (bad place) words schedule (Ok slip) = ⊥
Tells (full place) words schedule (Ok slip) = ⊥
Tells (stopped place) words schedule (Err (BadTape refusal)) = ⊥
Tells (bad place) words schedule (Err (BadTape refusal)) = refusal ≡ BadWord place
Tells (full place) words schedule (Err (BadTape refusal)) = refusal ≡ BufferFull place
Tells (stopped place) words schedule (Err (BadSchedule refusal)) = judged schedule ≡ Err refusal
Tells (bad place) words schedule (Err (BadSchedule refusal)) = ⊥
Tells (full place) words schedule (Err (BadSchedule refusal)) = ⊥
Tells (stopped place) words schedule (Err NoMemory) = ⊥
Tells (bad place) words schedule (Err NoMemory) = ⊥
Tells (full place) words schedule (Err NoMemory) = ⊥

-- The tape has these words and this ending, which decide what is told.
pub record Told (tape schedule : List ℕ) (r : Result Slip SlipRefusal) : Type 0 where
  pub words : List ℕ
  pub ending : Ending
  pub reads : Reads 16384 tape words ending
  pub tells : Tells ending words schedule r

-- What comes of a tape and a schedule. Whether there is memory for the two stores is left open.
abbrev pub Slipped : List ℕ → List ℕ → Result Slip SlipRefusal → Type 0
Slipped tape schedule (Ok slip) = Told tape schedule (Ok slip)
Slipped tape schedule (Err (BadTape refusal)) = Told tape schedule (Err (BadTape refusal))
Slipped tape schedule (Err (BadSchedule refusal)) = Told tape schedule (Err (BadSchedule refusal))
Slipped tape schedule (Err NoMemory) = Unit {0}
