-- The instruction machine, and the list that it is fed.
use Rattle.std.specs.Prelude.{ℕ, Bool, cond, List, [], ◌∷◌, Some, None, Ok, Err, Option, Result, ◌==◌}
use Rattle.cpu.specs.declared.faults.Fault.{Fault}
use Rattle.cpu.specs.Place.{Place, writing}
use Rattle.stepper.specs.declared.feeds.Feed.{Feed}
use Rattle.stepper.specs.declared.feeds.Feed.TheVariants.{Own, Jam}
use Rattle.stepper.specs.Steps.{stepped}
use Rattle.states.specs.declared.ticks.Levels.{Levels}
use Rattle.states.specs.declared.ticks.State.{State}
use Rattle.states.specs.declared.ticks.State.TheVariants.{T1, T1I, T2, Wait, T3, T4, T5, Stopped}
use Rattle.states.specs.declared.ticks.Ticked.{Ticked}
use Rattle.agreement.specs.Calls.{Event, tick, hold, examine, deposit, release}

-- What the instruction machine is fed: a deposit, or a step.
pub data Item : Type 0 where
  write : ℕ → ℕ → Item
  step : Feed → Item

-- How the instruction in hand began: by T1, or by T1I with the jam byte once it is accepted at T3.
pub data Begun : Type 0 where
  nothing : Begun
  by_own : Begun
  by_interrupt : Begun
  by_jam : ℕ → Begun

-- An accepted tick in cycle one shows how the instruction began.
abbrev pub begun_after : Begun → ℕ → State → Bool → Begun
begun_after b jam T1 first = cond first by_own b
begun_after b jam T1I first = by_interrupt
begun_after b jam T2 first = b
begun_after b jam Wait first = b
begun_after nothing jam T3 first = nothing
begun_after by_own jam T3 first = by_own
begun_after by_interrupt jam T3 first = cond first (by_jam jam) by_interrupt
begun_after (by_jam byte) jam T3 first = by_jam byte
begun_after b jam T4 first = b
begun_after b jam T5 first = b
begun_after b jam Stopped first = b

-- The list so far, the last first, and how the instruction in hand began.
pub record Program : Type 0 where
  pub items : List Item
  pub begun : Begun

-- An instruction that ends adds own if T1 began it, and a jam with the byte accepted at T3 if T1I did.
abbrev pub ended : Begun → List Item → List Item
ended nothing items = items
ended by_own items = step Own ∷ items
ended by_interrupt items = items
ended (by_jam byte) items = step (Jam byte) ∷ items

abbrev pub ended_by : Option ℕ → Begun → List Item → Program
ended_by None b items = record { items = items; begun = b }
ended_by (Some states) b items = record { items = ended b items; begun = nothing }

-- A refused tick adds nothing; a deposit adds its address and byte, taken or dropped.
abbrev pub tick_adds : Levels → Result Ticked Fault → Program → Program
tick_adds l (Ok t) p = ended_by t.ended (begun_after p.begun l.jam t.state (t.cycle == 1)) p.items
tick_adds l (Err f) p = p

abbrev pub adds : Event → Program → Program
adds (tick l r) p = tick_adds l r p
adds (hold granted) p = p
adds (examine address byte) p = p
adds (deposit address byte answer) p = record { items = write address byte ∷ p.items; begun = p.begun }
adds release p = p

-- The list that the calls and their answers make.
abbrev pub program_of : List Event → Program
program_of [] = record { items = []; begun = nothing }
program_of (e ∷ es) = adds e (program_of es)

-- The instruction machine fed a list: its place, and the answers of its steps, the last first. Fed a deposit it writes; fed
-- own or a jam it takes that step.
pub record Fed (S : Type 0) : Type 0 where
  pub place : Place S
  pub answers : List (Result (Option ℕ) Fault)

abbrev pub feeds : {S : Type 0} → Item → Fed S → Fed S
feeds (write address byte) f = record { place = writing f.place address byte; answers = f.answers }
feeds (step feed) f = record { place = (stepped feed f.place).after; answers = (stepped feed f.place).answer ∷ f.answers }

abbrev pub fed : {S : Type 0} → Place S → List Item → Fed S
fed start [] = record { place = start; answers = [] }
fed start (i ∷ items) = feeds i (fed start items)
