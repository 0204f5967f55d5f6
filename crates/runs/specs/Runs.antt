-- A run: the ticks of a schedule in order, up to the first that is refused.
use Rattle.std.specs.Prelude.{◌≡◌, ℕ, ◌+◌, ◌/◌, ◌<◌, List, [], ◌∷◌, ◌++◌, length, Some, None, Ok, Err, Option, Result}
use Rattle.cpu.specs.declared.faults.Fault.{Fault}
use Rattle.states.specs.declared.ticks.Levels.{Levels}
use Rattle.states.specs.declared.ticks.Ticked.{Ticked}
use Rattle.states.specs.Sequencing.{states_in_hand}
use Rattle.states.specs.Situation.{Situation}
use Rattle.states.specs.Ticks.{ticked}
use Rattle.runs.specs.declared.refusals.ScheduleRefusal.{ScheduleRefusal}
use Rattle.runs.specs.declared.outcomes.RunFault.{RunFault}
use Rattle.runs.specs.declared.outcomes.Ran.{Ran}
use Rattle.states.specs.declared.tallies.Tally.{Tally}
use Rattle.runs.specs.Schedules.{Judgement, judged, levels_of}
use Rattle.states.specs.Tallies.{nothing, plus, counted}

-- What ticks in a row came to: the tally of the accepted ones, the fault of the refused one, if any, with its index, and
-- the situation after them.
pub record Course (S : Type 0) : Type 0 where
  pub tally : Tally
  pub fault : Option RunFault
  pub after : Situation S

-- A tick's answer, with its index added to a fault.
abbrev pub at_tick : ℕ → Result Ticked Fault → Result Ticked RunFault
at_tick tick (Ok x) = Ok x
at_tick tick (Err f) = Err (record { fault = f; tick = tick })

-- The fault of a tick that so many ticks come before.
abbrev pub later : ℕ → Option RunFault → Option RunFault
later ticks None = None
later ticks (Some f) = Some (record { fault = f.fault; tick = ticks + f.tick })

-- Accepted ticks, and then the rest.
abbrev pub before : {S : Type 0} → Tally → Course S → Course S
before t rest = record { tally = plus t rest.tally; fault = later t.accepted rest.fault; after = rest.after }

-- A tick by its answer and the situation after it, and the course of the ticks that follow it.
abbrev pub following : {S : Type 0} → Result Ticked Fault → Situation S → Course S → Course S
following (Ok x) after rest = before (counted x) rest
following (Err f) after rest = record { tally = nothing; fault = Some (record { fault = f; tick = 0 }); after = after }

-- The ticks one by one.
unfoldable pub ran_over : {S : Type 0} → List Levels → Situation S → Course S
ran_over [] s = record { tally = nothing; fault = None; after = s }
ran_over (l ∷ ls) s = following (ticked l s).answer (ticked l s).after (ran_over ls (ticked l s).after)

-- What a run answers, and the situation after it.
pub record Outcome (S : Type 0) : Type 0 where
  pub answer : Result Ran ScheduleRefusal
  pub after : Situation S

-- The answer of a run that came so, with the states in hand before and after.
abbrev pub answered : {S : Type 0} → Situation S → Course S → Outcome S
answered s o = record {
  answer = Ok (record {
    tally = o.tally;
    in_hand_before = states_in_hand s.hand;
    in_hand_after = states_in_hand o.after.hand;
    fault = o.fault;
  });
  after = o.after;
}

-- A run of a judged schedule. A refused one leaves all as it was.
abbrev pub ran_judged : {S : Type 0} → Judgement → List ℕ → Situation S → Outcome S
ran_judged (Err refusal) schedule s = record { answer = Err refusal; after = s }
ran_judged (Ok good) schedule s = answered s (ran_over (levels_of schedule) s)

-- A run of a schedule.
abbrev pub ran : {S : Type 0} → List ℕ → Situation S → Outcome S
ran schedule s = ran_judged (judged schedule) schedule s

-- Every accepted tick, and every state in hand before, is a table state of an instruction that ended, a wait, an idle
-- state or a state in hand after.
abbrev pub AddsUp : Result Ran ScheduleRefusal → Type 0
AddsUp (Ok r) = r.tally.accepted + r.in_hand_before ≡ r.tally.table_states + r.tally.waits + r.tally.idle + r.in_hand_after
AddsUp (Err refusal) = Unit {0}

-- A run ends with its schedule or at a refused tick, and every tick before that one was accepted.
abbrev pub EndsAtTick : Option RunFault → ℕ → ℕ → Type 0
EndsAtTick None accepted ticks = accepted ≡ ticks
EndsAtTick (Some f) accepted ticks = (f.tick ≡ accepted) × (accepted < ticks)

abbrev pub EndsAt : List ℕ → Result Ran ScheduleRefusal → Type 0
EndsAt schedule (Ok r) = EndsAtTick r.fault r.tally.accepted (length schedule / 2)
EndsAt schedule (Err refusal) = Unit {0}

-- A course goes on with more ticks, unless a tick of it was refused.
abbrev pub onward_by : {S : Type 0} → Option RunFault → Course S → List Levels → Course S
onward_by None o ls = before o.tally (ran_over ls o.after)
onward_by (Some f) o ls = o

abbrev pub onward : {S : Type 0} → Course S → List Levels → Course S
onward o ls = onward_by o.fault o ls

-- Ticks that are cut in two come to the first part, and then the second from there.
abbrev pub OneByOne : Type 0 → Type 0
OneByOne S = (xs ys : List Levels) (s : Situation S) → ran_over (xs ++ ys) s ≡ onward (ran_over xs s) ys
