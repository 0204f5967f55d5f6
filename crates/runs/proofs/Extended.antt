-- A run extends every history of the situation that it was made in, by its ticks.
use Rattle.std.proofs.Common.{◌≡◌, List, [], ◌∷◌, Ok, Err, Option, Result, refl, subst}
use Rattle.cpu.specs.declared.faults.Fault.{Fault}
use Rattle.cpu.specs.Place.{Place}
use Rattle.states.specs.declared.ticks.Levels.{Levels}
use Rattle.states.specs.declared.ticks.Ticked.{Ticked}
use Rattle.states.specs.Situation.{Situation}
use Rattle.states.specs.Ticks.{ticked}
use Rattle.agreement.specs.Calls.{Event, tick, run, ticks, History, then}
use Rattle.runs.specs.declared.outcomes.RunFault.{RunFault}
use Rattle.states.specs.declared.tallies.Tally.{Tally}
use Rattle.runs.specs.Runs.{Course, following, ran_over}
use Rattle.runs.specs.Histories.{unless_refused, and_ticks, Extends, RefusedExtends}

-- One tick, and the rest where it is accepted.
goes_on : {S : Type 0} (l : Levels) (ls : List Levels) (s after : Situation S) (answer : Result Ticked Fault) (start : Place S) (calls : List Event) →
    ticked l s ≡ record { answer = answer; after = after } → History start calls s run → Extends ls after (ran_over ls after).after →
    History start (unless_refused answer (and_ticks ls after (tick l answer ∷ calls)) (tick l answer ∷ calls)) (following answer after (ran_over ls after)).after run
goes_on l ls s after (Ok x) start calls is h rest = rest start (tick l (Ok x) ∷ calls) (then h (ticks l is))
goes_on l ls s after (Err f) start calls is h rest = then h (ticks l is)

extended : {S : Type 0} (ls : List Levels) (s : Situation S) → Extends ls s (ran_over ls s).after
unfolding ran_over and_ticks
extended [] s start calls h = h
extended (l ∷ ls) s start calls h = goes_on l ls s (ticked l s).after (ticked l s).answer start calls refl h (extended ls (ticked l s).after)

none : {S : Type 0} (s : Situation S) → Extends [] s s
unfolding and_ticks
none s start calls h = h

pub refused_extends : (S : Type 0) → RefusedExtends S
refused_extends S bytes refusal s is = rw is (none s)

pub made_extends : {S : Type 0} (ls : List Levels) (s after : Situation S) (t : Tally) (fault : Option RunFault) →
    ran_over ls s ≡ record { tally = t; fault = fault; after = after } → Extends ls s after
made_extends {S} ls s after t fault course =
    subst (λ (o : Course S). Extends ls s o.after) course (extended ls s)
