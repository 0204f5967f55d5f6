-- What a run answers, from the course of its ticks.
use Rattle.std.proofs.Common.{◌≡◌, ℕ, ◌+◌, ◌/◌, true, List, length, Option, subst, arith}
use Rattle.states.specs.declared.ticks.Levels.{Levels}
use Rattle.states.specs.declared.tallies.Tally.{Tally}
use Rattle.states.specs.Sequencing.{states_in_hand, sound}
use Rattle.states.specs.Situation.{Situation}
use Rattle.runs.specs.declared.outcomes.RunFault.{RunFault}
use Rattle.runs.specs.Schedules.{levels_of}
use Rattle.runs.specs.Runs.{Course, ran_over, EndsAtTick}
use Rattle.runs.proofs.Pairs.{levels_count}
use Rattle.runs.proofs.Laws.{balanced, ended}

-- The sum and the end of a run, from the course of its ticks and the states in hand.
pub adds_up : {S : Type 0} (ls : List Levels) (s after : Situation S) (t : Tally) (fault : Option RunFault) (m n : ℕ) →
    sound s.hand ≡ true → ran_over ls s ≡ record { tally = t; fault = fault; after = after } →
    m ≡ states_in_hand s.hand → n ≡ states_in_hand after.hand → t.accepted + m ≡ t.table_states + t.waits + t.idle + n
adds_up {S} ls s after t fault m n ok course before_it after_it =
    let P : Course S → Type 0 = λ o. o.tally.accepted + states_in_hand s.hand ≡
    o.tally.table_states + o.tally.waits + o.tally.idle + states_in_hand o.after.hand in
    let b : t.accepted + states_in_hand s.hand ≡ t.table_states + t.waits + t.idle + states_in_hand after.hand =
    subst P course (balanced ls s ok) in
    omega arith

pub ends : {S : Type 0} (bytes : List ℕ) (s after : Situation S) (t : Tally) (fault : Option RunFault) →
    ran_over (levels_of bytes) s ≡ record { tally = t; fault = fault; after = after } → EndsAtTick fault t.accepted (length bytes / 2)
ends {S} bytes s after t fault course =
    let E : Course S → Type 0 = λ o. EndsAtTick o.fault o.tally.accepted (length (levels_of bytes)) in
    rw (← levels_count bytes) (subst E course (ended (levels_of bytes) s))
