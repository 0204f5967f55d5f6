-- A run of steps from power-up: a jammed restart of cell 0, then own steps, until a halt ends, a step is refused, or 60,000
-- table states are counted.
use Rattle.std.specs.Prelude.{ℕ, zero, suc, Bool, true, false, cond, Some, None, Ok, Err, nat_le}
use Rattle.cpu.specs.Place.{Place}
use Rattle.stepper.specs.declared.feeds.Feed.{Feed}
use Rattle.stepper.specs.declared.feeds.Feed.TheVariants.{Own, Jam}
use Rattle.stepper.specs.Steps.{stepped}
use Rattle.report.specs.declared.summary.Ending.{Ending}
use Rattle.report.specs.declared.summary.Ending.TheVariants.{Halted, Spent, Refused}
use Rattle.states.specs.declared.tallies.Tally.{Tally}
use Rattle.states.specs.Tallies.{plus, counted_step}
use Rattle.runner.specs.declared.running.Finished.{Finished}

abbrev pub feed_at : Bool → Feed
feed_at true = Jam 5
feed_at false = Own

-- One more instruction; steps neither wait nor idle.
abbrev pub added : Tally → ℕ → Tally
added t states = plus t (counted_step (Some states))

-- How a run of steps ended, what it added up to, and the place after it.
pub record Walked (S : Type 0) : Type 0 where
  pub finished : Finished
  pub after : Place S

abbrev pub ends : {S : Type 0} → Tally → Ending → Place S → Walked S
ends t e p = record { finished = record { tally = t; ending = e }; after = p }

-- At most so many steps, each of three states at least; whether the next is the first.
unfoldable pub steps : {S : Type 0} → ℕ → Bool → Tally → Place S → Walked S
steps zero first t p = ends t Spent p
steps (suc n) first t p =
    cond (nat_le 60000 t.table_states) (ends t Spent p) (elim (stepped (feed_at first) p).answer [
      | Ok x ↦ elim x [
        | None ↦ ends t Halted (stepped (feed_at first) p).after
        | Some states ↦ cond (stepped (feed_at first) p).after.processor.stopped
            (ends (added t states) Halted (stepped (feed_at first) p).after)
            (steps n false (added t states) (stepped (feed_at first) p).after)
      ]
      | Err f ↦ ends t (Refused f.cause) (stepped (feed_at first) p).after
    ])
