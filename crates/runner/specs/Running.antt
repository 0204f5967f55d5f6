-- A run from power-up: READY high, INT at the first tick only with the jam byte 05H, until a halt ends, a tick is
-- refused or the ticks are spent.
use Rattle.std.specs.Prelude.{ℕ, zero, suc, Bool, true, false, cond, Ok, Err}
use Rattle.states.specs.declared.ticks.Levels.{Levels}
use Rattle.states.specs.Situation.{Situation}
use Rattle.states.specs.Ticks.{ticked}
use Rattle.report.specs.declared.summary.Ending.{Ending}
use Rattle.report.specs.declared.summary.Ending.TheVariants.{Halted, Spent, Refused}
use Rattle.states.specs.declared.tallies.Tally.{Tally}
use Rattle.states.specs.Tallies.{plus, counted}
use Rattle.runner.specs.declared.running.Finished.{Finished}
use Rattle.runner.specs.Halts.{halts}

-- The levels of a tick: a jammed restart of cell 0 at the first.
abbrev pub levels_at : Bool → Levels
levels_at first = record { ready = true; int = first; jam = 5 }

-- How a run ended, what it added up to, and the situation after it.
pub record Ran (S : Type 0) : Type 0 where
  pub finished : Finished
  pub after : Situation S

abbrev pub ends : {S : Type 0} → Tally → Ending → Situation S → Ran S
ends t e s = record { finished = record { tally = t; ending = e }; after = s }

-- At most so many ticks; whether the next is the first.
unfoldable pub runs : {S : Type 0} → ℕ → Bool → Tally → Situation S → Ran S
runs zero first t s = ends t Spent s
runs (suc ticks) first t s =
    elim (ticked (levels_at first) s).answer [
      | Ok x ↦ cond (halts x) (ends (plus t (counted x)) Halted (ticked (levels_at first) s).after)
          (runs ticks false (plus t (counted x)) (ticked (levels_at first) s).after)
      | Err f ↦ ends t (Refused f.cause) (ticked (levels_at first) s).after
    ]
