-- How long an instruction lasts.
use Rattle.std.specs.Prelude.{◌≡◌, ℕ, suc, ◌+◌, Some, None, Ok, ◌≢◌}
use Rattle.states.specs.declared.ticks.Levels.{Levels}
use Rattle.states.specs.declared.ticks.Ticked.{Ticked}
use Rattle.states.specs.declared.in_hand.InHand.TheVariants.{Start}
use Rattle.states.specs.Situation.{Situation}
use Rattle.states.specs.Ticks.{ticked}
use Rattle.states.specs.TickLaws.{wait}

-- Accepted ticks lead from a situation to another, and none of them idles or ends an instruction: how many they are, and how
-- many of them are waits. The levels may be any.
pub data Leads {S : Type 0} (from : Situation S) : (ticks waits : ℕ) → Situation S → Type 0 where
  here : Leads from 0 0 from
  on : {ticks waits : ℕ} {to : Situation S} → Leads from ticks waits to → (l : Levels) (t : Ticked) →
      (ticked l to).answer ≡ Ok t → t.ended ≡ None → (t.cycle ≢ 0) → Leads from (suc ticks) (wait t + waits) (ticked l to).after

-- From an instruction's start, the tick that ends it is the last of as many as its table states and its waits.
abbrev pub LastsItsTableStates : Type 0 → Type 0
LastsItsTableStates S =
    (start last : Situation S) (ticks waits : ℕ) → start.hand ≡ Start → Leads start ticks waits last →
    (l : Levels) (t : Ticked) (states : ℕ) → (ticked l last).answer ≡ Ok t → t.ended ≡ Some states →
    ticks + 1 ≡ states + waits
