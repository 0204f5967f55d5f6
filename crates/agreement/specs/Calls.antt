-- The calls on one machine, its store and its port card, with their answers.
use Rattle.std.specs.Prelude.{◌≡◌, ℕ, Bool, true, false, List, [], ◌∷◌, Result, ◌≢◌}
use Rattle.bus.specs.Store.{answer_at}
use Rattle.bus.specs.declared.stores.Written.{Written}
use Rattle.cpu.specs.declared.faults.Fault.{Fault}
use Rattle.cpu.specs.Place.{Place, byte_in, writing}
use Rattle.states.specs.declared.ticks.Levels.{Levels}
use Rattle.states.specs.declared.ticks.Ticked.{Ticked}
use Rattle.states.specs.declared.in_hand.InHand.TheVariants.{Start}
use Rattle.states.specs.Situation.{Situation, situation}
use Rattle.states.specs.Ticks.{ticked}

-- A call, with its answer: a tick accepted or refused, a hold granted or refused, an examine with the byte, a deposit with
-- what became of it, a release. A run counts as its ticks.
pub data Event : Type 0 where
  tick : Levels → Result Ticked Fault → Event
  hold : Bool → Event
  examine : ℕ → ℕ → Event
  deposit : ℕ → ℕ → Written → Event
  release : Event

-- Which key is out.
pub data Key : Type 0 where
  run : Key
  held : Key

-- What one call does to the situation and the key: from a situation and a key, by the call and its answer, to another.
pub data Use {S : Type 0} : Situation S → Key → Event → Situation S → Key → Type 0 where
  -- A run key works a tick, which answers and leaves what the state rules say, refused or not.
  ticks : {s t : Situation S} {r : Result Ticked Fault} (l : Levels) → ticked l s ≡ record { answer = r; after = t } → Use s run (tick l r) t run
  -- Hold turns it into a hold key at an instruction's start; inside an instruction it is refused, and the run key is back.
  holds : {s : Situation S} → s.hand ≡ Start → Use s run (hold true) s held
  refuses : {s : Situation S} → (s.hand ≢ Start) → Use s run (hold false) s run
  -- A hold key works examine, which reads and leaves all, and deposit, which writes and answers taken exactly where the
  -- cell is RAM.
  examines : {s : Situation S} {byte : ℕ} (address : ℕ) → byte ≡ byte_in s.place address → Use s held (examine address byte) s held
  deposits : {s t : Situation S} {answer : Written} (address byte : ℕ) → answer ≡ answer_at s.place.cells address →
      t ≡ situation s.hand (writing s.place address byte) → Use s held (deposit address byte answer) t held
  -- Release turns it back.
  releases : {s : Situation S} → Use s held release s run

-- Everything that can be done with one machine from power-up, over a store and a port card that nothing else changes: the
-- calls with their answers, the last first, and the situation and the key after them.
pub data History {S : Type 0} (start : Place S) : List Event → Situation S → Key → Type 0 where
  powered : History start [] (situation Start start) run
  then : {es : List Event} {s t : Situation S} {k j : Key} {e : Event} →
      History start es s k → Use s k e t j → History start (e ∷ es) t j
