-- The agreement of the two engines.
use Rattle.std.specs.Prelude.{◌≡◌, ℕ, ◌+◌, ◌-◌, List, [], ◌∷◌, map, length, Some, None, Ok, Err, Option, Result}
use Rattle.cpu.specs.declared.faults.Fault.{Fault}
use Rattle.cpu.specs.Place.{Place}
use Rattle.states.specs.Situation.{Situation}
use Rattle.states.specs.Sequencing.{states_in_hand}
use Rattle.states.specs.TickLaws.{wait, idle}
use Rattle.agreement.specs.Calls.{Event, tick, hold, examine, deposit, release, Key, History}
use Rattle.agreement.specs.InstructionMachine.{program_of, fed}

-- The table states of the instructions that ended, the last first.
abbrev pub with_ended : Option ℕ → List ℕ → List ℕ
with_ended None ns = ns
with_ended (Some states) ns = states ∷ ns

abbrev pub endings_with : Event → List ℕ → List ℕ
endings_with (tick l (Ok t)) ns = with_ended t.ended ns
endings_with (tick l (Err f)) ns = ns
endings_with (hold granted) ns = ns
endings_with (examine address byte) ns = ns
endings_with (deposit address byte answer) ns = ns
endings_with release ns = ns

abbrev pub endings : List Event → List ℕ
endings [] = []
endings (e ∷ es) = endings_with e (endings es)

-- The last call was a tick that ended an instruction.
abbrev pub Ends : Event → Type 0
Ends (tick l (Ok t)) = (states : ℕ) × (t.ended ≡ Some states)
Ends (tick l (Err f)) = ⊥
Ends (hold granted) = ⊥
Ends (examine address byte) = ⊥
Ends (deposit address byte answer) = ⊥
Ends release = ⊥

abbrev pub JustEnded : List Event → Type 0
JustEnded [] = ⊥
JustEnded (e ∷ es) = Ends e

-- What accepted ticks are counted for.
abbrev pub accepted : Event → ℕ
accepted (tick l (Ok t)) = 1
accepted (tick l (Err f)) = 0
accepted (hold granted) = 0
accepted (examine address byte) = 0
accepted (deposit address byte answer) = 0
accepted release = 0

abbrev pub waited : Event → ℕ
waited (tick l (Ok t)) = wait t
waited (tick l (Err f)) = 0
waited (hold granted) = 0
waited (examine address byte) = 0
waited (deposit address byte answer) = 0
waited release = 0

abbrev pub idled : Event → ℕ
idled (tick l (Ok t)) = idle t
idled (tick l (Err f)) = 0
idled (hold granted) = 0
idled (examine address byte) = 0
idled (deposit address byte answer) = 0
idled release = 0

abbrev pub total : (Event → ℕ) → List Event → ℕ
total f [] = 0
total f (e ∷ es) = f e + total f es

abbrev pub sum : List ℕ → ℕ
sum [] = 0
sum (n ∷ ns) = n + sum ns

abbrev pub carried_out : ℕ → Result (Option ℕ) Fault
carried_out states = Ok (Some states)

-- As each instruction ends, registers, flags, ring, ring number, stopped mark, cells with kinds and the card's rules and
-- state are those of the instruction machine, fed the list that the calls and their answers make; and each of its steps was
-- carried out and answered the table states that the ticks answered.
abbrev pub EnginesAgree : {S : Type 0} → Place S → Type 0
EnginesAgree {S} start =
    (es : List Event) (s : Situation S) (k : Key) → History start es s k → JustEnded es →
    fed start (program_of es).items ≡ record { place = s.place; answers = map carried_out (endings es) }

-- Accepted ticks are the table states of the instructions that ended, waits, idle states and the states in hand.
abbrev pub TicksAddUp : {S : Type 0} → Place S → Type 0
TicksAddUp {S} start =
    (es : List Event) (s : Situation S) (k : Key) → History start es s k →
    total accepted es ≡ sum (endings es) + total waited es + total idled es + states_in_hand s.hand

-- Two machines powered up over like stores and like cards: for every n, with the same jams and deposits up to and including
-- their nth instructions, they are alike as these end, and the accepted ticks of each, less its own waits and idle states,
-- make the same number.
abbrev pub MachinesAgree : {S : Type 0} → Place S → Type 0
MachinesAgree {S} start =
    (other : Place S) → start ≡ other → (n : ℕ) →
    (es fs : List Event) (s t : Situation S) (j k : Key) → History start es s j → History other fs t k →
    JustEnded es → length (endings es) ≡ n → JustEnded fs → length (endings fs) ≡ n →
    (program_of es).items ≡ (program_of fs).items →
    (s.place ≡ t.place) ×
    (total accepted es - total waited es - total idled es ≡ total accepted fs - total waited fs - total idled fs)
