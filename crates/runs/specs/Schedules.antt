-- A schedule: two bytes for each tick. Bit 0 of the first is READY, bit 1 is INT, its other bits are zero; the second is
-- the jam byte.
use Rattle.std.specs.Prelude.{ℕ, ◌+◌, ◌/◌, ◌%◌, Bool, cond, ◌||◌, List, [], ◌∷◌, length, Ok, Err, Result, ◌==◌, nat_lt}
use Rattle.states.specs.declared.ticks.Levels.{Levels}
use Rattle.runs.specs.declared.refusals.ScheduleRefusal.{ScheduleRefusal}
use Rattle.runs.specs.declared.refusals.ScheduleRefusal.TheVariants.{BadLength, OtherBits}

-- The number of each refusal.
abbrev pub refusal_number : ScheduleRefusal → ℕ
refusal_number BadLength = 5
refusal_number (OtherBits tick) = 6

-- The levels of one tick.
abbrev pub levels_at : ℕ → ℕ → Levels
levels_at bits jam = record { ready = (bits % 2 == 1); int = (bits / 2 % 2 == 1); jam = jam }

-- The levels that a schedule means, tick by tick.
unfoldable pub levels_of : List ℕ → List Levels
levels_of [] = []
levels_of (bits ∷ []) = []
levels_of (bits ∷ (jam ∷ rest)) = levels_at bits jam ∷ levels_of rest

abbrev pub Judgement : Type 0
Judgement = Result (Unit {0}) ScheduleRefusal

-- The length is even, and at most that of 65,536 ticks.
abbrev pub length_judged : ℕ → Judgement
length_judged n = cond (n % 2 == 1 || nat_lt 131072 n) (Err BadLength) (Ok tt)

-- Bits 2 to 7 of a first byte are zero in a good schedule.
abbrev pub other_bits : ℕ → Bool
other_bits bits = nat_lt 3 bits

-- Only READY and INT are set in each first byte. The tick that comes first has this index.
unfoldable pub bits_judged : ℕ → List ℕ → Judgement
bits_judged tick [] = Ok tt
bits_judged tick (bits ∷ []) = Ok tt
bits_judged tick (bits ∷ (jam ∷ rest)) = cond (other_bits bits) (Err (OtherBits tick)) (bits_judged (tick + 1) rest)

abbrev pub first : Judgement → Judgement → Judgement
first (Err refusal) later = Err refusal
first (Ok good) later = later

-- The length is judged first, then the bits of the whole schedule.
abbrev pub judged : List ℕ → Judgement
judged schedule = first (length_judged (length schedule)) (bits_judged 0 schedule)
