-- The schedule of a run, by the bytes of its line.
use Rattle.std.specs.Prelude.{◌≡◌, ℕ, ◌+◌, ◌*◌, cond, List, [], ◌∷◌, Some, None, Ok, Err, Option, Result}
use Rattle.panel.specs.declared.commands.Mistake.{Mistake}
use Rattle.panel.specs.declared.commands.Mistake.TheVariants.{NoSuchCommand, BadNumber, TooManyWords, BadSchedule, IsHeld, IsNotHeld, NoMemory}
use Rattle.panel.specs.declared.words.Gap.TheVariants.{Blank}
use Rattle.panel.specs.Numbers.{digit_of}
use Rattle.panel.specs.Words.{is_gap, rest_of}

-- The byte of two digits, the high one first.
abbrev pub paired : Option ℕ → Option ℕ → Option ℕ
paired None low = None
paired (Some high) None = None
paired (Some high) (Some low) = Some (high * 16 + low)

-- The byte that a text begins with.
abbrev pub first_byte : List ℕ → Option ℕ
first_byte [] = None
first_byte (c ∷ []) = None
first_byte (c ∷ (d ∷ ds)) = paired (digit_of c) (digit_of d)

-- A byte before others.
abbrev pub followed : Option ℕ → Option (List ℕ) → Option (List ℕ)
followed None others = None
followed (Some b) None = None
followed (Some b) (Some bs) = Some (b ∷ bs)

-- The bytes of a text: each two digits in a row are one, and blanks may stand between bytes. A digit alone, or any other
-- character, and there are none.
unfoldable pub bytes_of : List ℕ → Option (List ℕ)
bytes_of [] = Some []
bytes_of (c ∷ []) = cond (is_gap Blank c) (Some []) None
bytes_of (c ∷ (d ∷ ds)) = cond (is_gap Blank c) (bytes_of (d ∷ ds)) (followed (paired (digit_of c) (digit_of d)) (bytes_of ds))

-- The schedule of a line: the bytes of what follows its first word.
abbrev pub schedule_of : List ℕ → Option (List ℕ)
schedule_of line = bytes_of (rest_of line)

-- A schedule was put into a buffer, or there is none, or there was no memory for it.
abbrev pub Unread : Mistake → Option (List ℕ) → Type 0
Unread NoSuchCommand o = ⊥
Unread BadNumber o = ⊥
Unread TooManyWords o = ⊥
Unread BadSchedule o = o ≡ None
Unread IsHeld o = ⊥
Unread IsNotHeld o = ⊥
Unread NoMemory o = Unit {0}

abbrev pub Put : Result (Unit {0}) Mistake → List ℕ → Option (List ℕ) → Type 0
Put (Ok done) bytes o = o ≡ Some bytes
Put (Err mistake) bytes o = Unread mistake o
