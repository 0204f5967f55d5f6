-- What a tape has at a place.
use Rattle.std.specs.Prelude.{◌≡◌, ℕ, ◌+◌, ◌*◌, ◌<◌, ◌==◌, ◌||◌, not, Bool, true, false, List, ◌∷◌, length, drop}
use Rattle.std.specs.List.{prefix_len}
use Rattle.tape.specs.Tape.{letter, bit, Begins}

-- x stands at the place
pub record Stands (tape : List ℕ) (place x : ℕ) : Type 0 where
  pub within : place < length tape
  pub here : drop place tape ≡ x ∷ drop (place + 1) tape

-- a letter stands at the place, and its bit after those of v makes w
pub record Letter (tape : List ℕ) (place v w : ℕ) : Type 0 where
  pub which : Bool
  pub worth : w ≡ v * 2 + bit which
  pub stands : Stands tape place (letter which)

-- neither N nor P stands at the place
pub record NoLetter (tape : List ℕ) (place : ℕ) : Type 0 where
  pub no-N : Begins 78 (drop place tape) → ⊥
  pub no-P : Begins 80 (drop place tape) → ⊥

-- a byte that is skipped outside a word: neither B nor $
abbrev pub is_blank : ℕ → Bool
is_blank byte = not (byte == 66 || byte == 36)

-- whether a B stands at the place
abbrev pub Marked : List ℕ → ℕ → Bool → Type 0
Marked tape place true = Stands tape place 66
Marked tape place false = Begins 66 (drop place tape) → ⊥

-- the bytes from the one place up to the other are skipped, and no byte after them is: a B comes then, or none does
pub record Found (tape : List ℕ) (from to : ℕ) (begins : Bool) : Type 0 where
  pub moves : to ≡ from + prefix_len is_blank (drop from tape)
  pub mark : Marked tape to begins
