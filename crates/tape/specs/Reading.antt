-- What a reading leaves and answers, and that a tape has only one.
use Rattle.std.specs.Prelude.{◌≡◌, ℕ, List, ◌++◌, length, drop, Ok, Err, Result}
use Rattle.tape.specs.Tape.{Ending, stopped, bad, full, Reads}
use Rattle.tape.specs.declared.refusals.TapeRefusal.{TapeRefusal}
use Rattle.tape.specs.declared.refusals.TapeRefusal.TheVariants.{BadWord, BufferFull}

-- how many words there are and where the tape ends, or the refusal with its place
abbrev pub answered : List ℕ → Ending → Result (ℕ × ℕ) TapeRefusal
answered words (stopped place) = Ok (length words, place)
answered words (bad place) = Err (BadWord place)
answered words (full place) = Err (BufferFull place)

-- the answer, from where the tape ends and from the count of the words or why it is refused
abbrev pub with_place : ℕ → Result ℕ TapeRefusal → Result (ℕ × ℕ) TapeRefusal
with_place place (Ok count) = Ok (count, place)
with_place place (Err refusal) = Err refusal

-- A tape is read into a buffer: its words stand at the front, and every other byte is as it was.
pub record Reading (tape before after : List ℕ) (result : Result (ℕ × ℕ) TapeRefusal) : Type 0 where
  pub words : List ℕ
  pub ending : Ending
  pub reads : Reads (length before) tape words ending
  pub answer : result ≡ answered words ending
  pub buffer : after ≡ words ++ drop (length words) before

-- the grammar is unambiguous: a tape and a room have one list of words and one ending
abbrev pub OneReading : Type 0
OneReading =
    (room : ℕ) (tape words others : List ℕ) (end other : Ending) → Reads room tape words end → Reads room tape others other → (words ≡ others) × (end ≡ other)
