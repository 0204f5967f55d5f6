-- The number and the place of each refusal, and the text that shows both.
use Rattle.std.specs.Prelude.{ℕ, List, ◌++◌, codes, decimal}
use Rattle.tape.specs.declared.refusals.TapeRefusal.{TapeRefusal}
use Rattle.tape.specs.declared.refusals.TapeRefusal.TheVariants.{BadWord, BufferFull}

abbrev pub refusal_number : TapeRefusal → ℕ
refusal_number (BadWord place) = 7
refusal_number (BufferFull place) = 8

abbrev pub refusal_place : TapeRefusal → ℕ
refusal_place (BadWord place) = place
refusal_place (BufferFull place) = place

-- the number after the word `tape`, and the place after the word `at`
abbrev pub refusal_text : TapeRefusal → List ℕ
refusal_text refusal = codes "tape " ++ (decimal (refusal_number refusal) ++ (codes " at " ++ decimal (refusal_place refusal)))
