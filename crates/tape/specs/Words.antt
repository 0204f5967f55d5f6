-- A word of the tape, in the grammar's terms.
use Rattle.std.specs.Prelude.{◌≡◌, ℕ, suc, ◌+◌, ◌≤◌, List, [], ◌∷◌, length, drop}
use Rattle.tape.specs.Tape.{Ending, bad, later, Reads}
use Rattle.tape.specs.declared.refusals.TapeRefusal.{TapeRefusal}
use Rattle.tape.specs.declared.refusals.TapeRefusal.TheVariants.{BadWord}

-- eight letters and F stand from the place on, and spell v
pub record WordFrom (tape : List ℕ) (from v : ℕ) : Type 0 where
  pub within : from + 9 ≤ length tape
  pub reads : {room : ℕ} {words : List ℕ} {end : Ending} → Reads room (drop (from + 9) tape) words end → Reads (suc room) (66 ∷ drop from tape) (v ∷ words) (later 10 end)

-- the word breaks off, and the refusal names the byte at fault
pub record BrokenFrom (tape : List ℕ) (from : ℕ) (refusal : TapeRefusal) : Type 0 where
  pub after : ℕ
  pub is : refusal ≡ BadWord (from + after)
  pub reads : {room : ℕ} → Reads (suc room) (66 ∷ drop from tape) [] (bad (1 + after))
