-- The blanks before a word, or before the tape's end.
use Rattle.std.proofs.Common.{◌≡◌, ℕ, inl, inr, List, [], ◌∷◌, drop, arith, one-add}
use Rattle.std.specs.List.{prefix_len}
use Rattle.std.proofs.lemmas.Bool.{cases_Bool}
use Rattle.std.proofs.lemmas.Bool.Decides.{nat_tests}
use Rattle.tape.proofs.Endings.{later_later, later_none}
use Rattle.tape.specs.Places.{is_blank}
use Rattle.tape.specs.Tape.{Begins, Ending, stopped, later, Reads, input_ends, dollar, skips}

-- a reading goes on after them
pub skipped : (xs : List ℕ) {room : ℕ} {words : List ℕ} {end : Ending} → Reads room (drop (prefix_len is_blank xs) xs) words end → Reads room xs words (later (prefix_len is_blank xs) end)
skipped [] r = rw later_none r
skipped (x ∷ xs) r = elim (cases_Bool (is_blank x)) [
  | inl more ↦ rw (more, ← later_later) (skips (λ (b : x ≡ 66). grind (arith, nat_tests)) (λ (d : x ≡ 36). grind (arith, nat_tests)) (skipped xs (rw (more, one-add) at r)))
  | inr none ↦ rw (none, later_none) (rw none at r)
]

-- where no B comes after them, the tape ends
pub stops : (room : ℕ) (xs : List ℕ) → (Begins 66 (drop (prefix_len is_blank xs) xs) → ⊥) → Reads room (drop (prefix_len is_blank xs) xs) [] (stopped 0)
stops room [] no-B = input_ends
stops room (x ∷ xs) no-B = elim (cases_Bool (is_blank x)) [
  | inl more ↦ rw (more, one-add) (stops room xs (rw (more, one-add) at no-B))
  | inr none ↦
      let no-B = rw none at no-B in
      let d : x ≡ 36 = grind (arith, nat_tests) in
      rw (none, d) dollar
]
