-- A tape has one reading: each reading that the grammar allows is what a single pass over the bytes gives.
use Rattle.std.proofs.Common.{◌≡◌, ℕ, zero, suc, pred, ◌+◌, ◌-◌, Bool, true, false, cond, eqb, List, [], ◌∷◌, ◌++◌, map, length, sym, refl, ap, ◌∙◌, append_assoc, append-nil, add-zero, add_assoc, one-add, arith, ne_eqb}
use Rattle.tape.proofs.Endings.{later_later, later_none}
use Rattle.tape.specs.Reading.{OneReading}
use Rattle.tape.specs.Tape.{letter, value, Begins, Ending, stopped, bad, full, later, Reads, input_ends, dollar, skips, reads_word, bad_letter, bad_end, no_room}

abbrev Out : Type 0
Out = List ℕ × Ending

-- outside a word, or inside one, with so many letters due and these bits so far
data State : Type 0 where
  outside : State
  inside : ℕ → List Bool → State

abbrev placed : ℕ → Out → Out
placed v out = (v ∷ out.0, out.1)

-- a B with so much room: the word goes on, if there is any
abbrev begun : ℕ → ℕ → Out → Out
begun at zero out = ([], full at)
begun at (suc room) out = out

-- the words and the ending from a place on
abbrev pass : State → ℕ → ℕ → List ℕ → Out
pass outside at room [] = ([], stopped at)
pass outside at room (x ∷ xs) =
    cond (eqb x 36) ([], stopped at) (cond (eqb x 66) (begun at room (pass (inside 8 []) (at + 1) (pred room) xs)) (pass outside (at + 1) room xs))
pass (inside due bits) at room [] = ([], bad at)
pass (inside zero bits) at room (x ∷ xs) =
    cond (eqb x 70) (placed (value bits) (pass outside (at + 1) room xs)) ([], bad at)
pass (inside (suc due) bits) at room (x ∷ xs) =
    cond (eqb x 80) (pass (inside due (bits ++ true ∷ [])) (at + 1) room xs) (cond (eqb x 78) (pass (inside due (bits ++ false ∷ [])) (at + 1) room xs) ([], bad at))

-- the letters of a word are passed over, and their bits kept
letters : (bits before : List Bool) (due all at room : ℕ) (rest : List ℕ) → all ≡ length bits + due → pass (inside all before) at room (map letter bits ++ rest) ≡ pass (inside due (before ++ bits)) (at + length bits) room rest
letters [] before due all at room rest e =
    let same : all ≡ due = omega arith in
    rw (append-nil, add-zero, same)
letters (b ∷ bits) before due zero at room rest e = absurd (omega arith)
letters (b ∷ bits) before due (suc all) at room rest e =
    one b ∙ letters bits (before ++ b ∷ []) due all (at + 1) room rest (omega arith) ∙ rw (append_assoc, add_assoc, one-add)
  where
    one : (b : Bool) → pass (inside (suc all) before) at room (letter b ∷ (map letter bits ++ rest)) ≡ pass (inside all (before ++ b ∷ [])) (at + 1) room (map letter bits ++ rest)
    one true = refl
    one false = refl

no_letter : (due at room : ℕ) (bits : List Bool) (rest : List ℕ) → (Begins 78 rest → ⊥) → (Begins 80 rest → ⊥) → pass (inside (suc due) bits) at room rest ≡ ([], bad at)
no_letter due at room bits [] n p = refl
no_letter due at room bits (x ∷ xs) n p = rw (ne_eqb x 80 p, ne_eqb x 78 n)

no_end : (at room : ℕ) (bits : List Bool) (rest : List ℕ) → (Begins 70 rest → ⊥) → pass (inside 0 bits) at room rest ≡ ([], bad at)
no_end at room bits [] f = refl
no_end at room bits (x ∷ xs) f = rw (ne_eqb x 70 f)

-- each reading is that of the pass
once : {room : ℕ} {tape words : List ℕ} {end : Ending} (at : ℕ) → Reads room tape words end → pass outside at room tape ≡ (words, later at end)
once at input_ends = rw add-zero
once at dollar = rw add-zero
once at (skips {x} {end} b d r) = rw (ne_eqb x 36 d, ne_eqb x 66 b, later_later at 1 end) (once (at + 1) r)
once at (reads_word {room} {xs} {end} bits eight r) =
    let place : at + 1 + length bits + 1 ≡ at + 10 = omega arith in
    rw (append_assoc, letters bits [] 0 8 (at + 1) room (70 ∷ xs) (omega arith), place, later_later) (ap (placed (value bits)) (once (at + 10) r))
once at (bad_letter {room} bits rest few n p) =
    letters bits [] (suc (7 - length bits)) 8 (at + 1) room rest (omega arith) ∙ no_letter _ _ room bits rest n p ∙ ap (λ place. ([], bad place)) (omega arith)
once at (bad_end {room} bits rest eight f) =
    letters bits [] 0 8 (at + 1) room rest (omega arith) ∙ no_end _ room bits rest f ∙ ap (λ place. ([], bad place)) (omega arith)
once at no_room = rw add-zero

pub one_reading : OneReading
one_reading room tape words others end other r s =
    let same : ◌≡◌ {A = Out} (words, end) (others, other) = rw (← later_none end, ← later_none other) (sym (once 0 r) ∙ once 0 s) in
    (ap (λ out. out.0) same, ap (λ out. out.1) same)
