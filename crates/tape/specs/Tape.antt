-- What a BNPF tape says: words among bytes that are skipped. A byte goes by its ASCII code:
-- B is 66, F is 70, N is 78, P is 80, and $ is 36.
use Rattle.std.specs.Prelude.{◌≡◌, ℕ, suc, ◌+◌, ◌*◌, ◌^◌, ◌<◌, Bool, true, false, ◌≢◌, List, [], ◌∷◌, ◌++◌, map, length}

-- the letter of a bit: P for one, N for zero
abbrev pub letter : Bool → ℕ
letter true = 80
letter false = 78

-- B, a letter for each bit, F
abbrev pub word : List Bool → List ℕ
word bits = 66 ∷ (map letter bits ++ 70 ∷ [])

abbrev pub bit : Bool → ℕ
bit true = 1
bit false = 0

-- the bits as a number, the highest first: each weighs a power of two, by how many come after it
abbrev pub value : List Bool → ℕ
value [] = 0
value (b ∷ bits) = bit b * 2 ^ length bits + value bits

-- there is a first byte, and it is x
abbrev pub Begins : ℕ → List ℕ → Type 0
Begins x [] = ⊥
Begins x (y ∷ ys) = y ≡ x

-- How a reading ends, with the place: at a $ or the input's end, at a byte that a word cannot have there,
-- or at a B for which there is no room.
pub data Ending : Type 0 where
  stopped : ℕ → Ending
  bad : ℕ → Ending
  full : ℕ → Ending

-- the same ending on a tape with n more bytes in front
abbrev pub later : ℕ → Ending → Ending
later n (stopped place) = stopped (n + place)
later n (bad place) = bad (n + place)
later n (full place) = full (n + place)

-- With room for so many words, the tape has these words and this ending.
pub data Reads : (room : ℕ) (tape words : List ℕ) → Ending → Type 0 where
  -- the input's end ends the tape
  input_ends : {room : ℕ} → Reads room [] [] (stopped 0)
  -- so does a $, whatever follows
  dollar : {room : ℕ} {xs : List ℕ} → Reads room (36 ∷ xs) [] (stopped 0)
  -- outside a word every byte but B and $ is skipped
  skips : {room x : ℕ} {xs words : List ℕ} {end : Ending} → x ≢ 66 → x ≢ 36 → Reads room xs words end → Reads room (x ∷ xs) words (later 1 end)
  -- a word has eight letters and takes one place of the room
  reads_word : {room : ℕ} {xs words : List ℕ} {end : Ending} (bits : List Bool) → length bits ≡ 8 → Reads room xs words end → Reads (suc room) (word bits ++ xs) (value bits ∷ words) (later 10 end)
  -- a word breaks off: after fewer than eight letters comes neither N nor P, or the input ends
  bad_letter : {room : ℕ} (bits : List Bool) (rest : List ℕ) → length bits < 8 → (Begins 78 rest → ⊥) → (Begins 80 rest → ⊥) → Reads (suc room) (66 ∷ (map letter bits ++ rest)) [] (bad (1 + length bits))
  -- a word breaks off: after eight letters comes no F
  bad_end : {room : ℕ} (bits : List Bool) (rest : List ℕ) → length bits ≡ 8 → (Begins 70 rest → ⊥) → Reads (suc room) (66 ∷ (map letter bits ++ rest)) [] (bad 9)
  -- a B with no room left, whatever follows
  no_room : {xs : List ℕ} → Reads 0 (66 ∷ xs) [] (full 0)
