-- A schedule, tick by tick: what is left of it begins with the two bytes of the next tick.
use Rattle.std.proofs.Common.{◌≡◌, ℕ, ◌+◌, ◌*◌, ◌/◌, ◌<◌, ◌≤◌, true, false, cond, List, [], ◌∷◌, ◌++◌, length, get_or, slice_index, drop, Ok, Err, refl, ap, ◌∙◌, arith}
use Rattle.std.proofs.lemmas.List.{drop_more, length-drop}
use Rattle.runs.specs.declared.refusals.ScheduleRefusal.TheVariants.{OtherBits}
use Rattle.runs.specs.Schedules.{levels_at, levels_of, other_bits, bits_judged}

two_more : (bytes : List ℕ) (i : ℕ) → i < length bytes / 2 →
    drop (2 * i) bytes ≡ get_or bytes (2 * i) 0 ∷ (get_or bytes (2 * i + 1) 0 ∷ drop (2 * (i + 1)) bytes)
two_more bytes i h =
    let next : 2 * i + 1 + 1 ≡ 2 * (i + 1) = omega arith in
    drop_more bytes (2 * i) 0 (omega arith) ∙
    ap (λ rest. get_or bytes (2 * i) 0 ∷ rest)
    (drop_more bytes (2 * i + 1) 0 (omega arith) ∙ ap (λ n. get_or bytes (2 * i + 1) 0 ∷ drop n bytes) next)

left : (bytes : List ℕ) (i : ℕ) → length bytes / 2 ≤ i → length (drop (2 * i) bytes) < 2
left bytes i h = simp length-drop (omega arith)

pub levels_more : (bytes : List ℕ) (i : ℕ) → i < length bytes / 2 →
    levels_of (drop (2 * i) bytes) ≡ levels_at (get_or bytes (2 * i) 0) (get_or bytes (2 * i + 1) 0) ∷ levels_of (drop (2 * (i + 1)) bytes)
unfolding levels_of
levels_more bytes i h = ap levels_of (two_more bytes i h)

-- Two bytes and the rest are the next tick and the rest of the ticks.
pub levels_next : (all pair rest : List ℕ) → all ≡ pair ++ rest → length pair ≡ 2 →
    levels_of all ≡ levels_at (slice_index pair 0) (slice_index pair 1) ∷ levels_of rest
unfolding levels_of
levels_next all [] rest e two = absurd (omega arith)
levels_next all (bits ∷ []) rest e two = absurd (omega arith)
levels_next all (bits ∷ (jam ∷ [])) rest e two = ap levels_of e
levels_next all (bits ∷ (jam ∷ (more ∷ others))) rest e two = absurd (omega arith)

pub levels_none : (bytes : List ℕ) → length bytes < 2 → levels_of bytes ≡ []
unfolding levels_of
levels_none [] h = refl
levels_none (bits ∷ []) h = refl
levels_none (bits ∷ (jam ∷ rest)) h = absurd (omega arith)

pub levels_all : (bytes : List ℕ) (i : ℕ) → length bytes / 2 ≤ i → levels_of (drop (2 * i) bytes) ≡ []
levels_all bytes i h = levels_none (drop (2 * i) bytes) (left bytes i h)

-- A tick for each two bytes.
pub levels_count : (bytes : List ℕ) → length (levels_of bytes) ≡ length bytes / 2
unfolding levels_of
levels_count [] = refl
levels_count (bits ∷ []) = refl
levels_count (bits ∷ (jam ∷ rest)) = let e = levels_count rest in omega arith

bits_next : (i : ℕ) (all pair rest : List ℕ) → all ≡ pair ++ rest → length pair ≡ 2 →
    bits_judged i all ≡ cond (other_bits (slice_index pair 0)) (Err (OtherBits i)) (bits_judged (i + 1) rest)
unfolding bits_judged
bits_next i all [] rest e two = absurd (omega arith)
bits_next i all (bits ∷ []) rest e two = absurd (omega arith)
bits_next i all (bits ∷ (jam ∷ [])) rest e two = ap (bits_judged i) e
bits_next i all (bits ∷ (jam ∷ (more ∷ others))) rest e two = absurd (omega arith)

-- The next tick has other bits.
pub bits_bad : (i : ℕ) (all pair rest : List ℕ) → all ≡ pair ++ rest → length pair ≡ 2 → true ≡ other_bits (slice_index pair 0) →
    bits_judged i all ≡ Err (OtherBits i)
bits_bad i all pair rest e two bad = bits_next i all pair rest e two ∙ rw (← bad)

-- The next tick is good.
pub bits_good : (i : ℕ) (all pair rest : List ℕ) → all ≡ pair ++ rest → length pair ≡ 2 → false ≡ other_bits (slice_index pair 0) →
    bits_judged i all ≡ bits_judged (i + 1) rest
bits_good i all pair rest e two good = bits_next i all pair rest e two ∙ rw (← good)

-- No tick is left.
pub bits_none : (i : ℕ) (bytes : List ℕ) → length bytes < 2 → bits_judged i bytes ≡ Ok tt
unfolding bits_judged
bits_none i [] h = refl
bits_none i (bits ∷ []) h = refl
bits_none i (bits ∷ (jam ∷ rest)) h = absurd (omega arith)
