-- Numbers in hexadecimal, by their digits' bytes.
use Rattle.std.specs.Prelude.{ℕ, ◌+◌, ◌-◌, ◌*◌, cond, ◌&&◌, List, [], ◌∷◌, Some, None, Option, nat_le, nat_lt}

-- What a digit is worth: 0 to 9, A to F and a to f.
abbrev pub digit_of : ℕ → Option ℕ
digit_of c =
    cond (nat_le 48 c && nat_le c 57) (Some (c - 48)) (cond (nat_le 65 c && nat_le c 70) (Some (c - 65 + 10)) (cond (nat_le 97 c && nat_le c 102) (Some (c - 97 + 10)) None))

-- A number with one more digit after it, if that still has sixteen bits.
abbrev pub with_digit : ℕ → Option ℕ → Option ℕ
with_digit v None = None
with_digit v (Some d) = cond (nat_lt (v * 16 + d) 65536) (Some (v * 16 + d)) None

-- A number with digits after it, one by one: none as soon as a byte is no digit or the number has too many bits.
abbrev pub onwards : Option ℕ → (ℕ → Option ℕ) → Option ℕ
onwards None more = None
onwards (Some v) more = more v

abbrev pub digits_from : ℕ → List ℕ → Option ℕ
digits_from v [] = Some v
digits_from v (c ∷ cs) = onwards (with_digit v (digit_of c)) (λ next. digits_from next cs)

-- The number of a word. A word with no digit has none.
abbrev pub number_of : List ℕ → Option ℕ
number_of [] = None
number_of (c ∷ cs) = digits_from 0 (c ∷ cs)

-- A number, if it is at most this.
abbrev pub at_most : ℕ → Option ℕ → Option ℕ
at_most most None = None
at_most most (Some v) = cond (nat_le v most) (Some v) None
