-- The eight groups, and counting up and down.
use Rattle.std.specs.Prelude.{ℕ, ◌+◌, ◌-◌, ◌%◌, Bool, false, bit_and, bit_or, bit_xor, nat_lt}
use Rattle.isa.specs.Conditions.{bit}
use Rattle.isa.specs.declared.instructions.Group.{Group}
use Rattle.isa.specs.declared.instructions.Group.TheVariants.{Add, AddCarry, Subtract, SubtractBorrow, And, Xor, Or, Compare}
use Rattle.alu.specs.declared.outcomes.Outcome.{Outcome}
use Rattle.alu.specs.Outcomes.{outcome}

-- Of a sum, the result is mod 256, and carry is one exactly when it passes 255.
abbrev pub sum : ℕ → Outcome
sum t = outcome (nat_lt 255 t) (t % 256)

-- Of a - t, the result is mod 256, and carry is one exactly when the difference is below 0; t is at most 256.
abbrev pub difference : ℕ → ℕ → Outcome
difference a t = outcome (nat_lt a t) ((a + 256 - t) % 256)

-- The logic groups clear carry.
abbrev pub logical : ℕ → Outcome
logical v = outcome false v

-- A comparison sets the flags of the difference, and keeps the accumulator.
abbrev pub comparison : ℕ → ℕ → Outcome
comparison a t = record { value = a; flags = (difference a t).flags }

-- Each group of the accumulator a and the operand b, with the carry flag as it was.
abbrev pub combined : Group → ℕ → ℕ → Bool → Outcome
combined Add a b carry = sum (a + b + bit false)
combined AddCarry a b carry = sum (a + b + bit carry)
combined Subtract a b carry = difference a (b + bit false)
combined SubtractBorrow a b carry = difference a (b + bit carry)
combined And a b carry = logical (bit_and a b)
combined Xor a b carry = logical (bit_xor a b)
combined Or a b carry = logical (bit_or a b)
combined Compare a b carry = comparison a (b + bit false)

-- Counting keeps carry.
abbrev pub incremented : ℕ → Bool → Outcome
incremented v carry = outcome carry ((v + 1) % 256)

abbrev pub decremented : ℕ → Bool → Outcome
decremented v carry = outcome carry ((v + 255) % 256)
