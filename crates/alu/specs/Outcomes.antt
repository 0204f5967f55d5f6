-- The flags that tell of a result.
use Rattle.std.specs.Prelude.{ℕ, ◌%◌, Bool, ◌==◌, count_ones, nat_le}
use Rattle.isa.specs.declared.conditions.Flags.{Flags}
use Rattle.alu.specs.declared.outcomes.Outcome.{Outcome}

-- An even number of ones.
abbrev pub even_ones : ℕ → Bool
even_ones n = count_ones n % 2 == 0

-- Zero tells a zero result, sign is its bit 7, parity tells an even number of ones; carry is given.
abbrev pub flags_of : Bool → ℕ → Flags
flags_of carry v = record { carry = carry; zero = (v == 0); sign = nat_le 128 v; parity = even_ones v }

-- A result with its flags.
abbrev pub outcome : Bool → ℕ → Outcome
outcome carry v = record { value = v; flags = flags_of carry v }
