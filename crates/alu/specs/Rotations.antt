-- The four rotations.
use Rattle.std.specs.Prelude.{ℕ, ◌+◌, ◌*◌, ◌/◌, ◌%◌, Bool, ◌==◌, nat_le}
use Rattle.isa.specs.Conditions.{bit}
use Rattle.isa.specs.declared.conditions.Flags.{Flags}
use Rattle.isa.specs.declared.instructions.Rotation.{Rotation}
use Rattle.isa.specs.declared.instructions.Rotation.TheVariants.{Left, Right, LeftThroughCarry, RightThroughCarry}
use Rattle.alu.specs.declared.outcomes.Outcome.{Outcome}

-- Bits turned by one place, of which the highest counts `top`: the bit that leaves at one end comes in at the other.
abbrev pub turned_left : ℕ → ℕ → ℕ
turned_left top n = n * 2 % (2 * top) + n / top

abbrev pub turned_right : ℕ → ℕ → ℕ
turned_right top n = n / 2 + n % 2 * top

-- The accumulator and carry after a rotation.
pub record Turned : Type 0 where
  pub value : ℕ
  pub carry : Bool

abbrev pub turned : ℕ → Bool → Turned
turned v c = record { value = v; carry = c }

-- Nine bits: carry above the accumulator.
abbrev pub nine : Bool → ℕ → ℕ
nine carry a = bit carry * 256 + a

abbrev pub split : ℕ → Turned
split n = turned (n % 256) (nat_le 256 n)

-- Eight bits turn, and carry takes the bit that went round; or nine bits turn.
abbrev pub turning : Rotation → ℕ → Bool → Turned
turning Left a carry = turned (turned_left 128 a) (nat_le 128 a)
turning Right a carry = turned (turned_right 128 a) (a % 2 == 1)
turning LeftThroughCarry a carry = split (turned_left 256 (nine carry a))
turning RightThroughCarry a carry = split (turned_right 256 (nine carry a))

-- Carry is the only flag that changes.
abbrev pub rotated : Rotation → ℕ → Flags → Outcome
rotated r a f = record {
  value = (turning r a f.carry).value;
  flags = record { carry = (turning r a f.carry).carry; zero = f.zero; sign = f.sign; parity = f.parity };
}
