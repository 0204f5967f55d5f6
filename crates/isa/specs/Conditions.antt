-- The four flags, and the conditions on them.
use Rattle.std.specs.Prelude.{ℕ, zero, suc, ◌+◌, ◌*◌, ◌%◌, Bool, true, false, not, cond, Ok, Err, Result, nat_le, nat_lt}
use Rattle.isa.specs.declared.refusals.Refusal.{Refusal}
use Rattle.isa.specs.declared.refusals.Refusal.TheVariants.{NoInstruction}
use Rattle.isa.specs.declared.conditions.Flag.{Flag}
use Rattle.isa.specs.declared.conditions.Flag.TheVariants.{Carry, Zero, Sign, Parity}
use Rattle.isa.specs.declared.conditions.Flags.{Flags}
use Rattle.isa.specs.declared.conditions.Condition.{Condition}
use Rattle.isa.specs.declared.conditions.Condition.TheVariants.{Always, When}

-- A bit as a number.
abbrev pub bit : Bool → ℕ
bit true = 1
bit false = 0

-- The code cc of a flag, and the flag of a code from 0 to 3.
abbrev pub flag_code : Flag → ℕ
flag_code Carry = 0
flag_code Zero = 1
flag_code Sign = 2
flag_code Parity = 3

abbrev pub flag_of : ℕ → Flag
flag_of zero = Carry
flag_of (suc zero) = Zero
flag_of (suc (suc zero)) = Sign
flag_of (suc (suc (suc n))) = Parity

-- The three bits fcc of a condition on a flag, and the condition that they stand for.
abbrev pub condition_code : Flag → Bool → ℕ
condition_code flag f = 4 * bit f + flag_code flag

abbrev pub condition_of : ℕ → Condition
condition_of fcc = When (flag_of (fcc % 4)) (nat_le 4 fcc)

-- A code above 3 is none of a flag, and one above 7 none of a condition.
abbrev pub flag_with_code : ℕ → Result Flag Refusal
flag_with_code c = cond (nat_lt c 4) (Ok (flag_of c)) (Err NoInstruction)

abbrev pub condition_with_code : ℕ → Result Condition Refusal
condition_with_code fcc = cond (nat_lt fcc 8) (Ok (condition_of fcc)) (Err NoInstruction)

-- What a flag holds.
abbrev pub flag_in : Flags → Flag → Bool
flag_in f Carry = f.carry
flag_in f Zero = f.zero
flag_in f Sign = f.sign
flag_in f Parity = f.parity

abbrev pub same : Bool → Bool → Bool
same a true = a
same a false = not a

-- A condition on a flag holds when the flag has the value f.
abbrev pub holds : Condition → Flags → Bool
holds Always flags = true
holds (When flag f) flags = same (flag_in flags flag) f
