-- What the digit of a flag prints.
use Rattle.std.proofs.Common.{◌≡◌, ℕ, Bool, true, false, arith}
use Rattle.std.specs.Prelude.{decimal}
use Rattle.std.specs.Int.{from_bool}
use Rattle.std.proofs.lemmas.Fmt.{decimal_digit}
use Rattle.report.specs.Line.{flag_digit}

pub decimal_flag : (n : ℕ) (set : Bool) → n ≡ from_bool set → decimal n ≡ flag_digit set
decimal_flag n true e = rw e (decimal_digit 1 (omega arith))
decimal_flag n false e = rw e (decimal_digit 0 (omega arith))
