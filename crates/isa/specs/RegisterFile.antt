-- The seven registers: their codes, what they hold, and the address of M.
use Rattle.std.specs.Prelude.{ℕ, zero, suc, ◌+◌, ◌*◌, ◌%◌, cond, Ok, Err, Result, nat_lt}
use Rattle.isa.specs.declared.refusals.Refusal.{Refusal}
use Rattle.isa.specs.declared.refusals.Refusal.TheVariants.{NoInstruction}
use Rattle.isa.specs.declared.register_file.Register.{Register}
use Rattle.isa.specs.declared.register_file.Register.TheVariants.{A, B, C, D, E, H, L}
use Rattle.isa.specs.declared.register_file.Registers.{Registers}

-- The code of a register, and the register of a code from 0 to 6.
abbrev pub register_code : Register → ℕ
register_code A = 0
register_code B = 1
register_code C = 2
register_code D = 3
register_code E = 4
register_code H = 5
register_code L = 6

abbrev pub register_of : ℕ → Register
register_of zero = A
register_of (suc zero) = B
register_of (suc (suc zero)) = C
register_of (suc (suc (suc zero))) = D
register_of (suc (suc (suc (suc zero)))) = E
register_of (suc (suc (suc (suc (suc zero))))) = H
register_of (suc (suc (suc (suc (suc (suc n)))))) = L

-- A code above 6 is none of a register.
abbrev pub register_with_code : ℕ → Result Register Refusal
register_with_code c = cond (nat_lt c 7) (Ok (register_of c)) (Err NoInstruction)

-- What a register holds.
abbrev pub held : Registers → Register → ℕ
held r A = r.a
held r B = r.b
held r C = r.c
held r D = r.d
held r E = r.e
held r H = r.h
held r L = r.l

-- One register takes a byte, and the others stay.
abbrev pub replaced : Registers → Register → ℕ → Registers
replaced r A v = record { a = v; b = r.b; c = r.c; d = r.d; e = r.e; h = r.h; l = r.l }
replaced r B v = record { a = r.a; b = v; c = r.c; d = r.d; e = r.e; h = r.h; l = r.l }
replaced r C v = record { a = r.a; b = r.b; c = v; d = r.d; e = r.e; h = r.h; l = r.l }
replaced r D v = record { a = r.a; b = r.b; c = r.c; d = v; e = r.e; h = r.h; l = r.l }
replaced r E v = record { a = r.a; b = r.b; c = r.c; d = r.d; e = v; h = r.h; l = r.l }
replaced r H v = record { a = r.a; b = r.b; c = r.c; d = r.d; e = r.e; h = v; l = r.l }
replaced r L v = record { a = r.a; b = r.b; c = r.c; d = r.d; e = r.e; h = r.h; l = v }

-- M is the cell at (H mod 64) × 256 + L.
abbrev pub memory_address : Registers → ℕ
memory_address r = r.h % 64 * 256 + r.l
