-- What decoding and encoding have to do with the instruction table and with each other.
use Rattle.std.specs.Prelude.{◌≡◌, ℕ, ◌%◌, ◌<◌, true, false, cond, ◌||◌, Some, None, Ok, Err, Option, Result, ◌≢◌}
use Rattle.isa.specs.declared.refusals.Refusal.{Refusal}
use Rattle.isa.specs.declared.refusals.Refusal.TheVariants.{NoInstruction}
use Rattle.isa.specs.declared.instructions.Instruction.{Instruction}
use Rattle.isa.specs.declared.instructions.Instruction.TheVariants.{Halt}
use Rattle.isa.specs.Codes.{bits, any_middle, has_code, undefined}
use Rattle.isa.specs.Decoding.{decoded}
use Rattle.isa.specs.Encoding.{encoded}

-- What a byte decodes to has the byte for a code; exactly the six undefined bytes decode to nothing.
abbrev pub InTable : ℕ → Option Instruction → Type 0
InTable c (Some i) = (has_code i c ≡ true) × (undefined c ≡ false)
InTable c None = undefined c ≡ true

-- Whatever instruction has the byte for a code is the one that it decodes to.
abbrev pub OnlyOne : ℕ → Option Instruction → Type 0
OnlyOne c r = (i : Instruction) → has_code i c ≡ true → r ≡ Some i

-- The byte with its free bits at zero, and 00H for a halt.
abbrev pub plain : ℕ → ℕ
plain c =
    cond (has_code Halt c) 0
    (cond (any_middle 0 7 c) (bits 0 0 7) (cond (any_middle 1 4 c || any_middle 1 6 c) (bits 1 0 (c % 8)) c))

-- Encoding what a byte decodes to gives the plain code.
abbrev pub EncodesBack : ℕ → Option Instruction → Type 0
EncodesBack c (Some i) = encoded i ≡ Ok (plain c)
EncodesBack c None = Unit {0}

-- Decoding an encoded instruction gives it back; an instruction is refused only if no byte is its code.
abbrev pub DecodesBack : Instruction → Result ℕ Refusal → Type 0
DecodesBack i (Ok c) = (c < 256) × (decoded c ≡ Some i)
DecodesBack i (Err NoInstruction) = (c : ℕ) → c < 256 → has_code i c ≢ true
