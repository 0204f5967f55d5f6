-- The numbers of the refusals.
use Rattle.std.specs.Prelude.{ℕ}
use Rattle.isa.specs.declared.refusals.Refusal.{Refusal}
use Rattle.isa.specs.declared.refusals.Refusal.TheVariants.{NoInstruction}

abbrev pub refusal_number : Refusal → ℕ
refusal_number NoInstruction = 3
