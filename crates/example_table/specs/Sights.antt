-- What a row of the trace shows of a processor.
use Rattle.std.specs.Prelude.{ℕ, Bool, true, false, [], ◌∷◌}
use Rattle.cpu.specs.Processor.{View, pc_in}
use Rattle.example_table.specs.declared.sights.Sight.{Sight}

abbrev pub digit_of : Bool → ℕ
digit_of true = 1
digit_of false = 0

abbrev pub sight_of : View → Sight
sight_of v = record {
  flags = digit_of v.flags.carry ∷ digit_of v.flags.zero ∷ digit_of v.flags.sign ∷ digit_of v.flags.parity ∷ [];
  a = v.registers.a;
  l = v.registers.l;
  k = v.ring.number;
  pc = pc_in v;
}
