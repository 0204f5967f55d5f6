-- The address ring: eight registers, of which one is the program counter.
use Rattle.std.specs.Prelude.{ℕ, ◌+◌, ◌%◌, List, replicate, slice_index, slice_set}
use Rattle.cpu.specs.declared.address_ring.AddressRing.{AddressRing}

-- What a ring holds.
pub record Ring : Type 0 where
  pub registers : List ℕ
  pub number : ℕ

abbrev pub ring_of : AddressRing → Ring
ring_of r = record { registers = r.registers; number = r.number }

abbrev pub zero_ring : Ring
zero_ring = record { registers = replicate 8 0; number = 0 }

abbrev pub pc_of : Ring → ℕ
pc_of r = slice_index r.registers r.number

-- The register with the number n takes an address, taken mod 16,384, and becomes the program counter.
abbrev pub with_pc : Ring → ℕ → ℕ → Ring
with_pc r n address = record { registers = slice_set r.registers n (address % 16384); number = n }

abbrev pub jumped : Ring → ℕ → Ring
jumped r target = with_pc r r.number target

abbrev pub advanced : Ring → Ring
advanced r = jumped r (pc_of r + 1)

abbrev pub called : Ring → ℕ → Ring
called r target = with_pc r ((r.number + 1) % 8) target

abbrev pub returned : Ring → Ring
returned r = record { registers = r.registers; number = (r.number + 7) % 8 }
