-- What a processor holds from one instruction to the next.
use Rattle.std.specs.Prelude.{ℕ, Bool, true, false}
use Rattle.isa.specs.declared.register_file.Registers.{Registers}
use Rattle.isa.specs.declared.conditions.Flags.{Flags}
use Rattle.cpu.specs.declared.processors.Processor.{Processor}
use Rattle.cpu.specs.AddressRing.{Ring, ring_of, zero_ring, pc_of, advanced}

-- A processor without the facts that its ring carries, so that two can be compared.
pub record View : Type 0 where
  pub registers : Registers
  pub flags : Flags
  pub ring : Ring
  pub stopped : Bool

abbrev pub view_of : Processor → View
view_of p = record { registers = p.registers; flags = p.flags; ring = ring_of p.ring; stopped = p.stopped }

-- At power-up all is zero and the processor is stopped.
abbrev pub powered : View
powered = record {
  registers = record { a = 0; b = 0; c = 0; d = 0; e = 0; h = 0; l = 0 };
  flags = record { carry = false; zero = false; sign = false; parity = false };
  ring = zero_ring;
  stopped = true;
}

-- One part of a processor changed, and the others as they were.
abbrev pub with_registers : View → Registers → View
with_registers v r = record { registers = r; flags = v.flags; ring = v.ring; stopped = v.stopped }

abbrev pub with_flags : View → Flags → View
with_flags v f = record { registers = v.registers; flags = f; ring = v.ring; stopped = v.stopped }

abbrev pub with_ring : View → Ring → View
with_ring v r = record { registers = v.registers; flags = v.flags; ring = r; stopped = v.stopped }

abbrev pub with_stopped : View → Bool → View
with_stopped v s = record { registers = v.registers; flags = v.flags; ring = v.ring; stopped = s }

-- The program counter, and the processor with it moved on by one.
abbrev pub pc_in : View → ℕ
pc_in v = pc_of v.ring

abbrev pub advancing : View → View
advancing v = with_ring v (advanced v.ring)
