-- Worked examples of a step: what stands before it, and all that stands after it.
use Rattle.std.specs.Prelude.{◌≡◌, ℕ, zero, suc, ◌+◌, ◌-◌, ◌%◌, Bool, true, false, List, [], ◌∷◌, map, Ok, slice_index, slice_set, Some}
use Rattle.isa.specs.declared.register_file.Register.{Register}
use Rattle.isa.specs.declared.register_file.Register.TheVariants.{A, B}
use Rattle.isa.specs.RegisterFile.{replaced}
use Rattle.bus.specs.Store.{Cells, ram}
use Rattle.bus.specs.Card.{Rules}
use Rattle.cpu.specs.Processor.{View, powered, with_registers, with_flags, with_ring, with_stopped, pc_in}
use Rattle.cpu.specs.Place.{Place}
use Rattle.stepper.specs.declared.feeds.Feed.{Feed}
use Rattle.stepper.specs.declared.feeds.Feed.TheVariants.{Own, Jam}
use Rattle.stepper.specs.Steps.{Outcome, stepped}

-- A processor that is not stopped, all zero.
abbrev pub running : View
running = with_stopped powered false

-- The address register with the number n holds an address.
abbrev pub register : ℕ → ℕ → View → View
register n address v = with_ring v (record { registers = slice_set v.ring.registers n address; number = v.ring.number })

-- The ring number is k, and the program counter pc.
abbrev pub at : ℕ → ℕ → View → View
at k pc v = register k pc (with_ring v (record { registers = v.ring.registers; number = k }))

-- A register holds a byte.
abbrev pub holding : Register → ℕ → View → View
holding r byte v = with_registers v (replaced v.registers r byte)

-- The flags carry, zero, sign, parity, as digits.
abbrev pub digit : ℕ → Bool
digit zero = false
digit (suc n) = true

abbrev pub flagged : ℕ → ℕ → ℕ → ℕ → View → View
flagged c z s p v = with_flags v (record { carry = digit c; zero = digit z; sign = digit s; parity = digit p })

-- Cells of RAM that hold these bytes from an address on, and zero elsewhere.
abbrev pub program_at : ℕ → List ℕ → Cells
program_at address bytes n = record { byte = slice_index bytes ((n + 16384 - address) % 16384); kind = ram }

-- One step that is carried out: the feed, the processor before, the bytes at its program counter, the table states that are
-- answered and the processor after.
pub record Example : Type 0 where
  pub feed : Feed
  pub before : View
  pub program : List ℕ
  pub states : ℕ
  pub after : View

unfoldable pub examples : List Example
examples =
    -- ADI 01H with A at FFH
    record {
      feed = Own;
      before = holding A 0xFF running;
      program = 0x04 ∷ 0x01 ∷ [];
      states = 8;
      after = holding A 0x00 (flagged 1 1 0 1 (at 0 0x0002 running));
    } ∷
    -- INB with B at FFH and carry 1
    record {
      feed = Own;
      before = holding B 0xFF (flagged 1 0 0 0 running);
      program = 0x08 ∷ [];
      states = 5;
      after = holding B 0x00 (flagged 1 1 0 1 (at 0 0x0001 running));
    } ∷
    -- INB with B at FFH and carry 0
    record {
      feed = Own;
      before = holding B 0xFF (flagged 0 0 0 0 running);
      program = 0x08 ∷ [];
      states = 5;
      after = holding B 0x00 (flagged 0 1 0 1 (at 0 0x0001 running));
    } ∷
    -- CAL 0456H at K 7
    record {
      feed = Own;
      before = at 7 0x0123 running;
      program = 0x46 ∷ 0x56 ∷ 0x04 ∷ [];
      states = 11;
      after = at 0 0x0456 (register 7 0x0126 running);
    } ∷
    -- RET, jammed after power-up
    record {
      feed = Jam 0x07;
      before = powered;
      program = [];
      states = 5;
      after = at 7 0x0000 running;
    } ∷
    -- JMP with the bytes 34H FFH
    record {
      feed = Own;
      before = running;
      program = 0x44 ∷ 0x34 ∷ 0xFF ∷ [];
      states = 11;
      after = at 0 0x3F34 running;
    } ∷
    -- LAA at 3FFFH
    record {
      feed = Own;
      before = at 0 0x3FFF running;
      program = 0xC0 ∷ [];
      states = 5;
      after = at 0 0x0000 running;
    } ∷
    -- RST 1, jammed at 0006H
    record {
      feed = Jam 0x0D;
      before = at 0 0x0006 running;
      program = [];
      states = 5;
      after = at 1 0x0008 (register 0 0x0006 running);
    } ∷
    -- JFZ 0100H with zero 1: not taken
    record {
      feed = Own;
      before = flagged 0 1 0 0 running;
      program = 0x48 ∷ 0x00 ∷ 0x01 ∷ [];
      states = 9;
      after = flagged 0 1 0 0 (at 0 0x0003 running);
    } ∷
    -- JTZ 0100H with zero 1: taken
    record {
      feed = Own;
      before = flagged 0 1 0 0 running;
      program = 0x68 ∷ 0x00 ∷ 0x01 ∷ [];
      states = 11;
      after = flagged 0 1 0 0 (at 0 0x0100 running);
    } ∷
    []

-- A processor over the program of an example, and any port card.
abbrev pub placed : {S : Type 0} → Rules S → S → Example → View → Place S
placed rules state e v =
    record { processor = v; cells = program_at (pc_in e.before) e.program; rules = rules; state = state }

-- What the step of an example comes to, and what it must come to: the processor after, and cells and card as they were.
abbrev pub outcome : {S : Type 0} → Rules S → S → Example → Outcome S
outcome rules state e = stepped e.feed (placed rules state e e.before)

abbrev pub expected : {S : Type 0} → Rules S → S → Example → Outcome S
expected rules state e = record { answer = Ok (Some e.states); after = placed rules state e e.after }

-- Each example comes to what it must, whatever the port card.
abbrev pub ExamplesHold : Type 0 → Type 0
ExamplesHold S = (rules : Rules S) (state : S) → map (outcome rules state) examples ≡ map (expected rules state) examples
