-- A desk: all that the commands of a panel work on.
use Rattle.std.specs.Prelude.{◌≡◌}
use Rattle.bus.specs.Store.{Cells}
use Rattle.bus.specs.Latch.{Latches, latch_rules, latches_of, fitted_of}
use Rattle.bus.specs.Wiring.{wired}
use Rattle.bus.specs.declared.latches.LatchCard.{LatchCard}
use Rattle.cpu.specs.declared.processors.Processor.{Processor}
use Rattle.cpu.specs.Place.{Place, place_of, powered_place}
use Rattle.states.specs.Situation.{Situation}
use Rattle.agreement.specs.Calls.{Key, run, held}
use Rattle.machine.specs.declared.machines.Machine.{Machine}
use Rattle.machine.specs.Machines.{situation_of}
use Rattle.panel.specs.declared.keys.Key.{Key as KeyInHand}
use Rattle.panel.specs.declared.keys.Key.TheVariants.{Run, Held}
use Rattle.panel.specs.declared.panels.Panel.{Panel}

-- Which key is in hand, the machine with its store and its card, and the processor beside it with those of its own.
pub record Desk : Type 0 where
  pub key : Key
  pub machine : Situation Latches
  pub beside : Place Latches

abbrev pub key_of : KeyInHand → Key
key_of (Run k) = run
key_of (Held k) = held

-- A machine over cells and a latch card, and a processor over such.
abbrev pub machine_at : Machine → Cells → LatchCard → Situation Latches
machine_at m cells card = situation_of m (wired cells (latch_rules (fitted_of card)) (latches_of card))

abbrev pub processor_at : Processor → Cells → LatchCard → Place Latches
processor_at p cells card = place_of p (wired cells (latch_rules (fitted_of card)) (latches_of card))

-- A processor at power-up over cells and a latch card.
abbrev pub powered_at : Cells → LatchCard → Place Latches
powered_at cells card = powered_place (wired cells (latch_rules (fitted_of card)) (latches_of card))

-- The desk of a panel, by the cells that a store has.
abbrev pub desk_of : {S : Type 0} → (S → Cells) → KeyInHand → Panel S → Desk
desk_of cells key p = record {
  key = key_of key;
  machine = machine_at p.machine (cells p.board.store) p.board.card;
  beside = processor_at p.processor (cells p.step_board.store) p.step_board.card;
}

-- A desk with another key, with the machine at another situation, and with the other processor at another place.
abbrev pub with_key : Desk → Key → Desk
with_key d k = record { key = k; machine = d.machine; beside = d.beside }

abbrev pub with_machine : Desk → Situation Latches → Desk
with_machine d s = record { key = d.key; machine = s; beside = d.beside }

abbrev pub with_beside : Desk → Place Latches → Desk
with_beside d p = record { key = d.key; machine = d.machine; beside = p }

-- No frame of a store of the panel is altered.
abbrev pub FramesKept : {S F : Type 0} → (S → F) → Panel S → Panel S → Type 0
FramesKept frame before after =
    (frame after.board.store ≡ frame before.board.store) × (frame after.step_board.store ≡ frame before.step_board.store)
