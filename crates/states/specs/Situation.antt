-- A situation: a machine with the store and the port card that it works on.
use Rattle.bus.specs.Wiring.{Wiring}
use Rattle.cpu.specs.Place.{Place, powered_place}
use Rattle.states.specs.declared.in_hand.InHand.{InHand}
use Rattle.states.specs.declared.in_hand.InHand.TheVariants.{Start}

-- How far the machine is in an instruction, and the place that it works on.
pub record Situation (S : Type 0) : Type 0 where
  pub hand : InHand
  pub place : Place S

abbrev pub situation : {S : Type 0} → InHand → Place S → Situation S
situation h p = record { hand = h; place = p }

-- At power-up: a stopped processor, all zero, at an instruction's start.
abbrev pub powered_up : {S : Type 0} → Wiring S → Situation S
powered_up w = situation Start (powered_place w)
