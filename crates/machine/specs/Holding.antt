-- Holding a machine.
use Rattle.std.specs.Prelude.{ℕ, Bool, true, false}
use Rattle.states.specs.declared.in_hand.InHand.{InHand}
use Rattle.states.specs.declared.in_hand.InHand.TheVariants.{Start, Opening as Opens, Opened, Underway as Goes}
use Rattle.agreement.specs.Calls.{Key, run, held}
use Rattle.machine.specs.declared.refusals.HoldRefusal.{HoldRefusal}
use Rattle.machine.specs.declared.refusals.HoldRefusal.TheVariants.{InsideInstruction}

abbrev pub hold_refusal_number : HoldRefusal → ℕ
hold_refusal_number (InsideInstruction key) = 4

-- A machine can be held at an instruction's start.
abbrev pub at_start : InHand → Bool
at_start Start = true
at_start (Opens o) = false
at_start (Opened o) = false
at_start (Goes w) = false

abbrev pub key_after : Bool → Key
key_after true = held
key_after false = run
