-- What the calls with a hold key did, as calls of a history.
use Rattle.std.proofs.Common.{◌≡◌, ℕ, false, refl, ap}
use mathlib.Core.Path.{subst⁻¹}
use Rattle.bus.specs.Store.{byte_at, answer_at}
use Rattle.bus.specs.Wiring.{Wiring, writing}
use Rattle.bus.specs.declared.stores.Written.{Written}
use Rattle.states.specs.declared.in_hand.InHand.{InHand}
use Rattle.states.specs.declared.in_hand.InHand.TheVariants.{Start, Opening as Opens, Opened, Underway as Goes}
use Rattle.agreement.specs.Calls.{Use, held, examine, deposit, examines, deposits}
use Rattle.machine.specs.declared.machines.Machine.{Machine}
use Rattle.machine.specs.Machines.{situation_of}
use Rattle.machine.specs.Holding.{at_start}

pub inside : (hand : InHand) → (hand ≡ Start → ⊥) → false ≡ at_start hand
inside Start h = absurd (h refl)
inside (Opens o) h = refl
inside (Opened o) h = refl
inside (Goes w) h = refl

pub examined : {S : Type 0} (m : Machine) (before after : Wiring S) (address byte : ℕ) →
    byte ≡ byte_at before.cells address → after ≡ before →
    Use (situation_of m before) held (examine address byte) (situation_of m after) held
examined m before after address byte read kept =
    subst⁻¹ (λ w. Use (situation_of m before) held (examine address byte) (situation_of m w) held) kept (examines address read)

pub deposited : {S : Type 0} (m : Machine) (before after : Wiring S) (address byte : ℕ) (answer : Written) →
    answer ≡ answer_at before.cells address → after ≡ writing before address byte →
    Use (situation_of m before) held (deposit address byte answer) (situation_of m after) held
deposited m before after address byte answer told wrote =
    deposits address byte told (ap (λ w. situation_of m w) wrote)
