-- An instruction lasts its table states and its waits.
use Rattle.std.proofs.Common.{◌≡◌, ℕ, ◌+◌, true, ap, arith}
use Rattle.std.proofs.lemmas.Bool.{ne_eqb}
use Rattle.states.specs.declared.ticks.Ticked.{Ticked}
use Rattle.states.specs.declared.in_hand.InHand.TheVariants.{Start}
use Rattle.states.specs.Situation.{Situation}
use Rattle.states.specs.Sequencing.{states_in_hand, sound}
use Rattle.states.specs.TickLaws.{idle, states_of}
use Rattle.states.specs.WholeInstruction.{Leads, here, on, LastsItsTableStates}
use Rattle.states.proofs.Lawful.{lawful}

-- The states in hand are the ticks less the waits.
record Counted {S : Type 0} (ticks waits : ℕ) (to : Situation S) : Type 0 where
  count : states_in_hand to.hand + waits ≡ ticks
  ok : sound to.hand ≡ true

busy : (t : Ticked) → (t.cycle ≡ 0 → ⊥) → idle t ≡ 0
busy t n = rw (ne_eqb t.cycle 0 n)

counted : {S : Type 0} {start to : Situation S} {ticks waits : ℕ} → start.hand ≡ Start → Leads start ticks waits to → Counted ticks waits to
counted s here = record { count = rw s; ok = rw s }
counted {S} s (on {ticks} {waits} {to} before l t e n c) =
    let k = counted s before in
    let laws = lawful S l to k.ok in
    let a = laws.accounts t e in
    let b : states_of t.ended ≡ 0 = rw n in
    let i = busy t c in
    record { count = omega (arith, k.count, a, b, i); ok = laws.stays_sound }

pub lasting : (S : Type 0) → LastsItsTableStates S
lasting S start last ticks waits s leads l t states e n =
    let k = counted s leads in
    let laws = lawful S l last k.ok in
    let a = laws.accounts t e in
    let z = laws.ends t e states n in
    let b : states_of t.ended ≡ states = rw n in
    let none = ap states_in_hand z.0 in
    omega (arith, k.count, a, b, z.1, z.2, none)
