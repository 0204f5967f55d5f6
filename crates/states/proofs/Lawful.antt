-- Every tick keeps the laws.
use Rattle.std.proofs.Common.{◌≡◌, ℕ, ◌+◌, Bool, true, false, cond, ◌⊎◌, Some, None, Ok, Err, Option, Result, refl, subst, inl, inr}
use Rattle.isa.specs.declared.instructions.Instruction.{Instruction}
use Rattle.isa.specs.declared.cycles.Transfer.{Transfer}
use Rattle.isa.specs.declared.cycles.Transfer.TheVariants.{Fetch, Read, WriteRegister, WriteImmediate, Input, Output}
use Rattle.isa.specs.Decoding.{decoded}
use Rattle.isa.specs.Cycles.{taken_under, transfer_in}
use Rattle.bus.specs.declared.cards.Trouble.{Trouble}
use Rattle.bus.specs.Card.{Clear}
use Rattle.cpu.specs.declared.faults.Fault.{Fault}
use Rattle.cpu.specs.AddressRing.{advanced}
use Rattle.cpu.specs.Processor.{View, pc_in}
use Rattle.cpu.specs.Place.{Place, with_processor}
use Rattle.states.specs.declared.ticks.Levels.{Levels}
use Rattle.states.specs.declared.ticks.State.TheVariants as state
use Rattle.states.specs.declared.ticks.Ticked.{Ticked}
use Rattle.states.specs.declared.in_hand.Phase.{Phase}
use Rattle.states.specs.declared.in_hand.Phase.TheVariants.{T1, T2, T3, T4, T5}
use Rattle.states.specs.declared.in_hand.Opening.{Opening}
use Rattle.states.specs.declared.in_hand.Underway.{Underway}
use Rattle.states.specs.declared.in_hand.InHand.{InHand}
use Rattle.states.specs.declared.in_hand.InHand.TheVariants.{Start, Opening as Opens, Opened, Underway as Goes}
use Rattle.states.specs.Situation.{situation}
use Rattle.states.specs.Sequencing.{states_in_hand, sound}
use Rattle.states.specs.States.{Quiet, begins, begins_own, addressed, proceeds, having}
use Rattle.states.specs.Transfers.{Moved, from_card, to_card, moves}
use Rattle.states.specs.Ticks.{quietly, refused, first_byte, decoded_as, takes, opened, transferred, transfers, goes, ticked_in}
use Rattle.states.specs.TickLaws.{ByOneTransfer, by_a_read, by_a_write, by_an_input, by_an_output, Untouched, Transfers, fetches, stopped_after, wait, idle, states_of, FaultOf, TableStates, Lawful, LawfulTicks}
use Rattle.states.proofs.Inner.{Inner, never, numbered, begins_inner, opens_inner, opened_inner}
use Rattle.states.proofs.Phases.{soundly, first_inner, second_inner, third_inner, fourth_inner, fifth_inner, taking_inner, waits_inner, ended_by_lem}

told_is : (a t : Ticked) → ◌≡◌ {A = Result Ticked Fault} (Ok a) (Ok t) → a ≡ t
told_is a t e = cc

-- What holds of the answer that a tick gave holds of every answer that it gave.
answered : (P : Ticked → Type 0) (a : Ticked) → P a → (t : Ticked) → ◌≡◌ {A = Result Ticked Fault} (Ok a) (Ok t) → P t
answered P a h t e = subst P (told_is a t e) h

fault_is : (f g : Fault) → ◌≡◌ {A = Result Ticked Fault} (Err f) (Err g) → f ≡ g
fault_is f g e = cc

same : {S : Type 0} (h k : InHand) (p q : Place S) (v : View) → k ≡ h → v ≡ p.processor → q ≡ p →
    situation k (with_processor q v) ≡ situation h p
same h k p q v a b c = rw (a, b, c)

-- A state that leaves another place, the same in processor and rules.
leaving : {S : Type 0} (l : Levels) (h : InHand) (p after : Place S) (q : Quiet) → Inner h p.processor q →
    after.rules ≡ p.rules → Untouched (situation h p) (quietly after q) ⊎ Transfers l (situation h p) (quietly after q) →
    (q.told.state ≡ state.Wait → after ≡ p) → (q.told.cycle ≡ 0 → after ≡ p) →
    ((n : ℕ) → q.told.ended ≡ Some n → TableStates l p h n) → Lawful l (situation h p) (quietly after q)
leaving l h p after q k kept touched waits idles table = record {
  rules = kept;
  transfers = touched;
  waits = answered (λ t. t.state ≡ state.Wait → (quietly after q).after ≡ situation h p) q.told
      (λ e. same h q.hand p after q.processor (k.waits e).0 (k.waits e).1 (waits e));
  idles = answered (λ t. t.cycle ≡ 0 → (quietly after q).after ≡ situation h p) q.told
      (λ e. same h q.hand p after q.processor (k.idles e).0 (k.idles e).1 (idles e));
  refuses = λ f e. never (cc);
  second = answered (λ t. t.state ≡ state.T2 → q.processor.ring ≡ cond (fetches h) (advanced p.processor.ring) p.processor.ring) q.told k.second;
  ring = answered (λ t. t.ended ≡ None → (t.state ≡ state.T2 → ⊥) → q.processor.ring ≡ p.processor.ring) q.told k.ring;
  registers = answered (λ t. t.ended ≡ None →
      (q.processor.registers ≡ p.processor.registers) × (q.processor.flags ≡ p.processor.flags) ×
      (q.processor.ring.number ≡ p.processor.ring.number)) q.told k.registers;
  stopped = answered (λ t. q.processor.stopped ≡ stopped_after t.state t.ended p.processor.stopped) q.told k.stopped;
  accounts = answered (λ t. 1 + states_in_hand h ≡ states_of t.ended + wait t + idle t + states_in_hand q.hand) q.told k.accounts;
  ends = answered (λ t. (n : ℕ) → t.ended ≡ Some n → (q.hand ≡ Start) × (wait t ≡ 0) × (idle t ≡ 0) × TableStates l p h n) q.told
      (λ n e. ((k.ends n e).0, (k.ends n e).1, (k.ends n e).2, table n e));
  stays_sound = k.stays_sound;
}

-- A state without a transfer.
quiet : {S : Type 0} (l : Levels) (h : InHand) (p : Place S) (q : Quiet) → Inner h p.processor q →
    ((n : ℕ) → q.told.ended ≡ Some n → TableStates l p h n) → Lawful l (situation h p) (quietly p q)
quiet l h p q k table = leaving l h p p q k refl (inl (refl, refl)) (λ e. refl) (λ e. refl) table

-- A refused tick.
refusing : {S : Type 0} (l : Levels) (h : InHand) (p : Place S) (f : Fault) → l.ready ≡ true → FaultOf h f → sound h ≡ true →
    Lawful l (situation h p) (refused h p f)
refusing l h p f ready fault ok = record {
  rules = refl;
  transfers = inl (refl, refl);
  waits = λ t e s. never (cc);
  idles = λ t e s. never (cc);
  refuses = λ g e. (refl, ready, subst (FaultOf h) (fault_is f g e) fault);
  second = λ t e s. never (cc);
  ring = λ t e s n. never (cc);
  registers = λ t e s. never (cc);
  stopped = λ t e. never (cc);
  accounts = λ t e. never (cc);
  ends = λ t e n s. never (cc);
  stays_sound = ok;
}

-- A transfer leaves processor and rules, and is one.
abbrev Kept : {S : Type 0} → Place S → Result (Moved S) Trouble → Type 0
Kept p (Ok moved) = (moved.place.rules ≡ p.rules) × ByOneTransfer p moved.place.cells moved.place.state
Kept p (Err trouble) = Unit {0}

by_input : {S : Type 0} (p : Place S) (port a : ℕ) (r : Result (Clear S) Trouble) → p.rules.input p.state port a ≡ r → Kept p (from_card p r)
by_input p port a (Ok clear) e = (refl, by_an_input port a clear e)
by_input p port a (Err trouble) e = tt

by_output : {S : Type 0} (p : Place S) (port byte : ℕ) (r : Result S Trouble) → p.rules.output p.state port byte ≡ r → Kept p (to_card p r)
by_output p port byte (Ok next) e = (refl, by_an_output port byte next e)
by_output p port byte (Err trouble) e = tt

kept : {S : Type 0} (t : Option Transfer) (address low : ℕ) (p : Place S) → Kept p (moves t address low p)
kept None address low p = (refl, by_a_read)
kept (Some Fetch) address low p = (refl, by_a_read)
kept (Some Read) address low p = (refl, by_a_read)
kept (Some (WriteRegister s)) address low p = (refl, by_a_write _ _)
kept (Some WriteImmediate) address low p = (refl, by_a_write _ _)
kept (Some (Input port)) address low p = by_input p port _ _ refl
kept (Some (Output port)) address low p = by_output p port _ _ refl

transferring : {S : Type 0} (l : Levels) (w : Underway) (p : Place S) (m : Result (Moved S) Trouble) → Kept p m →
    l.ready ≡ true → w.next ≡ T3 → sound (Goes w) ≡ true → Lawful l (situation (Goes w) p) (transferred w p m)
transferring l w p (Ok moved) k ready e ok =
    leaving l (Goes w) p moved.place (proceeds state.T3 (having w moved.got) p.processor)
    (third_inner w moved.got p.processor e (soundly w ok)) k.0 (inr (ready, (_, refl, refl), k.1))
    (λ z. never (cc)) (λ z. never (numbered w.cycle z)) (ended_by_lem (having w moved.got) _)
transferring l w p (Err trouble) k ready e ok = refusing l (Goes w) p _ ready (trouble, refl) ok

third : {S : Type 0} (ready : Bool) (l : Levels) (w : Underway) (p : Place S) → l.ready ≡ ready → w.next ≡ T3 →
    sound (Goes w) ≡ true → Lawful l (situation (Goes w) p) (transfers ready w p)
third true l w p r e ok = transferring l w p _ (kept (transfer_in w.instruction w.cycle) w.address w.low p) r e ok
third false l w p r e ok = quiet l (Goes w) p _ (waits_inner w p.processor ok) (λ n e. never (cc))

underway : {S : Type 0} (l : Levels) (next : Phase) (w : Underway) (p : Place S) → w.next ≡ next → sound (Goes w) ≡ true →
    Lawful l (situation (Goes w) p) (goes next l.ready w p)
underway l T1 w p e ok = quiet l (Goes w) p _ (first_inner w p.processor e (soundly w ok)) (ended_by_lem w _)
underway l T2 w p e ok = quiet l (Goes w) p _ (second_inner w p.processor e (soundly w ok)) (ended_by_lem (addressed w (pc_in p.processor)) _)
underway l T3 w p e ok = third l.ready l w p refl e ok
underway l T4 w p e ok = quiet l (Goes w) p _ (fourth_inner w p.processor (soundly w ok)) (ended_by_lem w _)
underway l T5 w p e ok = quiet l (Goes w) p _ (fifth_inner w p.processor e (soundly w ok)) (ended_by_lem w _)

taking : {S : Type 0} (l : Levels) (o : Opening) (p : Place S) (i : Option Instruction) → l.ready ≡ true → decoded (first_byte o l.jam p) ≡ i →
    Lawful l (situation (Opened o) p) (takes o p i)
taking l o p (Some i) ready is =
    quiet l (Opened o) p _ (taking_inner o i (taken_under i p.processor.flags) p.processor)
    (λ n e. (i, is, ended_by_lem (decoded_as o i (taken_under i p.processor.flags)) _ n e))
taking l o p None ready is = refusing l (Opened o) p _ ready refl refl

opening : {S : Type 0} (ready : Bool) (l : Levels) (o : Opening) (p : Place S) → l.ready ≡ ready →
    Lawful l (situation (Opened o) p) (opened ready l.jam o p)
opening true l o p r = taking l o p _ r refl
opening false l o p r = quiet l (Opened o) p _ (opened_inner o p.processor) (λ n e. never (cc))

-- No instruction ends as it begins.
begins_on : (int : Bool) (v : View) (n : ℕ) → (begins int v).told.ended ≡ Some n → ◌≡◌ {A = ℕ} 0 1
begins_on true v n e = cc
begins_on false v n e = own v.stopped e
  where
    own : (b : Bool) → (begins_own b v).told.ended ≡ Some n → ◌≡◌ {A = ℕ} 0 1
    own true e = cc
    own false e = cc

in_hand : {S : Type 0} (l : Levels) (h : InHand) (p : Place S) → sound h ≡ true → Lawful l (situation h p) (ticked_in l h p)
in_hand l Start p ok = quiet l Start p _ (begins_inner l.int p.processor) (λ n e. never (begins_on l.int p.processor n e))
in_hand l (Opens o) p ok = quiet l (Opens o) p _ (opens_inner o p.processor) (λ n e. never (cc))
in_hand l (Opened o) p ok = opening l.ready l o p refl
in_hand l (Goes w) p ok = underway l w.next w p refl ok

pub lawful : (S : Type 0) → LawfulTicks S
lawful S l s ok = in_hand l s.hand s.place ok
