-- Each state of an instruction under way keeps the laws of hand and processor.
use Rattle.std.proofs.Common.{◌≡◌, ℕ, ◌+◌, ◌<◌, Bool, true, false, cond, ltb, ◌⊎◌, Some, None, Option, sym, refl, ap, ◌∙◌, inl, inr, arith, lit≤}
use Rattle.std.proofs.lemmas.Bool.{ltb-true, and_parts}
use Rattle.isa.specs.declared.instructions.Instruction.{Instruction}
use Rattle.isa.specs.declared.instructions.Instruction.TheVariants.{Load, LoadMemory, StoreMemory, LoadImmediate, StoreImmediate, Increment, Decrement, Arithmetic, Rotate, Jump, Call, Return, Restart, Input, Output, Halt}
use Rattle.isa.specs.declared.cycles.Cycle.{Cycle}
use Rattle.isa.specs.declared.cycles.Cycle.TheVariants.{First, Second, Third}
use Rattle.isa.specs.declared.cycles.Transfer.{Transfer}
use Rattle.isa.specs.declared.cycles.Transfer.TheVariants.{Fetch, Read, WriteRegister, WriteImmediate, Input as FromPort, Output as ToPort}
use Rattle.isa.specs.Cycles.{states_in, table_states_of, transfer_in}
use Rattle.cpu.specs.AddressRing.{advanced}
use Rattle.cpu.specs.Processor.{View, pc_in}
use Rattle.states.specs.declared.ticks.State.TheVariants as state
use Rattle.states.specs.declared.in_hand.Phase.{Phase}
use Rattle.states.specs.declared.in_hand.Phase.TheVariants.{T1, T2, T3, T5}
use Rattle.states.specs.declared.in_hand.Opening.{Opening}
use Rattle.states.specs.declared.in_hand.Underway.{Underway}
use Rattle.states.specs.declared.in_hand.InHand.TheVariants.{Start, Opening as Opens, Opened, Underway as Goes}
use Rattle.states.specs.declared.following.Following.{Following}
use Rattle.states.specs.declared.following.Following.TheVariants.{Phase as Then, Cycle as Enter, End}
use Rattle.states.specs.Sequencing.{following, phases_before, cycles_before, after_opening, sound}
use Rattle.states.specs.States.{waits_underway, ended_by, proceeds, proceeds_by, addresses, addressed, moving, having, is_halt, fourth_state}
use Rattle.states.specs.Ticks.{decoded_as}
use Rattle.states.specs.TickLaws.{is_fetch, stopped_after, ZeroAtAStart}
use Rattle.states.proofs.Rows.{fine}
use Rattle.states.proofs.Spending.{Spent, spends}
use Rattle.states.proofs.Inner.{Inner, plain-T1, plain-T3, plain-T5, plain_fourth, past, never, numbered, busy, both, stays_open, proceeds_inner}

-- What a sound hand says of its instruction under way.
pub record Sound (w : Underway) : Type 0 where
  pub fits : phases_before w.next < states_in w.instruction w.taken w.cycle
  pub opened : after_opening w.cycle w.next ≡ true

pub soundly : (w : Underway) → sound (Goes w) ≡ true → Sound w
soundly w h =
    let p = and_parts (ltb (phases_before w.next) (states_in w.instruction w.taken w.cycle)) (after_opening w.cycle w.next) h in
    record { fits = ltb-true _ _ p.0; opened = p.1 }

halt_or_not : (i : Instruction) → (is_halt i ≡ false) ⊎ (i ≡ Halt)
halt_or_not (Load d s) = inl refl
halt_or_not (LoadMemory d) = inl refl
halt_or_not (StoreMemory s) = inl refl
halt_or_not (LoadImmediate d) = inl refl
halt_or_not StoreImmediate = inl refl
halt_or_not (Increment d) = inl refl
halt_or_not (Decrement d) = inl refl
halt_or_not (Arithmetic p o) = inl refl
halt_or_not (Rotate r) = inl refl
halt_or_not (Jump c) = inl refl
halt_or_not (Call c) = inl refl
halt_or_not (Return c) = inl refl
halt_or_not (Restart a) = inl refl
halt_or_not (Input m) = inl refl
halt_or_not (Output m) = inl refl
halt_or_not Halt = inr refl

-- A halt ends in no state but its fourth.
halt-T3 : (taken : Bool) (c : Cycle) → 2 < states_in Halt taken c → following Halt taken c T3 ≡ End → ◌≡◌ {A = ℕ} 0 1
halt-T3 taken First h e = cc
halt-T3 taken Second h e = absurd (omega arith)
halt-T3 taken Third h e = absurd (omega arith)

halt-T5 : (taken : Bool) (c : Cycle) → 4 < states_in Halt taken c → ◌≡◌ {A = ℕ} 0 1
halt-T5 taken First h = absurd (omega arith)
halt-T5 taken Second h = absurd (omega arith)
halt-T5 taken Third h = absurd (omega arith)

runs_on-T3 : (i : Instruction) (taken : Bool) (c : Cycle) → 2 < states_in i taken c → following i taken c T3 ≡ End → is_halt i ≡ false
runs_on-T3 i taken c h e =
    elim (halt_or_not i) [ inl k ↦ k | inr k ↦ never (halt-T3 taken c (rw k at h) (rw k at e)) ]

runs_on-T5 : (i : Instruction) (taken : Bool) (c : Cycle) → 4 < states_in i taken c → is_halt i ≡ false
runs_on-T5 i taken c h = elim (halt_or_not i) [ inl k ↦ k | inr k ↦ never (halt-T5 taken c (rw k at h)) ]

fourth_stops : (halt : Bool) (n : ℕ) (b : Bool) → stopped_after (cond halt state.Stopped state.T4) (Some n) b ≡ cond halt true b
fourth_stops true n b = refl
fourth_stops false n b = refl

abbrev follows : Underway → Following
follows w = following w.instruction w.taken w.cycle w.next

spent_by : (w : Underway) → Sound w → Spent w.instruction w.taken w.cycle (phases_before w.next) (follows w)
spent_by w k = spends w.instruction w.taken w.cycle w.next k.fits

pub first_inner : (w : Underway) (v : View) → w.next ≡ T1 → Sound w → Inner (Goes w) v (proceeds state.T1 w v)
first_inner w v e k =
    proceeds_inner (Goes w) state.T1 w v (follows w) plain-T1 refl (past w.cycle w.next k.opened) (spent_by w k)
    (λ z. never (let f = ap (following w.instruction w.taken w.cycle) e in cc))

pub fourth_inner : (w : Underway) (v : View) → Sound w → Inner (Goes w) v (proceeds (fourth_state w.instruction) w v)
fourth_inner w v k =
    proceeds_inner (Goes w) (fourth_state w.instruction) w v (follows w) (plain_fourth (is_halt w.instruction)) refl
    (past w.cycle w.next k.opened) (spent_by w k)
    (λ z n b. fourth_stops (is_halt w.instruction) n b)

pub fifth_inner : (w : Underway) (v : View) → w.next ≡ T5 → Sound w → Inner (Goes w) v (proceeds state.T5 w v)
fifth_inner w v e k =
    let fits : 4 < states_in w.instruction w.taken w.cycle = rw e at k.fits in
    proceeds_inner (Goes w) state.T5 w v (follows w) plain-T5 refl (past w.cycle w.next k.opened) (spent_by w k)
    (λ z n b. rw (runs_on-T5 w.instruction w.taken w.cycle fits))

-- T3 of a later cycle, with the byte that it gave.
pub third_inner : (w : Underway) (got : ℕ) (v : View) → w.next ≡ T3 → Sound w → Inner (Goes w) v (proceeds state.T3 (having w got) v)
third_inner w got v e k =
    let fits : 2 < states_in w.instruction w.taken w.cycle = rw e at k.fits in
    proceeds_inner (Goes w) state.T3 (having w got) v (follows w) plain-T3 refl (past w.cycle w.next k.opened) (spent_by w k)
    (λ z n b. rw (runs_on-T3 w.instruction w.taken w.cycle fits (ap (following w.instruction w.taken w.cycle) (sym e) ∙ z)))

-- T3 of cycle one, with the instruction that its byte stands for.
pub taking_inner : (o : Opening) (i : Instruction) (taken : Bool) (v : View) → Inner (Opened o) v (proceeds state.T3 (decoded_as o i taken) v)
taking_inner o i taken v =
    let some = (fine i taken).some in
    let first = (fine i taken).first.three some in
    let fits : 2 < states_in i taken First = omega arith in
    proceeds_inner (Opened o) state.T3 (decoded_as o i taken) v (following i taken First T3) plain-T3 refl (lit≤ tt)
    (spends i taken First T3 fits)
    (λ z n b. rw (runs_on-T3 i taken First fits z))

-- A WAIT.
pub waits_inner : (w : Underway) (v : View) → sound (Goes w) ≡ true → Inner (Goes w) v (waits_underway w v)
waits_inner w v h = record {
  waits = λ e. (refl, refl);
  idles = λ e. (refl, refl);
  second = λ e. never (cc);
  ring = λ e n. refl;
  registers = λ e. (refl, refl, refl);
  stopped = refl;
  accounts = omega (arith, busy w.cycle);
  ends = λ n e. never (cc);
  stays_sound = h;
}

-- T2 moves the program counter on if the cycle fetches, and alters nothing else of the processor.
record Moving (t : Option Transfer) (v : View) : Type 0 where
  ring : (moving t v).ring ≡ cond (is_fetch t) (advanced v.ring) v.ring
  registers : (moving t v).registers ≡ v.registers
  flags : (moving t v).flags ≡ v.flags
  number : (moving t v).ring.number ≡ v.ring.number
  stopped : (moving t v).stopped ≡ v.stopped

moves : (t : Option Transfer) (v : View) → Moving t v
moves None v = record { ring = refl; registers = refl; flags = refl; number = refl; stopped = refl }
moves (Some Fetch) v = record { ring = refl; registers = refl; flags = refl; number = refl; stopped = refl }
moves (Some Read) v = record { ring = refl; registers = refl; flags = refl; number = refl; stopped = refl }
moves (Some (WriteRegister s)) v = record { ring = refl; registers = refl; flags = refl; number = refl; stopped = refl }
moves (Some WriteImmediate) v = record { ring = refl; registers = refl; flags = refl; number = refl; stopped = refl }
moves (Some (FromPort m)) v = record { ring = refl; registers = refl; flags = refl; number = refl; stopped = refl }
moves (Some (ToPort m)) v = record { ring = refl; registers = refl; flags = refl; number = refl; stopped = refl }

second_by : (w : Underway) (v : View) (f : Following) → f ≡ Then T3 → Sound w →
    Spent w.instruction w.taken w.cycle (phases_before w.next) f →
    Inner (Goes w) v (proceeds_by state.T2 (addressed w (pc_in v)) (moving (transfer_in w.instruction w.cycle) v) f)
second_by w v (Then next) g k spent =
    let m = moves (transfer_in w.instruction w.cycle) v in
    record {
      waits = λ e. never (cc);
      idles = λ e. never (numbered w.cycle e);
      second = λ e. m.ring;
      ring = λ e n. absurd (n refl);
      registers = λ e. (m.registers, m.flags, m.number);
      stopped = m.stopped;
      accounts = omega (arith, spent.0, busy w.cycle);
      ends = λ n e. never (cc);
      stays_sound = both _ _ spent.1
          (stays_open w.cycle next (phases_before w.next) (past w.cycle w.next k.opened) (omega (arith, spent.0)));
    }
second_by w v (Enter cycle) g k spent = never (cc)
second_by w v End g k spent = never (cc)

pub second_inner : (w : Underway) (v : View) → w.next ≡ T2 → Sound w → Inner (Goes w) v (addresses w v)
second_inner w v e k = second_by w v (follows w) (ap (following w.instruction w.taken w.cycle) e) k (spent_by w k)

-- A state that ends an instruction answers the table's states.
pub ended_by_lem : (w : Underway) (f : Following) (n : ℕ) → ended_by w f ≡ Some n → n ≡ table_states_of w.instruction w.taken
ended_by_lem w (Then next) n e = never (cc)
ended_by_lem w (Enter cycle) n e = never (cc)
ended_by_lem w End n e = cc

-- An instruction in hand has spent a state.
spends_some : (i : Instruction) (taken : Bool) (c : Cycle) (next : Phase) → after_opening c next ≡ true →
    0 < cycles_before i taken c + phases_before next
spends_some i taken First next h = let p = past First next h in omega arith
spends_some i taken Second next h = let p = (fine i taken).some in omega arith
spends_some i taken Third next h = let p = (fine i taken).some in omega arith

pub zero_at_a_start : ZeroAtAStart
zero_at_a_start Start ok = (λ e. refl, λ e. refl)
zero_at_a_start (Opens o) ok = (λ e. never (cc), λ e. never (cc))
zero_at_a_start (Opened o) ok = (λ e. never (omega arith), λ e. never (cc))
zero_at_a_start (Goes w) ok =
    let k = soundly w ok in
    let some = spends_some w.instruction w.taken w.cycle w.next k.opened in
    (λ e. absurd (omega (arith, e, some)), λ e. never (cc))
