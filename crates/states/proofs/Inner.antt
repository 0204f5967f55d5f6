-- The laws of a tick that concern hand and processor alone.
use Rattle.std.proofs.Common.{◌≡◌, ℕ, suc, ◌+◌, ◌≤◌, Bool, true, false, cond, ◌&&◌, eqb, Some, None, sym, refl, ◌∙◌, arith, lit≤}
use Rattle.isa.specs.declared.instructions.Instruction.{Instruction}
use Rattle.isa.specs.declared.instructions.Instruction.TheVariants.{Load, LoadMemory, StoreMemory, LoadImmediate, StoreImmediate, Increment, Decrement, Arithmetic, Rotate, Jump, Call, Return, Restart, Input, Output, Halt}
use Rattle.isa.specs.declared.cycles.Cycle.{Cycle}
use Rattle.isa.specs.declared.cycles.Cycle.TheVariants.{First, Second, Third}
use Rattle.isa.specs.Cycles.{cycle_number}
use Rattle.cpu.specs.AddressRing.{advanced}
use Rattle.cpu.specs.Processor.{View}
use Rattle.cpu.specs.Effects.{finished}
use Rattle.states.specs.declared.ticks.State.{State}
use Rattle.states.specs.declared.ticks.State.TheVariants as state
use Rattle.states.specs.declared.in_hand.Phase.{Phase}
use Rattle.states.specs.declared.in_hand.Phase.TheVariants.{T1, T2, T3, T4, T5}
use Rattle.states.specs.declared.in_hand.Opening.{Opening}
use Rattle.states.specs.declared.in_hand.Underway.{Underway}
use Rattle.states.specs.declared.in_hand.InHand.{InHand}
use Rattle.states.specs.declared.in_hand.InHand.TheVariants.{Start, Opening as Opens, Opened}
use Rattle.states.specs.declared.following.Following.{Following}
use Rattle.states.specs.declared.following.Following.TheVariants.{Phase as Then, Cycle as Enter, End}
use Rattle.states.specs.Sequencing.{phases_before, cycles_before, after_opening, states_in_hand, sound}
use Rattle.states.specs.States.{Quiet, begins, begins_own, opens, waits_opened, proceeds_by, is_halt}
use Rattle.states.specs.TickLaws.{fetches, stopped_after, wait_in, wait, idle, states_of}
use Rattle.states.proofs.Spending.{Spent}

pub record Inner (h : InHand) (v : View) (q : Quiet) : Type 0 where
  pub waits : q.told.state ≡ state.Wait → (q.hand ≡ h) × (q.processor ≡ v)
  pub idles : q.told.cycle ≡ 0 → (q.hand ≡ h) × (q.processor ≡ v)
  pub second : q.told.state ≡ state.T2 → q.processor.ring ≡ cond (fetches h) (advanced v.ring) v.ring
  pub ring : q.told.ended ≡ None → (q.told.state ≡ state.T2 → ⊥) → q.processor.ring ≡ v.ring
  pub registers : q.told.ended ≡ None →
      (q.processor.registers ≡ v.registers) × (q.processor.flags ≡ v.flags) × (q.processor.ring.number ≡ v.ring.number)
  pub stopped : q.processor.stopped ≡ stopped_after q.told.state q.told.ended v.stopped
  pub accounts : 1 + states_in_hand h ≡ states_of q.told.ended + wait q.told + idle q.told + states_in_hand q.hand
  pub ends : (n : ℕ) → q.told.ended ≡ Some n → (q.hand ≡ Start) × (wait q.told ≡ 0) × (idle q.told ≡ 0)
  pub stays_sound : sound q.hand ≡ true

-- Nothing holds of what cannot be.
pub never : {X : Type 0} → ◌≡◌ {A = ℕ} 0 1 → X
never z = absurd (omega arith)

pub begins_inner : (int : Bool) (v : View) → Inner Start v (begins int v)
begins_inner true v = record {
  waits = λ e. never (cc);
  idles = λ e. never (cc);
  second = λ e. never (cc);
  ring = λ e n. refl;
  registers = λ e. (refl, refl, refl);
  stopped = refl;
  accounts = refl;
  ends = λ n e. never (cc);
  stays_sound = refl;
}
begins_inner false v = own v.stopped v refl
  where
    own : (b : Bool) (v : View) → v.stopped ≡ b → Inner Start v (begins_own b v)
    own true v s = record {
      waits = λ e. (refl, refl);
      idles = λ e. (refl, refl);
      second = λ e. never (cc);
      ring = λ e n. refl;
      registers = λ e. (refl, refl, refl);
      stopped = refl;
      accounts = refl;
      ends = λ n e. never (cc);
      stays_sound = refl;
    }
    own false v s = record {
      waits = λ e. never (cc);
      idles = λ e. never (cc);
      second = λ e. never (cc);
      ring = λ e n. refl;
      registers = λ e. (refl, refl, refl);
      stopped = refl;
      accounts = refl;
      ends = λ n e. never (cc);
      stays_sound = refl;
    }

pub opens_inner : (o : Opening) (v : View) → Inner (Opens o) v (opens o v)
opens_inner o v = by_jam_lem o.jammed o.start v
  where
    by_jam_lem : (jammed : Bool) (start : ℕ) (v : View) →
        Inner (Opens (record { jammed = jammed; start = start })) v (opens (record { jammed = jammed; start = start }) v)
    by_jam_lem true start v = record {
      waits = λ e. never (cc);
      idles = λ e. never (cc);
      second = λ e. refl;
      ring = λ e n. refl;
      registers = λ e. (refl, refl, refl);
      stopped = refl;
      accounts = refl;
      ends = λ n e. never (cc);
      stays_sound = refl;
    }
    by_jam_lem false start v = record {
      waits = λ e. never (cc);
      idles = λ e. never (cc);
      second = λ e. refl;
      ring = λ e n. absurd (n refl);
      registers = λ e. (refl, refl, refl);
      stopped = refl;
      accounts = refl;
      ends = λ n e. never (cc);
      stays_sound = refl;
    }

pub opened_inner : (o : Opening) (v : View) → Inner (Opened o) v (waits_opened o v)
opened_inner o v = record {
  waits = λ e. (refl, refl);
  idles = λ e. (refl, refl);
  second = λ e. never (cc);
  ring = λ e n. refl;
  registers = λ e. (refl, refl, refl);
  stopped = refl;
  accounts = refl;
  ends = λ n e. never (cc);
  stays_sound = refl;
}

-- A state that is neither T1I, T2 nor WAIT.
pub record Plain (s : State) : Type 0 where
  pub no_wait : s ≡ state.Wait → ◌≡◌ {A = ℕ} 0 1
  pub no_second : s ≡ state.T2 → ◌≡◌ {A = ℕ} 0 1
  pub keeps : (b : Bool) → stopped_after s None b ≡ b
  pub uncounted : wait_in s ≡ 0

pub plain-T1 : Plain state.T1
plain-T1 = record { no_wait = λ e. cc; no_second = λ e. cc; keeps = λ b. refl; uncounted = refl }

pub plain-T3 : Plain state.T3
plain-T3 = record { no_wait = λ e. cc; no_second = λ e. cc; keeps = λ b. refl; uncounted = refl }

pub plain-T5 : Plain state.T5
plain-T5 = record { no_wait = λ e. cc; no_second = λ e. cc; keeps = λ b. refl; uncounted = refl }

pub plain_fourth : (halt : Bool) → Plain (cond halt state.Stopped state.T4)
plain_fourth true = record { no_wait = λ e. cc; no_second = λ e. cc; keeps = λ b. refl; uncounted = refl }
plain_fourth false = record { no_wait = λ e. cc; no_second = λ e. cc; keeps = λ b. refl; uncounted = refl }

-- A cycle of an instruction is never idle.
pub numbered : (c : Cycle) → cycle_number c ≡ 0 → ◌≡◌ {A = ℕ} 0 1
numbered First e = absurd (omega arith)
numbered Second e = absurd (omega arith)
numbered Third e = absurd (omega arith)

pub busy : (c : Cycle) → ◌≡◌ {A = ℕ} (cond (eqb (cycle_number c) 0) 1 0) 0
busy First = refl
busy Second = refl
busy Third = refl

-- In cycle one at least T1 and T2 are over.
abbrev pub Past : Cycle → ℕ → Type 0
Past First n = 2 ≤ n
Past Second n = Unit {0}
Past Third n = Unit {0}

pub past : (c : Cycle) (next : Phase) → after_opening c next ≡ true → Past c (phases_before next)
past First T1 h = never (cc)
past First T2 h = never (cc)
past First T3 h = lit≤ tt
past First T4 h = lit≤ tt
past First T5 h = lit≤ tt
past Second next h = tt
past Third next h = tt

pub stays_open : (c : Cycle) (next : Phase) (n : ℕ) → Past c n → phases_before next ≡ suc n → after_opening c next ≡ true
stays_open First T1 n h e = absurd (omega arith)
stays_open First T2 n h e = absurd (omega arith)
stays_open First T3 n h e = absurd (omega arith)
stays_open First T4 n h e = refl
stays_open First T5 n h e = refl
stays_open Second next n h e = refl
stays_open Third next n h e = refl

entered : (i : Instruction) (taken : Bool) (c : Cycle) (n : ℕ) → suc n ≡ cycles_before i taken c → after_opening c T1 ≡ true
entered i taken First n e = absurd (omega arith)
entered i taken Second n e = refl
entered i taken Third n e = refl

pub both : (x y : Bool) → x ≡ true → y ≡ true → (x && y) ≡ true
both x y e f = rw (e, f)

-- Only a halt stops the processor.
stops : (i : Instruction) (taken : Bool) (low high : ℕ) (v : View) →
    (finished i taken low high v).stopped ≡ cond (is_halt i) true v.stopped
stops (Load d s) taken low high v = refl
stops (LoadMemory d) taken low high v = refl
stops (StoreMemory s) taken low high v = refl
stops (LoadImmediate d) taken low high v = refl
stops StoreImmediate taken low high v = refl
stops (Increment d) taken low high v = refl
stops (Decrement d) taken low high v = refl
stops (Arithmetic p o) taken low high v = refl
stops (Rotate r) taken low high v = refl
stops (Jump c) true low high v = refl
stops (Jump c) false low high v = refl
stops (Call c) true low high v = refl
stops (Call c) false low high v = refl
stops (Return c) true low high v = refl
stops (Return c) false low high v = refl
stops (Restart a) taken low high v = refl
stops (Input m) taken low high v = refl
stops (Output m) taken low high v = refl
stops Halt taken low high v = refl

-- If a state ends the instruction, it stops the processor exactly for a halt.
abbrev pub StopsAtEnd : State → Instruction → Following → Type 0
StopsAtEnd s i f = f ≡ End → (n : ℕ) (b : Bool) → stopped_after s (Some n) b ≡ cond (is_halt i) true b

-- A plain state of an instruction under way.
pub proceeds_inner : (h : InHand) (s : State) (w : Underway) (v : View) (f : Following) → Plain s →
    states_in_hand h ≡ cycles_before w.instruction w.taken w.cycle + phases_before w.next →
    Past w.cycle (phases_before w.next) →
    Spent w.instruction w.taken w.cycle (phases_before w.next) f →
    StopsAtEnd s w.instruction f → Inner h v (proceeds_by s w v f)
proceeds_inner h s w v (Then next) plain has past spent end = record {
  waits = λ e. never (plain.no_wait e);
  idles = λ e. never (numbered w.cycle e);
  second = λ e. never (plain.no_second e);
  ring = λ e n. refl;
  registers = λ e. (refl, refl, refl);
  stopped = sym (plain.keeps v.stopped);
  accounts = omega (arith, spent.0, plain.uncounted, busy w.cycle);
  ends = λ n e. never (cc);
  stays_sound = both _ _ spent.1 (stays_open w.cycle next (phases_before w.next) past (omega (arith, spent.0)));
}
proceeds_inner h s w v (Enter cycle) plain has past spent end = record {
  waits = λ e. never (plain.no_wait e);
  idles = λ e. never (numbered w.cycle e);
  second = λ e. never (plain.no_second e);
  ring = λ e n. refl;
  registers = λ e. (refl, refl, refl);
  stopped = sym (plain.keeps v.stopped);
  accounts = omega (arith, spent.0, plain.uncounted, busy w.cycle);
  ends = λ n e. never (cc);
  stays_sound = both _ _ spent.1 (entered w.instruction w.taken cycle _ spent.0);
}
proceeds_inner h s w v End plain has past spent end = record {
  waits = λ e. never (plain.no_wait e);
  idles = λ e. never (numbered w.cycle e);
  second = λ e. never (plain.no_second e);
  ring = λ e n. never (cc);
  registers = λ e. never (cc);
  stopped = stops w.instruction w.taken w.low w.high v ∙ sym (end refl _ v.stopped);
  accounts = omega (arith, spent, plain.uncounted, busy w.cycle);
  ends = λ n e. (refl, plain.uncounted, busy w.cycle);
  stays_sound = refl;
}
