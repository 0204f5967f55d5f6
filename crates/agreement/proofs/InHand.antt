-- The instruction in hand, seen from where the instruction machine stands: each tick keeps it, or ends it with the step.
use Rattle.std.proofs.Common.{◌≡◌, ℕ, Bool, true, false, cond, eqb, ltb, Some, None, Ok, Err, Option, Result, sym, refl, ap, ◌∙◌}
use Rattle.isa.specs.declared.instructions.Instruction.{Instruction}
use Rattle.isa.specs.declared.cycles.Cycle.{Cycle}
use Rattle.isa.specs.declared.cycles.Cycle.TheVariants.{First, Second, Third}
use Rattle.isa.specs.declared.cycles.Transfer.{Transfer}
use Rattle.isa.specs.declared.cycles.Transfer.TheVariants.{Fetch, Read, WriteRegister, WriteImmediate, Input, Output}
use Rattle.isa.specs.Decoding.{decoded}
use Rattle.isa.specs.Cycles.{cycle_number, taken_under, transfer_in, states_in}
use Rattle.bus.specs.declared.cards.Trouble.{Trouble}
use Rattle.bus.specs.Card.{Clear}
use Rattle.cpu.specs.declared.faults.Fault.{Fault}
use Rattle.cpu.specs.Processor.{View, pc_in, with_stopped, advancing}
use Rattle.cpu.specs.Place.{Place, byte_in, with_processor}
use Rattle.stepper.specs.declared.feeds.Feed.{Feed}
use Rattle.stepper.specs.declared.feeds.Feed.TheVariants.{Own, Jam}
use Rattle.stepper.specs.Instructions.{Performed}
use Rattle.stepper.specs.Steps.{first_byte, opened, carried_out, settled, stepped}
use Rattle.states.specs.declared.ticks.Levels.{Levels}
use Rattle.states.specs.declared.ticks.State.{State}
use Rattle.states.specs.declared.ticks.State.TheVariants as state
use Rattle.states.specs.declared.ticks.Ticked.{Ticked}
use Rattle.states.specs.declared.in_hand.Phase.{Phase}
use Rattle.states.specs.declared.in_hand.Phase.TheVariants.{T1, T2, T3, T4, T5}
use Rattle.states.specs.declared.in_hand.Opening.{Opening}
use Rattle.states.specs.declared.in_hand.Underway.{Underway}
use Rattle.states.specs.declared.in_hand.InHand.{InHand}
use Rattle.states.specs.declared.in_hand.InHand.TheVariants.{Start, Opening as Opens, Opened, Underway as Goes}
use Rattle.states.specs.declared.following.Following.{Following}
use Rattle.states.specs.declared.following.Following.TheVariants.{Phase as Then, Cycle as Enter, End}
use Rattle.states.specs.Situation.{Situation}
use Rattle.states.specs.Sequencing.{next_cycle, following, turns_to}
use Rattle.states.specs.States.{begins, begins_own, opens, proceeds_by, addressed, moving, having, is_halt, fourth_state}
use Rattle.states.specs.Transfers.{Moved, from_card, to_card, moves}
use Rattle.states.specs.Ticks.{Outcome as TickOutcome, quietly, decoded_as, takes, opened as opened_ready, transferred, transfers, goes, ticked_in}
use Rattle.agreement.specs.InstructionMachine.{Begun, by_own, by_interrupt, by_jam, begun_after}
use Rattle.agreement.proofs.Finish.{moved, after_cycle, rest, finish, finishes, finishes_cycle, finishes-T3, finishes-T4, performs_rest}

-- How a step's instruction began.
abbrev pub begun_by : Feed → Begun
begun_by Own = by_own
begun_by (Jam byte) = by_jam byte

-- An own step wants a processor that is not stopped.
abbrev pub Awake : {S : Type 0} → Feed → Place S → Type 0
Awake Own s = s.processor.stopped ≡ false
Awake (Jam byte) s = Unit {0}

-- Before the first byte is taken; the instruction machine stands at s, where the instruction started.
pub record Owned {S : Type 0} (s : Place S) (b : Begun) (o : Opening) (p after : Place S) : Type 0 where
  pub begun : b ≡ by_own
  pub awake : s.processor.stopped ≡ false
  pub start : o.start ≡ pc_in s.processor
  pub place : p ≡ after

pub record Jammed {S : Type 0} (s : Place S) (b : Begun) (o : Opening) (p : Place S) : Type 0 where
  pub begun : b ≡ by_interrupt
  pub start : o.start ≡ pc_in s.processor
  pub place : p ≡ with_processor s (with_stopped s.processor false)

-- T1 or T1I is over: an own instruction has moved nothing yet.
abbrev pub OpeningAt : {S : Type 0} → Bool → Place S → Begun → Opening → Place S → Type 0
OpeningAt true s b o p = Jammed s b o p
OpeningAt false s b o p = Owned s b o p s

-- T2 is over: an own instruction has moved the program counter on.
abbrev pub OpenedAt : {S : Type 0} → Bool → Place S → Begun → Opening → Place S → Type 0
OpenedAt true s b o p = Jammed s b o p
OpenedAt false s b o p = Owned s b o p (opened Own s)

-- After it: the step from s comes to what is left of the instruction.
pub record Working {S : Type 0} (s : Place S) (b : Begun) (r : Result (Performed S) Fault) : Type 0 where
  pub feed : Feed
  pub begun : b ≡ begun_by feed
  pub awake : Awake feed s
  pub comes_to : carried_out (pc_in s.processor) (decoded (first_byte feed s)) (opened feed s) ≡ r

-- T1 begins no cycle one.
abbrev pub Later : Cycle → Phase → Type 0
Later First T1 = ⊥
Later First T2 = ⊥
Later First T3 = ⊥
Later First T4 = Unit {0}
Later First T5 = Unit {0}
Later Second next = Unit {0}
Later Third next = Unit {0}

-- The instruction in hand h at the place p, begun as b says, from where the instruction machine stands.
abbrev pub Matches : {S : Type 0} → Place S → Begun → InHand → Place S → Type 0
Matches s b Start p = p ≡ s
Matches s b (Opens o) p = OpeningAt o.jammed s b o p
Matches s b (Opened o) p = OpenedAt o.jammed s b o p
Matches s b (Goes w) p = Later w.cycle w.next × Working s b (finish w p)

-- What a tick makes of it: it goes on, or the step has ended it.
abbrev pub NextBy : {S : Type 0} → Option ℕ → Place S → Begun → Situation S → Type 0
NextBy None s b t = Matches s b t.hand t.place
NextBy (Some states) s b t =
    (f : Feed) × (b ≡ begun_by f) × (stepped f s ≡ record { answer = Ok (Some states); after = t.place }) × (t.hand ≡ Start)

abbrev pub Next : {S : Type 0} → Levels → Place S → Begun → Result Ticked Fault → Situation S → Type 0
Next l s b (Ok t) after = NextBy t.ended s (begun_after b l.jam t.state (eqb t.cycle 1)) after
Next l s b (Err f) after = Matches s b after.hand after.place

abbrev pub Nexts : {S : Type 0} → Levels → Place S → Begun → TickOutcome S → Type 0
Nexts l s b o = Next l s b o.answer o.after

-- An instruction carried out is a step.
step_ends : {S : Type 0} (f : Feed) (s : Place S) (e : Performed S) → Awake f s →
    carried_out (pc_in s.processor) (decoded (first_byte f s)) (opened f s) ≡ Ok e →
    stepped f s ≡ record { answer = Ok (Some e.states); after = e.place }
step_ends Own s e a c =
    ap (λ b. cond b (record { answer = Ok None; after = s }) (settled s (carried_out (pc_in s.processor) (decoded (first_byte Own s)) (opened Own s)))) a ∙
    ap (settled s) c
step_ends (Jam byte) s e a c = ap (settled s) c

-- What follows a state begins no cycle one.
abbrev Fits : Cycle → Following → Type 0
Fits c (Then next) = Later c next
Fits c (Enter cycle) = Later cycle T1
Fits c End = Unit {0}

fits_cycle : (i : Instruction) (taken : Bool) (c : Cycle) → Fits c (next_cycle i taken c)
fits_cycle i taken First = go (ltb 0 (states_in i taken Second))
  where
    go : (b : Bool) → Fits First (cond b (Enter Second) End)
    go true = tt
    go false = tt
fits_cycle i taken Second = go (ltb 0 (states_in i taken Third))
  where
    go : (b : Bool) → Fits Second (cond b (Enter Third) End)
    go true = tt
    go false = tt
fits_cycle i taken Third = tt

later_end : (c : Cycle) (b : Bool) → Later c (cond b T4 T5)
later_end First true = tt
later_end First false = tt
later_end Second b = tt
later_end Third b = tt

fits-T3 : (i : Instruction) (taken : Bool) (c : Cycle) → Fits c (following i taken c T3)
fits-T3 i taken c = go (ltb 3 (states_in i taken c))
  where
    go : (b : Bool) → Fits c (cond b (Then T4) (next_cycle i taken c))
    go true = later_end c true
    go false = fits_cycle i taken c

fits-T4 : (i : Instruction) (taken : Bool) (c : Cycle) → Fits c (following i taken c T4)
fits-T4 i taken c = go (ltb 4 (states_in i taken c))
  where
    go : (b : Bool) → Fits c (cond b (Then T5) (next_cycle i taken c))
    go true = later_end c false
    go false = fits_cycle i taken c

-- A state of an instruction under way is over.
proceeding : {S : Type 0} (l : Levels) (s : Place S) (b b' : Begun) (st : State) (w : Underway) (p : Place S) (v : View) (f : Following) →
    begun_after b l.jam st (eqb (cycle_number w.cycle) 1) ≡ b' → Fits w.cycle f →
    Working s b' (finishes f w (with_processor p v)) → Nexts l s b (quietly p (proceeds_by st w v f))
proceeding l s b b' st w p v (Then next) e h u = rw e (h, u)
proceeding l s b b' st w p v (Enter cycle) e h u = rw e (h, u)
proceeding l s b b' st w p v End e h u = rw e (u.feed, u.begun, step_ends u.feed s _ u.awake u.comes_to, refl)

-- What comes to one thing comes to its equal.
same : {S : Type 0} (s : Place S) (b : Begun) (r r' : Result (Performed S) Fault) → r ≡ r' → Working s b r → Working s b r'
same s b r r' e u = record { feed = u.feed; begun = u.begun; awake = u.awake; comes_to = u.comes_to ∙ e }

-- The states of an instruction under way show nothing of a beginning.
keeps-T1 : (b : Begun) (c : Cycle) → Later c T1 → cond (eqb (cycle_number c) 1) by_own b ≡ b
keeps-T1 b First h = absurd h
keeps-T1 b Second h = refl
keeps-T1 b Third h = refl

keeps-T3 : (b : Begun) (jam : ℕ) (first : Bool) (f : Feed) → b ≡ begun_by f → begun_after b jam state.T3 first ≡ b
keeps-T3 b jam first Own e = rw e
keeps-T3 b jam first (Jam byte) e = rw e

keeps_fourth : (b : Begun) (jam : ℕ) (first halt : Bool) → begun_after b jam (cond halt state.Stopped state.T4) first ≡ b
keeps_fourth b jam first true = refl
keeps_fourth b jam first false = refl

T1ToT2 : (c : Cycle) → Later c T1 → Later c T2
T1ToT2 First h = h
T1ToT2 Second h = tt
T1ToT2 Third h = tt

T2ToT3 : (c : Cycle) → Later c T2 → Later c T3
T2ToT3 First h = h
T2ToT3 Second h = tt
T2ToT3 Third h = tt

-- A transfer leaves the processor.
abbrev Keeps : {S : Type 0} → Place S → Result (Moved S) Trouble → Type 0
Keeps p (Ok m) = m.place.processor ≡ p.processor
Keeps p (Err trouble) = Unit {0}

kept : {S : Type 0} (t : Option Transfer) (address low : ℕ) (p : Place S) → Keeps p (moves t address low p)
kept None address low p = refl
kept (Some Fetch) address low p = refl
kept (Some Read) address low p = refl
kept (Some (WriteRegister r)) address low p = refl
kept (Some WriteImmediate) address low p = refl
kept {S} (Some (Input port)) address low p = go (p.rules.input p.state port p.processor.registers.a)
  where
    go : (r : Result (Clear S) Trouble) → Keeps p (from_card p r)
    go (Ok clear) = refl
    go (Err trouble) = tt
kept {S} (Some (Output port)) address low p = go (p.rules.output p.state port p.processor.registers.a)
  where
    go : (r : Result S Trouble) → Keeps p (to_card p r)
    go (Ok next) = refl
    go (Err trouble) = tt

module _ {S : Type 0} (l : Levels) (s : Place S) (b : Begun) where
  at-T3 : (ready : Bool) (w : Underway) (p : Place S) → Matches s b (Goes (turns_to w w.cycle T3)) p →
      Nexts l s b (transfers ready (turns_to w w.cycle T3) p)
  at-T3 true w p u = go (moves (transfer_in w.instruction w.cycle) w.address w.low p) (kept (transfer_in w.instruction w.cycle) w.address w.low p) u.1
    where
      go : (r : Result (Moved S) Trouble) → Keeps p r →
          Working s b (moved w.start w.cycle (after_cycle w.cycle w.start w.instruction w.taken) w.low w.high r) →
          Nexts l s b (transferred (turns_to w w.cycle T3) p r)
      go (Ok m) k v =
          proceeding l s b b state.T3 (having (turns_to w w.cycle T3) m.got) m.place p.processor _ (keeps-T3 b l.jam _ v.feed v.begun)
          (fits-T3 w.instruction w.taken w.cycle)
          (same s b _ _
          (ap (rest w.cycle (having (turns_to w w.cycle T3) m.got)) (ap (with_processor m.place) k) ∙
          sym (finishes-T3 (having (turns_to w w.cycle T3) m.got) (with_processor m.place p.processor)))
          v)
      go (Err trouble) k v = u
  at-T3 false w p u = u

  underway : (next : Phase) (w : Underway) (p : Place S) → Matches s b (Goes (turns_to w w.cycle next)) p →
      Nexts l s b (goes next l.ready (turns_to w w.cycle next) p)
  underway T1 w p u =
      proceeding l s b b state.T1 (turns_to w w.cycle T1) p p.processor (Then T2) (keeps-T1 b w.cycle u.0) (T1ToT2 w.cycle u.0) u.1
  underway T2 w p u =
      proceeding l s b b state.T2 (addressed (turns_to w w.cycle T2) (pc_in p.processor)) p
      (moving (transfer_in w.instruction w.cycle) p.processor) (Then T3) refl (T2ToT3 w.cycle u.0) u.1
  underway T3 w p u = at-T3 l.ready w p u
  underway T4 w p u =
      proceeding l s b b (fourth_state w.instruction) (turns_to w w.cycle T4) p p.processor _ (keeps_fourth b l.jam _ (is_halt w.instruction))
      (fits-T4 w.instruction w.taken w.cycle)
      (same s b _ _ (sym (finishes-T4 (turns_to w w.cycle T4) p)) u.1)
  underway T5 w p u =
      proceeding l s b b state.T5 (turns_to w w.cycle T5) p p.processor _ refl (fits_cycle w.instruction w.taken w.cycle)
      (same s b _ _ (sym (finishes_cycle w.cycle (turns_to w w.cycle T5) p)) u.1)

  -- The first byte is taken.
  taking : (b' : Begun) (f : Feed) (o : Opening) (i : Instruction) → begun_after b l.jam state.T3 true ≡ b' → b' ≡ begun_by f → Awake f s →
      o.start ≡ pc_in s.processor → decoded (first_byte f s) ≡ Some i → Nexts l s b (takes o (opened f s) (Some i))
  taking b' f o i e g a from d =
      proceeding l s b b' state.T3 (decoded_as o i (taken_under i (opened f s).processor.flags)) (opened f s) (opened f s).processor _ e
      (fits-T3 i (taken_under i (opened f s).processor.flags) First)
      (record {
        feed = f;
        begun = g;
        awake = a;
        comes_to =
            ap (λ x. carried_out (pc_in s.processor) x (opened f s)) d ∙ performs_rest (pc_in s.processor) i (opened f s) ∙
            (ap (λ n. after_cycle First n i (taken_under i (opened f s).processor.flags) 0 0 (opened f s)) (sym from) ∙
            sym (finishes-T3 (decoded_as o i (taken_under i (opened f s).processor.flags)) (opened f s)));
      })

  opened_jammed : (ready : Bool) (n : ℕ) (p : Place S) → Jammed s b (record { jammed = true; start = n }) p →
      Nexts l s b (opened_ready ready l.jam (record { jammed = true; start = n }) p)
  opened_jammed true n p u = go (decoded l.jam) refl
    where
      go : (d : Option Instruction) → decoded l.jam ≡ d → Nexts l s b (takes (record { jammed = true; start = n }) p d)
      go (Some i) e =
          rw u.place (taking (by_jam l.jam) (Jam l.jam) (record { jammed = true; start = n }) i (rw u.begun) refl tt u.start e)
      go None e = u
  opened_jammed false n p u = u

  opened_own : (ready : Bool) (n : ℕ) (p : Place S) → Owned s b (record { jammed = false; start = n }) p (opened Own s) →
      Nexts l s b (opened_ready ready l.jam (record { jammed = false; start = n }) p)
  opened_own true n p u = go (decoded (byte_in p n)) refl
    where
      go : (d : Option Instruction) → decoded (byte_in p n) ≡ d → Nexts l s b (takes (record { jammed = false; start = n }) p d)
      go (Some i) e =
          rw u.place (taking by_own Own (record { jammed = false; start = n }) i (rw u.begun) refl u.awake u.start (rw (u.start, u.place) at e))
      go None e = u
  opened_own false n p u = u

  opened_next : (j : Bool) (n : ℕ) (p : Place S) → Matches s b (Opened (record { jammed = j; start = n })) p →
      Nexts l s b (opened_ready l.ready l.jam (record { jammed = j; start = n }) p)
  opened_next true n p u = opened_jammed l.ready n p u
  opened_next false n p u = opened_own l.ready n p u

  opening_next : (j : Bool) (n : ℕ) (p : Place S) → Matches s b (Opens (record { jammed = j; start = n })) p →
      Nexts l s b (quietly p (opens (record { jammed = j; start = n }) p.processor))
  opening_next true n p u = record { begun = u.begun; start = u.start; place = u.place }
  opening_next false n p u =
      record { begun = u.begun; awake = u.awake; start = u.start; place = ap (λ q. with_processor q (advancing q.processor)) u.place }

  starting : (int : Bool) (p : Place S) → p ≡ s → Nexts l s b (quietly p (begins int p.processor))
  starting true p u = record {
    begun = refl;
    start = ap (λ q. pc_in q.processor) u;
    place = ap (λ q. with_processor q (with_stopped q.processor false)) u;
  }
  starting false p u = own p.processor.stopped refl
    where
      own : (st : Bool) → p.processor.stopped ≡ st → Nexts l s b (quietly p (begins_own st p.processor))
      own true e = u
      own false e = record {
        begun = refl;
        awake = sym (ap (λ q. q.processor.stopped) u) ∙ e;
        start = ap (λ q. pc_in q.processor) u;
        place = u;
      }

  pub tick_next : (h : InHand) (p : Place S) → Matches s b h p → Nexts l s b (ticked_in l h p)
  tick_next Start p u = starting l.int p u
  tick_next (Opens o) p u = opening_next o.jammed o.start p u
  tick_next (Opened o) p u = opened_next o.jammed o.start p u
  tick_next (Goes w) p u = underway w.next w p u
