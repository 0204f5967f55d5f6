-- Every step keeps the laws.
use Rattle.std.proofs.Common.{◌≡◌, ℕ, Bool, true, false, cond, Some, None, Ok, Err, Option, Result, refl, subst, arith}
use Rattle.isa.specs.declared.instructions.Operand.TheVariants.{Register as Reg, Memory, Immediate}
use Rattle.isa.specs.declared.instructions.Instruction.{Instruction}
use Rattle.isa.specs.declared.instructions.Instruction.TheVariants.{Load, LoadMemory, StoreMemory, LoadImmediate, StoreImmediate, Increment, Decrement, Arithmetic, Rotate, Jump, Call, Return, Restart, Input, Output, Halt}
use Rattle.isa.specs.Conditions.{holds}
use Rattle.isa.specs.Decoding.{decoded}
use Rattle.bus.specs.declared.cards.Trouble.{Trouble}
use Rattle.bus.specs.Card.{Clear}
use Rattle.cpu.specs.declared.faults.Fault.{Fault}
use Rattle.cpu.specs.Processor.{pc_in}
use Rattle.cpu.specs.Place.{Place}
use Rattle.stepper.specs.declared.feeds.Feed.{Feed}
use Rattle.stepper.specs.declared.feeds.Feed.TheVariants.{Own, Jam}
use Rattle.stepper.specs.Instructions.{Performed, done, doing, fetched, target_next, jumping, calling, returning, inputs, outputs, performs}
use Rattle.stepper.specs.Steps.{first_byte, opened, carried_out, settled, taken_from}
use Rattle.stepper.specs.StepLaws.{DoneBy, Awake, Lawful, LawfulSteps}

-- Nothing holds of what cannot be.
never : {X : Type 0} → ◌≡◌ {A = ℕ} 0 1 → X
never z = absurd (omega arith)

-- What is owed of an instruction, carried out or refused.
abbrev Owed : {S : Type 0} → Instruction → Place S → Result (Performed S) Fault → Type 0
Owed i p (Ok e) = DoneBy i p e.place e.states
Owed i p (Err f) = Unit {0}

by_input : {S : Type 0} (pc m : ℕ) (p : Place S) (r : Result (Clear S) Trouble) → Owed (Input m) p (inputs pc p r)
by_input pc m p (Ok clear) = record { states_are = refl; ring = refl; carry = λ c. absurd c; rules = refl }
by_input pc m p (Err trouble) = tt

by_output : {S : Type 0} (pc m : ℕ) (p : Place S) (r : Result S Trouble) → Owed (Output m) p (outputs pc p r)
by_output pc m p (Ok next) = record { states_are = refl; ring = refl; carry = λ c. absurd c; rules = refl }
by_output pc m p (Err trouble) = tt

owed : {S : Type 0} (pc : ℕ) (i : Instruction) (p : Place S) → Owed i p (performs pc i p)
owed pc (Load d s) p = record { states_are = refl; ring = refl; carry = λ c. absurd c; rules = refl }
owed pc (LoadMemory d) p = record { states_are = refl; ring = refl; carry = λ c. absurd c; rules = refl }
owed pc (StoreMemory s) p = record { states_are = refl; ring = refl; carry = λ c. absurd c; rules = refl }
owed pc (LoadImmediate d) p = record { states_are = refl; ring = refl; carry = λ c. absurd c; rules = refl }
owed pc StoreImmediate p = record { states_are = refl; ring = refl; carry = λ c. absurd c; rules = refl }
owed pc (Increment d) p = record { states_are = refl; ring = refl; carry = λ c. refl; rules = refl }
owed pc (Decrement d) p = record { states_are = refl; ring = refl; carry = λ c. refl; rules = refl }
owed pc (Arithmetic g (Reg s)) p = record { states_are = refl; ring = refl; carry = λ c. absurd c; rules = refl }
owed pc (Arithmetic g Memory) p = record { states_are = refl; ring = refl; carry = λ c. absurd c; rules = refl }
owed pc (Arithmetic g Immediate) p = record { states_are = refl; ring = refl; carry = λ c. absurd c; rules = refl }
owed pc (Rotate r) p = record { states_are = refl; ring = refl; carry = λ c. absurd c; rules = refl }
owed pc (Jump c) p = either (holds c p.processor.flags) refl
  where
    either : (b : Bool) → holds c p.processor.flags ≡ b →
        Owed (Jump c) p (cond b (doing p (jumping (fetched (fetched p)) (target_next p)) 11) (done (fetched (fetched p)) 9))
    either true e = record { states_are = rw e; ring = rw e; carry = λ c. absurd c; rules = refl }
    either false e = record { states_are = rw e; ring = rw e; carry = λ c. absurd c; rules = refl }
owed pc (Call c) p = either (holds c p.processor.flags) refl
  where
    either : (b : Bool) → holds c p.processor.flags ≡ b →
        Owed (Call c) p (cond b (doing p (calling (fetched (fetched p)) (target_next p)) 11) (done (fetched (fetched p)) 9))
    either true e = record { states_are = rw e; ring = rw e; carry = λ c. absurd c; rules = refl }
    either false e = record { states_are = rw e; ring = rw e; carry = λ c. absurd c; rules = refl }
owed pc (Return c) p = either (holds c p.processor.flags) refl
  where
    either : (b : Bool) → holds c p.processor.flags ≡ b →
        Owed (Return c) p (cond b (doing p (returning p) 5) (done p 3))
    either true e = record { states_are = rw e; ring = rw e; carry = λ c. absurd c; rules = refl }
    either false e = record { states_are = rw e; ring = rw e; carry = λ c. absurd c; rules = refl }
owed pc (Restart a) p = record { states_are = refl; ring = refl; carry = λ c. absurd c; rules = refl }
owed pc (Input m) p = by_input pc m p (p.rules.input p.state m p.processor.registers.a)
owed pc (Output m) p = by_output pc m p (p.rules.output p.state m p.processor.registers.a)
owed pc Halt p = record { states_are = refl; ring = refl; carry = λ c. absurd c; rules = refl }

states_of_lem : (a b : ℕ) → ◌≡◌ {A = Result (Option ℕ) Fault} (Ok (Some a)) (Ok (Some b)) → a ≡ b
states_of_lem a b e = cc

-- A step that is to do something is no own step of a stopped processor.
up : {S : Type 0} (feed : Feed) (p : Place S) → Awake feed p → feed ≡ Own → p.processor.stopped ≡ true → ◌≡◌ {A = ℕ} 0 1
up Own p awake e s = cc
up (Jam byte) p awake e s = cc

settled_lawful : {S : Type 0} (feed : Feed) (p : Place S) (i : Instruction) (r : Result (Performed S) Fault) →
    decoded (first_byte feed p) ≡ Some i → Owed i (opened feed p) r → Awake feed p → Lawful feed p (settled p r)
settled_lawful feed p i (Ok e) d k awake = record {
  refuses = λ f z. never (cc);
  stays_stopped = λ z s. never (up feed p awake z s);
  undefined = λ a z. never (cc);
  is_carried_out = λ n z. (i, d, subst (DoneBy i (opened feed p) e.place) (states_of_lem e.states n z) k);
}
settled_lawful feed p i (Err f) d k awake = record {
  refuses = λ g z. refl;
  stays_stopped = λ z s. never (up feed p awake z s);
  undefined = λ a z. never (cc);
  is_carried_out = λ n z. never (cc);
}

taken_lawful : {S : Type 0} (feed : Feed) (p : Place S) (i : Option Instruction) → decoded (first_byte feed p) ≡ i → Awake feed p →
    Lawful feed p (settled p (carried_out (pc_in p.processor) i (opened feed p)))
taken_lawful feed p (Some i) d awake = settled_lawful feed p i _ d (owed (pc_in p.processor) i (opened feed p)) awake
taken_lawful feed p None d awake = record {
  refuses = λ g z. refl;
  stays_stopped = λ z s. never (up feed p awake z s);
  undefined = λ a z. refl;
  is_carried_out = λ n z. never (cc);
}

own_lawful : {S : Type 0} (p : Place S) (stopped : Bool) → p.processor.stopped ≡ stopped →
    Lawful Own p (cond stopped (record { answer = Ok None; after = p }) (taken_from Own p))
own_lawful p true s = record {
  refuses = λ f z. refl;
  stays_stopped = λ z t. (refl, refl);
  undefined = λ a z. never (cc);
  is_carried_out = λ n z. never (cc);
}
own_lawful p false s = taken_lawful Own p _ refl s

pub lawful : (S : Type 0) → LawfulSteps S
lawful S Own p = own_lawful p p.processor.stopped refl
lawful S (Jam byte) p = taken_lawful (Jam byte) p _ refl tt
