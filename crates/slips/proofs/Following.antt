-- Both engines stay side by side: at power-up, over an accepted tick, and over a refused one.
use Rattle.std.proofs.Common.{◌≡◌, ℕ, suc, ◌+◌, ◌≤◌, eqb, List, [], ◌∷◌, length, Some, None, Ok, Err, Option, sym, refl, ap, ◌∙◌, subst, ap₂, add-zero, arith}
use Rattle.cpu.specs.declared.faults.Fault.{Fault}
use Rattle.cpu.specs.Processor.{View}
use Rattle.cpu.specs.Place.{Place}
use Rattle.stepper.specs.declared.feeds.Feed.TheVariants.{Own, Jam}
use Rattle.stepper.specs.Steps.{stepped}
use Rattle.states.specs.declared.ticks.Levels.{Levels}
use Rattle.states.specs.declared.ticks.Ticked.{Ticked}
use Rattle.states.specs.declared.in_hand.InHand.TheVariants.{Start}
use Rattle.states.specs.Situation.{Situation, situation}
use Rattle.states.specs.Ticks.{ticked}
use Rattle.states.specs.TickLaws.{states_of}
use Rattle.agreement.specs.Calls.{Event, tick, run, ticks, History, powered, then}
use Rattle.agreement.specs.InstructionMachine.{Item, Begun, nothing, by_own, by_interrupt, by_jam, begun_after, ended_by, program_of, fed}
use Rattle.agreement.specs.Agreement.{with_ended, endings, sum}
use Rattle.agreement.proofs.Theorem.{engines_agree}
use Rattle.runs.specs.declared.outcomes.RunFault.{RunFault}
use Rattle.states.specs.declared.tallies.Tally.{Tally}
use Rattle.states.specs.Tallies.{one, plus, counted, counted_step, Within}
use Rattle.slips.specs.Feeding.{place_fed, states_fed}
use Rattle.slips.specs.Feeding as feeding
use Rattle.slips.specs.Sheets.{Kept, noted_by, noted}
use Rattle.slips.specs.SideBySide.{at_power_up, CountsOf, steps_of, SideBySide}

pub at_power_up_lem : {S : Type 0} (start : Place S) (s : Situation S) (k : Kept S) → s ≡ situation Start start → k ≡ at_power_up start →
    SideBySide start [] s k None
at_power_up_lem {S} start s k e f =
    subst (λ x. SideBySide start [] x k None) (sym e)
    (subst (λ x. SideBySide start [] (situation Start start) x None) (sym f)
    (record {
      history = powered;
      counts = record { ticks = refl; instructions = refl; table_states = refl; waits = refl; idle = refl };
      steps = refl;
      begun = refl;
      twin = refl;
      ended = refl;
      refused = refl;
    }))

-- The counts, whether or not an instruction ended.
counts_noted : {S : Type 0} (o : Option ℕ) (b : Begun) (v : View) (c : Tally) (k : Kept S) → c ≡ (noted_by o b v c k).counts
counts_noted None b v c k = refl
counts_noted (Some n) b v c k = refl

-- What few ticks can raise the counts by, many can.
pub widened : (few many : ℕ) (t : Tally) → few ≤ many → Within few t → Within many t
widened few many t h w = record {
  accepted = omega (arith, w.accepted);
  instructions = omega (arith, w.instructions);
  table_states = omega (arith, w.table_states);
  waits = omega (arith, w.waits);
  idle = omega (arith, w.idle);
}

pub one_less : (ls rest : List Levels) (l : Levels) → ls ≡ l ∷ rest → length ls ≡ suc (length rest)
one_less ls rest l k = ap length k

ended_counted : (o : Option ℕ) (n : ℕ) (ns : List ℕ) → n ≡ length ns → n + one o ≡ length (with_ended o ns)
ended_counted None n ns e = omega arith
ended_counted (Some states) n ns e = omega arith

states_counted : (o : Option ℕ) (n : ℕ) (ns : List ℕ) → n ≡ sum ns → n + states_of o ≡ sum (with_ended o ns)
states_counted None n ns e = omega arith
states_counted (Some states) n ns e = omega arith

counts_follow : (es : List Event) (l : Levels) (t : Ticked) (c : Tally) → CountsOf es c → CountsOf (tick l (Ok t) ∷ es) (plus c (counted t))
counts_follow es l t c k = record {
  ticks = omega (arith, k.ticks);
  instructions = ended_counted t.ended c.instructions (endings es) k.instructions;
  table_states = states_counted t.ended c.table_states (endings es) k.table_states;
  waits = omega (arith, k.waits);
  idle = omega (arith, k.idle);
}

-- A step that carries nothing out counts for nothing.
no_step : (c : Tally) → plus c (counted_step None) ≡ c
no_step c = simp add-zero

module _ {S : Type 0} (start : Place S) (items : List Item) (v : View) (c : Tally) (k : Kept S) where
  -- What the instruction engine is fed is what the list has.
  twin_fed : (b : Begun) → k.twin ≡ (fed start items).place → place_fed b k.twin ≡ (fed start (ended_by (Some 0) b items).items).place
  twin_fed nothing e = e
  twin_fed by_own e = ap (λ p. (stepped Own p).after) e
  twin_fed by_interrupt e = e
  twin_fed (by_jam byte) e = ap (λ p. (stepped (Jam byte) p).after) e

  steps_fed : (b : Begun) → k.twin ≡ (fed start items).place → k.steps ≡ steps_of (fed start items).answers →
      plus k.steps (counted_step (states_fed b k.twin)) ≡ steps_of (fed start (ended_by (Some 0) b items).items).answers
  steps_fed nothing e f = no_step k.steps ∙ f
  steps_fed by_own e f = ap₂ (λ q p. plus q (counted_step (feeding.states_of (stepped Own p).answer))) f e
  steps_fed by_interrupt e f = no_step k.steps ∙ f
  steps_fed (by_jam byte) e f = ap₂ (λ q p. plus q (counted_step (feeding.states_of (stepped (Jam byte) p).answer))) f e

  twin_follows : (o : Option ℕ) (b : Begun) → k.twin ≡ (fed start items).place →
      (noted_by o b v c k).twin ≡ (fed start (ended_by o b items).items).place
  twin_follows None b e = e
  twin_follows (Some n) b e = twin_fed b e

  steps_follow : (o : Option ℕ) (b : Begun) → k.twin ≡ (fed start items).place → k.steps ≡ steps_of (fed start items).answers →
      (noted_by o b v c k).steps ≡ steps_of (fed start (ended_by o b items).items).answers
  steps_follow None b e f = f
  steps_follow (Some n) b e f = steps_fed b e f

  begun_follows : (o : Option ℕ) (b : Begun) → (noted_by o b v c k).begun ≡ (ended_by o b items).begun
  begun_follows None b = refl
  begun_follows (Some n) b = refl

  -- The processor as the last instruction ended is the twin's.
  ended_follows : (o : Option ℕ) (b : Begun) → ((n : ℕ) → o ≡ Some n → v ≡ (noted_by o b v c k).twin.processor) →
      k.ended ≡ k.twin.processor → (noted_by o b v c k).ended ≡ (noted_by o b v c k).twin.processor
  ended_follows None b same e = e
  ended_follows (Some n) b same e = same n refl

pub accepted : {S : Type 0} (start : Place S) (es : List Event) (s after : Situation S) (l : Levels) (t : Ticked) (v : View) (k next : Kept S) →
    SideBySide start es s k None → ticked l s ≡ record { answer = Ok t; after = after } → v ≡ after.place.processor →
    next ≡ noted l.jam t v k → SideBySide start (tick l (Ok t) ∷ es) after next None
accepted {S} start es s after l t v k next q e w f =
    let c = plus k.counts (counted t) in
    let items = (program_of es).items in
    let b = begun_after (program_of es).begun l.jam t.state (eqb t.cycle 1) in
    let h : History start (tick l (Ok t) ∷ es) after run = then q.history (ticks l e) in
    let is : next ≡ noted_by t.ended b v c k =
    f ∙ ap (λ x. noted_by t.ended (begun_after x l.jam t.state (eqb t.cycle 1)) v c k) q.begun in
    let twin = twin_follows start items v c k t.ended b q.twin in
    subst (λ x. SideBySide start (tick l (Ok t) ∷ es) after x None) (sym is)
    (record {
      history = h;
      counts = subst (CountsOf (tick l (Ok t) ∷ es)) (counts_noted t.ended b v c k) (counts_follow es l t k.counts q.counts);
      steps = steps_follow start items v c k t.ended b q.twin q.steps;
      begun = begun_follows start items v c k t.ended b;
      twin = twin;
      ended = ended_follows start items v c k t.ended b
          (λ n x. w ∙ ap (λ z. z.processor) (sym (twin ∙ ap (λ z. z.place) (engines_agree start _ after run h (n, x))))) q.ended;
      refused = refl;
    })

pub refused : {S : Type 0} (start : Place S) (es : List Event) (s after : Situation S) (l : Levels) (f : Fault) (k : Kept S) (i : ℕ) →
    SideBySide start es s k None → ticked l s ≡ record { answer = Err f; after = after } → k.counts.accepted ≡ i →
    SideBySide start (tick l (Err f) ∷ es) after k (Some (record { fault = f; tick = i }))
refused start es s after l f k i q e n = record {
  history = then q.history (ticks l e);
  counts = record {
    ticks = omega (arith, q.counts.ticks);
    instructions = q.counts.instructions;
    table_states = q.counts.table_states;
    waits = omega (arith, q.counts.waits);
    idle = omega (arith, q.counts.idle);
  };
  steps = q.steps;
  begun = q.begun;
  twin = q.twin;
  ended = q.ended;
  refused = ap (λ (m : ℕ). Some (record { fault = f; tick = m })) (sym n ∙ q.counts.ticks);
}

pub same_calls : {S : Type 0} {start : Place S} {es all : List Event} {s : Situation S} {k : Kept S} {fault : Option RunFault} →
    es ≡ all → SideBySide start es s k fault → SideBySide start all s k fault
same_calls {start = start} {s = s} {k = k} {fault = fault} e q = subst (λ x. SideBySide start x s k fault) e q
