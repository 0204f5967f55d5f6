-- The laws of runs: what they count adds up, they end where they say, and ticks that are cut in two come to the two parts.
use Rattle.std.proofs.Common.{◌≡◌, ℕ, suc, ◌+◌, true, List, [], ◌∷◌, length, Some, None, Ok, Err, Option, Result, sym, refl, ap, ◌∙◌, arith}
use Rattle.cpu.specs.declared.faults.Fault.{Fault}
use Rattle.states.specs.declared.ticks.Levels.{Levels}
use Rattle.states.specs.declared.ticks.Ticked.{Ticked}
use Rattle.states.specs.Sequencing.{states_in_hand, sound}
use Rattle.states.specs.Situation.{Situation}
use Rattle.states.specs.Ticks.{Outcome, ticked}
use Rattle.states.specs.TickLaws.{Lawful}
use Rattle.states.proofs.Lawful.{lawful}
use Rattle.runs.specs.declared.outcomes.RunFault.{RunFault}
use Rattle.states.specs.declared.tallies.Tally.{Tally}
use Rattle.states.specs.Tallies.{counted}
use Rattle.runs.specs.Runs.{Course, later, before, following, ran_over, EndsAtTick, onward, OneByOne}
use Rattle.runs.proofs.Courses.{before_before, before_none}

-- The states in hand before, and what a course counts.
abbrev Balanced : {S : Type 0} → ℕ → Course S → Type 0
Balanced n o =
    o.tally.accepted + n ≡ o.tally.table_states + o.tally.waits + o.tally.idle + states_in_hand o.after.hand

-- A tick by its answer, and a balanced rest.
balance : {S : Type 0} (l : Levels) (s : Situation S) (o : Outcome S) (answer : Result Ticked Fault) (rest : Course S) → Lawful l s o →
    o.answer ≡ answer → Balanced (states_in_hand o.after.hand) rest → Balanced (states_in_hand s.hand) (following answer o.after rest)
balance l s o (Ok x) rest k is b = omega (arith, k.accounts x is, b)
balance l s o (Err f) rest k is b =
    let same : states_in_hand o.after.hand ≡ states_in_hand s.hand = ap (λ (z : Situation _). states_in_hand z.hand) (k.refuses f is).0 in
    omega arith

pub balanced : {S : Type 0} (ls : List Levels) (s : Situation S) → sound s.hand ≡ true → Balanced (states_in_hand s.hand) (ran_over ls s)
unfolding ran_over
balanced [] s ok = omega arith
balanced {S} (l ∷ ls) s ok =
    let k = lawful S l s ok in
    balance l s (ticked l s) (ticked l s).answer (ran_over ls (ticked l s).after) k refl (balanced ls (ticked l s).after k.stays_sound)

-- One accepted tick more before a run's end.
end_later : (f : Option RunFault) (accepted ticks : ℕ) → EndsAtTick f accepted ticks → EndsAtTick (later 1 f) (1 + accepted) (suc ticks)
end_later None accepted ticks h = omega arith
end_later (Some f) accepted ticks h = (omega arith, omega arith)

end_after : {S : Type 0} (answer : Result Ticked Fault) (after : Situation S) (rest : Course S) (ticks : ℕ) →
    EndsAtTick rest.fault rest.tally.accepted ticks →
    EndsAtTick (following answer after rest).fault (following answer after rest).tally.accepted (suc ticks)
end_after (Ok x) after rest ticks h = end_later rest.fault rest.tally.accepted ticks h
end_after (Err f) after rest ticks h = (refl, omega arith)

pub ended : {S : Type 0} (ls : List Levels) (s : Situation S) → EndsAtTick (ran_over ls s).fault (ran_over ls s).tally.accepted (length ls)
unfolding ran_over
ended [] s = refl
ended (l ∷ ls) s = end_after (ticked l s).answer (ticked l s).after (ran_over ls (ticked l s).after) (length ls) (ended ls (ticked l s).after)

-- An accepted tick comes before a course and its going on alike.
before_onward : {S : Type 0} (t : Tally) (fault : Option RunFault) (o : Course S) (ls : List Levels) → o.fault ≡ fault →
    before t (onward o ls) ≡ onward (before t o) ls
before_onward t None o ls e = rw e (before_before t o.tally (ran_over ls o.after))
before_onward t (Some f) o ls e = rw e

cut : {S : Type 0} (answer : Result Ticked Fault) (after : Situation S) (xs : Course S) (all : Course S) (ys : List Levels) →
    all ≡ onward xs ys → following answer after all ≡ onward (following answer after xs) ys
cut (Ok x) after xs all ys e = ap (before (counted x)) e ∙ before_onward (counted x) xs.fault xs ys refl
cut (Err f) after xs all ys e = refl

pub one_by_one : (S : Type 0) → OneByOne S
unfolding ran_over
one_by_one S [] ys s = sym (before_none (ran_over ys s))
one_by_one S (l ∷ xs) ys s = cut (ticked l s).answer (ticked l s).after _ _ ys (one_by_one S xs ys (ticked l s).after)
