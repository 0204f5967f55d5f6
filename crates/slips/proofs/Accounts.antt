-- The two columns of a slip are what the history of its ticks comes to.
use Rattle.std.proofs.Common.{◌≡◌, ℕ, ◌+◌, List, [], ◌∷◌, map, length, Option, refl, ap, ◌∙◌, arith}
use Rattle.cpu.specs.Place.{Place}
use Rattle.states.specs.declared.ticks.Levels.{Levels}
use Rattle.states.specs.Sequencing.{states_in_hand}
use Rattle.states.specs.Situation.{Situation}
use Rattle.agreement.specs.Calls.{run}
use Rattle.agreement.specs.InstructionMachine.{program_of, fed}
use Rattle.agreement.specs.Agreement.{endings, carried_out, sum, total, accepted}
use Rattle.agreement.proofs.Theorem.{ticks_add_up, answers_agree}
use Rattle.runs.specs.declared.outcomes.RunFault.{RunFault}
use Rattle.slips.specs.declared.columns.Slip.{Slip}
use Rattle.slips.specs.Sheets.{Kept}
use Rattle.slips.specs.SideBySide.{steps_of, SideBySide}
use Rattle.slips.specs.Columns.{column_of, slip_from, calls_of, SlipOf}

-- Steps that were all carried out count what the instructions count that ended.
steps_count : (ns : List ℕ) → (steps_of (map carried_out ns)).instructions ≡ length ns
steps_count [] = refl
steps_count (n ∷ ns) = let e = steps_count ns in omega (arith, e)

steps_states : (ns : List ℕ) → (steps_of (map carried_out ns)).table_states ≡ sum ns
steps_states [] = refl
steps_states (n ∷ ns) = let e = steps_states ns in omega (arith, e)

pub closed : {S : Type 0} (start : Place S) (ls : List Levels) (s : Situation S) (k : Kept S) (fault : Option RunFault) (in_hand : ℕ) (slip : Slip) →
    SideBySide start (calls_of start ls) s k fault → in_hand ≡ states_in_hand s.hand →
    slip ≡ slip_from k.counts k.steps in_hand k.ended k.twin.processor fault → SlipOf start ls slip
closed start ls s k fault in_hand slip q h e =
    let es = calls_of start ls in
    let c = q.counts in
    let steps = q.steps ∙ ap steps_of (answers_agree q.history) in
    let count : k.steps.instructions ≡ length (endings es) = ap (λ x. x.instructions) steps ∙ steps_count (endings es) in
    let states : k.steps.table_states ≡ sum (endings es) = ap (λ x. x.table_states) steps ∙ steps_states (endings es) in
    let sum_of = ticks_add_up start es s run q.history in
    let ticks : k.steps.table_states + k.counts.waits + k.counts.idle + in_hand ≡ total accepted es =
    omega (arith, states, c.waits, c.idle, h, sum_of) in
    let twin : k.twin.processor ≡ (fed start (program_of es).items).place.processor = ap (λ p. p.processor) q.twin in
    let ended = q.ended ∙ twin in
    record {
      after = s;
      history = q.history;
      states = ap (λ x. x.states) e ∙
          (λ i. column_of (c.instructions i) (c.table_states i) (c.waits i) (c.idle i) (h i) (c.ticks i) (ended i));
      steps = ap (λ x. x.steps) e ∙ (λ i. column_of (count i) (states i) (c.waits i) (c.idle i) (h i) (ticks i) (twin i));
      fault = ap (λ x. x.fault) e ∙ q.refused;
    }
