-- One turn: the ticks that are left extend the calls so far to those of the whole schedule.
use Rattle.std.proofs.Common.{◌≡◌, List, [], ◌∷◌, Ok, Err, ap, ◌∙◌}
use Rattle.cpu.specs.declared.faults.Fault.{Fault}
use Rattle.states.specs.declared.ticks.Levels.{Levels}
use Rattle.states.specs.declared.ticks.Ticked.{Ticked}
use Rattle.states.specs.Situation.{Situation}
use Rattle.states.specs.Ticks.{Outcome, ticked}
use Rattle.agreement.specs.Calls.{Event, tick}
use Rattle.runs.specs.Histories.{unless_refused, and_ticks}

-- The next tick by its outcome, and the ticks after it.
next : {S : Type 0} (ls rest : List Levels) (l : Levels) (s : Situation S) (o : Outcome S) (es : List Event) → ls ≡ l ∷ rest → ticked l s ≡ o →
    and_ticks ls s es ≡ unless_refused o.answer (and_ticks rest o.after (tick l o.answer ∷ es)) (tick l o.answer ∷ es)
unfolding and_ticks
next ls rest l s o es k e =
    ap (λ ls. and_ticks ls s es) k ∙
    ap (λ (o : Outcome _). unless_refused o.answer (and_ticks rest o.after (tick l o.answer ∷ es)) (tick l o.answer ∷ es)) e

pub goes_on : {S : Type 0} (ls rest : List Levels) (l : Levels) (s after : Situation S) (t : Ticked) (es : List Event) → ls ≡ l ∷ rest →
    ticked l s ≡ record { answer = Ok t; after = after } → and_ticks ls s es ≡ and_ticks rest after (tick l (Ok t) ∷ es)
goes_on ls rest l s after t es k e = next ls rest l s _ es k e

pub stops : {S : Type 0} (ls rest : List Levels) (l : Levels) (s after : Situation S) (f : Fault) (es : List Event) → ls ≡ l ∷ rest →
    ticked l s ≡ record { answer = Err f; after = after } → and_ticks ls s es ≡ tick l (Err f) ∷ es
stops ls rest l s after f es k e = next ls rest l s _ es k e

-- No tick is left.
pub no_more : {S : Type 0} (ls : List Levels) (s : Situation S) (es : List Event) → ls ≡ [] → and_ticks ls s es ≡ es
unfolding and_ticks
no_more ls s es k = ap (λ ls. and_ticks ls s es) k
