-- One turn of a run: a tick that is accepted, a tick that is refused, no tick left.
use Rattle.std.proofs.Common.{◌≡◌, ℕ, suc, ◌+◌, List, [], ◌∷◌, length, Some, None, Ok, Err, Option, Result, sym, refl, ap, ◌∙◌, add-zero, add_assoc, zero-add, arith}
use Rattle.cpu.specs.declared.faults.Fault.{Fault}
use Rattle.states.specs.declared.ticks.Levels.{Levels}
use Rattle.states.specs.declared.ticks.Ticked.{Ticked}
use Rattle.states.specs.Situation.{Situation}
use Rattle.states.specs.Ticks.{Outcome, ticked}
use Rattle.runs.specs.declared.outcomes.RunFault.{RunFault}
use Rattle.states.specs.declared.tallies.Tally.{Tally}
use Rattle.std.specs.Result.{result_err}
use Rattle.states.specs.Tallies.{nothing, plus, counted}
use Rattle.runs.specs.Runs.{Course, at_tick, later, before, following, ran_over}

-- Tallies add up in any grouping.
plus_assoc : (t u v : Tally) → plus t (plus u v) ≡ plus (plus t u) v
plus_assoc t u v = simp add_assoc

plus_nothing : (t : Tally) → plus t nothing ≡ t
plus_nothing t = simp add-zero

nothing_plus : (t : Tally) → plus nothing t ≡ t
nothing_plus t = simp zero-add

later_later : (m n : ℕ) (f : Option RunFault) → later m (later n f) ≡ later (m + n) f
later_later m n None = refl
later_later m n (Some f) = simp add_assoc

later_none : (f : Option RunFault) → later 0 f ≡ f
later_none None = refl
later_none (Some f) = simp zero-add

pub before_before : {S : Type 0} (t u : Tally) (o : Course S) → before t (before u o) ≡ before (plus t u) o
before_before t u o = rw (plus_assoc t u o.tally, later_later t.accepted u.accepted o.fault)

pub before_none : {S : Type 0} (o : Course S) → before nothing o ≡ o
before_none o = rw (nothing_plus o.tally, later_none o.fault)

-- The next tick is one of those that are left.
pub one_less : (ls rest : List Levels) (l : Levels) → ls ≡ l ∷ rest → length ls ≡ suc (length rest)
one_less ls rest l k = rw k

-- The ticks from here on, by the levels and the outcome of the next.
next : {S : Type 0} (ls rest : List Levels) (l : Levels) (s : Situation S) (o : Outcome S) → ls ≡ l ∷ rest → ticked l s ≡ o →
    ran_over ls s ≡ following o.answer o.after (ran_over rest o.after)
unfolding ran_over
next ls rest l s o k e =
    ap (λ ls. ran_over ls s) k ∙ ap (λ (o : Outcome _). following o.answer o.after (ran_over rest o.after)) e

answered : (i : ℕ) (answer : Result Ticked Fault) (got : Result Ticked RunFault) (x : Ticked) → got ≡ at_tick i answer → got ≡ Ok x → answer ≡ Ok x
answered i (Ok y) got x e is = cc
answered i (Err f) got x e is = cc

-- The next tick is accepted.
pub goes_on : {S : Type 0} (ls rest : List Levels) (i : ℕ) (t u : Tally) (l : Levels) (s after : Situation S)
    (answer : Result Ticked Fault) (got : Result Ticked RunFault) (x : Ticked) → ls ≡ l ∷ rest →
    ticked l s ≡ record { answer = answer; after = after } → got ≡ at_tick i answer → got ≡ Ok x → u ≡ plus t (counted x) →
    before t (ran_over ls s) ≡ before u (ran_over rest after)
goes_on ls rest i t u l s after answer got x k e a is c =
    let rest = ran_over rest after in
    ap (before t) (next ls _ l s _ k e ∙ ap (λ r. following r after rest) (answered i answer got x a is)) ∙
    before_before t (counted x) rest ∙ ap (λ v. before v rest) (sym c)

-- The next tick is refused.
pub refused : {S : Type 0} (ls rest : List Levels) (i : ℕ) (t : Tally) (l : Levels) (s after : Situation S)
    (answer : Result Ticked Fault) (got : Result Ticked RunFault) (f : RunFault) (out : Result (Unit {0}) RunFault) → ls ≡ l ∷ rest →
    ticked l s ≡ record { answer = answer; after = after } → got ≡ at_tick i answer → got ≡ Err f → out ≡ Err f → t.accepted ≡ i →
    before t (ran_over ls s) ≡ record { tally = t; fault = result_err out; after = after }
refused ls rest i t l s after (Ok x) got f out k e a is o c = absurd (let z : ◌≡◌ {A = ℕ} 0 1 = cc in omega arith)
refused ls rest i t l s after (Err fault) got f out k e a is o c =
    let why : out ≡ Err (record { fault = fault; tick = i }) = cc in
    let place : t.accepted + 0 ≡ i = omega arith in
    ap (before t) (next ls rest l s _ k e) ∙
    rw (plus_nothing t, place) (ap (λ (r : Result (Unit {0}) RunFault). record { tally = t; fault = result_err r; after = after }) (sym why))

-- No tick is left.
pub no_more : {S : Type 0} (ls : List Levels) (t : Tally) (s : Situation S) → ls ≡ [] →
    before t (ran_over ls s) ≡ record { tally = t; fault = None; after = s }
unfolding ran_over
no_more ls t s k = ap (λ ls. before t (ran_over ls s)) k ∙ rw (plus_nothing t)
