-- One turn of a run: a tick that goes on, a tick that ends a halt, a tick that is refused.
use Rattle.std.proofs.Common.{◌≡◌, ℕ, suc, ◌+◌, ◌-◌, ◌<◌, ◌≤◌, Bool, true, false, cond, eqb, Ok, Err, sym, ap, ◌∙◌, arith}
use Rattle.std.proofs.lemmas.Bool.{ne_eqb}
use Rattle.cpu.specs.declared.faults.Fault.{Fault}
use Rattle.states.specs.declared.ticks.Levels.{Levels}
use Rattle.states.specs.declared.ticks.Ticked.{Ticked}
use Rattle.states.specs.Situation.{Situation}
use Rattle.states.specs.Ticks.{Outcome, ticked}
use Rattle.report.specs.declared.summary.Ending.TheVariants.{Halted, Spent, Refused}
use Rattle.states.specs.declared.tallies.Tally.{Tally}
use Rattle.states.specs.Tallies.{plus, counted}
use Rattle.runner.specs.Halts.{halts}
use Rattle.runner.specs.Running.{Ran, levels_at, ends, runs}

-- What a run comes to, by the outcome of its next tick.
abbrev turn : {S : Type 0} → ℕ → Tally → Outcome S → Ran S
turn n t o =
    elim o.answer [
      | Ok x ↦ cond (halts x) (ends (plus t (counted x)) Halted o.after) (runs n false (plus t (counted x)) o.after)
      | Err f ↦ ends t (Refused f.cause) o.after
    ]

-- So many ticks less one, as long as there are any.
left : (all i : ℕ) → i < all → all - i ≡ suc (all - (i + 1))
left all i h = omega arith

next : {S : Type 0} (all i : ℕ) (first : Bool) (l : Levels) (t : Tally) (s : Situation S) (o : Outcome S) → i < all → l ≡ levels_at first → ticked l s ≡ o →
    runs (all - i) first t s ≡ turn (all - (i + 1)) t o
unfolding runs
next all i first l t s o h k e = rw (left all i h) (ap (λ m. turn (all - (i + 1)) t (ticked m s)) (sym k) ∙ ap (turn (all - (i + 1)) t) e)

-- Only the first tick is the first.
later : (i : ℕ) → false ≡ eqb (i + 1) 0
later i = sym (ne_eqb (i + 1) 0 (λ e. omega arith))

pub goes_on : {S : Type 0} (all i : ℕ) (first : Bool) (l : Levels) (t u : Tally) (s after : Situation S) (x : Ticked) → i < all →
    l ≡ levels_at first → ticked l s ≡ record { answer = Ok x; after = after } → u ≡ plus t (counted x) → halts x ≡ false →
    runs (all - i) first t s ≡ runs (all - (i + 1)) (eqb (i + 1) 0) u after
goes_on all i first l t u s after x h v e c k =
    next all i first l t s _ h v e ∙ rw (k, ← c) (ap (λ b. runs (all - (i + 1)) b u after) (later i))

pub halt_ends : {S : Type 0} (all i : ℕ) (first : Bool) (l : Levels) (t u : Tally) (s after : Situation S) (x : Ticked) → i < all →
    l ≡ levels_at first → ticked l s ≡ record { answer = Ok x; after = after } → u ≡ plus t (counted x) → halts x ≡ true →
    runs (all - i) first t s ≡ ends u Halted after
halt_ends all i first l t u s after x h v e c k = next all i first l t s _ h v e ∙ rw (k, ← c)

pub refused : {S : Type 0} (all i : ℕ) (first : Bool) (l : Levels) (t : Tally) (s after : Situation S) (f : Fault) → i < all →
    l ≡ levels_at first → ticked l s ≡ record { answer = Err f; after = after } → runs (all - i) first t s ≡ ends t (Refused f.cause) after
refused all i first l t s after f h v e = next all i first l t s _ h v e

-- No tick is left.
pub spent : {S : Type 0} (all i : ℕ) (first : Bool) (t : Tally) (s : Situation S) → all ≤ i → runs (all - i) first t s ≡ ends t Spent s
unfolding runs
spent all i first t s h = let none : all - i ≡ 0 = omega arith in rw none
