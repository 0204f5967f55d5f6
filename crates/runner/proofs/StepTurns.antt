-- One turn of a run of steps: enough states are counted, a step goes on, ends a halt, finds the processor stopped, or is
-- refused.
use Rattle.std.proofs.Common.{◌≡◌, ℕ, suc, ◌+◌, ◌-◌, ◌<◌, ◌≤◌, Bool, true, false, cond, eqb, Some, None, Option, Ok, Err, sym, ap, ◌∙◌, arith}
use Rattle.std.proofs.lemmas.Bool.{ne_eqb, le-leb, lt-leb}
use Rattle.cpu.specs.declared.faults.Fault.{Fault}
use Rattle.cpu.specs.Place.{Place}
use Rattle.stepper.specs.declared.feeds.Feed.{Feed}
use Rattle.stepper.specs.Steps.{Outcome, stepped}
use Rattle.report.specs.declared.summary.Ending.TheVariants.{Halted, Spent, Refused}
use Rattle.states.specs.declared.tallies.Tally.{Tally}
use Rattle.runner.specs.Stepping.{Walked, feed_at, added, ends, steps}

-- What a run comes to, by the outcome of its next step.
abbrev turn : {S : Type 0} → ℕ → Tally → Outcome S → Walked S
turn n t o =
    elim o.answer [
      | Ok x ↦ elim x [
        | None ↦ ends t Halted o.after
        | Some states ↦ cond o.after.processor.stopped (ends (added t states) Halted o.after) (steps n false (added t states) o.after)
      ]
      | Err f ↦ ends t (Refused f.cause) o.after
    ]

left : (all i : ℕ) → i < all → all - i ≡ suc (all - (i + 1))
left all i h = omega arith

next : {S : Type 0} (all i : ℕ) (first : Bool) (f : Feed) (t : Tally) (p : Place S) (o : Outcome S) → i < all →
    t.table_states < 60000 → f ≡ feed_at first → stepped f p ≡ o → steps (all - i) first t p ≡ turn (all - (i + 1)) t o
unfolding steps
next all i first f t p o h few k e =
    rw (left all i h, lt-leb _ _ few) (ap (λ m. turn (all - (i + 1)) t (stepped m p)) (sym k) ∙ ap (turn (all - (i + 1)) t) e)

later : (i : ℕ) → false ≡ eqb (i + 1) 0
later i = sym (ne_eqb (i + 1) 0 (λ e. omega arith))

done : {S : Type 0} (x : Option ℕ) (y : Option ℕ) (after : Place S) → x ≡ y →
    ◌≡◌ {A = Outcome S} (record { answer = Ok x; after = after }) (record { answer = Ok y; after = after })
done x y after d = ap (λ z. record { answer = Ok z; after = after }) d

pub goes_on : {S : Type 0} (all i : ℕ) (first : Bool) (f : Feed) (t u : Tally) (p after : Place S) (x : Option ℕ) (n : ℕ) → i < all →
    t.table_states < 60000 → f ≡ feed_at first → stepped f p ≡ record { answer = Ok x; after = after } → x ≡ Some n → u ≡ added t n →
    after.processor.stopped ≡ false → steps (all - i) first t p ≡ steps (all - (i + 1)) (eqb (i + 1) 0) u after
goes_on all i first f t u p after x n h few v e d c k =
    next all i first f t p _ h few v (e ∙ done x (Some n) after d) ∙
    (ap (λ b. cond b (ends (added t n) Halted after) (steps (all - (i + 1)) false (added t n) after)) k ∙
    (ap (λ x. steps (all - (i + 1)) false x after) (sym c) ∙ ap (λ b. steps (all - (i + 1)) b u after) (later i)))

pub halt_ends : {S : Type 0} (all i : ℕ) (first : Bool) (f : Feed) (t u : Tally) (p after : Place S) (x : Option ℕ) (n : ℕ) → i < all →
    t.table_states < 60000 → f ≡ feed_at first → stepped f p ≡ record { answer = Ok x; after = after } → x ≡ Some n → u ≡ added t n →
    after.processor.stopped ≡ true → steps (all - i) first t p ≡ ends u Halted after
halt_ends all i first f t u p after x n h few v e d c k = next all i first f t p _ h few v (e ∙ done x (Some n) after d) ∙ rw (k, ← c)

pub found_stopped : {S : Type 0} (all i : ℕ) (first : Bool) (f : Feed) (t : Tally) (p after : Place S) (x : Option ℕ) → i < all →
    t.table_states < 60000 → f ≡ feed_at first → stepped f p ≡ record { answer = Ok x; after = after } → x ≡ None →
    steps (all - i) first t p ≡ ends t Halted after
found_stopped all i first f t p after x h few v e d = next all i first f t p _ h few v (e ∙ done x None after d)

pub refused : {S : Type 0} (all i : ℕ) (first : Bool) (f : Feed) (t : Tally) (p after : Place S) (x : Fault) → i < all →
    t.table_states < 60000 → f ≡ feed_at first → stepped f p ≡ record { answer = Err x; after = after } →
    steps (all - i) first t p ≡ ends t (Refused x.cause) after
refused all i first f t p after x h few v e = next all i first f t p _ h few v e

pub enough : {S : Type 0} (all i : ℕ) (first : Bool) (t : Tally) (p : Place S) → i < all → 60000 ≤ t.table_states →
    steps (all - i) first t p ≡ ends t Spent p
unfolding steps
enough all i first t p h many = rw (left all i h, le-leb _ _ many)

pub spent : {S : Type 0} (all i : ℕ) (first : Bool) (t : Tally) (p : Place S) → all ≤ i → steps (all - i) first t p ≡ ends t Spent p
unfolding steps
spent all i first t p h = let none : all - i ≡ 0 = omega arith in rw none
