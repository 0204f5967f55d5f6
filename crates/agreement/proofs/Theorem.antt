-- The two engines agree in every history.
use Rattle.std.proofs.Common.{◌≡◌, ℕ, ◌+◌, ◌-◌, true, eqb, List, [], ◌∷◌, map, Some, None, Ok, Err, Option, Result, sym, refl, ap, ◌∙◌, subst, ap₂, arith}
use Rattle.bus.specs.Store.{answer_at}
use Rattle.cpu.specs.declared.faults.Fault.{Fault}
use Rattle.cpu.specs.Place.{Place, writing}
use Rattle.stepper.specs.declared.feeds.Feed.{Feed}
use Rattle.stepper.specs.declared.feeds.Feed.TheVariants.{Own, Jam}
use Rattle.stepper.specs.Steps.{stepped}
use Rattle.states.specs.declared.ticks.Levels.{Levels}
use Rattle.states.specs.declared.ticks.Ticked.{Ticked}
use Rattle.states.specs.declared.in_hand.InHand.{InHand}
use Rattle.states.specs.declared.in_hand.InHand.TheVariants.{Start, Opening as Opens, Opened, Underway as Goes}
use Rattle.states.specs.Situation.{Situation}
use Rattle.states.specs.Sequencing.{states_in_hand, sound}
use Rattle.states.specs.Ticks.{ticked}
use Rattle.states.specs.TickLaws.{Lawful, states_of}
use Rattle.states.proofs.Lawful.{lawful}
use Rattle.agreement.specs.Calls.{Event, tick, hold, examine, deposit, release, Key, held, ticks, holds, refuses, examines, deposits, releases, History, powered, then}
use Rattle.agreement.specs.InstructionMachine.{Item, step, Begun, nothing, begun_after, Program, ended_by, tick_adds, adds, program_of, Fed, fed}
use Rattle.agreement.specs.Agreement.{with_ended, endings_with, endings, Ends, JustEnded, accepted, waited, idled, total, sum, carried_out, EnginesAgree, TicksAddUp, MachinesAgree}
use Rattle.agreement.proofs.InHand.{begun_by, Matches, Next, NextBy, tick_next}

-- The instruction machine, fed so far, has answered what the ticks answered, and matches the instruction in hand.
record Kept {S : Type 0} (start : Place S) (p : Program) (ns : List ℕ) (s : Situation S) : Type 0 where
  answers : (fed start p.items).answers ≡ map carried_out ns
  matches : Matches (fed start p.items).place p.begun s.hand s.place

module _ {S : Type 0} (start : Place S) (s : Situation S) where
  kept_ended : (items : List Item) (ns : List ℕ) (n : ℕ) (f : Feed) → (fed start items).answers ≡ map carried_out ns →
      stepped f (fed start items).place ≡ record { answer = carried_out n; after = s.place } → s.hand ≡ Start →
      Kept start (record { items = step f ∷ items; begun = nothing }) (n ∷ ns) s
  kept_ended items ns n f a e h = record {
    answers = ap (λ o. o.answer ∷ (fed start items).answers) e ∙ ap (λ rs. carried_out n ∷ rs) a;
    matches = rw h (sym (ap (λ o. o.after) e));
  }

  kept_by : (o : Option ℕ) (b : Begun) (items : List Item) (ns : List ℕ) → (fed start items).answers ≡ map carried_out ns →
      NextBy o (fed start items).place b s → Kept start (ended_by o b items) (with_ended o ns) s
  kept_by None b items ns a u = record { answers = a; matches = u }
  kept_by (Some n) b items ns a u = go u.0 u.1 (kept_ended items ns n u.0 a u.2 u.3)
    where
      go : (f : Feed) → b ≡ begun_by f → Kept start (record { items = step f ∷ items; begun = nothing }) (n ∷ ns) s →
          Kept start (ended_by (Some n) b items) (with_ended (Some n) ns) s
      go Own e k = rw e k
      go (Jam byte) e k = rw e k

  kept_tick : (l : Levels) (r : Result Ticked Fault) (p : Program) (ns : List ℕ) → (fed start p.items).answers ≡ map carried_out ns →
      Next l (fed start p.items).place p.begun r s → Kept start (tick_adds l r p) (endings_with (tick l r) ns) s
  kept_tick l (Ok t) p ns a u = kept_by t.ended _ p.items ns a u
  kept_tick l (Err f) p ns a u = record { answers = a; matches = u }

-- A machine that is held is at an instruction's start.
at_start_lem : {S : Type 0} {start : Place S} {es : List Event} {s : Situation S} → History start es s held → s.hand ≡ Start
at_start_lem (then h (holds e)) = e
at_start_lem (then h (examines address b)) = at_start_lem h
at_start_lem (then h (deposits address byte a e)) = ap (λ x. x.hand) e ∙ at_start_lem h

matches_deposit : {S : Type 0} (q : Place S) (b : Begun) (h : InHand) (p : Place S) (address byte : ℕ) → h ≡ Start → Matches q b h p →
    Matches (writing q address byte) b h (writing p address byte)
matches_deposit q b Start p address byte e u = ap (λ x. writing x address byte) u
matches_deposit q b (Opens o) p address byte e u = absurd (let z : ◌≡◌ {A = ℕ} 0 1 = cc in omega arith)
matches_deposit q b (Opened o) p address byte e u = absurd (let z : ◌≡◌ {A = ℕ} 0 1 = cc in omega arith)
matches_deposit q b (Goes w) p address byte e u = absurd (let z : ◌≡◌ {A = ℕ} 0 1 = cc in omega arith)

kept : {S : Type 0} {start : Place S} {es : List Event} {s : Situation S} {k : Key} → History start es s k →
    Kept start (program_of es) (endings es) s
kept powered = record { answers = refl; matches = refl }
kept {start = start} (then {es} {s} h (ticks l e)) =
    subst (λ o. Kept start (adds (tick l o.answer) (program_of es)) (endings_with (tick l o.answer) (endings es)) o.after) e
    (kept_tick start _ l (ticked l s).answer (program_of es) (endings es) (kept h).answers
    (tick_next l _ (program_of es).begun s.hand s.place (kept h).matches))
kept (then h (holds e)) = record { answers = (kept h).answers; matches = (kept h).matches }
kept (then h (refuses e)) = record { answers = (kept h).answers; matches = (kept h).matches }
kept (then h (examines address b)) = record { answers = (kept h).answers; matches = (kept h).matches }
kept {start = start} (then {es} {s} h (deposits address byte a e)) =
    subst (Kept start (program_of (deposit address byte (answer_at s.place.cells address) ∷ es)) (endings es)) (sym e)
    (record {
      answers = (kept h).answers;
      matches = matches_deposit _ _ s.hand s.place address byte (at_start_lem h) (kept h).matches;
    })
kept (then h releases) = record { answers = (kept h).answers; matches = (kept h).matches }

-- The steps that the instruction machine has taken so far answered what the ticks answered, also inside an instruction.
pub answers_agree : {S : Type 0} {start : Place S} {es : List Event} {s : Situation S} {k : Key} → History start es s k →
    (fed start (program_of es).items).answers ≡ map carried_out (endings es)
answers_agree h = (kept h).answers

-- An instruction that ends leaves an instruction's start.
next_start : {S : Type 0} (l : Levels) (q : Place S) (b : Begun) (r : Result Ticked Fault) (s : Situation S) → Next l q b r s → Ends (tick l r) →
    s.hand ≡ Start
next_start l q b (Ok t) s u e = go t.ended u e.1
  where
    go : (o : Option ℕ) → NextBy o q (begun_after b l.jam t.state (eqb t.cycle 1)) s → o ≡ Some e.0 → s.hand ≡ Start
    go None v f = absurd (let z : ◌≡◌ {A = ℕ} 0 1 = cc in omega arith)
    go (Some n) v f = v.3
next_start l q b (Err f) s u e = absurd e

ended_start : {S : Type 0} {start : Place S} {es : List Event} {s : Situation S} {k : Key} → History start es s k → JustEnded es →
    s.hand ≡ Start
ended_start powered e = absurd e
ended_start {start = start} (then {es} {s} h (ticks {t = t} {r = r} l x)) e =
    next_start l (fed start (program_of es).items).place (program_of es).begun r t
    (subst (λ o. Next l (fed start (program_of es).items).place (program_of es).begun o.answer o.after) x
    (tick_next l _ (program_of es).begun s.hand s.place (kept h).matches)) e
ended_start (then h (holds x)) e = absurd e
ended_start (then h (refuses x)) e = absurd e
ended_start (then h (examines address b)) e = absurd e
ended_start (then h (deposits address byte a x)) e = absurd e
ended_start (then h releases) e = absurd e

matches_start : {S : Type 0} (q : Place S) (b : Begun) (h : InHand) (p : Place S) → h ≡ Start → Matches q b h p → q ≡ p
matches_start q b h p e u = sym (subst (λ x. Matches q b x p) e u)

pub engines_agree : {S : Type 0} (start : Place S) → EnginesAgree start
engines_agree start es s k x e =
    let q = kept x in
    let p = matches_start _ _ s.hand s.place (ended_start x e) q.matches in
    λ i. record { place = p i; answers = q.answers i }

-- The sums.
sum_endings : (e : Event) (ns : List ℕ) → sum (endings_with e ns) ≡ sum (endings_with e []) + sum ns
sum_endings (tick l (Ok t)) ns = go t.ended
  where
    go : (o : Option ℕ) → sum (with_ended o ns) ≡ sum (with_ended o []) + sum ns
    go None = omega arith
    go (Some n) = omega arith
sum_endings (tick l (Err f)) ns = omega arith
sum_endings (hold granted) ns = omega arith
sum_endings (examine address byte) ns = omega arith
sum_endings (deposit address byte answer) ns = omega arith
sum_endings release ns = omega arith

stays_sound : {S : Type 0} {start : Place S} {es : List Event} {s : Situation S} {k : Key} → History start es s k → sound s.hand ≡ true
stays_sound powered = refl
stays_sound {S} (then {s = s} h (ticks l x)) = subst (λ o. sound o.after.hand ≡ true) x (lawful S l s (stays_sound h)).stays_sound
stays_sound (then h (holds x)) = stays_sound h
stays_sound (then h (refuses x)) = stays_sound h
stays_sound (then h (examines address b)) = stays_sound h
stays_sound (then h (deposits address byte a x)) = ap (λ z. sound z.hand) x ∙ stays_sound h
stays_sound (then h releases) = stays_sound h

one : (o : Option ℕ) → sum (with_ended o []) ≡ states_of o
one None = refl
one (Some n) = omega arith

-- What one tick counts for.
tick_counts : {S : Type 0} (l : Levels) (s : Situation S) (r : Result Ticked Fault) (after : Situation S) →
    Lawful l s (record { answer = r; after = after }) →
    accepted (tick l r) + states_in_hand s.hand ≡
    sum (endings_with (tick l r) []) + waited (tick l r) + idled (tick l r) + states_in_hand after.hand
tick_counts l s (Ok t) after k = let a = k.accounts t refl in let b = one t.ended in omega (arith, a, b)
tick_counts l s (Err f) after k = let a = ap (λ x. states_in_hand x.hand) (k.refuses f refl).0 in omega (arith, a)

add_up : {S : Type 0} {start : Place S} {es : List Event} {s : Situation S} {k : Key} → History start es s k →
    total accepted es ≡ sum (endings es) + total waited es + total idled es + states_in_hand s.hand
add_up powered = refl
add_up {S} (then {es} {s} h (ticks {t = t} {r = r} l x)) =
    let c = tick_counts l s r t (subst (Lawful l s) x (lawful S l s (stays_sound h))) in
    let e = sum_endings (tick l r) (endings es) in
    let a = add_up h in
    omega (arith, c, e, a)
add_up (then h (holds x)) = let a = add_up h in omega (arith, a)
add_up (then h (refuses x)) = let a = add_up h in omega (arith, a)
add_up (then h (examines address b)) = let a = add_up h in omega (arith, a)
add_up (then h (deposits address byte b x)) = let a = add_up h in let z = ap (λ y. states_in_hand y.hand) x in omega (arith, a, z)
add_up (then h releases) = let a = add_up h in omega (arith, a)

pub ticks_add_up : {S : Type 0} (start : Place S) → TicksAddUp start
ticks_add_up start es s k x = add_up x

-- The states that a list of answers comes to.
answered : List (Result (Option ℕ) Fault) → ℕ
answered [] = 0
answered (Ok (Some n) ∷ rs) = n + answered rs
answered (Ok None ∷ rs) = answered rs
answered (Err f ∷ rs) = answered rs

answered_sum : (ns : List ℕ) → answered (map carried_out ns) ≡ sum ns
unfolding answered
answered_sum [] = refl
answered_sum (n ∷ ns) = ap (λ k. n + k) (answered_sum ns)

worked : {S : Type 0} {start : Place S} {es : List Event} {s : Situation S} {k : Key} → History start es s k → JustEnded es →
    total accepted es - total waited es - total idled es ≡ sum (endings es)
worked {s = s} x e =
    let a = add_up x in let z : states_in_hand s.hand ≡ 0 = ap states_in_hand (ended_start x e) in omega (arith, a, z)

pub machines_agree : {S : Type 0} (start : Place S) → MachinesAgree start
machines_agree {S} start other q n es fs s t j k x y e i f m same =
    let a = engines_agree start es s j x e in
    let b = engines_agree other fs t k y f in
    let g : ◌≡◌ {A = Fed S} (record { place = s.place; answers = map carried_out (endings es) }) (record { place = t.place; answers = map carried_out (endings fs) }) =
    sym a ∙ ap₂ fed q same ∙ b in (
      ap (λ z. z.place) g,
      worked x e ∙ sym (answered_sum (endings es)) ∙ ap (λ z. answered z.answers) g ∙ answered_sum (endings fs) ∙ sym (worked y f),
    )
