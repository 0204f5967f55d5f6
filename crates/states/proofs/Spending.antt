-- Each state of an instruction under way is spent: the states in hand grow by one, or the instruction ends with the table's
-- states.
use Rattle.std.proofs.Common.{◌≡◌, ℕ, suc, ◌+◌, ◌<◌, Bool, true, ltb, arith}
use Rattle.std.proofs.lemmas.Bool.{lt-ltb, ltb-false, cond_both}
use Rattle.isa.specs.declared.instructions.Instruction.{Instruction}
use Rattle.isa.specs.declared.cycles.Cycle.{Cycle}
use Rattle.isa.specs.declared.cycles.Cycle.TheVariants.{First, Second, Third}
use Rattle.isa.specs.Cycles.{states_in, table_states_of}
use Rattle.states.specs.declared.in_hand.Phase.{Phase}
use Rattle.states.specs.declared.in_hand.Phase.TheVariants.{T1, T2, T3, T4, T5}
use Rattle.states.specs.declared.following.Following.{Following}
use Rattle.states.specs.declared.following.Following.TheVariants.{Phase as Then, Cycle as Enter, End}
use Rattle.states.specs.Sequencing.{next_cycle, following, phases_before, cycles_before}
use Rattle.states.proofs.Rows.{Lasting, fine}

-- What follows a state of so many spent before it, by what it is.
abbrev pub Spent : Instruction → Bool → Cycle → ℕ → Following → Type 0
Spent i taken c spent (Then next) =
    (suc (cycles_before i taken c + spent) ≡ cycles_before i taken c + phases_before next) ×
    (ltb (phases_before next) (states_in i taken c) ≡ true)
Spent i taken c spent (Enter cycle) =
    (suc (cycles_before i taken c + spent) ≡ cycles_before i taken cycle) × (ltb 0 (states_in i taken cycle) ≡ true)
Spent i taken c spent End = suc (cycles_before i taken c + spent) ≡ table_states_of i taken

-- The last state of a cycle.
leaves : (i : Instruction) (taken : Bool) (c : Cycle) (spent : ℕ) → suc spent ≡ states_in i taken c → Spent i taken c spent (next_cycle i taken c)
leaves i taken First spent h =
    let f = fine i taken in
    cond_both (ltb 0 (states_in i taken Second)) _ _ (Spent i taken First spent)
    (λ e. (omega arith, e))
    (λ e. let none : states_in i taken Second ≡ 0 = omega (arith, ltb-false _ _ e) in let also = f.in_order none in omega arith)
leaves i taken Second spent h =
    cond_both (ltb 0 (states_in i taken Third)) _ _ (Spent i taken Second spent)
    (λ e. (omega arith, e))
    (λ e. let none : states_in i taken Third ≡ 0 = omega (arith, ltb-false _ _ e) in omega arith)
leaves i taken Third spent h = omega arith

pub lasts : (i : Instruction) (taken : Bool) (c : Cycle) → Lasting (states_in i taken c)
lasts i taken First = (fine i taken).first
lasts i taken Second = (fine i taken).second
lasts i taken Third = (fine i taken).third

pub spends : (i : Instruction) (taken : Bool) (c : Cycle) (next : Phase) → phases_before next < states_in i taken c →
    Spent i taken c (phases_before next) (following i taken c next)
spends i taken c T1 h = let n = (lasts i taken c).three h in (omega arith, lt-ltb _ _ (omega arith))
spends i taken c T2 h = let n = (lasts i taken c).three (omega arith) in (omega arith, lt-ltb _ _ (omega arith))
spends i taken c T3 h =
    cond_both (ltb 3 (states_in i taken c)) _ _ (Spent i taken c 2)
    (λ e. (omega arith, e))
    (λ e. leaves i taken c 2 (omega (arith, ltb-false _ _ e)))
spends i taken c T4 h =
    cond_both (ltb 4 (states_in i taken c)) _ _ (Spent i taken c 3)
    (λ e. (omega arith, e))
    (λ e. leaves i taken c 3 (omega (arith, ltb-false _ _ e)))
spends i taken c T5 h = let n = (lasts i taken c).five in leaves i taken c 4 (omega arith)
