-- The tick that ends a halt.
use Rattle.std.specs.Prelude.{ℕ, Bool, true, false, Some, None, Option}
use Rattle.states.specs.declared.ticks.State.{State}
use Rattle.states.specs.declared.ticks.State.TheVariants.{T1, T1I, T2, Wait, T3, T4, T5, Stopped}
use Rattle.states.specs.declared.ticks.Ticked.{Ticked}

-- A halt ends in a STOPPED state that ends an instruction.
abbrev pub halts_in : State → Option ℕ → Bool
halts_in T1 e = false
halts_in T1I e = false
halts_in T2 e = false
halts_in Wait e = false
halts_in T3 e = false
halts_in T4 e = false
halts_in T5 e = false
halts_in Stopped None = false
halts_in Stopped (Some states) = true

abbrev pub halts : Ticked → Bool
halts x = halts_in x.state x.ended
