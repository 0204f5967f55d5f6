-- What is counted along the trace.
use Rattle.std.specs.Prelude.{ℕ, Some, None, Option, Ok, Err, Result}
use Rattle.cpu.specs.declared.faults.Fault.{Fault}

-- The table states of a step that was carried out.
abbrev pub states_of : Result (Option ℕ) Fault → ℕ
states_of (Ok (Some states)) = states
states_of (Ok None) = 0
states_of (Err fault) = 0
