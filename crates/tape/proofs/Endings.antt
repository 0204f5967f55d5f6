-- Endings on a tape with more bytes in front.
use Rattle.std.proofs.Common.{◌≡◌, ℕ, ◌+◌, ap, arith}
use Rattle.tape.specs.Tape.{Ending, stopped, bad, full, later}

pub later_later : (m n : ℕ) (end : Ending) → later m (later n end) ≡ later (m + n) end
later_later m n (stopped place) = ap stopped (omega arith)
later_later m n (bad place) = ap bad (omega arith)
later_later m n (full place) = ap full (omega arith)

pub later_none : (end : Ending) → later 0 end ≡ end
later_none (stopped place) = ap stopped (omega arith)
later_none (bad place) = ap bad (omega arith)
later_none (full place) = ap full (omega arith)
