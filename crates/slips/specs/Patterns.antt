-- Schedules made from a pattern, byte by byte: an even byte has the levels of a tick, an odd one its jam byte.
use Rattle.std.specs.Prelude.{ℕ, ◌+◌, ◌/◌, ◌%◌, cond, ◌&&◌, ◌==◌, nat_lt}

-- READY high in the last of every `low` + 1 ticks, INT low, the jam byte 0.
abbrev pub ready_byte : ℕ → ℕ → ℕ
ready_byte low k = cond (k % 2 == 0 && k / 2 % (low + 1) == low) 1 0

-- INT high at the tick, and the jam byte from the tick on.
abbrev pub interrupted_byte : ℕ → ℕ → ℕ → ℕ → ℕ
interrupted_byte tick jam k byte =
    cond (nat_lt (k / 2) tick) byte (cond (k % 2 == 1) jam (cond (k / 2 == tick) (byte % 2 + 2) byte))
