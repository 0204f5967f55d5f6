-- What ticks and steps add up to.
use Rattle.std.specs.Prelude.{◌≡◌, ℕ, ◌+◌, ◌-◌, ◌*◌, ◌^◌, ◌<◌, ◌≤◌, min, Some, None, Option}
use Rattle.states.specs.declared.tallies.Tally.{Tally}
use Rattle.states.specs.declared.ticks.Ticked.{Ticked}
use Rattle.states.specs.TickLaws.{wait, idle, states_of}

abbrev pub nothing : Tally
nothing = record { accepted = 0; instructions = 0; table_states = 0; waits = 0; idle = 0 }

-- One tally and another.
abbrev pub plus : Tally → Tally → Tally
plus t u = record {
  accepted = t.accepted + u.accepted;
  instructions = t.instructions + u.instructions;
  table_states = t.table_states + u.table_states;
  waits = t.waits + u.waits;
  idle = t.idle + u.idle;
}

abbrev pub one : Option ℕ → ℕ
one None = 0
one (Some states) = 1

-- One accepted tick.
abbrev pub counted : Ticked → Tally
counted x = record {
  accepted = 1;
  instructions = one x.ended;
  table_states = states_of x.ended;
  waits = wait x;
  idle = idle x;
}

-- One step, by the states that it answers, if it carried out an instruction. A step is no tick, and neither waits nor idles.
abbrev pub counted_step : Option ℕ → Tally
counted_step answered = record {
  accepted = 0;
  instructions = one answered;
  table_states = states_of answered;
  waits = 0;
  idle = 0;
}

-- How far so many ticks can raise the counts.
pub record Within (ticks : ℕ) (t : Tally) : Type 0 where
  pub accepted : t.accepted ≤ ticks
  pub instructions : t.instructions ≤ ticks
  pub table_states : t.table_states ≤ 255 * ticks
  pub waits : t.waits ≤ ticks
  pub idle : t.idle ≤ ticks

-- What counts of 32 bits hold of a tally: one that would pass the largest stays at it.
abbrev pub held : Tally → Tally
held t = record {
  accepted = min t.accepted (2 ^ 32 - 1);
  instructions = min t.instructions (2 ^ 32 - 1);
  table_states = min t.table_states (2 ^ 32 - 1);
  waits = min t.waits (2 ^ 32 - 1);
  idle = min t.idle (2 ^ 32 - 1);
}

-- While no more than 16,843,009 are counted, none of 255 states or more, the counts are exact.
abbrev pub Exactly : Tally → Tally → Tally → Type 0
Exactly before more after = (n : ℕ) → n < 16843009 → Within n before → (after ≡ plus before more) × Within (n + 1) after
