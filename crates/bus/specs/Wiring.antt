-- What a processor is wired to: the cells of a store, and a port card.
use Rattle.std.specs.Prelude.{ℕ}
use Rattle.bus.specs.Store.{Cells, written}
use Rattle.bus.specs.Card.{Rules}

-- The cells with their kinds, and the port card's rules and state.
pub record Wiring (S : Type 0) : Type 0 where
  pub cells : Cells
  pub rules : Rules S
  pub state : S

abbrev pub wired : {S : Type 0} → Cells → Rules S → S → Wiring S
wired m r s = record { cells = m; rules = r; state = s }

-- A byte written to an address.
abbrev pub writing : {S : Type 0} → Wiring S → ℕ → ℕ → Wiring S
writing w address byte = wired (written w.cells address byte) w.rules w.state

-- The port card's state changed.
abbrev pub with_state : {S : Type 0} → Wiring S → S → Wiring S
with_state w s = wired w.cells w.rules s

-- What no call alters besides, of a store and of a port card.
pub record Frames (S C : Type 0) : Type 0 where
  pub store : S
  pub card : C
