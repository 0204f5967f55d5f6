-- What a store of 16,384 cells means.
use Rattle.std.specs.Prelude.{ℕ, ◌%◌, cond, ◌==◌}
use Rattle.bus.specs.declared.stores.Written.{Written}
use Rattle.bus.specs.declared.stores.Written.TheVariants.{Taken, Dropped}

-- whether a write can alter a cell
pub data Kind : Type 0 where
  ram : Kind
  fixed : Kind

-- what a cell holds, and its kind
pub record Cell : Type 0 where
  pub byte : ℕ
  pub kind : Kind

-- the cells by address below 16,384
abbrev pub Cells : Type 0
Cells = ℕ → Cell

-- the byte of the cell that an address, taken mod 16,384, names
abbrev pub byte_at : Cells → ℕ → ℕ
byte_at m a = (m (a % 16384)).byte

-- RAM takes a write, and a fixed cell drops it
abbrev pub answer_of : Kind → Written
answer_of ram = Taken
answer_of fixed = Dropped

-- what a write to an address answers
abbrev pub answer_at : Cells → ℕ → Written
answer_at m a = answer_of (m (a % 16384)).kind

-- the byte that a cell of a kind, holding one byte, has after a write of another
abbrev pub held_after : Kind → ℕ → ℕ → ℕ
held_after ram old new = new
held_after fixed old new = old

-- a cell after a write to it; its kind never changes
abbrev pub stored : Cell → ℕ → Cell
stored c b = record { byte = held_after c.kind c.byte b; kind = c.kind }

-- the cells after a write: only the one at the address can differ
abbrev pub written : Cells → ℕ → ℕ → Cells
written m a b n = cond (n == a % 16384) (stored (m n) b) (m n)

-- What no call on a lent store alters: where it lies, and what no call on it alters.
pub record Lent (F : Type 0) : Type 0 where
  pub place : ℕ
  pub of : F
