-- The flat store: cells that lie in a lent buffer, the first ones fixed.
use Rattle.std.specs.Prelude.{ℕ, cond, ◌&&◌, List, length, drop, nat_lt, slice_index}
use Rattle.bus.specs.declared.flat.FlatStore.{FlatStore}
use Rattle.bus.specs.Store.{Kind, ram, fixed, Cell, Cells}

-- the kind of a cell that lies in the buffer: fixed below the count
abbrev pub kind_below : ℕ → ℕ → Kind
kind_below count n = cond (nat_lt n count) fixed ram

-- the cell of an address with no byte behind it
abbrev pub absent : Cell
absent = record { byte = 255; kind = fixed }

-- Cell n is byte n of the buffer. Neither an address past the last cell nor one past the buffer has
-- a byte behind it.
abbrev pub flat : List ℕ → ℕ → Cells
flat bytes count n =
    cond (nat_lt n 16384 && nat_lt n (length bytes)) (record { byte = slice_index bytes n; kind = kind_below count n }) absent

-- What no call on a flat store alters besides the cells: the buffer that it was lent, the count of
-- fixed cells, the buffer's length, and its bytes past the last cell.
pub record FlatFrame : Type 0 where
  pub place : ℕ
  pub count : ℕ
  pub size : ℕ
  pub past : List ℕ

-- the cells of a store
abbrev pub flat_cells : FlatStore → Cells
flat_cells s = flat s.bytes.now s.fixed

-- the frame of a store
abbrev pub flat_frame : FlatStore → FlatFrame
flat_frame s = record {
  place = s.bytes.ghost_name;
  count = s.fixed;
  size = length s.bytes.now;
  past = drop 16384 s.bytes.now;
}
