-- The shift store: cells 0800H to 0BFFH in a lent ring of shift registers.
use Rattle.std.specs.Prelude.{ℕ, ◌+◌, ◌-◌, ◌%◌, min, Bool, cond, ◌&&◌, List, length, drop, nat_le, nat_lt, slice_index}
use Rattle.bus.specs.Store.{ram, Cells}
use Rattle.bus.specs.Flat.{absent}
use Rattle.peripherals.specs.declared.shift.ShiftStore.{ShiftStore}

-- the places in the ring of a buffer of this length: one for each cell that it has
abbrev pub places_in : ℕ → ℕ
places_in size = min 1024 size

-- whether cell n has a place in the ring
abbrev pub in_ring : ℕ → ℕ → Bool
in_ring size n = nat_le 2048 n && nat_lt (n - 2048) (places_in size)

-- the place of cell n, counted from the first cell of the ring
abbrev pub place_of : ℕ → ℕ
place_of n = n - 2048

-- Byte i of the buffer is cell 2048 + i, which is RAM. A cell that has no place in the ring has no
-- byte behind it.
abbrev pub shift : List ℕ → Cells
shift bytes n = cond (in_ring (length bytes) n) (record { byte = slice_index bytes (place_of n); kind = ram }) absent

-- the place after this one; after the last, and after a place past it, the first
abbrev pub place_after : ℕ → ℕ → ℕ
place_after size place = cond (nat_lt (place + 1) (places_in size)) (place + 1) 0

-- where a head ends that is sent to an address: at the place of the cell, where the ring has it,
-- else where it stood
abbrev pub head_at : ℕ → ℕ → ℕ → ℕ
head_at size head a = cond (in_ring size (a % 16384)) (place_of (a % 16384)) head

-- What no call on a shift store alters besides the cells: the buffer that it was lent, the buffer's
-- length, and its bytes past the ring.
pub record ShiftFrame : Type 0 where
  pub place : ℕ
  pub size : ℕ
  pub past : List ℕ

-- what the buffer of a store holds
abbrev pub bytes_of : ShiftStore → List ℕ
bytes_of s = s.bytes.now

-- where the head of a store stands
abbrev pub head_of : ShiftStore → ℕ
head_of s = s.head

-- whether the ring of a store has the cell at an address
abbrev pub has_cell : ShiftStore → ℕ → Bool
has_cell s a = in_ring (length (bytes_of s)) (a % 16384)

-- where the head of a store stands after a read or a write at an address
abbrev pub head_after : ShiftStore → ℕ → ℕ
head_after s a = head_at (length (bytes_of s)) (head_of s) a

-- the cells of a store
abbrev pub shift_cells : ShiftStore → Cells
shift_cells s = shift (bytes_of s)

-- the frame of a buffer
abbrev pub shift_frame_at : ℕ → List ℕ → ShiftFrame
shift_frame_at place bytes = record { place = place; size = length bytes; past = drop 1024 bytes }

-- the frame of a store
abbrev pub shift_frame : ShiftStore → ShiftFrame
shift_frame s = shift_frame_at s.bytes.ghost_name (bytes_of s)
