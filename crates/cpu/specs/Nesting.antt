-- What the address ring remembers of calls.
use Rattle.std.specs.Prelude.{◌≡◌, ℕ, zero, suc, ◌+◌, ◌-◌, ◌%◌, ◌<◌, ◌≤◌, List, [], ◌∷◌, length, slice_index}
use Rattle.cpu.specs.AddressRing.{Ring, pc_of, advanced, jumped, called, returned}

-- The ring after a list of calls, the newest target first, and after so many returns.
abbrev pub calls : List ℕ → Ring → Ring
calls [] r = r
calls (target ∷ before) r = called (calls before r) target

abbrev pub returns : ℕ → Ring → Ring
returns zero r = r
returns (suc n) r = returns n (returned r)

-- The ring with its program counter moved on so many times.
abbrev pub advances : ℕ → Ring → Ring
advances zero r = r
advances (suc n) r = advances n (advanced r)

-- A ring of eight registers.
pub record OfEight (r : Ring) : Type 0 where
  pub registers : length r.registers ≡ 8
  pub number : r.number < 8

-- The ring remembers eight program counters, whatever the depth: up to seven returns after a list of calls lead back to the
-- targets of those calls, the newest first, and past the oldest of them to where the ring stood before.
abbrev pub RemembersEight : Type 0
RemembersEight =
    (r : Ring) → OfEight r → (targets : List ℕ) (n : ℕ) → n < 8 →
    (n < length targets → pc_of (returns n (calls targets r)) ≡ slice_index targets n % 16384) ×
    (length targets ≤ n → pc_of (returns n (calls targets r)) ≡ pc_of (returns (n - length targets) r))

-- The eighth return leads to the newest again, so that the eighth nested call has overwritten the oldest.
abbrev pub ForgetsTheOldest : Type 0
ForgetsTheOldest = (r : Ring) → OfEight r → returns 8 r ≡ r

-- The program counter after each way of moving: it counts on mod 16,384; a jump and a call set it; a return leads back to
-- where the call was made.
pub record Moves : Type 0 where
  pub counts_on : (r : Ring) → OfEight r → pc_of r < 16384 → (n : ℕ) → pc_of (advances n r) ≡ (pc_of r + n) % 16384
  pub jump_sets : (r : Ring) → OfEight r → (target : ℕ) → pc_of (jumped r target) ≡ target % 16384
  pub call_sets : (r : Ring) → OfEight r → (target : ℕ) → pc_of (called r target) ≡ target % 16384
  pub return_leads_back : (r : Ring) → OfEight r → (target : ℕ) → pc_of (returned (called r target)) ≡ pc_of r
