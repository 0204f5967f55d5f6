-- What every row of the cycle table has: three to five states in cycle one, none or as many in the others, and no cycle
-- three without a cycle two.
use Rattle.std.proofs.Common.{◌≡◌, ℕ, ◌<◌, ◌≤◌, Bool, true, false, refl, arith, lit≤}
use Rattle.isa.specs.declared.instructions.Operand.TheVariants.{Register as Reg, Memory, Immediate}
use Rattle.isa.specs.declared.instructions.Instruction.{Instruction}
use Rattle.isa.specs.declared.instructions.Instruction.TheVariants.{Load, LoadMemory, StoreMemory, LoadImmediate, StoreImmediate, Increment, Decrement, Arithmetic, Rotate, Jump, Call, Return, Restart, Input, Output, Halt}
use Rattle.isa.specs.declared.cycles.Transfer.{Transfer}
use Rattle.isa.specs.Cycles.{Row, one, two, three, moving, row_of}

pub record Lasting (n : ℕ) : Type 0 where
  pub three : 0 < n → 3 ≤ n
  pub five : n ≤ 5

pub record Fine (r : Row) : Type 0 where
  pub some : 0 < r.first
  pub first : Lasting r.first
  pub second : Lasting r.second.lasts
  pub third : Lasting r.third.lasts
  pub in_order : r.second.lasts ≡ 0 → r.third.lasts ≡ 0

lasting : (n : ℕ) → 3 ≤ n → n ≤ 5 → Lasting n
lasting n h k = record { three = λ z. h; five = k }

absent : Lasting 0
absent = record { three = λ z. absurd (omega arith); five = lit≤ tt }

fine_one : (n : ℕ) → 3 ≤ n → n ≤ 5 → Fine (one n)
fine_one n h k = record { some = omega arith; first = lasting n h k; second = absent; third = absent; in_order = λ e. refl }

fine_two : (n : ℕ) (t : Transfer) (m : ℕ) → 3 ≤ n → n ≤ 5 → 3 ≤ m → m ≤ 5 → Fine (two n (moving t m))
fine_two n t m h k i j = record {
  some = omega arith;
  first = lasting n h k;
  second = lasting m i j;
  third = absent;
  in_order = λ e. refl;
}

-- The first two cycles of three have three states each.
fine_three : (t u : Transfer) (n : ℕ) → 3 ≤ n → n ≤ 5 → Fine (three 3 (moving t 3) (moving u n))
fine_three t u n h k = record {
  some = lit≤ tt;
  first = lasting 3 (lit≤ tt) (lit≤ tt);
  second = lasting 3 (lit≤ tt) (lit≤ tt);
  third = lasting n h k;
  in_order = λ e. absurd (omega arith);
}

pub fine : (i : Instruction) (taken : Bool) → Fine (row_of i taken)
fine (Load d s) taken = fine_one _ (lit≤ tt) (lit≤ tt)
fine (LoadMemory d) taken = fine_two _ _ _ (lit≤ tt) (lit≤ tt) (lit≤ tt) (lit≤ tt)
fine (StoreMemory s) taken = fine_two _ _ _ (lit≤ tt) (lit≤ tt) (lit≤ tt) (lit≤ tt)
fine (LoadImmediate d) taken = fine_two _ _ _ (lit≤ tt) (lit≤ tt) (lit≤ tt) (lit≤ tt)
fine StoreImmediate taken = fine_three _ _ _ (lit≤ tt) (lit≤ tt)
fine (Increment d) taken = fine_one _ (lit≤ tt) (lit≤ tt)
fine (Decrement d) taken = fine_one _ (lit≤ tt) (lit≤ tt)
fine (Arithmetic p (Reg s)) taken = fine_one _ (lit≤ tt) (lit≤ tt)
fine (Arithmetic p Memory) taken = fine_two _ _ _ (lit≤ tt) (lit≤ tt) (lit≤ tt) (lit≤ tt)
fine (Arithmetic p Immediate) taken = fine_two _ _ _ (lit≤ tt) (lit≤ tt) (lit≤ tt) (lit≤ tt)
fine (Rotate r) taken = fine_one _ (lit≤ tt) (lit≤ tt)
fine (Jump c) true = fine_three _ _ _ (lit≤ tt) (lit≤ tt)
fine (Jump c) false = fine_three _ _ _ (lit≤ tt) (lit≤ tt)
fine (Call c) true = fine_three _ _ _ (lit≤ tt) (lit≤ tt)
fine (Call c) false = fine_three _ _ _ (lit≤ tt) (lit≤ tt)
fine (Return c) true = fine_one _ (lit≤ tt) (lit≤ tt)
fine (Return c) false = fine_one _ (lit≤ tt) (lit≤ tt)
fine (Restart a) taken = fine_one _ (lit≤ tt) (lit≤ tt)
fine (Input m) taken = fine_two _ _ _ (lit≤ tt) (lit≤ tt) (lit≤ tt) (lit≤ tt)
fine (Output m) taken = fine_two _ _ _ (lit≤ tt) (lit≤ tt) (lit≤ tt) (lit≤ tt)
fine Halt taken = fine_one _ (lit≤ tt) (lit≤ tt)
