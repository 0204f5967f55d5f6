-- Decoding and encoding undo each other, and agree with the instruction table.
use Rattle.std.proofs.Common.{◌≡◌, ℕ, ◌<◌, Bool, true, false, not, ◌&&◌, eqb, ltb, leb, Some, None, Ok, Err, Option, Result, refl, arith, lit<}
use Rattle.std.proofs.lemmas.Bool.{eqb-true, eq-eqb, and_parts, not-true, false≢true, cond_both, both_ways, ltb-true}
use Rattle.isa.specs.declared.refusals.Refusal.{Refusal}
use Rattle.isa.specs.declared.conditions.Condition.TheVariants.{Always, When}
use Rattle.isa.specs.declared.instructions.Operand.TheVariants.{Register as Reg, Memory, Immediate}
use Rattle.isa.specs.declared.instructions.Rotation.TheVariants.{Left, Right, LeftThroughCarry, RightThroughCarry}
use Rattle.isa.specs.declared.instructions.Instruction.{Instruction}
use Rattle.isa.specs.declared.instructions.Instruction.TheVariants.{Load, LoadMemory, StoreMemory, LoadImmediate, StoreImmediate, Increment, Decrement, Arithmetic, Rotate, Jump, Call, Return, Restart, Input, Output, Halt}
use Rattle.isa.specs.RegisterFile.{register_code}
use Rattle.isa.specs.Codes.{bits, port_bits, has_code, undefined}
use Rattle.isa.specs.Decoding.{decoded}
use Rattle.isa.specs.Encoding.{encoded, where_defined}
use Rattle.isa.specs.Laws.{InTable, EncodesBack, DecodesBack, plain}
use Rattle.isa.proofs.Every.{below}
use Rattle.isa.proofs.Codes.{coded, group_coded, condition_coded, decodes}

-- One computed test over all bytes for each law of decoding.
abbrev in_table? : ℕ → Option Instruction → Bool
in_table? c (Some i) = has_code i c && not (undefined c)
in_table? c None = undefined c

in_table_if : (c : ℕ) (o : Option Instruction) → in_table? c o ≡ true → InTable c o
in_table_if c (Some i) h =
    let p = and_parts (has_code i c) (not (undefined c)) h in (p.0, not-true (undefined c) p.1)
in_table_if c None h = h

pub in_table : (c : ℕ) → c < 256 → InTable c (decoded c)
in_table c h = in_table_if c (decoded c) (below (λ k. in_table? k (decoded k)) 256 refl c h)

abbrev is_code : Result ℕ Refusal → ℕ → Bool
is_code (Ok n) m = eqb n m
is_code (Err t) m = false

is_code_if : (r : Result ℕ Refusal) (m : ℕ) → is_code r m ≡ true → r ≡ Ok m
is_code_if (Ok n) m h = rw (eqb-true n m h)
is_code_if (Err t) m h = absurd (false≢true h)

abbrev encodes_back? : ℕ → Option Instruction → Bool
encodes_back? c (Some i) = is_code (encoded i) (plain c)
encodes_back? c None = true

encodes_back_if : (c : ℕ) (o : Option Instruction) → encodes_back? c o ≡ true → EncodesBack c o
encodes_back_if c (Some i) h = is_code_if (encoded i) (plain c) h
encodes_back_if c None h = tt

pub encodes_back : (c : ℕ) → c < 256 → EncodesBack c (decoded c)
encodes_back c h = encodes_back_if c (decoded c) (below (λ k. encodes_back? k (decoded k)) 256 refl c h)

-- The plain code is a code of the instruction, so it decodes to it.
coded_by : (i : Instruction) (c : ℕ) → c < 256 → has_code i c ≡ true → DecodesBack i (Ok c)
coded_by i c h e = (h, decodes c i e)

-- An instruction that has codes only under a condition is refused where the condition fails.
under : (i : Instruction) (b : Bool) (n : ℕ) → ((c : ℕ) → has_code i c ≡ (b && eqb c n)) → (b ≡ true → n < 256) → DecodesBack i (where_defined b n)
under i b n same low =
    cond_both b _ _ (DecodesBack i)
    (λ e. coded_by i n (low e) (rw (same n, e) (eq-eqb n n refl)))
    (λ e. λ c h t. both_ways b e (and_parts b (eqb c n) (rw (same c) at t)).0)

pub decodes_back : (i : Instruction) → DecodesBack i (encoded i)
decodes_back (Load d s) = let f = coded d in let g = coded s in coded_by _ _ (omega arith) (eq-eqb _ _ refl)
decodes_back (LoadMemory d) = let f = coded d in coded_by _ _ (omega arith) (eq-eqb _ _ refl)
decodes_back (StoreMemory s) = let f = coded s in coded_by _ _ (omega arith) (eq-eqb _ _ refl)
decodes_back (LoadImmediate d) = let f = coded d in coded_by _ _ (omega arith) (eq-eqb _ _ refl)
decodes_back StoreImmediate = coded_by _ _ (lit< tt) refl
decodes_back (Increment d) = let f = coded d in under (Increment d) (ltb 0 (register_code d)) (bits 0 (register_code d) 0) (λ c. refl) (λ e. omega arith)
decodes_back (Decrement d) = let f = coded d in under (Decrement d) (ltb 0 (register_code d)) (bits 0 (register_code d) 1) (λ c. refl) (λ e. omega arith)
decodes_back (Arithmetic p (Reg s)) =
    let f = coded s in let g = group_coded p in coded_by _ _ (omega arith) (eq-eqb _ _ refl)
decodes_back (Arithmetic p Memory) = let g = group_coded p in coded_by _ _ (omega arith) (eq-eqb _ _ refl)
decodes_back (Arithmetic p Immediate) = let g = group_coded p in coded_by _ _ (omega arith) (eq-eqb _ _ refl)
decodes_back (Rotate Left) = coded_by _ _ (lit< tt) refl
decodes_back (Rotate Right) = coded_by _ _ (lit< tt) refl
decodes_back (Rotate LeftThroughCarry) = coded_by _ _ (lit< tt) refl
decodes_back (Rotate RightThroughCarry) = coded_by _ _ (lit< tt) refl
decodes_back (Jump Always) = coded_by _ _ (lit< tt) refl
decodes_back (Jump (When k f)) = let g = condition_coded k f in coded_by _ _ (omega arith) (eq-eqb _ _ refl)
decodes_back (Call Always) = coded_by _ _ (lit< tt) refl
decodes_back (Call (When k f)) = let g = condition_coded k f in coded_by _ _ (omega arith) (eq-eqb _ _ refl)
decodes_back (Return Always) = coded_by _ _ (lit< tt) refl
decodes_back (Return (When k f)) = let g = condition_coded k f in coded_by _ _ (omega arith) (eq-eqb _ _ refl)
decodes_back (Restart a) = under (Restart a) (ltb a 8) (bits 0 a 5) (λ c. refl) (λ e. let l = ltb-true a 8 e in omega arith)
decodes_back (Input m) = under (Input m) (ltb m 8) (port_bits m) (λ c. refl) (λ e. let l = ltb-true m 8 e in omega arith)
decodes_back (Output m) =
    under (Output m) (leb 8 m && ltb m 32) (port_bits m) (λ c. refl)
    (λ e. let l = ltb-true m 32 (and_parts (leb 8 m) (ltb m 32) e).1 in omega arith)
decodes_back Halt = coded_by _ _ (lit< tt) refl
