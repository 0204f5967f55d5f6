-- Each code of the instruction table decodes to its instruction.
use Rattle.std.proofs.Common.{◌≡◌, ℕ, zero, suc, ◌/◌, ◌%◌, ◌<◌, Bool, true, false, ◌&&◌, eqb, ltb, leb, Some, refl, ap, ◌∙◌, inl, inr, arith, lit<}
use Rattle.std.proofs.lemmas.Bool.{eqb-true, ltb-true, leb-true, le-ltb, and_parts, or_cases, false≢true, cond-true, cond-false}
use Rattle.isa.specs.declared.register_file.Register.{Register}
use Rattle.isa.specs.declared.register_file.Register.TheVariants.{A, B, C, D, E, H, L}
use Rattle.isa.specs.declared.conditions.Flag.{Flag}
use Rattle.isa.specs.declared.conditions.Flag.TheVariants.{Carry, Zero, Sign, Parity}
use Rattle.isa.specs.declared.conditions.Condition.TheVariants.{Always, When}
use Rattle.isa.specs.declared.instructions.Group.{Group}
use Rattle.isa.specs.declared.instructions.Group.TheVariants.{Add, AddCarry, Subtract, SubtractBorrow, And, Xor, Or, Compare}
use Rattle.isa.specs.declared.instructions.Operand.TheVariants.{Register as Reg, Memory, Immediate}
use Rattle.isa.specs.declared.instructions.Rotation.{Rotation}
use Rattle.isa.specs.declared.instructions.Rotation.TheVariants.{Left, Right, LeftThroughCarry, RightThroughCarry}
use Rattle.isa.specs.declared.instructions.Instruction.{Instruction}
use Rattle.isa.specs.declared.instructions.Instruction.TheVariants.{Load, LoadMemory, StoreMemory, LoadImmediate, StoreImmediate, Increment, Decrement, Arithmetic, Rotate, Jump, Call, Return, Restart, Input, Output, Halt}
use Rattle.isa.specs.RegisterFile.{register_code, register_of}
use Rattle.isa.specs.Conditions.{condition_code, condition_of}
use Rattle.isa.specs.Codes.{group_code, rotation_code, bits, port_bits, any_middle, has_code}
use Rattle.isa.specs.Decoding.{group_of, port_of, quarter1, by_fields, decoded}

-- The fields of hh mmm lll are hh, mmm and lll.
fields : (h m l : ℕ) → h < 4 → m < 8 → l < 8 → decoded (bits h m l) ≡ by_fields h (bits h m l / 2 % 32) m l
fields h m l p q r =
    let eh : bits h m l / 64 ≡ h = omega arith in
    let em : bits h m l / 8 % 8 ≡ m = omega arith in
    let el : bits h m l % 8 ≡ l = omega arith in
    simp (eh, em, el)

-- A register's code is below 7 and stands for it.
pub record Coded (d : Register) : Type 0 where
  pub back : register_of (register_code d) ≡ d
  pub low : register_code d < 7
  pub no_memory : eqb (register_code d) 7 ≡ false

pub coded : (d : Register) → Coded d
coded A = record { back = refl; low = lit< tt; no_memory = refl }
coded B = record { back = refl; low = lit< tt; no_memory = refl }
coded C = record { back = refl; low = lit< tt; no_memory = refl }
coded D = record { back = refl; low = lit< tt; no_memory = refl }
coded E = record { back = refl; low = lit< tt; no_memory = refl }
coded H = record { back = refl; low = lit< tt; no_memory = refl }
coded L = record { back = refl; low = lit< tt; no_memory = refl }

pub group_coded : (p : Group) → (group_of (group_code p) ≡ p) × (group_code p < 8)
group_coded Add = (refl, lit< tt)
group_coded AddCarry = (refl, lit< tt)
group_coded Subtract = (refl, lit< tt)
group_coded SubtractBorrow = (refl, lit< tt)
group_coded And = (refl, lit< tt)
group_coded Xor = (refl, lit< tt)
group_coded Or = (refl, lit< tt)
group_coded Compare = (refl, lit< tt)

pub condition_coded : (k : Flag) (f : Bool) → (condition_of (condition_code k f) ≡ When k f) × (condition_code k f < 8)
condition_coded Carry true = (refl, lit< tt)
condition_coded Carry false = (refl, lit< tt)
condition_coded Zero true = (refl, lit< tt)
condition_coded Zero false = (refl, lit< tt)
condition_coded Sign true = (refl, lit< tt)
condition_coded Sign false = (refl, lit< tt)
condition_coded Parity true = (refl, lit< tt)
condition_coded Parity false = (refl, lit< tt)

rotation : (r : Rotation) → decoded (bits 0 (rotation_code r) 2) ≡ Some (Rotate r)
rotation Left = refl
rotation Right = refl
rotation LeftThroughCarry = refl
rotation RightThroughCarry = refl

pub record Counts (d : Register) : Type 0 where
  pub up : decoded (bits 0 (register_code d) 0) ≡ Some (Increment d)
  pub down : decoded (bits 0 (register_code d) 1) ≡ Some (Decrement d)

counts : (d : Register) → ltb 0 (register_code d) ≡ true → Counts d
counts A h = absurd (false≢true h)
counts B h = record { up = refl; down = refl }
counts C h = record { up = refl; down = refl }
counts D h = record { up = refl; down = refl }
counts E h = record { up = refl; down = refl }
counts H h = record { up = refl; down = refl }
counts L h = record { up = refl; down = refl }

-- An odd byte of the second quarter is that of a port.
odd : (p m l : ℕ) → l < 8 → l % 2 ≡ 1 → quarter1 p m l ≡ port_of p
odd p m zero h o = absurd (omega arith)
odd p m (suc zero) h o = refl
odd p m (suc (suc zero)) h o = absurd (omega arith)
odd p m (suc (suc (suc zero))) h o = refl
odd p m (suc (suc (suc (suc zero)))) h o = absurd (omega arith)
odd p m (suc (suc (suc (suc (suc zero))))) h o = refl
odd p m (suc (suc (suc (suc (suc (suc zero)))))) h o = absurd (omega arith)
odd p m (suc (suc (suc (suc (suc (suc (suc n))))))) h o = refl

port : (p : ℕ) → p < 32 → decoded (port_bits p) ≡ Some (port_of p)
port p h =
    let eh : port_bits p / 64 ≡ 1 = omega arith in
    let ep : port_bits p / 2 % 32 ≡ p = omega arith in
    let l : port_bits p % 8 < 8 = omega arith in
    let o : port_bits p % 8 % 2 ≡ 1 = omega arith in
    simp (eh, ep) (ap Some (odd p (port_bits p / 8 % 8) (port_bits p % 8) l o))

free : (c h l : ℕ) → any_middle h l c ≡ true → decoded c ≡ by_fields h (c / 2 % 32) (c / 8 % 8) l
free c h l e =
    let p = and_parts (eqb (c / 64) h) (eqb (c % 8) l) e in
    let eh = eqb-true (c / 64) h p.0 in
    let el = eqb-true (c % 8) l p.1 in
    simp (eh, el)

halt : (c : ℕ) → has_code Halt c ≡ true → decoded c ≡ Some Halt
halt c h = elim (or_cases (ltb c 2) (eqb c 255) h) [ inl e ↦ low c (ltb-true c 2 e) | inr e ↦ rw (eqb-true c 255 e) ]
  where
    low : (c : ℕ) → c < 2 → decoded c ≡ Some Halt
    low zero h = refl
    low (suc zero) h = refl
    low (suc (suc n)) h = absurd (omega arith)

-- A code of the table decodes to its instruction.
pub decodes : (c : ℕ) (i : Instruction) → has_code i c ≡ true → decoded c ≡ Some i
decodes c (Load d s) e =
    let f = coded d in
    let g = coded s in
    rw (eqb-true c _ e)
    (fields 3 (register_code d) (register_code s) (lit< tt) (omega arith) (omega arith) ∙
    simp (f.no_memory, g.no_memory, f.back, g.back))
decodes c (LoadMemory d) e =
    let f = coded d in
    rw (eqb-true c _ e) (fields 3 (register_code d) 7 (lit< tt) (omega arith) (lit< tt) ∙ simp (f.no_memory, f.back))
decodes c (StoreMemory s) e =
    let f = coded s in
    rw (eqb-true c _ e) (fields 3 7 (register_code s) (lit< tt) (lit< tt) (omega arith) ∙ simp (f.no_memory, f.back))
decodes c (LoadImmediate d) e =
    let f = coded d in
    rw (eqb-true c _ e) (fields 0 (register_code d) 6 (lit< tt) (omega arith) (lit< tt) ∙ simp (f.no_memory, f.back))
decodes c StoreImmediate e = rw (eqb-true c _ e)
decodes c (Increment d) e =
    let p = and_parts (ltb 0 (register_code d)) _ e in rw (eqb-true c _ p.1) (counts d p.0).up
decodes c (Decrement d) e =
    let p = and_parts (ltb 0 (register_code d)) _ e in rw (eqb-true c _ p.1) (counts d p.0).down
decodes c (Arithmetic p (Reg s)) e =
    let f = coded s in
    let g = group_coded p in
    rw (eqb-true c _ e)
    (fields 2 (group_code p) (register_code s) (lit< tt) g.1 (omega arith) ∙ simp (f.no_memory, f.back, g.0))
decodes c (Arithmetic p Memory) e =
    let g = group_coded p in
    rw (eqb-true c _ e) (fields 2 (group_code p) 7 (lit< tt) g.1 (lit< tt) ∙ simp g.0)
decodes c (Arithmetic p Immediate) e =
    let g = group_coded p in
    rw (eqb-true c _ e) (fields 0 (group_code p) 4 (lit< tt) g.1 (lit< tt) ∙ simp g.0)
decodes c (Rotate r) e = rw (eqb-true c _ e) (rotation r)
decodes c (Jump Always) e = free c 1 4 e
decodes c (Jump (When k f)) e =
    let g = condition_coded k f in
    rw (eqb-true c _ e) (fields 1 (condition_code k f) 0 (lit< tt) g.1 (lit< tt) ∙ simp g.0)
decodes c (Call Always) e = free c 1 6 e
decodes c (Call (When k f)) e =
    let g = condition_coded k f in
    rw (eqb-true c _ e) (fields 1 (condition_code k f) 2 (lit< tt) g.1 (lit< tt) ∙ simp g.0)
decodes c (Return Always) e = free c 0 7 e
decodes c (Return (When k f)) e =
    let g = condition_coded k f in
    rw (eqb-true c _ e) (fields 0 (condition_code k f) 3 (lit< tt) g.1 (lit< tt) ∙ simp g.0)
decodes c (Restart a) e =
    let p = and_parts (ltb a 8) _ e in
    rw (eqb-true c _ p.1) (fields 0 a 5 (lit< tt) (ltb-true a 8 p.0) (lit< tt))
decodes c (Input m) e =
    let p = and_parts (ltb m 8) _ e in
    let l = ltb-true m 8 p.0 in
    rw (eqb-true c _ p.1) (port m (omega arith) ∙ ap Some (cond-true (ltb m 8) _ _ p.0))
decodes c (Output m) e =
    let p = and_parts (leb 8 m && ltb m 32) _ e in
    let b = and_parts (leb 8 m) (ltb m 32) p.0 in
    rw (eqb-true c _ p.1)
    (port m (ltb-true m 32 b.1) ∙ ap Some (cond-false (ltb m 8) _ _ (le-ltb m 8 (leb-true 8 m b.0))))
decodes c Halt e = halt c e
