-- The ring remembers eight program counters.
use Rattle.std.proofs.Common.{◌≡◌, ℕ, zero, suc, ◌+◌, ◌-◌, ◌*◌, ◌%◌, ◌<◌, not, eqb, ◌≢◌, List, [], ◌∷◌, length, get_or, sym, refl, ap, ◌∙◌, arith, lit<, length-set, get_or-set_other, get_or-set_same}
use Rattle.std.proofs.lemmas.Bool.{eq-eqb, not-true, both_ways}
use Rattle.isa.proofs.Every.{every, below}
use Rattle.cpu.specs.AddressRing.{Ring, pc_of, advanced, called, returned}
use Rattle.cpu.specs.Nesting.{calls, returns, advances, OfEight, RemembersEight, ForgetsTheOldest, Moves}

-- So many returns move the number back, and leave the registers.
back : (n : ℕ) (r : Ring) → r.number < 8 → returns n r ≡ record { registers = r.registers; number = (r.number + 7 * n) % 8 }
back zero r h = let e : (r.number + 7 * 0) % 8 ≡ r.number = omega arith in rw e
back (suc n) r h =
    let low : (r.number + 7) % 8 < 8 = omega arith in
    let e : ((r.number + 7) % 8 + 7 * n) % 8 ≡ (r.number + 7 * suc n) % 8 = omega arith in
    back n (returned r) low ∙ ap (λ k. record { registers = r.registers; number = k }) e

still_eight : (targets : List ℕ) (r : Ring) → OfEight r → OfEight (calls targets r)
still_eight [] r k = k
still_eight (t ∷ ts) r k =
    let b = still_eight ts r k in record { registers = length-set _ _ _ ∙ b.registers; number = omega arith }

-- Fewer than seven returns do not come round to the register after.
apart : (m n : ℕ) → m < 8 → n < 7 → (m + 7 * n) % 8 ≢ (m + 1) % 8
apart m n h k e =
    let row = below (λ i. every (λ j. not (eqb ((i + 7 * j) % 8) ((i + 1) % 8))) 7) 8 refl m h in
    let test = below (λ j. not (eqb ((m + 7 * j) % 8) ((m + 1) % 8))) 7 row n k in
    both_ways (eqb ((m + 7 * n) % 8) ((m + 1) % 8)) (not-true _ test) (eq-eqb _ _ e)

-- A call leaves seven registers as they were.
others : (r : Ring) (t n : ℕ) → OfEight r → n < 7 → pc_of (returns (suc n) (called r t)) ≡ pc_of (returns n r)
others r t n k h =
    let low : (r.number + 1) % 8 < 8 = omega arith in
    let at : ((r.number + 1) % 8 + 7 * suc n) % 8 ≡ (r.number + 7 * n) % 8 = omega arith in
    let ne : (r.number + 7 * n) % 8 ≢ (r.number + 1) % 8 = apart r.number n k.number h in
    ap pc_of (back (suc n) (called r t) low) ∙
    (ap (λ j. get_or (called r t).registers j 0) at ∙
    (get_or-set_other r.registers ((r.number + 1) % 8) ((r.number + 7 * n) % 8) (t % 16384) 0 ne ∙
    sym (ap pc_of (back n r k.number))))

pub remembers_eight : RemembersEight
remembers_eight r k [] n h =
    let all : n - 0 ≡ n = omega arith in (λ l. absurd (omega arith), λ l. ap (λ m. pc_of (returns m r)) (sym all))
remembers_eight r k (t ∷ ts) zero h =
    let b = still_eight ts r k in
    let low : ((calls ts r).number + 1) % 8 < length (calls ts r).registers = omega (arith, b.registers) in
    (λ l. get_or-set_same (calls ts r).registers (((calls ts r).number + 1) % 8) (t % 16384) 0 low, λ l. absurd (omega arith))
remembers_eight r k (t ∷ ts) (suc n) h =
    let one = others (calls ts r) t n (still_eight ts r k) (omega arith) in
    let before = remembers_eight r k ts n (omega arith) in
    let less : n - length ts ≡ suc n - suc (length ts) = omega arith in
    (λ l. one ∙ before.0 (omega arith), λ l. one ∙ (before.1 (omega arith) ∙ ap (λ m. pc_of (returns m r)) less))

pub forgets_the_oldest : ForgetsTheOldest
forgets_the_oldest r k =
    let e : (r.number + 56) % 8 ≡ r.number = omega (arith, k.number) in
    back 8 r k.number ∙ ap (λ n. record { registers = r.registers; number = n }) e

counts_on : (r : Ring) → OfEight r → pc_of r < 16384 → (n : ℕ) → pc_of (advances n r) ≡ (pc_of r + n) % 16384
counts_on r k h zero = omega arith
counts_on r k h (suc n) =
    let low : r.number < length r.registers = omega (arith, k.number, k.registers) in
    let one : pc_of (advanced r) ≡ (pc_of r + 1) % 16384 = get_or-set_same r.registers r.number _ 0 low in
    let eight : OfEight (advanced r) = record { registers = length-set _ _ _ ∙ k.registers; number = k.number } in
    let rest = counts_on (advanced r) eight (omega (arith, one)) n in
    omega (arith, rest, one)

pub moves : Moves
moves = record {
  counts_on = counts_on;
  jump_sets = λ r k t. get_or-set_same r.registers r.number (t % 16384) 0 (omega (arith, k.number, k.registers));
  call_sets = λ r k t. get_or-set_same r.registers ((r.number + 1) % 8) (t % 16384) 0 (omega (arith, k.registers));
  return_leads_back = λ r k t. others r t 0 k (lit< tt);
}
