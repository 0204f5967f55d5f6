-- The letters of a word, one after another.
use Rattle.std.proofs.Common.{◌≡◌, ℕ, suc, ◌+◌, ◌*◌, ◌^◌, ◌<◌, ◌≤◌, Bool, true, false, List, [], ◌∷◌, ◌++◌, map, length, drop, sym, refl, ap, ◌∙◌, append_assoc, pow-suc, arith, lit<, pow_mono, pow-add}
use Rattle.std.proofs.lemmas.List.{length_push, map_push}
use Rattle.tape.specs.Tape.{letter, bit, value, Begins, Reads, bad, reads_word, bad_letter, bad_end}
use Rattle.tape.specs.Places.{Stands, Letter, NoLetter}
use Rattle.tape.specs.Words.{WordFrom, BrokenFrom}
use Rattle.tape.specs.declared.refusals.TapeRefusal.TheVariants.{BadWord}

-- one more bit at the low end
value_push : (bits : List Bool) (b : Bool) → value (bits ++ b ∷ []) ≡ value bits * 2 + bit b
value_push [] true = refl
value_push [] false = refl
value_push (true ∷ bits) b = omega (arith, value_push bits b, ap (λ n. 2 ^ n) (length_push bits b), pow-add 2 (length bits) 1)
value_push (false ∷ bits) b = omega (arith, value_push bits b)

value_fits : (bits : List Bool) → value bits < 2 ^ length bits
value_fits [] = lit< tt
value_fits (true ∷ bits) = omega (arith, value_fits bits, pow-suc 2 (length bits))
value_fits (false ∷ bits) = omega (arith, value_fits bits, pow-suc 2 (length bits))

-- k letters stand from the one place up to the other, and their bits make v
pub record Spelled (tape : List ℕ) (from at k v : ℕ) : Type 0 where
  pub bits : List Bool
  pub count : length bits ≡ k
  pub worth : value bits ≡ v
  pub place : at ≡ from + k
  pub stand : drop from tape ≡ map letter bits ++ drop at tape

module _ {tape : List ℕ} {from at k v : ℕ} (so_far : Spelled tape from at k v) where
  -- there is room for one more bit in a byte
  pub spelled_fits : k < 8 → v < 128
  spelled_fits few =
      let at_most : length so_far.bits ≤ 7 = omega (arith, so_far.count) in
      omega (arith, so_far.worth, value_fits so_far.bits, pow_mono at_most)

  pub spelled_more : (w : ℕ) → Letter tape at v w → Spelled tape from (at + 1) (k + 1) w
  spelled_more w l =
      record {
        bits = so_far.bits ++ l.which ∷ [];
        count = length_push so_far.bits l.which ∙ ap (λ n. n + 1) so_far.count;
        worth = omega (arith, value_push so_far.bits l.which, so_far.worth, l.worth);
        place = omega (arith, so_far.place);
        stand = rw (map_push, append_assoc) (so_far.stand ∙ ap (λ rest. map letter so_far.bits ++ rest) l.stands.here);
      }

  -- the word breaks off here
  broken : ((room : ℕ) → Reads (suc room) (66 ∷ (map letter so_far.bits ++ drop at tape)) [] (bad (1 + length so_far.bits))) → BrokenFrom tape from (BadWord at)
  broken r =
      record {
        after = length so_far.bits;
        is = ap BadWord (so_far.place ∙ ap (λ n. from + n) (sym so_far.count));
        reads = rw so_far.stand (r _);
      }

  -- neither N nor P comes next, though fewer than eight letters stand
  pub letter_lacks : k < 8 → NoLetter tape at → BrokenFrom tape from (BadWord at)
  letter_lacks few none = broken (λ room. bad_letter so_far.bits _ (omega (arith, so_far.count)) none.no-N none.no-P)

  -- no F comes after the eighth letter
  pub end_lacks : k ≡ 8 → (Begins 70 (drop at tape) → ⊥) → BrokenFrom tape from (BadWord at)
  end_lacks eight none =
      let e = so_far.count ∙ eight in
      broken (λ room. rw e (bad_end so_far.bits _ e none))

  pub word_ends : k ≡ 8 → Stands tape at 70 → WordFrom tape from v
  word_ends eight f =
      let after : at + 1 ≡ from + 9 = omega (arith, so_far.place) in
      record {
        within = omega (arith, f.within);
        reads =
            λ more. rw (← so_far.worth, so_far.stand, f.here, after, ← append_assoc (map letter so_far.bits) (70 ∷ []) (drop (from + 9) tape)) (reads_word so_far.bits (so_far.count ∙ eight) more);
      }
