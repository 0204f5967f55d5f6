-- The bits that a rotation puts together do not meet, so that an or is a sum: computed over all bytes.
use Rattle.std.proofs.Common.{◌≡◌, ℕ, ◌*◌, ◌/◌, ◌%◌, ◌<◌, Bool, true, false, ◌&&◌, eqb, leb, refl}
use lib.Bits.{bit_or}
use Rattle.std.proofs.lemmas.Bool.{eqb-true, and_parts}
use Rattle.isa.specs.Conditions.{bit, same}
use Rattle.isa.specs.declared.instructions.Rotation.TheVariants.{LeftThroughCarry}
use Rattle.isa.proofs.Every.{below}
use Rattle.alu.specs.Rotations.{Turned, turned, turned_left, turned_right, turning}

pub left : (a : ℕ) → a < 256 → bit_or (a * 2 % 256) (a / 128) ≡ turned_left 128 a
left a h = eqb-true _ _ (below (λ n. eqb (bit_or (n * 2 % 256) (n / 128)) (turned_left 128 n)) 256 refl a h)

pub right : (a : ℕ) → a < 256 → bit_or (a / 2) (a * 128 % 256) ≡ turned_right 128 a
right a h = eqb-true _ _ (below (λ n. eqb (bit_or (n / 2) (n * 128 % 256)) (turned_right 128 n)) 256 refl a h)

same_true : (a b : Bool) → same a b ≡ true → a ≡ b
same_true true true h = refl
same_true true false h = cc
same_true false true h = cc
same_true false false h = refl

-- Whether two turns are the same, as a test.
abbrev equal : Turned → Turned → Bool
equal t u = eqb t.value u.value && same t.carry u.carry

both : (v w : ℕ) (c d : Bool) → v ≡ w → c ≡ d → turned v c ≡ turned w d
both v w c d p q = cc

equal_true : (t u : Turned) → equal t u ≡ true → t ≡ u
equal_true t u h =
    let p = and_parts (eqb t.value u.value) (same t.carry u.carry) h in
    both _ _ _ _ (eqb-true _ _ p.0) (same_true _ _ p.1)

agree : (f g : ℕ → Turned) → ((a : ℕ) → a < 256 → equal (f a) (g a) ≡ true) → (a : ℕ) → a < 256 → f a ≡ g a
agree f g h a l = equal_true (f a) (g a) (h a l)

pub left_nine : (c : Bool) (a : ℕ) → a < 256 → turned (bit_or (a * 2 % 256) (bit c)) (leb 128 a) ≡ turning LeftThroughCarry a c
left_nine true =
    agree _ (λ a. turning LeftThroughCarry a true) (below (λ n. equal (turned (bit_or (n * 2 % 256) 1) (leb 128 n)) (turning LeftThroughCarry n true)) 256 refl)
left_nine false =
    agree _ (λ a. turning LeftThroughCarry a false) (below (λ n. equal (turned (bit_or (n * 2 % 256) 0) (leb 128 n)) (turning LeftThroughCarry n false)) 256 refl)
