-- A text up to its first gap, and from that gap on, by the place of the gap.
use Rattle.std.proofs.Common.{◌≡◌, ℕ, ◌+◌, Bool, true, false, cond, not, List, [], ◌∷◌, length, take, drop, refl, ap, ◌∙◌, arith}
use Rattle.std.specs.List.{position, position_or_len}
use Rattle.std.specs.Option.{unwrap_or}
use Rattle.std.proofs.lemmas.Grind.{common_steps}
use Rattle.std.proofs.lemmas.List.Sums.{prefix_len-le-length}
use Rattle.panel.specs.declared.words.Gap.{Gap}
use Rattle.panel.specs.Words.{from_gap, is_gap, up_to_gap}

-- The place of the first gap, or the length.
place_is : (g : Gap) (t : List ℕ) → unwrap_or (position (is_gap g) t) (length t) ≡ position_or_len (is_gap g) t
place_is g t = grind (arith, common_steps, prefix_len-le-length)

front_step : (b : ℕ) (bs us : List ℕ) (n : ℕ) (gap : Bool) → take n bs ≡ us → take (cond (not gap) (1 + n) 0) (b ∷ bs) ≡ cond gap [] (b ∷ us)
front_step b bs us n true e = refl
front_step b bs us n false e = grind (arith, common_steps)

back_step : (b : ℕ) (bs us : List ℕ) (n : ℕ) (gap : Bool) → drop n bs ≡ us → drop (cond (not gap) (1 + n) 0) (b ∷ bs) ≡ cond gap (b ∷ bs) us
back_step b bs us n true e = refl
back_step b bs us n false e = grind (arith, common_steps)

front_at : (g : Gap) (t : List ℕ) → take (position_or_len (is_gap g) t) t ≡ up_to_gap g t
front_at g [] = refl
front_at g (b ∷ bs) = front_step b bs (up_to_gap g bs) (position_or_len (is_gap g) bs) (is_gap g b) (front_at g bs)

back_at : (g : Gap) (t : List ℕ) → drop (position_or_len (is_gap g) t) t ≡ from_gap g t
back_at g [] = refl
back_at g (b ∷ bs) = back_step b bs (from_gap g bs) (position_or_len (is_gap g) bs) (is_gap g b) (back_at g bs)

pub front_of : (g : Gap) (t : List ℕ) → take (unwrap_or (position (is_gap g) t) (length t)) t ≡ up_to_gap g t
front_of g t = ap (λ n. take n t) (place_is g t) ∙ front_at g t

pub back_of : (g : Gap) (t : List ℕ) → drop (unwrap_or (position (is_gap g) t) (length t)) t ≡ from_gap g t
back_of g t = ap (λ n. drop n t) (place_is g t) ∙ back_at g t
