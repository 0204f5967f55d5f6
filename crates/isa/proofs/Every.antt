-- A test that passes at every number below n, as one test that antt computes.
use Rattle.std.proofs.Common.{◌≡◌, ℕ, zero, suc, ◌<◌, Bool, true, ◌&&◌, refl}
use Rattle.std.proofs.lemmas.Bool.Decides.{Decides-below_and}

abbrev pub every : (ℕ → Bool) → ℕ → Bool
every f zero = true
every f (suc n) = f n && every f n

pub below : (f : ℕ → Bool) (n : ℕ) → every f n ≡ true → (k : ℕ) → k < n → f k ≡ true
below f n h =
    (Decides-below_and f (λ k. f k ≡ true) (every f) (λ k. (λ e. e, λ e. e)) refl (λ _. refl) n).0 h
