use Rattle.std.proofs.Common.{◌≡◌, ℕ, ◌<◌, ◌≤◌, get_or}
use Rattle.slips.proofs.patterns.fill.Given as goal

abbrev pub invariant-loop-index : goal.invariant-loop-index
invariant-loop-index g l =
    ((k : ℕ) → k < l.index → goal.F-post g l.rule k (get_or l.initial.schedule k 0) (get_or l.schedule k 0)) ×
    ((k : ℕ) → l.index ≤ k → get_or l.schedule k 0 ≡ get_or l.initial.schedule k 0)
