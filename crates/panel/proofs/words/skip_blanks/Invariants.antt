-- What is left of the text has the same first byte that is no blank.
use Rattle.std.proofs.Common.{◌≡◌, length}
use Rattle.panel.specs.Words.{after_blanks}
use Rattle.panel.proofs.words.skip_blanks.Given as goal

abbrev pub invariant-loop-left : goal.invariant-loop-left
invariant-loop-left l = after_blanks l.text ≡ after_blanks l.left

abbrev pub decreases-loop-left : goal.decreases-loop-left
decreases-loop-left l = length l.left
