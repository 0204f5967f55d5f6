-- The bytes read, with those that are left, are those of the whole text.
use Rattle.std.proofs.Common.{length, vec_items}
use Rattle.panel.proofs.Pairs.{SoFar}
use Rattle.panel.proofs.schedules.read_bytes.Given as goal

abbrev pub invariant-loop-left : goal.invariant-loop-left
invariant-loop-left l = SoFar l.text (vec_items l.bytes) l.left

abbrev pub decreases-loop-left : goal.decreases-loop-left
decreases-loop-left l = length l.left
