-- The ticks that are left are judged as all are.
use Rattle.std.proofs.Common.{◌≡◌}
use Rattle.std.specs.Iterator.Adapters.{enumerate_source, enumerate_count}
use Rattle.std.specs.Slice.Iter.{chunks_exact_rest, chunks_exact_size}
use Rattle.runs.specs.Schedules.{bits_judged}
use Rattle.runs.proofs.schedules.judge_bits.Given as goal

abbrev pub invariant-loop-tick : goal.invariant-loop-tick
invariant-loop-tick l =
    (bits_judged 0 l.schedule ≡ bits_judged (enumerate_count l.tick-iterator) (chunks_exact_rest (enumerate_source l.tick-iterator))) ×
    (chunks_exact_size (enumerate_source l.tick-iterator) ≡ 2) ×
    (goal.iterator-loop-tick).can_next l.tick-iterator ×
    (goal.iterator-loop-tick).is_finite l.tick-iterator
