use Rattle.std.proofs.Common.{sym, ◌∙◌, arith}
use Rattle.runner.proofs.Turns.{goes_on, halt_ends, refused, spent}
use Rattle.runner.proofs.running.run_ticks.Goals as goal

pub returns-in-Err-clause-outcome : goal.returns-in-Err-clause-outcome
returns-in-Err-clause-outcome g c =
    c.loop-tick.invariant.0 ∙ refused c.args.ticks c.loop-tick.tick _ _ _ _ _ _ c.loop-tick-test.true c.levels.ensures c.in-Err.ensures.outcome

pub returns-then-ends_halt-clause-outcome : goal.returns-then-ends_halt-clause-outcome
returns-then-ends_halt-clause-outcome g c =
    let sum = c.count_tick.ensures.exact c.loop-tick.tick (omega arith) c.loop-tick.invariant.1 in
    c.loop-tick.invariant.0 ∙
    halt_ends c.args.ticks c.loop-tick.tick _ _ _ _ _ _ _ c.loop-tick-test.true c.levels.ensures c.in-Ok.ensures.outcome sum.0 (sym c.if-ends_halt.ensures)

pub loop-tick-preserved : goal.loop-tick-preserved
loop-tick-preserved g c =
    let sum = c.count_tick.ensures.exact c.loop-tick.tick (omega arith) c.loop-tick.invariant.1 in (
      c.loop-tick.invariant.0 ∙
          goes_on c.args.ticks c.loop-tick.tick _ _ _ _ _ _ _ c.loop-tick-test.true c.levels.ensures c.in-Ok.ensures.outcome sum.0 (sym c.if-ends_halt.ensures),
      sum.1,
      c.in-Ok.ensures.frame_kept ∙ c.loop-tick.invariant.2,
    )

pub returns-clause-outcome : goal.returns-clause-outcome
returns-clause-outcome g c = c.loop-tick.invariant.0 ∙ spent c.args.ticks c.loop-tick.tick _ _ _ c.loop-tick-test.false
