use Rattle.std.proofs.Common.{◌∙◌, arith}
use Rattle.runner.proofs.StepTurns.{goes_on, halt_ends, found_stopped, refused, enough, spent}
use Rattle.runner.proofs.walking.take_steps.Goals as goal

pub returns-then-tally-ge-STATES-clause-outcome : goal.returns-then-tally-ge-STATES-clause-outcome
returns-then-tally-ge-STATES-clause-outcome g c =
    c.loop-taken.invariant.0 ∙ enough c.args.most c.loop-taken.taken _ _ _ c.loop-taken-test.true c.if-tally-ge-STATES.true

pub returns-in-Err-clause-outcome : goal.returns-in-Err-clause-outcome
returns-in-Err-clause-outcome g c =
    c.loop-taken.invariant.0 ∙
    refused c.args.most c.loop-taken.taken _ _ _ _ _ _ c.loop-taken-test.true c.if-tally-ge-STATES.false c.feed.ensures c.in-Err.ensures.outcome

pub returns-in-Ok-None-clause-outcome : goal.returns-in-Ok-None-clause-outcome
returns-in-Ok-None-clause-outcome g c =
    c.loop-taken.invariant.0 ∙
    found_stopped c.args.most c.loop-taken.taken _ _ _ _ _ _ c.loop-taken-test.true c.if-tally-ge-STATES.false c.feed.ensures c.in-Ok-None.ensures.outcome c.in-Ok-None.field-0-is

pub returns-then-processor-clause-outcome : goal.returns-then-processor-clause-outcome
returns-then-processor-clause-outcome g c =
    let sum = c.count_step.ensures.exact c.loop-taken.taken (omega arith) c.loop-taken.invariant.1 in
    c.loop-taken.invariant.0 ∙
    halt_ends c.args.most c.loop-taken.taken _ _ _ _ _ _ _ _ c.loop-taken-test.true c.if-tally-ge-STATES.false c.feed.ensures c.in-Ok-Some.ensures.outcome c.in-Ok-Some.field-0-is sum.0 c.if-processor.true

pub loop-taken-preserved : goal.loop-taken-preserved
loop-taken-preserved g c =
    let sum = c.count_step.ensures.exact c.loop-taken.taken (omega arith) c.loop-taken.invariant.1 in (
      c.loop-taken.invariant.0 ∙
          goes_on c.args.most c.loop-taken.taken _ _ _ _ _ _ _ _ c.loop-taken-test.true c.if-tally-ge-STATES.false c.feed.ensures c.in-Ok-Some.ensures.outcome c.in-Ok-Some.field-0-is sum.0 c.if-processor.false,
      sum.1,
      c.step.ensures.frame_kept ∙ c.loop-taken.invariant.2,
    )

pub returns-clause-outcome : goal.returns-clause-outcome
returns-clause-outcome g c = c.loop-taken.invariant.0 ∙ spent c.args.most c.loop-taken.taken _ _ _ c.loop-taken-test.false
