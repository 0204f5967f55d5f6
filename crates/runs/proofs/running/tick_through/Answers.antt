use Rattle.std.proofs.Common.{◌≡◌, ◌+◌, ◌<◌, Err, sym, refl, ap, ◌∙◌, subst, arith}
use Rattle.std.proofs.lemmas.Result.{err_from_is_err_and}
use Rattle.states.specs.Tallies.{Within}
use Rattle.runs.proofs.Pairs.{levels_count}
use Rattle.runs.proofs.Courses.{goes_on, refused, no_more, one_less}
use Rattle.runs.proofs.running.tick_through.Goals as goal

pub returns-in_err-ticked-clause-course : goal.returns-in_err-ticked-clause-course
returns-in_err-ticked-clause-course g c =
    let p = err_from_is_err_and c.from_residual.result c.from_residual.ensures.1 in
    let out : c.from_residual.result ≡ Err c.in_err-ticked.field-0.0 = cc in
    c.loop-levels.invariant.0 ∙
    refused _ _ _ _ _ _ _ _ _ _ _ c.in-Some.ensures.steps c.tick-answer.ensures.outcome c.at_tick.ensures c.in_err-ticked.was out refl

pub loop-levels-preserved : goal.loop-levels-preserved
loop-levels-preserved g c =
    let inv = c.loop-levels.invariant in
    let left = one_less _ _ _ c.in-Some.ensures.steps in
    let many = levels_count c.args.schedule.now.bytes.now in
    let few : c.loop-levels.tally.accepted < 16843009 = omega (arith, c.args.schedule.now.short) in
    let sum = c.count_tick.ensures.exact _ few inv.2 in
    let next : c.count_tick.new.self.accepted ≡ c.loop-levels.tally.accepted + 1 = ap (λ t. t.accepted) sum.0 in (
      inv.0 ∙ goes_on _ _ _ _ _ _ _ _ _ _ _ c.in-Some.ensures.steps c.tick-answer.ensures.outcome c.at_tick.ensures c.in_ok-ticked.was sum.0,
      omega arith,
      subst (λ n. Within n c.count_tick.new.self) (sym next) sum.1,
      c.tick-answer.ensures.frame_kept ∙ inv.3,
    )

pub returns-clause-course : goal.returns-clause-course
returns-clause-course g c = c.loop-levels.invariant.0 ∙ no_more _ _ _ c.in-None.ensures.steps.0
