use Rattle.std.proofs.Common.{refl}
use Rattle.std.proofs.lemmas.Result.{MatchResult-at_ok}
use Rattle.runs.specs.Planned.{JudgedGood, JudgedBad}
use Rattle.slips.proofs.Telling.{told, same_schedule}
use Rattle.slips.proofs.making.slip_tape.Goals as goal

pub returns : goal.returns
returns c =
    let good = MatchResult-at_ok (JudgedGood c.args.schedule.now) (JudgedBad c.args.schedule.now) _ c.in_ok-schedule.was c.new.ensures in
    told c.args.tape.now c.args.schedule.now _ _ _ _ _ _ c.requires c.read_tape.ensures.reading
    c.in_ok-read_tape.was good.0 refl (same_schedule good.1 c.slip_memory.ensures)
