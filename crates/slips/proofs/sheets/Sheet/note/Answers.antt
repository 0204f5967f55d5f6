use Rattle.std.proofs.Common.{rules, ap, arith}
use Rattle.slips.proofs.sheets.Sheet.note.Goals as goal

pub returns-in-Some-clause-kept : goal.returns-in-Some-clause-kept
returns-in-Some-clause-kept g c =
    let ticks = (c.count_tick.ensures.exact 65536 (omega arith) c.requires.0).0 in
    let steps = (c.count_step.ensures.exact 65536 (omega arith) c.requires.1).0 in
    search rules

pub returns-in-Some-clause-counts : goal.returns-in-Some-clause-counts
returns-in-Some-clause-counts g c = λ n few w. (c.count_tick.ensures.exact n few w).1

pub returns-in-Some-clause-ticks : goal.returns-in-Some-clause-ticks
returns-in-Some-clause-ticks g c = ap (λ t. t.accepted) (c.count_tick.ensures.exact 65536 (omega arith) c.requires.0).0
