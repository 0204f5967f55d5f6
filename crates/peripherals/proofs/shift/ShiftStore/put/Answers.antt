use Rattle.std.proofs.Common.{◌<◌, arith, drop-set-lt, rules}
use Rattle.peripherals.proofs.shift.ShiftStore.put.Goals as goal

pub returns-clause-frame_kept : goal.returns-clause-frame_kept
returns-clause-frame_kept c = let below : c.args.self.now.head < 1024 = grind arith in search (rules, drop-set-lt)
