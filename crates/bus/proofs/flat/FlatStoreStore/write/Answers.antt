use Rattle.std.proofs.Common.{◌<◌, arith, drop-set-lt, rules}
use Rattle.bus.proofs.flat.FlatStoreStore.write.Goals as goal

pub returns-clause-frame_kept : goal.returns-clause-frame_kept
returns-clause-frame_kept c = let below : c.cell_at-n.result < 16384 = omega arith in search (rules, drop-set-lt)
