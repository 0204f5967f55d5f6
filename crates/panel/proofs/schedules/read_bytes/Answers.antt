use Rattle.std.proofs.Common.{rules, ◌≡◌, length, Err}
use Rattle.panel.specs.declared.commands.Mistake.TheVariants.{BadSchedule}
use Rattle.panel.proofs.Pairs.{all_so_far, bad_put, bad_so_far, blank_so_far, byte_so_far, none_so_far}
use Rattle.panel.proofs.schedules.read_bytes.Goals as goal

pub loop-left-init : goal.loop-left-init
loop-left-init c = none_so_far _ _ c.requires

pub returns-in_err-byte : goal.returns-in_err-byte
returns-in_err-byte c =
    let bad : c.from_residual.result ≡ Err BadSchedule = search rules in
    bad_put _ _ _ bad (bad_so_far _ _ _ c.in-len1-up.len_at_least c.if-is_gap.ensures c.in_err-byte.ensures.1 c.loop-left.invariant)

pub loop-left-preserved : goal.loop-left-preserved
loop-left-preserved c =
    byte_so_far _ _ _ _ _ _ c.if-is_gap.ensures c.in_ok-byte.ensures.0 c.in_ok-byte.ensures.1 c.in_ok-push.ensures.items c.loop-left.invariant

pub returns : goal.returns
returns c =
    let none : length c.loop-left.left.now ≡ 0 = search rules in
    all_so_far _ _ _ none c.loop-left.invariant

pub loop-left-preserved-then-is_gap : goal.loop-left-preserved-then-is_gap
loop-left-preserved-then-is_gap c = blank_so_far _ _ _ c.in-len1-up.len_at_least c.if-is_gap.ensures c.loop-left.invariant
