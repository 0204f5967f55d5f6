use Rattle.std.proofs.Common.{◌<◌, ◌≤◌, [], ◌∷◌, Ok, sym, refl, ap, ◌∙◌, subst, arith, rules}
use Rattle.cpu.specs.Processor.{view_of}
use Rattle.states.specs.Tallies.{Within}
use Rattle.agreement.specs.Calls.{tick}
use Rattle.runs.specs.Schedules.{levels_of}
use Rattle.runs.specs.Histories.{and_ticks}
use Rattle.runs.proofs.Pairs.{levels_count}
use Rattle.slips.proofs.Following.{at_power_up_lem, accepted, refused, same_calls, one_less, widened}
use Rattle.slips.proofs.Turns.{goes_on, stops, no_more}
use Rattle.slips.proofs.comparing.tick_both.Goals as goal

pub loop-levels-init : goal.loop-levels-init
loop-levels-init g c =
    let counts = ap (λ k. k.counts) c.requires.twin in
    let steps = ap (λ k. k.steps) c.requires.twin in
    let none = ap (λ t. t.accepted) counts in
    let planned = ap (λ t. t.rest) c.into_iter-levels-iterator.ensures.into_iter_gives in (
      [],
      at_power_up_lem _ _ _ c.requires.machine c.requires.twin,
      rw (c.into_iter-levels-iterator.ensures.into_iter_gives, c.ticks-levels-items.ensures)
          (ap (λ s. and_ticks (levels_of c.args.schedule.now.bytes.now) s []) c.requires.machine),
      rw (c.into_iter-levels-iterator.ensures.into_iter_gives, c.ticks-levels-items.ensures, none) (omega arith),
      rw counts (search rules),
      rw (counts, steps) (search rules),
    )

pub note-requires : goal.note-requires
note-requires g c =
    let inv = c.loop-levels.invariant in
    let many = levels_count c.args.schedule.now.bytes.now in
    let few : c.loop-levels.sheet.counts.accepted ≤ 65536 = omega (arith, c.args.schedule.now.short, inv.3) in
    (widened _ _ _ few inv.4, widened _ _ _ few inv.5)

pub returns-in-Err : goal.returns-in-Err
returns-in-Err g c =
    let made = c.in-Err.ensures in
    let inv = c.loop-levels.invariant in
    let many = levels_count c.args.schedule.now.bytes.now in
    let few : c.loop-levels.sheet.counts.accepted ≤ 65536 = omega (arith, c.args.schedule.now.short, inv.3) in
    record {
      beside = same_calls (sym (stops _ _ _ _ _ _ inv.0 c.in-Some.ensures.steps made.outcome) ∙ inv.2)
          (refused _ inv.0 _ _ _ _ _ _ inv.1 made.outcome refl);
      few = widened _ _ _ few inv.4;
      few_steps = widened _ _ _ few inv.5;
    }

pub loop-levels-preserved : goal.loop-levels-preserved
loop-levels-preserved g c =
    let made = c.in-Ok.ensures in
    let inv = c.loop-levels.invariant in
    let many = levels_count c.args.schedule.now.bytes.now in
    let left = one_less _ _ _ c.in-Some.ensures.steps in
    let few : c.loop-levels.sheet.counts.accepted < 16843009 = omega (arith, c.args.schedule.now.short, inv.3) in
    let more = c.note.ensures.ticks in (
      tick c.in-Some.levels (Ok c.in-Ok.ticked) ∷ inv.0,
      accepted _ inv.0 _ _ _ _ _ _ _ inv.1 made.outcome (ap view_of c.processor.ensures) c.note.ensures.kept,
      sym (goes_on _ _ _ _ _ _ inv.0 c.in-Some.ensures.steps made.outcome) ∙ inv.2,
      omega (arith, inv.3, left, more),
      subst (λ n. Within n c.note.new.self.counts) (sym more) (c.note.ensures.counts _ few inv.4),
      subst (λ n. Within n c.note.new.self.steps) (sym more) (c.note.ensures.steps _ few inv.5),
    )

pub returns : goal.returns
returns g c =
    let inv = c.loop-levels.invariant in
    let many = levels_count c.args.schedule.now.bytes.now in
    let few : c.loop-levels.sheet.counts.accepted ≤ 65536 = omega (arith, c.args.schedule.now.short, inv.3) in
    record {
      beside = same_calls (sym (no_more _ _ inv.0 c.in-None.ensures.steps.0) ∙ inv.2) inv.1;
      few = widened _ _ _ few inv.4;
      few_steps = widened _ _ _ few inv.5;
    }
