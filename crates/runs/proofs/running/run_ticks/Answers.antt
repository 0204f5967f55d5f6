use Rattle.std.proofs.Common.{refl}
use Rattle.runs.proofs.Answered.{adds_up, ends}
use Rattle.runs.proofs.Extended.{made_extends}
use Rattle.runs.proofs.running.run_ticks.Goals as goal

pub returns : goal.returns
returns g c =
    let made = c.tick_through.ensures in
    record {
      course = made.course;
      sum = adds_up _ _ _ _ _ _ _ c.args.machine.now.sound made.course refl refl;
      end = ends _ _ _ _ _ made.course;
      used = made_extends _ _ _ _ _ made.course;
      frame_kept = made.frame_kept;
    }
