use Rattle.runs.proofs.Extended.{refused_extends}
use Rattle.runs.proofs.Laws.{one_by_one}
use Rattle.runs.proofs.running.keep_the_laws.Goals as goal

pub returns : goal.returns
returns g c = record { one_by_one = one_by_one _; refused = refused_extends _ }
