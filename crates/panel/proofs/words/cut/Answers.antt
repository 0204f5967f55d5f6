use Rattle.std.proofs.Common.{length, take, drop, ap, ◌∙◌}
use Rattle.std.specs.Option.{unwrap_or}
use Rattle.panel.proofs.Texts.{back_of, front_of}
use Rattle.panel.proofs.words.cut.Goals as goal

pub returns-clause-front : goal.returns-clause-front
returns-clause-front c =
    let place = c.unwrap_or.ensures ∙ ap (λ o. unwrap_or o (length c.args.text.now)) c.gap_place.ensures in
    c.split_at.ensures.front ∙ ap (λ n. take n c.args.text.now) place ∙ front_of c.args.gap c.args.text.now

pub returns-clause-back : goal.returns-clause-back
returns-clause-back c =
    let place = c.unwrap_or.ensures ∙ ap (λ o. unwrap_or o (length c.args.text.now)) c.gap_place.ensures in
    c.split_at.ensures.back ∙ ap (λ n. drop n c.args.text.now) place ∙ back_of c.args.gap c.args.text.now
