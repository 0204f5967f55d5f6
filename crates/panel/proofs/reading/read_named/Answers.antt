-- The longer names, byte by byte.
use Rattle.std.proofs.Common.{rules, ◌≡◌, ap, sym, ◌∙◌, arith, codes}
use Rattle.std.proofs.lemmas.Slice.Eq.{text_from_reads}
use Rattle.panel.specs.Reading.{by_verb, verb_of}
use Rattle.panel.proofs.reading.read_named.Goals as goal

pub returns-in-examine : goal.returns-in-examine
returns-in-examine c =
    let text : c.args.name.now ≡ codes "examine" = text_from_reads c.args.name.now (codes "examine") (omega arith) (search rules) in
    c.read_examine.ensures ∙ ap (λ n. by_verb (verb_of n) c.args.words.text.now) (sym text)

pub returns-in-deposit : goal.returns-in-deposit
returns-in-deposit c =
    let text : c.args.name.now ≡ codes "deposit" = text_from_reads c.args.name.now (codes "deposit") (omega arith) (search rules) in
    c.read_deposit.ensures ∙ ap (λ n. by_verb (verb_of n) c.args.words.text.now) (sym text)

pub returns-in-release : goal.returns-in-release
returns-in-release c =
    let text : c.args.name.now ≡ codes "release" = text_from_reads c.args.name.now (codes "release") (omega arith) (search rules) in
    c.complete-in-release.ensures ∙ ap (λ n. by_verb (verb_of n) c.args.words.text.now) (sym text)

pub returns-in-registers : goal.returns-in-registers
returns-in-registers c =
    let text : c.args.name.now ≡ codes "registers" = text_from_reads c.args.name.now (codes "registers") (omega arith) (search rules) in
    c.read_registers.ensures ∙ ap (λ n. by_verb (verb_of n) c.args.words.text.now) (sym text)
