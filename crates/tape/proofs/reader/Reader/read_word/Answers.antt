use Rattle.std.proofs.Common.{arith, rules}
use Rattle.std.proofs.lemmas.Result.{err_from_is_err_and}
use Rattle.tape.proofs.Spelling.{spelled_fits, spelled_more, letter_lacks, end_lacks, word_ends}
use Rattle.tape.proofs.reader.Reader.read_word.Goals as goal

pub read_letter-requires : goal.read_letter-requires
read_letter-requires c = search (rules, spelled_fits)

pub returns-in_err-value-clause-word : goal.returns-in_err-value-clause-word
returns-in_err-value-clause-word c =
    let p = err_from_is_err_and c.from_residual.result c.from_residual.ensures.1 in
    let l = c.in_err-value.ensures.letter in
    rw (p.1, p.2, l.0) (letter_lacks c.loop.invariant.spelled (omega arith) (rw c.loop.invariant.same_tape at l.1))

pub loop-preserved : goal.loop-preserved
loop-preserved c = record { spelled = search (rules, spelled_more); same_tape = search rules }

pub returns-in-Some-F-clause-word : goal.returns-in-Some-F-clause-word
returns-in-Some-F-clause-word c = word_ends c.loop.invariant.spelled (omega arith) (rw (← c.loop.invariant.same_tape) (search rules))

pub returns-in_default-clause-word : goal.returns-in_default-clause-word
returns-in_default-clause-word c = end_lacks c.loop.invariant.spelled (omega arith) (rw (← c.loop.invariant.same_tape) (search rules))
