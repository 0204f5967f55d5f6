use Rattle.std.proofs.Common.{◌≡◌, length, arith}
use Rattle.std.proofs.lemmas.List.{set-get_or}
use Rattle.std.proofs.lemmas.Result.{err_from_is_err_and}
use Rattle.tape.proofs.Progress.{ended, broken, filled}
use Rattle.tape.proofs.reader.Reader.read_words.Goals as goal

pub returns-then-not-find_word : goal.returns-then-not-find_word
returns-then-not-find_word c =
    rw set-get_or (ended c.loop-count.invariant.progress (rw c.loop-count.invariant.same_tape at c.if-not-find_word.ensures.found))

pub returns-in_err-byte : goal.returns-in_err-byte
returns-in_err-byte c =
    let p = err_from_is_err_and c.from_residual.result c.from_residual.ensures.1 in
    let t = c.loop-count.invariant.same_tape in
    rw (set-get_or, p.1, p.2) (broken c.loop-count.invariant.progress _ (rw t at c.if-not-find_word.ensures.found) (omega arith) (rw (c.find_word.ensures.same_tape, t) at c.in_err-byte.ensures.word))

pub returns-in_err-expect_end : goal.returns-in_err-expect_end
returns-in_err-expect_end c =
    let r = c.from_residual-in_err-expect_end in
    let p = err_from_is_err_and r.result r.ensures.1 in
    let e = c.in_err-expect_end.ensures in
    rw (p.1, p.2, e.0) (filled c.loop-count.invariant.progress (rw c.loop-count.invariant.same_tape at e.1) (omega arith))

pub returns : goal.returns
returns c =
    let count : c.loop-count.count ≡ length c.loop-count.buffer = omega arith in
    rw (← count) (ended c.loop-count.invariant.progress (rw c.loop-count.invariant.same_tape at c.in_ok-expect_end.ensures))
