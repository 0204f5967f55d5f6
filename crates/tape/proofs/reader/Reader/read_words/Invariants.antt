use Rattle.std.proofs.Common.{◌≡◌}
use Rattle.tape.proofs.Progress.{Progress}
use Rattle.tape.proofs.reader.Reader.read_words.Given as goal

abbrev pub invariant-loop-count : goal.invariant-loop-count
invariant-loop-count l =
    record {
      progress : Progress l.fn.self.tape.now l.initial.buffer l.buffer l.self.at l.count;
      same_tape : l.self.tape.now ≡ l.fn.self.tape.now;
    }
