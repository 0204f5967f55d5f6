use Rattle.std.proofs.Common.{◌≡◌, ◌+◌}
use Rattle.tape.proofs.Spelling.{Spelled}
use Rattle.tape.proofs.reader.Reader.read_word.Given as goal

abbrev pub invariant-loop : goal.invariant-loop
invariant-loop l =
    record {
      spelled : Spelled l.fn.self.tape.now (l.fn.self.at + 1) l.self.at l.counter l.value;
      same_tape : l.self.tape.now ≡ l.fn.self.tape.now;
    }
