-- The digits that are left, after the value so far, come to what the word comes to.
use Rattle.std.proofs.Common.{◌≡◌, drop}
use Rattle.panel.specs.Numbers.{digits_from, number_of}
use Rattle.panel.proofs.numbers.number.Given as goal

abbrev pub invariant-loop-digit : goal.invariant-loop-digit
invariant-loop-digit l = number_of l.word ≡ digits_from l.value (drop l.digit-index l.word)
