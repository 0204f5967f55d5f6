-- The command of a line, by its bytes.
use Rattle.std.specs.Prelude.{ℕ, Bool, cond, List, Some, None, Ok, Err, codes, Option, Result, ◌==◌}
use Rattle.std.specs.Str.{bytes_eq}
use Rattle.stepper.specs.declared.feeds.Feed.TheVariants.{Own, Jam}
use Rattle.panel.specs.declared.commands.Command.{Command}
use Rattle.panel.specs.declared.commands.Command.TheVariants.{Tick, Run, Step, Hold, Examine, Deposit, Release, Input, Registers, StepRegisters}
use Rattle.panel.specs.declared.commands.Mistake.{Mistake}
use Rattle.panel.specs.declared.commands.Mistake.TheVariants.{NoSuchCommand, BadNumber, TooManyWords}
use Rattle.panel.specs.Numbers.{at_most, number_of}
use Rattle.panel.specs.Words.{no_word, rest_of, word_of}

-- What a line comes to.
abbrev pub Reading : Type 0
Reading = Result Command Mistake

-- A command, if no word follows it.
abbrev pub without_more : Command → List ℕ → Reading
without_more command more = cond (no_word more) (Ok command) (Err TooManyWords)

-- The second and the third word, and what follows them.
abbrev pub second_of : List ℕ → List ℕ
second_of t = word_of (rest_of t)

abbrev pub third_of : List ℕ → List ℕ
third_of t = word_of (rest_of (rest_of t))

-- A level of 0 or 1.
abbrev pub level_of : Option ℕ → Option Bool
level_of None = None
level_of (Some n) = Some (n == 1)

-- A tick: READY, INT and the jam byte.
abbrev pub tick_from : Option Bool → Option Bool → Option ℕ → List ℕ → Reading
tick_from None int jam more = Err BadNumber
tick_from (Some ready) None jam more = Err BadNumber
tick_from (Some ready) (Some int) None more = Err BadNumber
tick_from (Some ready) (Some int) (Some jam) more = without_more (Tick (record { ready = ready; int = int; jam = jam })) more

abbrev pub tick_of : List ℕ → Reading
tick_of t =
    tick_from (level_of (at_most 1 (number_of (word_of t)))) (level_of (at_most 1 (number_of (second_of t)))) (at_most 255 (number_of (third_of t))) (rest_of (rest_of (rest_of t)))

-- A step, own or with a jam byte.
abbrev pub step_from : Option ℕ → List ℕ → Reading
step_from None more = Err BadNumber
step_from (Some jam) more = without_more (Step (Jam jam)) more

abbrev pub step_of : List ℕ → Reading
step_of t = cond (no_word t) (Ok (Step Own)) (step_from (at_most 255 (number_of (word_of t))) (rest_of t))

-- An address.
abbrev pub examine_from : Option ℕ → List ℕ → Reading
examine_from None more = Err BadNumber
examine_from (Some address) more = without_more (Examine address) more

abbrev pub examine_of : List ℕ → Reading
examine_of t = examine_from (number_of (word_of t)) (rest_of t)

-- An address and a byte.
abbrev pub deposit_from : Option ℕ → Option ℕ → List ℕ → Reading
deposit_from None byte more = Err BadNumber
deposit_from (Some address) None more = Err BadNumber
deposit_from (Some address) (Some byte) more = without_more (Deposit address byte) more

abbrev pub deposit_of : List ℕ → Reading
deposit_of t = deposit_from (number_of (word_of t)) (at_most 255 (number_of (second_of t))) (rest_of (rest_of t))

-- A port and a byte.
abbrev pub input_from : Option ℕ → Option ℕ → List ℕ → Reading
input_from None byte more = Err BadNumber
input_from (Some port) None more = Err BadNumber
input_from (Some port) (Some byte) more = without_more (Input port byte) more

abbrev pub input_of : List ℕ → Reading
input_of t = input_from (at_most 255 (number_of (word_of t))) (at_most 255 (number_of (second_of t))) (rest_of (rest_of t))

-- No word for the machine's processor, and `step` for the one beside it.
abbrev pub registers_of : List ℕ → Reading
registers_of t =
    cond (no_word t) (Ok Registers) (cond (bytes_eq (word_of t) (codes "step")) (without_more StepRegisters (rest_of t)) (Err TooManyWords))

-- The first word of a command.
pub data Verb : Type 0 where
  TickVerb : Verb
  RunVerb : Verb
  StepVerb : Verb
  HoldVerb : Verb
  ExamineVerb : Verb
  DepositVerb : Verb
  ReleaseVerb : Verb
  InputVerb : Verb
  RegistersVerb : Verb

-- The verb that a word is.
abbrev pub verb_of : List ℕ → Option Verb
verb_of w =
    cond (bytes_eq w (codes "tick")) (Some TickVerb)
    (cond (bytes_eq w (codes "run")) (Some RunVerb)
    (cond (bytes_eq w (codes "step")) (Some StepVerb)
    (cond (bytes_eq w (codes "hold")) (Some HoldVerb)
    (cond (bytes_eq w (codes "examine")) (Some ExamineVerb)
    (cond (bytes_eq w (codes "deposit")) (Some DepositVerb)
    (cond (bytes_eq w (codes "release")) (Some ReleaseVerb)
    (cond (bytes_eq w (codes "input")) (Some InputVerb)
    (cond (bytes_eq w (codes "registers")) (Some RegistersVerb) None))))))))

-- The command of a verb and of the words that follow it. A run's are its schedule, which is read apart.
abbrev pub by_verb : Option Verb → List ℕ → Reading
by_verb None t = Err NoSuchCommand
by_verb (Some TickVerb) t = tick_of t
by_verb (Some RunVerb) t = Ok Run
by_verb (Some StepVerb) t = step_of t
by_verb (Some HoldVerb) t = without_more Hold t
by_verb (Some ExamineVerb) t = examine_of t
by_verb (Some DepositVerb) t = deposit_of t
by_verb (Some ReleaseVerb) t = without_more Release t
by_verb (Some InputVerb) t = input_of t
by_verb (Some RegistersVerb) t = registers_of t

abbrev pub command_of : List ℕ → Reading
command_of line = by_verb (verb_of (word_of line)) (rest_of line)
