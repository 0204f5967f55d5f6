-- The line that is printed, as the codes of its characters.
use Rattle.std.specs.Prelude.{ℕ, Bool, cond, Result, Ok, Err, List, ◌++◌, codes, decimal}
use Rattle.cpu.specs.Faults.{cause_number}
use Rattle.isa.specs.declared.conditions.Flags.{Flags}
use Rattle.isa.specs.declared.register_file.Registers.{Registers}
use Rattle.report.specs.Digits.{hex2, hex4}
use Rattle.report.specs.declared.summary.Ending.{Ending}
use Rattle.report.specs.declared.summary.Ending.TheVariants.{Halted, Spent, Refused, RefusedBy}
use Rattle.report.specs.declared.summary.Report.{Report}
use Rattle.report.specs.declared.readouts.Readout.{Readout}
use Rattle.states.specs.declared.tallies.Tally.{Tally}
use Rattle.tape.specs.Refusals.{refusal_text}
use Rattle.tape.specs.declared.refusals.TapeRefusal.{TapeRefusal}

-- one text after another: `++`, grouped from the right as the pieces of a format are
infixr 65 ◌⧺◌
abbrev pub ◌⧺◌ : List ℕ → List ℕ → List ℕ
a ⧺ b = a ++ b

-- the registers, each as two digits after its letter
abbrev pub register_fields : Registers → List ℕ
register_fields r =
    codes "A=" ⧺ hex2 r.a ⧺ codes " B=" ⧺ hex2 r.b ⧺ codes " C=" ⧺ hex2 r.c ⧺ codes " D=" ⧺ hex2 r.d
    ⧺ codes " E=" ⧺ hex2 r.e ⧺ codes " H=" ⧺ hex2 r.h ⧺ codes " L=" ⧺ hex2 r.l

-- 1 for a flag that is set, and 0 for one that is not
abbrev pub flag_digit : Bool → List ℕ
flag_digit set = cond set (codes "1") (codes "0")

-- the flags in the order carry, zero, sign, parity
abbrev pub flag_digits : Flags → List ℕ
flag_digits f = flag_digit f.carry ⧺ flag_digit f.zero ⧺ flag_digit f.sign ⧺ flag_digit f.parity

-- why the run stopped; a refusal has its number after the word
abbrev pub ending_text : Ending → List ℕ
ending_text Halted = codes "halted"
ending_text Spent = codes "spent"
ending_text (Refused cause) = codes "refused " ⧺ decimal (cause_number cause)
ending_text (RefusedBy number) = codes "refused " ⧺ decimal number

-- what a processor shows
abbrev pub readout_text : Readout → List ℕ
readout_text r =
    register_fields r.registers ⧺ codes " F=" ⧺ flag_digits r.flags ⧺ codes " PC=" ⧺ hex4 r.pc ⧺ codes " K=" ⧺ decimal r.k

-- a run's counts: instructions, table states, waits, idle states
abbrev pub count_fields : Tally → List ℕ
count_fields t =
    codes "N=" ⧺ decimal t.instructions ⧺ codes " T=" ⧺ decimal t.table_states ⧺ codes " W=" ⧺ decimal t.waits ⧺ codes " I=" ⧺ decimal t.idle

-- what the processor shows at the end of a run, then the counts, then why it stopped
abbrev pub report_text : Report → List ℕ
report_text r = readout_text r.readout ⧺ codes " " ⧺ count_fields r.tally ⧺ codes " " ⧺ ending_text r.ending

-- the line of an outcome: a run's report, or the number of the tape's refusal and its place
abbrev pub line_of : Result Report TapeRefusal → List ℕ
line_of (Ok report) = report_text report
line_of (Err refusal) = refusal_text refusal
