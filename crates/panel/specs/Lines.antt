-- The line of an answer, as the codes of its characters.
use Rattle.std.specs.Prelude.{ℕ, Bool, cond, List, Some, None, codes, decimal, Option}
use Rattle.isa.specs.declared.cycles.CycleKind.{CycleKind}
use Rattle.isa.specs.declared.cycles.CycleKind.TheVariants.{Pci, Pcr, Pcw, Pcc}
use Rattle.bus.specs.declared.stores.Written.{Written}
use Rattle.bus.specs.declared.stores.Written.TheVariants.{Taken, Dropped}
use Rattle.bus.specs.Card.{trouble_number}
use Rattle.cpu.specs.declared.faults.Fault.{Fault}
use Rattle.cpu.specs.declared.faults.Layer.{Layer}
use Rattle.cpu.specs.declared.faults.Layer.TheVariants.{Decoder, PortCard}
use Rattle.cpu.specs.Faults.{cause_number}
use Rattle.states.specs.declared.tallies.Tally.{Tally}
use Rattle.states.specs.declared.ticks.State.{State}
use Rattle.states.specs.declared.ticks.State.TheVariants.{T1, T1I, T2, Wait, T3, T4, T5, Stopped as StoppedState}
use Rattle.states.specs.declared.ticks.Ticked.{Ticked}
use Rattle.runs.specs.declared.outcomes.Ran.{Ran}
use Rattle.runs.specs.declared.outcomes.RunFault.{RunFault}
use Rattle.runs.specs.declared.refusals.ScheduleRefusal.{ScheduleRefusal}
use Rattle.runs.specs.declared.refusals.ScheduleRefusal.TheVariants.{BadLength, OtherBits}
use Rattle.runs.specs.Schedules.{refusal_number}
use Rattle.report.specs.Digits.{hex2, hex4}
use Rattle.report.specs.Line.{◌⧺◌, readout_text}
use Rattle.panel.specs.declared.answers.Answer.{Answer}
use Rattle.panel.specs.declared.answers.Answer.TheVariants.{Ticked as TickedSo, Refused, Ran as RanSo, BadSchedule as RefusedSchedule, Stepped as SteppedSo, Held, RefusedBy, Examined, Deposited, Latched, Holds, Mistaken}
use Rattle.panel.specs.declared.holdings.Holding.{Holding}
use Rattle.panel.specs.declared.refusals.Refusal.{Refusal}
use Rattle.panel.specs.declared.refusals.Refusal.TheVariants.{InsideInstruction, Port, Numbered}
use Rattle.panel.specs.declared.commands.Mistake.{Mistake}
use Rattle.panel.specs.declared.commands.Mistake.TheVariants.{NoSuchCommand, BadNumber, TooManyWords, BadSchedule, IsHeld, IsNotHeld, NoMemory}

abbrev pub state_text : State → List ℕ
state_text T1 = codes "T1"
state_text T1I = codes "T1I"
state_text T2 = codes "T2"
state_text Wait = codes "WAIT"
state_text T3 = codes "T3"
state_text T4 = codes "T4"
state_text T5 = codes "T5"
state_text StoppedState = codes "STOPPED"

abbrev pub kind_text : Option CycleKind → List ℕ
kind_text None = codes "-"
kind_text (Some Pci) = codes "PCI"
kind_text (Some Pcr) = codes "PCR"
kind_text (Some Pcw) = codes "PCW"
kind_text (Some Pcc) = codes "PCC"

-- A number, or a dash where there is none.
abbrev pub number_text : Option ℕ → List ℕ
number_text None = codes "-"
number_text (Some n) = decimal n

-- An accepted tick.
abbrev pub ticked_text : Ticked → List ℕ
ticked_text t =
    codes "state=" ⧺ state_text t.state ⧺ codes " cycle=" ⧺ decimal t.cycle ⧺ codes " kind=" ⧺ kind_text t.kind ⧺ codes " ended=" ⧺ number_text t.ended

abbrev pub layer_text : Layer → List ℕ
layer_text Decoder = codes "decoder"
layer_text PortCard = codes "card"

-- A refused instruction.
abbrev pub fault_text : Fault → List ℕ
fault_text f =
    codes "refused=" ⧺ decimal (cause_number f.cause) ⧺ codes " layer=" ⧺ layer_text f.layer ⧺ codes " pc=" ⧺ hex4 f.pc ⧺ codes " cycle=" ⧺ decimal f.cycle

-- A run: its counts, the states in hand before and after it, and the fault that stopped it, with its tick.
abbrev pub counts_text : Tally → List ℕ
counts_text t =
    codes "ticks=" ⧺ decimal t.accepted ⧺ codes " instructions=" ⧺ decimal t.instructions ⧺ codes " states=" ⧺ decimal t.table_states
    ⧺ codes " waits=" ⧺ decimal t.waits ⧺ codes " idle=" ⧺ decimal t.idle

abbrev pub hands_text : Ran → List ℕ
hands_text r = codes "before=" ⧺ decimal r.in_hand_before ⧺ codes " after=" ⧺ decimal r.in_hand_after

abbrev pub stop_text : Option RunFault → List ℕ
stop_text None = codes "fault=-"
stop_text (Some f) = fault_text f.fault ⧺ codes " tick=" ⧺ decimal f.tick

abbrev pub ran_text : Ran → List ℕ
ran_text r = counts_text r.tally ⧺ codes " " ⧺ hands_text r ⧺ codes " " ⧺ stop_text r.fault

-- A refused schedule.
abbrev pub bad_tick_text : ScheduleRefusal → List ℕ
bad_tick_text BadLength = codes "-"
bad_tick_text (OtherBits tick) = decimal tick

abbrev pub schedule_text : ScheduleRefusal → List ℕ
schedule_text r = codes "refused=" ⧺ decimal (refusal_number r) ⧺ codes " tick=" ⧺ bad_tick_text r

-- A step.
abbrev pub stepped_text : Option ℕ → List ℕ
stepped_text None = codes "states=-"
stepped_text (Some states) = codes "states=" ⧺ decimal states

abbrev pub yes_or_no : Bool → List ℕ
yes_or_no b = cond b (codes "yes") (codes "no")

-- A cell, and a write to one.
abbrev pub cell_text : ℕ → ℕ → List ℕ
cell_text address byte = codes "address=" ⧺ hex4 address ⧺ codes " byte=" ⧺ hex2 byte

abbrev pub written_text : Written → List ℕ
written_text Taken = codes "taken"
written_text Dropped = codes "dropped"

abbrev pub deposit_text : ℕ → ℕ → Written → List ℕ
deposit_text address byte w = cell_text address byte ⧺ codes " written=" ⧺ written_text w

-- What a processor holds.
abbrev pub halt_text : Holding → List ℕ
halt_text h = codes "stopped=" ⧺ yes_or_no h.stopped ⧺ codes " hand=" ⧺ decimal h.hand

abbrev pub holding_text : Holding → List ℕ
holding_text h = readout_text h.readout ⧺ codes " " ⧺ halt_text h

-- A line that was not carried out, and why.
abbrev pub reason_text : Mistake → List ℕ
reason_text NoSuchCommand = codes "no such command"
reason_text BadNumber = codes "a number is missing, bad or too large"
reason_text TooManyWords = codes "too many words"
reason_text BadSchedule = codes "a schedule is pairs of hexadecimal digits"
reason_text IsHeld = codes "the machine is held"
reason_text IsNotHeld = codes "the machine is not held"
reason_text NoMemory = codes "out of memory"

abbrev pub mistake_text : Mistake → List ℕ
mistake_text m = codes "error: " ⧺ reason_text m

-- The number of a refused hold or input: 4 inside an instruction, that of its port's trouble, or the number itself.
abbrev pub refused_number : Refusal → ℕ
refused_number InsideInstruction = 4
refused_number (Port trouble) = trouble_number trouble
refused_number (Numbered number) = number

abbrev pub answer_text : Answer → List ℕ
answer_text (TickedSo t) = ticked_text t
answer_text (Refused f) = fault_text f
answer_text (RanSo r) = ran_text r
answer_text (RefusedSchedule refusal) = schedule_text refusal
answer_text (SteppedSo s) = stepped_text s
answer_text (Held b) = codes "held=" ⧺ yes_or_no b
answer_text (RefusedBy refusal) = codes "refused=" ⧺ decimal (refused_number refusal)
answer_text (Examined address byte) = cell_text address byte
answer_text (Deposited address byte w) = deposit_text address byte w
answer_text (Latched port byte) = codes "port=" ⧺ hex2 port ⧺ codes " byte=" ⧺ hex2 byte
answer_text (Holds h) = holding_text h
answer_text (Mistaken m) = mistake_text m
