-- How the states of an instruction follow each other, by the cycle table.
use Rattle.std.specs.Prelude.{ℕ, ◌+◌, Bool, true, false, cond, ◌&&◌, nat_lt}
use Rattle.isa.specs.declared.instructions.Instruction.{Instruction}
use Rattle.isa.specs.declared.cycles.Cycle.{Cycle}
use Rattle.isa.specs.declared.cycles.Cycle.TheVariants.{First, Second, Third}
use Rattle.isa.specs.Cycles.{states_in}
use Rattle.states.specs.declared.in_hand.Phase.{Phase}
use Rattle.states.specs.declared.in_hand.Phase.TheVariants.{T1, T2, T3, T4, T5}
use Rattle.states.specs.declared.in_hand.Underway.{Underway}
use Rattle.states.specs.declared.in_hand.InHand.{InHand}
use Rattle.states.specs.declared.in_hand.InHand.TheVariants.{Start, Opening as Opens, Opened, Underway as Goes}
use Rattle.states.specs.declared.following.Following.{Following}
use Rattle.states.specs.declared.following.Following.TheVariants.{Phase as Then, Cycle as Enter, End}

-- After a cycle comes the next one that the table gives states to, or the end.
abbrev pub next_cycle : Instruction → Bool → Cycle → Following
next_cycle i taken First = cond (nat_lt 0 (states_in i taken Second)) (Enter Second) End
next_cycle i taken Second = cond (nat_lt 0 (states_in i taken Third)) (Enter Third) End
next_cycle i taken Third = End

-- T1, T2 and T3 are in every cycle; T4 and T5 in those with so many states.
abbrev pub following : Instruction → Bool → Cycle → Phase → Following
following i taken c T1 = Then T2
following i taken c T2 = Then T3
following i taken c T3 = cond (nat_lt 3 (states_in i taken c)) (Then T4) (next_cycle i taken c)
following i taken c T4 = cond (nat_lt 4 (states_in i taken c)) (Then T5) (next_cycle i taken c)
following i taken c T5 = next_cycle i taken c

-- The states in hand: those spent on the instruction so far, waits left out.
abbrev pub phases_before : Phase → ℕ
phases_before T1 = 0
phases_before T2 = 1
phases_before T3 = 2
phases_before T4 = 3
phases_before T5 = 4

abbrev pub cycles_before : Instruction → Bool → Cycle → ℕ
cycles_before i taken First = 0
cycles_before i taken Second = states_in i taken First
cycles_before i taken Third = states_in i taken First + states_in i taken Second

abbrev pub states_in_hand : InHand → ℕ
states_in_hand Start = 0
states_in_hand (Opens o) = 1
states_in_hand (Opened o) = 2
states_in_hand (Goes w) = cycles_before w.instruction w.taken w.cycle + phases_before w.next

-- The instruction under way, with another state coming next.
abbrev pub turns_to : Underway → Cycle → Phase → Underway
turns_to w cycle next = record {
  instruction = w.instruction;
  start = w.start;
  taken = w.taken;
  cycle = cycle;
  next = next;
  address = w.address;
  low = w.low;
  high = w.high;
}

abbrev pub hand_after : Underway → Following → InHand
hand_after w (Then next) = Goes (turns_to w w.cycle next)
hand_after w (Enter cycle) = Goes (turns_to w cycle T1)
hand_after w End = Start

-- T1, T2 and T3 of cycle one come before the first byte is taken.
abbrev pub after_opening : Cycle → Phase → Bool
after_opening First T1 = false
after_opening First T2 = false
after_opening First T3 = false
after_opening First T4 = true
after_opening First T5 = true
after_opening Second next = true
after_opening Third next = true

-- An instruction under way stands before a state that its cycle has, and its first byte is taken.
abbrev pub sound : InHand → Bool
sound Start = true
sound (Opens o) = true
sound (Opened o) = true
sound (Goes w) =
    nat_lt (phases_before w.next) (states_in w.instruction w.taken w.cycle) && after_opening w.cycle w.next

-- Where T1 or T2 comes next, the hand is sound; T3 of cycle one may come next too.
abbrev pub sound_up_to : Phase → Underway → Bool
sound_up_to T1 w = sound (Goes w)
sound_up_to T2 w = sound (Goes w)
sound_up_to T3 w = true
sound_up_to T4 w = true
sound_up_to T5 w = true
