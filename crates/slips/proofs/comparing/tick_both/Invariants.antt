-- Both engines are side by side after the calls so far, and the ticks that are left make of them those of the schedule.
use Rattle.std.proofs.Common.{◌≡◌, ◌+◌, List, [], length, None}
use Rattle.cpu.specs.Place.{place_of, powered_place}
use Rattle.states.specs.Situation.{powered_up}
use Rattle.states.specs.Tallies.{Within}
use Rattle.machine.specs.Machines.{situation_of}
use Rattle.agreement.specs.Calls.{Event}
use Rattle.runs.specs.Planned.{planned}
use Rattle.runs.specs.Schedules.{levels_of}
use Rattle.runs.specs.Histories.{and_ticks}
use Rattle.slips.specs.Sheets.{kept_of}
use Rattle.slips.specs.SideBySide.{wiring_of, SideBySide}
use Rattle.slips.proofs.comparing.tick_both.Given as goal

abbrev pub invariant-loop-levels : goal.invariant-loop-levels
invariant-loop-levels g l =
    let wiring = wiring_of g.S.Store.cells g.C.PortCard.rules g.C.PortCard.state in
    let twin_wiring = wiring_of g.T.Store.cells g.C.PortCard.rules g.C.PortCard.state in
    (es : List Event) ×
    SideBySide (powered_place (wiring l.initial.board)) es (situation_of l.machine (wiring l.board))
    (kept_of l.sheet (place_of l.twin (twin_wiring l.twin_board))) None ×
    (and_ticks (planned l.levels-iterator) (situation_of l.machine (wiring l.board)) es ≡
    and_ticks (levels_of l.schedule.bytes.now) (powered_up (wiring l.initial.board)) []) ×
    (l.sheet.counts.accepted + length (planned l.levels-iterator) ≡ length (levels_of l.schedule.bytes.now)) ×
    Within l.sheet.counts.accepted l.sheet.counts × Within l.sheet.counts.accepted l.sheet.steps
