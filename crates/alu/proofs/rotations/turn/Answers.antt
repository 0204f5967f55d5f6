use Rattle.std.proofs.Common.{rules}
use Rattle.alu.proofs.Turns.{left, right, left_nine}
use Rattle.alu.proofs.rotations.turn.Goals as goal

pub returns-in-Left : goal.returns-in-Left
returns-in-Left c = search (rules, left)

pub returns-in-Right : goal.returns-in-Right
returns-in-Right c = search (rules, right)

pub returns-in-LeftThroughCarry : goal.returns-in-LeftThroughCarry
returns-in-LeftThroughCarry c = search (rules, left_nine)
