-- What a processor shows.
use Rattle.cpu.specs.Processor.{View, pc_in}
use Rattle.report.specs.declared.readouts.Readout.{Readout}

abbrev pub readout_of : View → Readout
readout_of v = record { registers = v.registers; flags = v.flags; pc = pc_in v; k = v.ring.number }
