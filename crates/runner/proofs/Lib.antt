mod Turns
mod StepTurns
