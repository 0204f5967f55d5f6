-- A transfer whose answer, with the place added, is a byte was made.
use Rattle.std.proofs.Common.{◌≡◌, ℕ, Ok, Err, Result}
use Rattle.bus.specs.declared.cards.Trouble.{Trouble}
use Rattle.cpu.specs.Faults.{placed}
use Rattle.cpu.specs.Place.{Place}
use Rattle.states.specs.Transfers.{Moved}
use Rattle.machine.specs.Carried.{CarriedOut}

pub made : {S : Type 0} (m : Result (Moved S) Trouble) (answer : Result ℕ Trouble) (before after : Place S) (pc cycle byte : ℕ) →
    CarriedOut m answer before after → placed pc cycle answer ≡ Ok byte → m ≡ Ok (record { got = byte; place = after })
made m (Ok got) before after pc cycle byte h e = cc
made m (Err trouble) before after pc cycle byte h e = cc
