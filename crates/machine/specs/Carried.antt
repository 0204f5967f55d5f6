-- What the code of a transfer owes to its definition.
use Rattle.std.specs.Prelude.{◌≡◌, ℕ, Ok, Err, Result}
use Rattle.bus.specs.declared.cards.Trouble.{Trouble}
use Rattle.cpu.specs.Place.{Place}
use Rattle.states.specs.Transfers.{Moved}

-- A transfer made gave this byte and left this place; a refused one left the place as it was.
abbrev pub CarriedOut : {S : Type 0} → Result (Moved S) Trouble → Result ℕ Trouble → Place S → Place S → Type 0
CarriedOut outcome (Ok got) before after = outcome ≡ Ok (record { got = got; place = after })
CarriedOut outcome (Err trouble) before after = (outcome ≡ Err trouble) × (after ≡ before)
