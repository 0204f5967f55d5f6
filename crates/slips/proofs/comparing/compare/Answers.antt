use Rattle.slips.proofs.Accounts.{closed}
use Rattle.slips.proofs.comparing.compare.Goals as goal

pub returns : goal.returns
returns g c =
    closed _ _ _ _ _ _ _ c.tick_both-fault.ensures.beside c.states_in_hand.ensures c.slip.ensures
