-- `probe_trial` meets its contract. Assumes nothing.
use Rattle.std.proofs.Common.{arith}
use Rattle.probe_pick.proofs.Wide.{no_state, no_room}
use Rattle.probe_pick.proofs.probe_trial.Goals as goal
use Rattle.probe_pick.proofs.probe_trial.Goals.{then-state-lt25-via-then-state-lt25, then-state-lt25-via-else-state-lt25+then-out-lt29}

pub returns-then-state-lt25-clause-out_after : goal.returns-then-state-lt25-clause-out_after
returns-then-state-lt25-clause-out_after c =
    elim c.then-state-lt25.branch [
      | then-state-lt25-via-then-state-lt25 w ↦ no_state _ _ _ (omega (arith, w.if-state-lt25.true))
      | then-state-lt25-via-else-state-lt25+then-out-lt29 w ↦ no_room _ _ _ (omega (arith, w.if-out-lt29.true))
    ]
