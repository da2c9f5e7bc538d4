use Prim.Native.Nat.{◌+◌, ◌*◌}
use Rattle.splitting.proofs.Nodes.{weight}
use Rattle.splitting.proofs.Known.+emit_emit_branches_emit_mu.Given as goal

abbrev pub decreases-emit : goal.decreases-emit
decreases-emit l = 4 * weight l.self.now.starts l.i + 1

abbrev pub decreases-emit_branches : goal.decreases-emit_branches
decreases-emit_branches l = 4 * weight l.self.now.starts l.i + 2

abbrev pub decreases-emit_mu : goal.decreases-emit_mu
decreases-emit_mu l = 4 * weight l.self.now.starts l.i
