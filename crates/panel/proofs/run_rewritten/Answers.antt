-- `run_rewritten` meets its contract: it is the desk's list call at the panel's limits, and a workspace of PANEL_WORKSPACE entries is enough.
use native.Mathlib.Omega.{arith}
use Rattle.relation.specs.Rows.{columns}
use Rattle.machine.specs.Limits.{panel_limits}
use Rattle.engine.specs.Demands.{left_by}
use Rattle.panel.proofs.PanelSpace.{panel_begins}
use Rattle.panel.proofs.run_rewritten.Goals as goal

pub returns : goal.returns
returns c =
    let left = left_by columns panel_limits.nodes c.args.query c.args.database c.args.store.now c.args.steps.now in
    record {
      value = c.run_rewritten.ensures.value;
      meaning = c.run_rewritten.ensures.meaning;
      enough = λ h. panel_begins left c.args.database c.args.store.now c.args.budget c.args.workspace.now (omega arith);
    }
