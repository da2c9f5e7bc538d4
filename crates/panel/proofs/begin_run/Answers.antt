-- `begin_run` meets its contract: it is the desk's at the panel's limits, and a workspace of PANEL_WORKSPACE entries is enough.
use native.Mathlib.Omega.{arith}
use Rattle.panel.proofs.PanelSpace.{panel_begins}
use Rattle.panel.proofs.begin_run.Goals as goal

pub returns : goal.returns
returns c =
    record {
      value = c.begin_run.ensures.value;
      told = c.begin_run.ensures.told;
      meaning = c.begin_run.ensures.meaning;
      enough = λ h. panel_begins c.args.query c.args.database c.args.store.now c.args.budget c.args.workspace.now (omega arith);
    }
