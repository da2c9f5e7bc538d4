-- `empty_ok`: no rows, and zeros behind them.
use mathlib.Core.Path.{◌∙◌}
use Rattle.relation.specs.Rows.{columns}
use Rattle.pauses.proofs.PlaceTests.{place_none}
use Rattle.pauses.proofs.places.empty_ok.Goals as goal

pub returns : goal.returns
returns c = c.zeros.ensures ∙ place_none columns c.args.limit c.args.ws.now c.args.i
