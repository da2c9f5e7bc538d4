-- The answer to a caller who asks how large an allowance is enough, as a value.
use Rattle.std.specs.Prelude.{Result, Ok, Err}
use Rattle.relation.specs.Rows.{columns}
use Rattle.database.specs.declared.Refusal.{Refusal}
use Rattle.database.specs.Refusals.{Reply, refused, accepted}
use Rattle.query.specs.Lines.{node_limit}
use Rattle.plan.specs.Plan.{plan_value}
use Rattle.machine.specs.Run.{Enough}
use Rattle.allowance.specs.declared.Allowed.{Allowed}

abbrev pub allowance_value : Reply Enough → Result Allowed Refusal
allowance_value (refused r) = Err r
allowance_value (accepted e) = Ok (record { plan = plan_value columns node_limit e.plan; budget = e.budget })
