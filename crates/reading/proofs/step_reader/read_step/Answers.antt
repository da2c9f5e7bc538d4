use Prim.Native.Nat.{ℕ}
use Rattle.text.specs.declared.Step.{Step}
use Rattle.text.specs.Numbers.{bytes}
use Rattle.text.proofs.ReaderLawsForms.{two_form}
use Rattle.reading.proofs.step_reader.read_step.Goals as goal

abbrev step : ℕ → ℕ → Step
step k n = record { kind = k; node = n }

pub returns-in_err-kind : goal.returns-in_err-kind
unfolding bytes
returns-in_err-kind c = rw (two_form "step=" step c.args.line.now, ← c.in_err-kind.ensures) c.from_residual.ensures

pub returns : goal.returns
unfolding bytes
returns c = rw (two_form "step=" step c.args.line.now, ← c.in_ok-kind.ensures)
