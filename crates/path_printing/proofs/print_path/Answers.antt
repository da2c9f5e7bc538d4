use mathlib.Core.Path.{ap, ◌∙◌}
use Rattle.output.specs.Replies.{write_reply, slice_after}
use Rattle.path_printing.proofs.Fits.{sheet_told}
use Rattle.path_printing.proofs.print_path.Goals as goal

pub returns : goal.returns
returns c =
    let (text, room) = sheet_told c.args.path.now c.args.book.now c.in-Ok.ensures in (
      c.write_query.ensures.0 ∙ ap (λ t. write_reply t c.args.out.now) text,
      c.write_query.ensures.1 ∙ ap (λ t. slice_after t c.args.out.now) text,
      room,
    )
