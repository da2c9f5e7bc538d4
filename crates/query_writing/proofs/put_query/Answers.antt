-- `put_query` meets its contract: the two first lines, then those of the nodes.
use Rattle.text.specs.Numbers.{bytes}
use Rattle.text.specs.Texts.{query_text}
use Rattle.output.proofs.Puts.{puts_then, puts_as}
use Rattle.query_writing.proofs.put_query.Goals as goal

pub returns : goal.returns
unfolding query_text bytes
returns g c =
    puts_as (rw c.line_count.ensures)
    (puts_then c.put_bytes.ensures (puts_then c.put_one.ensures c.put_lines.ensures))
