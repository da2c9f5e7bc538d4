use borrow.Author.Tests.{ne_eqb}
use mathlib.Core.Path.{sym, ◌∙◌}
use Rattle.text.proofs.ReaderLawsForms.{word_same, word_other}
use Rattle.text.proofs.line_reader.is_word.Goals as goal

pub returns-then-line-word : goal.returns-then-line-word
returns-then-line-word c =
    c.starts.ensures ∙ word_same c.args.word.now c.args.line.now c.if-line-word.true

pub returns-else-line-word : goal.returns-else-line-word
returns-else-line-word c =
    ne_eqb _ _ c.if-line-word.false ∙ sym (word_other c.args.word.now c.args.line.now c.if-line-word.false)
