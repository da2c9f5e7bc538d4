use mathlib.Core.Path.{ap, sym, ◌∙◌}
use Rattle.laws.specs.Options.{mapped}
use Rattle.text.specs.Cursors.{behind, word_form}
use Rattle.text.proofs.ReaderLawsDue.{due_missing, due_read}
use Rattle.text.proofs.line_reader.due_word.Goals as goal

pub returns-then-text-end : goal.returns-then-text-end
returns-then-text-end c =
    ap (mapped behind) (sym (due_missing (word_form c.args.word.now) c.args.text.now c.args.c c.find-end.result c.find-end.ensures c.if-text-end.true))

pub returns-then-is_word : goal.returns-then-is_word
returns-then-is_word c =
    rw (due_read (word_form c.args.word.now) c.args.text.now c.args.c c.find-end.result c.find-end.ensures c.if-text-end.false, sym c.is_word.ensures ∙ c.if-is_word.true)

pub returns-else-is_word : goal.returns-else-is_word
returns-else-is_word c =
    rw (due_read (word_form c.args.word.now) c.args.text.now c.args.c c.find-end.result c.find-end.ensures c.if-text-end.false, sym c.is_word.ensures ∙ c.if-is_word.false)
