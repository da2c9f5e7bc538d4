-- `read_pairing` meets its contract: each word is taken, or passed for the next one.
use mathlib.Core.Path.{sym, ◌∙◌}
use Rattle.algebra.specs.declared.Pairing.TheVariants.{Union, Join, Except}
use Rattle.query.specs.declared.Node.TheVariants.{Pair}
use Rattle.text.specs.Numbers.{bytes}
use Rattle.text.specs.Lines.{by_forms}
use mathlib.Core.List.{[]}
use Rattle.node_reading.specs.NodeReading.{pair_forms}
use Rattle.node_reading.proofs.ReaderLawsNodes.{behind, word_taken, word_passed}
use Rattle.node_reading.proofs.read_pairing.Goals as goal

pub returns-then-is_word : goal.returns-then-is_word
unfolding bytes
returns-then-is_word c = sym (word_taken "pair=union" (Pair Union) _ _ (sym c.is_word.ensures ∙ c.if-is_word.true))

pub returns-then-is_word-2 : goal.returns-then-is_word-2
unfolding bytes
returns-then-is_word-2 c =
    sym
    (word_passed "pair=union" (Pair Union) (behind pair_forms) _ (sym c.is_word.ensures ∙ c.if-is_word.false)
    ∙ word_taken "pair=join" (Pair Join) _ _ (sym c.is_word-else-is_word.ensures ∙ c.if-is_word-2.true))

pub returns-then-is_word-3 : goal.returns-then-is_word-3
unfolding bytes
returns-then-is_word-3 c =
    sym
    (word_passed "pair=union" (Pair Union) (behind pair_forms) _ (sym c.is_word.ensures ∙ c.if-is_word.false)
    ∙ word_passed "pair=join" (Pair Join) (behind (behind pair_forms)) _ (sym c.is_word-else-is_word.ensures ∙ c.if-is_word-2.false)
    ∙ word_taken "pair=except" (Pair Except) _ _ (sym c.is_word-else-is_word-2.ensures ∙ c.if-is_word-3.true))

pub returns-else-is_word-3 : goal.returns-else-is_word-3
unfolding bytes by_forms
returns-else-is_word-3 c =
    sym
    (word_passed "pair=union" (Pair Union) (behind pair_forms) _ (sym c.is_word.ensures ∙ c.if-is_word.false)
    ∙ word_passed "pair=join" (Pair Join) (behind (behind pair_forms)) _ (sym c.is_word-else-is_word.ensures ∙ c.if-is_word-2.false)
    ∙ word_passed "pair=except" (Pair Except) [] _ (sym c.is_word-else-is_word-2.ensures ∙ c.if-is_word-3.false))
