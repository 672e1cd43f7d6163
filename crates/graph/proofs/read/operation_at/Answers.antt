-- `read::operation_at` meets its contract.
use mathlib.Core.Path.{◌∙◌}
use Rattle.graph.specs.Node.{operation_of}
use Rattle.graph.proofs.read.operation_at.Goals as goal

pub returns : goal.returns
returns c =
    c.operation_of.ensures
    ∙ (λ i. operation_of (c.word_at.ensures i) (c.word_at-2.ensures i) (c.word_at-3.ensures i) (c.word_at-4.ensures i))
