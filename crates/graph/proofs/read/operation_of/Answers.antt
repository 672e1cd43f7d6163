-- `read::operation_of` meets its contract: the code of a unary operator.
use mathlib.Core.Path.{ap, ◌∙◌}
use native.Mathlib.Omega.{arith}
use borrow.Author.Tests.{lt-ltb}
use Rattle.evaluate.specs.declared.Unary.{Unary}
use Rattle.graph.specs.Node.{unary}
use Rattle.evaluate.specs.Operator.{BINARY, unary_of}
use Rattle.graph.proofs.Codes.{operator}
use Rattle.graph.proofs.read.operation_of.Goals as goal

pub returns-in_default : goal.returns-in_default
returns-in_default c =
    let g = c.args in
    rw (operator g.code g.x g.y g.z (omega arith), lt-ltb g.code BINARY c.if-code-lt-BINARY.true)
    (ap (λ (u : Unary). unary u g.x) (c.unary_of.ensures ∙ ap (unary_of g.code) c.narrow-in_default.ensures))
