-- `Guard::compared` meets its contract: a half is the value's remainder. Assumes nothing.
use mathlib.Core.Path.{◌∙◌}
use native.Mathlib.Omega.{arith}
use Rattle.graph.proofs.Codes.{halves}
use Rattle.guard.specs.Guard.{host_compared}
use Rattle.guard.proofs.Guard.compared.Goals as goal

pub returns-then-self : goal.returns-then-self
returns-then-self c =
    let a = c.args in
    let l = halves a.left (omega arith) in
    let r = halves a.right (omega arith) in
    rw c.if-self.true (c.host_compared.ensures ∙ (λ i. host_compared a.self.operation (l.0 i) (r.0 i)))
