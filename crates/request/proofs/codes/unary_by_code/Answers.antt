use Rattle.request.proofs.codes.unary_by_code.Goals as goal

pub returns-then-is_unary_code : goal.returns-then-is_unary_code
returns-then-is_unary_code c = rw (← c.is_unary_code.ensures, c.if-is_unary_code.true, ← c.clamped_width.ensures, ← c.unary_of.ensures)

pub returns-else-is_unary_code : goal.returns-else-is_unary_code
returns-else-is_unary_code c = rw (← c.is_unary_code.ensures, c.if-is_unary_code.false)
