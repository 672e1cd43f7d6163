-- Where a builder goes on after a fold that came to None.
use Rattle.std.specs.Prelude.{List, ℕ}
use Rattle.plan.specs.Plan.{Plan, Rest, unary_rest, binary_rest, slice_rest, concat_rest}
use Rattle.plan.specs.OneOperand.{unary_plan}
use Rattle.plan_binary.specs.Binary.{binary_plan}
use Rattle.plan_slice.specs.Slice.{slice_plan, concat_plan}

-- the plan of the rest, on the region as it then is
unfoldable pub rest_plan : List ℕ → Rest → Plan
rest_plan g (unary_rest t o v) = unary_plan g t o v
rest_plan g (binary_rest t o l r) = binary_plan g t o l r
rest_plan g (slice_rest v o w) = slice_plan g v o w
rest_plan g (concat_rest h l v w) = concat_plan h l v w
