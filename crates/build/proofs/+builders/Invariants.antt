use Rattle.std.proofs.Common.{◌+◌, ◌*◌}
use Rattle.build.proofs.+builders.Given as goal

abbrev pub decreases-and_or : goal.decreases-and_or
decreases-and_or l = 8 * l.budget.now.units + 3

abbrev pub decreases-binary : goal.decreases-binary
decreases-binary l = 8 * l.budget.now.units + 1

abbrev pub decreases-concat : goal.decreases-concat
decreases-concat l = 8 * l.budget.now.units + 1

abbrev pub decreases-constant_binary : goal.decreases-constant_binary
decreases-constant_binary l = 8 * l.budget.now.units + 2

abbrev pub decreases-enter : goal.decreases-enter
decreases-enter l = 8 * l.budget.now.units

abbrev pub decreases-go_on : goal.decreases-go_on
decreases-go_on l = 8 * l.budget.now.units + 8

abbrev pub decreases-identity : goal.decreases-identity
decreases-identity l = 8 * l.budget.now.units + 1

abbrev pub decreases-masked_operation : goal.decreases-masked_operation
decreases-masked_operation l = 8 * l.budget.now.units + 3

abbrev pub decreases-modular : goal.decreases-modular
decreases-modular l = 8 * l.budget.now.units + 1

abbrev pub decreases-perform : goal.decreases-perform
decreases-perform l = 8 * l.budget.now.units + 7

abbrev pub decreases-slice : goal.decreases-slice
decreases-slice l = 8 * l.budget.now.units + 1

abbrev pub decreases-slice_identity : goal.decreases-slice_identity
decreases-slice_identity l = 8 * l.budget.now.units + 3

abbrev pub decreases-slice_shift : goal.decreases-slice_shift
decreases-slice_shift l = 8 * l.budget.now.units + 3

abbrev pub decreases-split_concat : goal.decreases-split_concat
decreases-split_concat l = 8 * l.budget.now.units + 3

abbrev pub decreases-truncated : goal.decreases-truncated
decreases-truncated l = 8 * l.budget.now.units + 3

abbrev pub decreases-try_masked : goal.decreases-try_masked
decreases-try_masked l = 8 * l.budget.now.units + 6

abbrev pub decreases-try_modular : goal.decreases-try_modular
decreases-try_modular l = 8 * l.budget.now.units + 6

abbrev pub decreases-unary : goal.decreases-unary
decreases-unary l = 8 * l.budget.now.units + 1
