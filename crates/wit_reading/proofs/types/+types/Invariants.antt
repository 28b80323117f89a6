use Rattle.std.proofs.Common.{◌+◌, ◌*◌}
use Rattle.wit_reading.proofs.types.+types.Given as goal

abbrev pub decreases-ty : goal.decreases-ty
decreases-ty l = 8 * l.nesting

abbrev pub decreases-members : goal.decreases-members
decreases-members l = 8 * l.nesting + 1

abbrev pub decreases-outcomes : goal.decreases-outcomes
decreases-outcomes l = 8 * l.nesting + 1

abbrev pub decreases-key_and_value : goal.decreases-key_and_value
decreases-key_and_value l = 8 * l.nesting + 1

abbrev pub decreases-parts : goal.decreases-parts
decreases-parts l = 8 * l.nesting + 2

abbrev pub decreases-named : goal.decreases-named
decreases-named l = 8 * l.nesting + 2

abbrev pub decreases-without_parts : goal.decreases-without_parts
decreases-without_parts l = 8 * l.nesting + 1

abbrev pub decreases-type_of : goal.decreases-type_of
decreases-type_of l = 8 * l.nesting + 3

abbrev pub decreases-keyword_type : goal.decreases-keyword_type
decreases-keyword_type l = 8 * l.nesting + 4
