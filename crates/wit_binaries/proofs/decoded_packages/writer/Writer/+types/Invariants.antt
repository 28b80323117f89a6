use Rattle.std.proofs.Common.{◌+◌, ◌*◌}
use Rattle.wit_binaries.proofs.decoded_packages.writer.Writer.+types.Given as goal

abbrev pub decreases-put_type : goal.decreases-put_type
decreases-put_type l = 4 * l.room

abbrev pub decreases-put_types : goal.decreases-put_types
decreases-put_types l = 4 * l.room + 1

abbrev pub decreases-put_result : goal.decreases-put_result
decreases-put_result l = 4 * l.room + 1

abbrev pub decreases-put_kind : goal.decreases-put_kind
decreases-put_kind l = 4 * l.room + 2

abbrev pub decreases-put_defined : goal.decreases-put_defined
decreases-put_defined l = 4 * l.room + 3
