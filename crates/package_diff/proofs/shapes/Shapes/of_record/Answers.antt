use Rattle.std.proofs.Common.{IfOk, subst, ◌∙◌}
use Rattle.canonical_abi.specs.Types.{record_type, fields_of}
use Rattle.tables.specs.Closed.{closed_val}
use Rattle.tables.specs.declared.tables.Field.{Field}
use Rattle.package_diff.specs.Shapes.{row_types, IsNumberOf}
use Rattle.package_diff.proofs.NumbersStandForTypes.{taken-out}
use Rattle.package_diff.proofs.shapes.Shapes.of_record.Goals as goal

pub returns-clause-number : goal.returns-clause-number
returns-clause-number c =
    let taken = taken-out (closed_val (row_types c.args.self.now.known.keys c.args.rows.now)) (λ (f : Field). f.ty) c.args.fields.now _ (c.as_slice.ensures.value ∙ c.in_ok-types.ensures) in
    subst (λ ts. IfOk c.of_fields.result (IsNumberOf c.of_fields.new.self.known.keys (record_type (fields_of ts)))) taken c.of_fields.ensures.number
