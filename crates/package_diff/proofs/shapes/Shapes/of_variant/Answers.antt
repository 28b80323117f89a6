use Rattle.std.proofs.Common.{IfOk, subst, ◌∙◌}
use Rattle.std.specs.Option.{option_map}
use Rattle.canonical_abi.specs.Types.{variant_type, cases_of}
use Rattle.tables.specs.Closed.{closed_val}
use Rattle.tables.specs.declared.tables.Case.{Case}
use Rattle.package_diff.specs.Shapes.{row_types, IsNumberOf}
use Rattle.package_diff.proofs.NumbersStandForTypes.{taken-out}
use Rattle.package_diff.proofs.shapes.Shapes.of_variant.Goals as goal

pub returns-clause-number : goal.returns-clause-number
returns-clause-number c =
    let taken = taken-out (option_map (closed_val (row_types c.args.self.now.known.keys c.args.rows.now))) (λ (k : Case). k.ty) c.args.cases.now _ (c.as_slice.ensures.value ∙ c.in_ok-payloads.ensures) in
    subst (λ ts. IfOk c.of_cases.result (IsNumberOf c.of_cases.new.self.known.keys (variant_type (cases_of ts)))) taken c.of_cases.ensures.number
