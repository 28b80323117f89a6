use Rattle.std.proofs.Common.{◌≤◌, inl, map, sym, ap, ◌∙◌, subst}
use Rattle.std.specs.Prelude.{IsTrue}
use Rattle.canonical_abi.specs.Flat.{Denotes}
use Rattle.canonical_abi.specs.Layout.{max_flat_params, size}
use Rattle.canonical_abi.specs.Types.{record_type}
use Rattle.values.specs.Members.{fields_of_types, AreAllInside, AreTypesOf}
use Rattle.values.specs.Scalar.{value_in}
use Rattle.values.specs.Scalars.{AreScalar}
use Rattle.values.specs.Val.{value_of}
use Rattle.values.proofs.PackageTypesAreStandard.{all-known-inside}
use Rattle.memory.specs.SpaceView.{space_memory}
use Rattle.tables.specs.Closed.{closed_types, function_at, function_type, is_scalar_function}
use Rattle.package_values.proofs.FunctionTypesAsFields.{params_are_fields, params_are_known, params_are_scalar, params_are_small}
use Rattle.witcall.proofs.AnswersOfTheBody.{arguments-denoted, arguments-faulty}
use Rattle.witcall.proofs.reply.Reply.lift_arguments.Goals as goal

pub lift_scalars-requires : goal.lift_scalars-requires
lift_scalars-requires c =
    let r = c.args.self.now.«package».resolve in
    let func = c.args.self.now.func in
    let own = c.as_slice-types.ensures.value ∙ c.args.self.now.named in
    let same = c.resolve.ensures ∙ c.types-table.ensures.types in
    let scalar = subst (λ q. IsTrue (is_scalar_function (function_at q func))) same (sym c.is_scalar.ensures ∙ c.if-is_scalar.true) in
    subst AreScalar (sym own) (params_are_scalar r func scalar)

pub returns-in-Ok-clause-ok : goal.returns-in-Ok-clause-ok
returns-in-Ok-clause-ok c =
    let r = c.args.self.now.«package».resolve in
    let func = c.args.self.now.func in
    let types = c.as_slice-types.result.now in
    let own = c.as_slice-types.ensures.value ∙ c.args.self.now.named in
    let same = c.resolve.ensures ∙ c.types-table.ensures.types in
    let scalar = subst (λ q. IsTrue (is_scalar_function (function_at q func))) same (sym c.is_scalar.ensures ∙ c.if-is_scalar.true) in
    let are = ap (fields_of_types r) own ∙ params_are_fields r func in
    let vs = map value_in c.in-Ok._values.items in
    (vs, arguments-denoted (closed_types r) types (function_type r func).params (space_memory c.args.memory.now).bytes c.args.arguments.now vs (subst AreScalar (sym own) (params_are_scalar r func scalar)) are c.in-Ok.ensures.values)

pub returns-in-Err-clause-err : goal.returns-in-Err-clause-err
returns-in-Err-clause-err c =
    let r = c.args.self.now.«package».resolve in
    let func = c.args.self.now.func in
    let types = c.as_slice-types.result.now in
    let own = c.as_slice-types.ensures.value ∙ c.args.self.now.named in
    let same = c.resolve.ensures ∙ c.types-table.ensures.types in
    let scalar = subst (λ q. IsTrue (is_scalar_function (function_at q func))) same (sym c.is_scalar.ensures ∙ c.if-is_scalar.true) in
    let are = ap (fields_of_types r) own ∙ params_are_fields r func in
    inl (c.in-Err._kind, arguments-faulty (closed_types r) types (function_type r func).params (space_memory c.args.memory.now).bytes c.args.arguments.now c.in-Err._kind (subst AreScalar (sym own) (params_are_scalar r func scalar)) are c.in-Err.ensures.fault)

pub lift_params-requires-clause-inside : goal.lift_params-requires-clause-inside
lift_params-requires-clause-inside c =
    let r = c.args.self.now.«package».resolve in
    let types = c.as_slice-types.result.now in
    let own = c.as_slice-types.ensures.value ∙ c.args.self.now.named in
    let known = subst (AreTypesOf r) (sym own) (params_are_known r c.args.self.now.func c.args.self.now.function) in
    subst (λ q. AreAllInside q types) (sym c.types-table.ensures.types) (all-known-inside r types known)

pub lift_params-requires-clause-small : goal.lift_params-requires-clause-small
lift_params-requires-clause-small c =
    let r = c.args.self.now.«package».resolve in
    let types = c.as_slice-types.result.now in
    let own = c.as_slice-types.ensures.value ∙ c.args.self.now.named in
    let small = params_are_small r c.args.self.now.func c.args.self.now.function c.types-table.ensures.within in
    subst (λ q. size (record_type (fields_of_types q types)) ≤ 16777216) (sym c.types-table.ensures.types)
    (subst (λ ts. size (record_type (fields_of_types r ts)) ≤ 16777216) (sym own) small)

pub returns-in-Ok-lift_params-clause-ok : goal.returns-in-Ok-lift_params-clause-ok
returns-in-Ok-lift_params-clause-ok c =
    let r = c.args.self.now.«package».resolve in
    let func = c.args.self.now.func in
    let types = c.as_slice-types.result.now in
    let own = c.as_slice-types.ensures.value ∙ c.args.self.now.named in
    let are = ap (λ q. fields_of_types q types) c.types-table.ensures.types ∙ ap (fields_of_types r) own ∙ params_are_fields r func in
    let vs = map value_of c.in-Ok-lift_params._values.items in
    (vs, subst (λ ts. Denotes max_flat_params ts (space_memory c.args.memory.now).bytes c.args.arguments.now vs) are c.in-Ok-lift_params.ensures.values)
