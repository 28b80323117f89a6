use Rattle.std.proofs.Common.{◌≡◌, ◌≤◌, sym, subst, ap, ◌∙◌}
use Rattle.std.specs.Prelude.{IfSome, option_to_list}
use Rattle.canonical_abi.specs.Layout.{size}
use Rattle.canonical_abi.specs.Types.{record_type, result_fields}
use Rattle.layout.specs.Layout.{AreWithin}
use Rattle.values.specs.Members.{fields_of_types}
use Rattle.tables.specs.Closed.{function_type}
use Rattle.tables.specs.Standard.{IsTypeOf}
use Rattle.witcall.proofs.AnswersOfTheBody.{lent, no-room, result-small}
use Rattle.adapter.proofs.PackageTypesWithinLimits.{type-small}
use Rattle.witcall.proofs.reply.Reply.lower_value.Goals as goal

pub lower_answer-requires-clause-small : goal.lower_answer-requires-clause-small
lower_answer-requires-clause-small c =
    let q = c.types-table.result in
    let o = c.result_type-ty.result in
    let known = subst (λ r. IfSome o (IsTypeOf r)) c.resolve.ensures c.result_type-ty.ensures.known in
    let within = subst (λ r. ∥ AreWithin r ∥₁) (sym c.types-table.ensures.types) c.types-table.ensures.within in
    let all = lent o c.as_slice-types.result.now c.as_slice-types.ensures in
    subst (λ ts. size (record_type (fields_of_types q ts)) ≤ 16777216) (sym all) (result-small q o (type-small q within) known)

pub returns-in-Err-clause-err : goal.returns-in-Err-clause-err
returns-in-Err-clause-err c =
    let q = c.types-table.result in
    let o = c.result_type-ty.result in
    let f = c.args.self.now.func in
    let types = c.as_slice-types.result.now in
    let all = lent o types c.as_slice-types.ensures in
    let own = subst (λ r. fields_of_types r (option_to_list o) ≡ result_fields (function_type r f).result) c.resolve.ensures c.result_type-ty.ensures.fields in
    let fields = ap (fields_of_types q) all ∙ (own ∙ ap (λ r. result_fields (function_type r f).result) c.types-table.ensures.types) in
    no-room q types _ c.as_slice-values.result.now _ c.in-Err._kind _ _ fields (lent c.args.self.now.value c.as_slice-values.result.now c.as_slice-values.ensures) c.in-Err.ensures.fault
