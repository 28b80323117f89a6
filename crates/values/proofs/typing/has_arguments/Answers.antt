use Rattle.std.proofs.Common.{◌↔◌, map, ap, subst, ◌∙◌, sym}
use Rattle.std.specs.Prelude.{IsTrue}
use Rattle.canonical_abi.specs.Types.{record_fields}
use Rattle.canonical_abi.specs.Values.{HaveTypes}
use Rattle.values.specs.Val.{value_of}
use Rattle.values.proofs.FieldsFromAPlace.{closed-row, count-params}
use Rattle.values.proofs.typing.has_arguments.Goals as goal

pub members_have_types-requires-clause-counted : goal.members_have_types-requires-clause-counted
members_have_types-requires-clause-counted c =
    count-params c.args.table.now c.args.func c.signature.result.now c.requires (rw c.resolve.ensures at c.signature.ensures) ∙ sym c.len-count.ensures

pub returns : goal.returns
returns c =
    let own = ap record_fields (closed-row c.args.table.now c.args.func c.requires) in
    subst (λ ts. IsTrue c.members_have_types.result ↔ HaveTypes (map value_of c.args.values.now) ts) own c.members_have_types.ensures
