-- The definition of the row.
use Rattle.std.proofs.Common.{◌≡◌, IsTrue, Some, length, sym, ap, ◌∙◌, subst}
use Rattle.std.specs.Option.{option_map}
use Rattle.host_calls.specs.Status.{told}
use Rattle.tables.specs.Tables.{option_below}
use Rattle.host_calls.specs.Owners.{owner_kind, owner_number}
use Rattle.host_calls.specs.Rows.{type_info, row_info}
use Rattle.host_calls.specs.declared.host_lists.rows.RowInfo.{RowInfo}
use Rattle.host_calls.proofs.host_lists.RowTypesAreInTheTable.{there, target-inside}
use Rattle.host_calls.proofs.host_lists.rows.row_at.Goals as goal

pub type_info-requires-2 : goal.type_info-requires-2
type_info-requires-2 c =
    let r = c.args.types.now in
    let d = c.in_ok-definition.definition.now in
    let read = c.in_ok-definition.ensures.lookup in
    let at = there r c.resolve.result.now c.as_slice-definitions.result.now c.args.number d c.as_slice-definitions.ensures c.resolve.ensures read.3.0 read.1 in
    subst (λ v. IsTrue (option_below (length r.definitions) v)) (sym c.target_of.ensures) (target-inside r c.args.number d at)

pub returns : goal.returns
returns c =
    let r = c.args.types.now in
    let d = c.in_ok-definition.definition.now in
    let read = c.in_ok-definition.ensures.lookup in
    let at = there r c.resolve.result.now c.as_slice-definitions.result.now c.args.number d c.as_slice-definitions.ensures c.resolve.ensures read.3.0 read.1 in
    let ty = c.type_info.ensures in
    let target = c.type_info-2.ensures ∙ ap (type_info r) c.target_of.ensures in
    let kind = c.owner_numbers-owner_kind.ensures.kind ∙ ap owner_kind c.stated_owner.ensures in
    let owner = c.owner_numbers-owner_kind.ensures.number ∙ ap owner_number c.stated_owner.ensures in
    let members = c.told.ensures ∙ ap told c.member_count.ensures in
    let found : RowInfo = record { ty = c.type_info.result; target = c.type_info-2.result; owner_kind = c.owner_numbers-owner_kind.result.0; owner = c.owner_numbers-owner_kind.result.1; members = c.told.result } in
    let same : found ≡ row_info r c.args.number d = cc (ty, target, kind, owner, members) in
    ap Some same ∙ sym (ap (option_map (row_info r c.args.number)) at)
