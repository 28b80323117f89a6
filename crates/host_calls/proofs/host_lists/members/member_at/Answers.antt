-- The definition of the row, and the type of its member.
use Rattle.std.proofs.Common.{◌≡◌, Some, slice_get, sym, ap, ◌∙◌}
use Rattle.std.specs.Option.{option_map}
use Rattle.host_calls.specs.Contents.{types_of_members}
use Rattle.host_calls.specs.Members.{member_info, member_in}
use Rattle.host_calls.specs.declared.host_lists.members.MemberInfo.{MemberInfo}
use Rattle.host_calls.proofs.host_lists.RowTypesAreInTheTable.{there, member-inside}
use Rattle.host_calls.proofs.host_lists.members.member_at.Goals as goal

pub type_info-requires : goal.type_info-requires
type_info-requires c =
    let r = c.args.types.now in
    let d = c.in_ok-definition.definition.now in
    let read = c.in_ok-definition.ensures.lookup in
    let at = there r c.resolve.result.now c.as_slice-definitions.result.now c.args.row d c.as_slice-definitions.ensures c.resolve.ensures read.3.0 read.1 in
    member-inside r c.args.row d at c.args.index c.in_ok-ty.ty (sym c.member_of.ensures ∙ c.in_ok-ty.was)

pub returns : goal.returns
returns c =
    let r = c.args.types.now in
    let d = c.in_ok-definition.definition.now in
    let read = c.in_ok-definition.ensures.lookup in
    let at = there r c.resolve.result.now c.as_slice-definitions.result.now c.args.row d c.as_slice-definitions.ensures c.resolve.ensures read.3.0 read.1 in
    let is : slice_get (types_of_members d) c.args.index ≡ Some c.in_ok-ty.ty = sym c.member_of.ensures ∙ c.in_ok-ty.was in
    let told : MemberInfo = record { ty = c.type_info.result; offset = c.member_offset.result } in
    let same : told ≡ member_info r c.args.row c.args.index c.in_ok-ty.ty = cc (c.type_info.ensures, c.member_offset.ensures) in
    ap Some same ∙ sym (ap (member_in r c.args.row c.args.index) at ∙ ap (option_map (member_info r c.args.row c.args.index)) is)
