use Rattle.std.proofs.Common.{ap, ◌∙◌}
use Rattle.serde_json.specs.Data.{put}
use Rattle.serde_json.specs.View.{view, members_view}
use Rattle.serde_json.proofs.Views.{members_view-insert_entry}
use Rattle.value_json.proofs.writing.put_member.Goals as goal

pub returns : goal.returns
returns c =
    let olds = c.args.members.now.entries in
    let key = c.in_ok-from_str.field-0 in
    ap members_view c.in_ok-insert.ensures.entries ∙ members_view-insert_entry olds key c.args.member
    ∙ ap (λ l. put l (view c.args.member) (members_view olds)) c.in_ok-from_str.ensures.ok
