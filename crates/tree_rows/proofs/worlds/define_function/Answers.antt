use Rattle.std.proofs.Common.{List, [], map, subst}
use Rattle.wit_tokens.specs.View.{field_view, optional_view}
use Rattle.wit_tokens.specs.declared.wit_syntax.ast.Field.{Field}
use Rattle.tree_meaning.specs.Resolved.{member_meaning, direction_meaning}
use Rattle.tree_meaning.specs.Building.{LowersParameters, LowersIf, label_at}
use Rattle.tree_rows.proofs.DefinedWorlds.{function-defined}
use Rattle.tree_meaning.proofs.WorldItemsStay.{members-same, if-same, none-left, none-right}
use Rattle.tree_rows.proofs.worlds.define_function.Goals as goal

pub returns : goal.returns
returns c = λ way.
    let old = c.args.builder.now in
    let mid = c.lower_parameters.new.builder in
    let last = c.lower_optional.new.builder in
    let f = c.args.function.now.ty in
    let ms = map field_view f.params.items in
    let r = optional_view f.result in
    let lowered = subst (λ (fs : List Field). LowersParameters old mid c.in_ok-params.params (map (member_meaning (label_at old 0)) (map field_view fs))) c.deref.ensures.value c.in_ok-params.ensures in
    let params = subst (LowersParameters old mid c.in_ok-params.params) (members-same (label_at old 0) [] ms (none-left _ _ c.requires.known)) lowered in
    let result = subst (LowersIf mid last c.in_ok-result.result) (if-same (label_at mid 0) [] r (none-right _ _ c.requires.known)) c.in_ok-result.ensures in
    function-defined old mid last c.define.new.self c.args.world c.in_ok-copy.field-0 c.args.function.now.name c.in_ok-params.params _ c.in_ok-result.result _ c.in_ok-id.id.0
    params result c.in_ok-copy.ensures c.in_ok-id.ensures.0 c.in_ok-id.ensures.1 (direction_meaning way)
