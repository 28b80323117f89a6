use Rattle.std.proofs.Common.{◌≡◌, ◌++◌, ◌∷◌, [], refl}
use Rattle.tree_scopes.specs.declared.known.KnownTypes.{KnownTypes}
use Rattle.tree_rows.proofs.OneDefinitionMore.{define-grows}
use Rattle.tree_rows.proofs.define.define_named.Goals as goal

pub returns : goal.returns
returns c = λ first m scope l.
    let before = c.args.scope.now in
    let after : KnownTypes = record { interface = before.interface; entries = c.push.new.self } in
    let is : after ≡ record { interface = before.interface; entries = before.entries ++ record { name = c.args.name.now; id = c.in_ok-id.id } ∷ [] } = rw c.in_ok-push.ensures refl in
    define-grows first c.args.builder.now c.define.new.self before after c.args.kind c.in_ok-copy.field-0 c.args.name.now c.args.name.now c.in_ok-id.id m
    c.in_ok-copy.ensures refl c.in_ok-id.ensures.0 c.in_ok-id.ensures.1 is scope l
