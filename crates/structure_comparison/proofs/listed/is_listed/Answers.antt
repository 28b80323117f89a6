use Rattle.std.specs.Prelude.{Contains}
use Rattle.structure_comparison.proofs.Sets.{set_has, listed_import, listed_export}
use Rattle.structure_comparison.proofs.listed.is_listed.Goals as goal

pub returns-in-Import-Interface : goal.returns-in-Import-Interface
returns-in-Import-Interface c = λ t.
    listed_import (λ id. Contains c.args.imports.now.keys id.0) (λ id. Contains c.args.exports.now.keys id.0) c.args.item.direction c.args.item.kind c.in-Import-Interface.id c.in-Import-Interface.is-0 c.in-Import-Interface.is-1
    (set_has c.args.imports.now c.in-Import-Interface.id.0 c.contains.result c.contains.ensures t)

pub returns-in-Export-Interface : goal.returns-in-Export-Interface
returns-in-Export-Interface c = λ t.
    listed_export (λ id. Contains c.args.imports.now.keys id.0) (λ id. Contains c.args.exports.now.keys id.0) c.args.item.direction c.args.item.kind c.in-Export-Interface.id c.in-Export-Interface.is-0 c.in-Export-Interface.is-1
    (set_has c.args.exports.now c.in-Export-Interface.id.0 c.contains-in-Export-Interface.result c.contains-in-Export-Interface.ensures t)
