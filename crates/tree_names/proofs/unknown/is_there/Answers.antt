use Rattle.std.proofs.Common.{◌↔◌, IsTrue, Bool, sym, subst}
use Rattle.wit_tokens.specs.View.{path_view}
use Rattle.tree_meaning.specs.Imports.{imports_of}
use Rattle.tree_meaning.specs.Knowing.{IsThere}
use Rattle.tree_meaning.proofs.PathNames.{local-there, foreign-there}
use Rattle.tree_names.proofs.unknown.is_there.Goals as goal

pub returns-in-Local : goal.returns-in-Local
returns-in-Local c =
    let m = imports_of c.args.tree.now.imports.now.table in
    let so = local-there m c.args.tree.now.names c.args.path.now c.in-Local.name c.place_of.result c.in-Local.is c.place_of.ensures in
    subst (λ (b : Bool). IsTrue b ↔ IsThere m c.args.tree.now.names (path_view c.args.path.now)) (sym c.is_some.ensures) so

pub returns-in-Foreign : goal.returns-in-Foreign
returns-in-Foreign c =
    let m = imports_of c.args.tree.now.imports.now.table in
    let so = foreign-there m c.args.tree.now.names c.args.path.now c.in-Foreign.«package» c.in-Foreign.interface c.import_place.result c.in-Foreign.is c.import_place.ensures in
    subst (λ (b : Bool). IsTrue b ↔ IsThere m c.args.tree.now.names (path_view c.args.path.now)) (sym c.is_some-in-Foreign.ensures) so
