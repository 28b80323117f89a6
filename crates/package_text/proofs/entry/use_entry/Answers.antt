use Rattle.std.proofs.Common.{◌≡◌, [], ◌∷◌, map, ap, sym, ◌∙◌}
use Rattle.wit_tokens.specs.Syntax.{Uses}
use Rattle.wit_tokens.specs.View.{path_view, used_view}
use Rattle.wit_tokens.specs.declared.wit_syntax.ast.Use.{Use}
use Rattle.wit_print.specs.Unplaced.{nowhere}
use Rattle.package_text.specs.Tree.{path_at, local_of}
use Rattle.package_text.proofs.WrittenTrees.EntriesOfRows.{use-written}
use Rattle.package_text.proofs.entry.use_entry.Goals as goal

pub returns : goal.returns
returns c =
    let r = c.args.resolve.now in
    let n = c.used_name-name.result.now in
    let l = c.args.local.now in
    let parts : Uses c.nowhere.result (path_view c.in_ok-path_to.field-0) (map used_view c.in_ok-used_as.field-0.items)
    ≡ Uses nowhere (path_at r n.interface.0) (record { name = n.name; local = local_of n.name l } ∷ []) =
    λ j. Uses (c.nowhere.ensures j) (c.in_ok-path_to.ensures j) (c.in_ok-used_as.ensures j) in
    ap (λ (u : Use). Uses u.span (path_view u.interface) (map used_view u.names.items)) c.in_ok-new.ensures.ok ∙ parts ∙ sym (use-written r c.args.target n l c.used_name-name.ensures.name)
