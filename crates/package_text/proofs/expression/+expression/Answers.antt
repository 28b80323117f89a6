use Rattle.std.proofs.Common.{◌≡◌, map, IfOk, ap, sym, subst, ◌∙◌, rules}
use Rattle.wit_tokens.specs.View.{ty_view}
use Rattle.wit_tokens.specs.declared.wit_syntax.ast.TypeExpression.{Named as Name}
use Rattle.tables.specs.Package.{Tree}
use Rattle.tables.specs.declared.tables.Definition.TheVariants as row
use Rattle.std.specs.Prelude.{None}
use Rattle.package_text.specs.Written.{ty_of}
use Rattle.package_text.specs.Tree.{own_trees}
use Rattle.package_text.specs.Pieces.{type_by}
use Rattle.package_text.proofs.TableRows.RowsStandForTrees.{type-tree, earlier-at}
use Rattle.package_text.proofs.TableRows.FormOfSingleRows.{inner-at}
use Rattle.package_text.proofs.WrittenTrees.ExpressionsOfKinds.{tuple-written}
use Rattle.package_text.proofs.WrittenTrees.ReferencesToRows.{named-written}
use Rattle.package_text.proofs.expression.+expression.Goals as goal

pub inner-returns-in_ok-members-in-Tuple : goal.inner-returns-in_ok-members-in-Tuple
inner-returns-in_ok-members-in-Tuple t c =
    let trees = own_trees c.args.resolve.now in
    tuple-written trees c.args.kind.now c.in-Tuple.members c.in_ok-members-in-Tuple.members c.in-Tuple.is (c.in_ok-members-in-Tuple.ensures ∙ ap (map (type_by trees)) c.as_slice.ensures)

pub reference-inner-requires : goal.reference-inner-requires
reference-inner-requires t c =
    let d = c.decreases in
    let r = c.args.resolve.now in
    let definition = c.type_at-definition.result.now in (
      search rules,
      (
        c.requires.form,
        (inner-at r c.requires.form c.args.id.0 definition c.type_at-definition.ensures c.in-None.is, earlier-at r c.args.id.0 (row.Type definition) c.type_at-definition.ensures),
      ),
    )

pub reference-returns-in_ok-copy-in-Some : goal.reference-returns-in_ok-copy-in-Some
reference-returns-in_ok-copy-in-Some t c =
    ap (λ n. ty_view (Name n)) c.in_ok-copy-in-Some.ensures
    ∙ named-written c.args.resolve.now c.args.id.0 c.type_at-definition.result.now c.in-Some.name c.type_at-definition.ensures c.in-Some.is

pub reference-returns-in-None : goal.reference-returns-in-None
reference-returns-in-None t c =
    subst (λ (x : Tree). IfOk c.inner.result (λ e. ty_view e ≡ ty_of x))
    (sym (type-tree c.args.resolve.now c.args.id.0 c.type_at-definition.result.now None c.type_at-definition.ensures c.in-None.is)) c.inner.ensures
