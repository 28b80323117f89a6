use Rattle.std.proofs.Common.{◌∙◌, List, map, ap, sym, subst}
use Rattle.wit_tokens.specs.Syntax.{Record, Variant, TypeBody}
use Rattle.wit_tokens.specs.View.{field_view, case_view, definition_view}
use Rattle.wit_tokens.specs.declared.wit_syntax.ast.Field.{Field}
use Rattle.wit_tokens.specs.declared.wit_syntax.ast.Case.{Case}
use Rattle.tables.specs.Package.{IsType}
use Rattle.tree_meaning.specs.Declarations.{named_definition}
use Rattle.tree_meaning.specs.Resolved.{definition_meaning}
use Rattle.tree_meaning.specs.Building.{LowersKind}
use Rattle.tree_scopes.specs.KnownScopes.{KnowsNames, scope_name}
use Rattle.tables.specs.declared.tables.TypeDefKind.TheVariants as kind
use Rattle.tree_rows.proofs.LoweredTypesStay.{lowers-record, lowers-variant}
use Rattle.tree_rows.proofs.bodies.lower_definition.Goals as goal

pub lower_kind-requires-clause-known : goal.lower_kind-requires-clause-known
lower_kind-requires-clause-known c =
    subst (λ (d : TypeBody). KnowsNames c.args.scope.now (named_definition d)) (ap definition_view c.in-Alias.is) c.requires.known

pub lower_fields-requires-clause-known : goal.lower_fields-requires-clause-known
lower_fields-requires-clause-known c =
    let e = ap definition_view c.in-Record.is ∙ ap (λ (fs : List Field). Record (map field_view fs)) (sym c.deref.ensures.value) in
    subst (λ (d : TypeBody). KnowsNames c.args.scope.now (named_definition d)) e c.requires.known

pub lower_cases-requires-clause-known : goal.lower_cases-requires-clause-known
lower_cases-requires-clause-known c =
    let e = ap definition_view c.in-Variant.is ∙ ap (λ (cs : List Case). Variant (map case_view cs)) (sym c.deref-in-Variant.ensures.value) in
    subst (λ (d : TypeBody). KnowsNames c.args.scope.now (named_definition d)) e c.requires.known

pub returns-in_ok-fields-in-Record : goal.returns-in_ok-fields-in-Record
returns-in_ok-fields-in-Record c =
    let old = c.args.builder.now in
    let e = ap definition_view c.in-Record.is ∙ ap (λ (fs : List Field). Record (map field_view fs)) (sym c.deref.ensures.value) in
    subst (λ (d : TypeBody). LowersKind old c.lower_fields.new.builder (kind.Record c.in_ok-fields-in-Record.fields) (IsType (definition_meaning (scope_name old c.args.scope.now) d))) (sym e)
    (lowers-record old c.lower_fields.new.builder c.in_ok-fields-in-Record.fields _ c.in_ok-fields-in-Record.ensures)

pub returns-in_ok-cases-in-Variant : goal.returns-in_ok-cases-in-Variant
returns-in_ok-cases-in-Variant c =
    let old = c.args.builder.now in
    let e = ap definition_view c.in-Variant.is ∙ ap (λ (cs : List Case). Variant (map case_view cs)) (sym c.deref-in-Variant.ensures.value) in
    subst (λ (d : TypeBody). LowersKind old c.lower_cases.new.builder (kind.Variant c.in_ok-cases-in-Variant.cases) (IsType (definition_meaning (scope_name old c.args.scope.now) d))) (sym e)
    (lowers-variant old c.lower_cases.new.builder c.in_ok-cases-in-Variant.cases _ c.in_ok-cases-in-Variant.ensures)
