-- What is written where a row is named: its name, or the expression of what it is.
use Rattle.std.proofs.Common.{◌≡◌, ℕ, List, get_or, slice_get, refl, sym, ap, ◌∙◌, Option, None, Some}
use Rattle.std.specs.Prelude.{true}
use Rattle.std.proofs.lemmas.Bool.{false≢true}
use Rattle.wit_tokens.specs.Syntax.{Ty, Alias}
use Rattle.wit_tokens.specs.View.{ty_view}
use Rattle.wit_tokens.specs.declared.wit_syntax.ast.TypeExpression.{Named as Name}
use Rattle.wit_tokens.proofs.wit_syntax.TreesOfExpressions.{view-Named}
use Rattle.tables.proofs.ClosedTypesRowByRow.{split}
use Rattle.tables.specs.Tables.{is_below, is_type_before, is_type, type_of, is_there}
use Rattle.tables.specs.Package.{Tree, TextTree, Reference, key_of, read_val, read_kind}
use Rattle.tables.specs.declared.tables.TypeName.{TypeName}
use Rattle.tables.specs.declared.tables.TypeDef.{TypeDef}
use Rattle.tables.specs.declared.tables.ValType.{ValType}
use Rattle.tables.specs.declared.tables.ValType.TheVariants as val
use Rattle.tables.specs.declared.tables.TypeDefKind.{TypeDefKind}
use Rattle.tables.specs.declared.tables.TypeDefKind.TheVariants as kind
use Rattle.tables.specs.declared.tables.Definition.{Definition}
use Rattle.tables.specs.declared.tables.Definition.TheVariants as row
use Rattle.tables.specs.declared.tables.Resolve.{Resolve}
use Rattle.package_form.specs.Postfix.{is_inner}
use Rattle.package_form.specs.Form.{IsInPackageForm}
use Rattle.package_text.specs.Written.{ty_of, body_of}
use Rattle.package_text.specs.Tree.{own_names, own_trees}
use Rattle.package_text.specs.Pieces.{type_by}
use Rattle.package_text.proofs.TableRows.RowsStandForTrees.{type-tree}
use Rattle.package_text.proofs.TableRows.FormOfSingleRows.{inner-at}

-- a row with a name is written as it
pub named-written : (r : Resolve) (k : ℕ) (d : TypeDef) (n : TypeName) → slice_get r.definitions k ≡ Some (row.Type d) → d.name ≡ Some n → ty_view (Name n.name) ≡ ty_of (get_or (own_trees r) k TextTree)
named-written r k d n e q = view-Named n.name ∙ sym (ap ty_of (type-tree r k d (Some n) e q))

-- a list, an option, a result or a tuple is written as an alias
pub inner-body : (trees : List Tree) (k : TypeDefKind) → is_inner k ≡ true → body_of (read_kind trees k) ≡ Alias (ty_of (read_kind trees k))
inner-body trees (kind.List v) h = refl
inner-body trees (kind.Option v) h = refl
inner-body trees (kind.Result v w) h = refl
inner-body trees (kind.Tuple vs) h = refl
inner-body trees (kind.Use t) h = absurd cc
inner-body trees (kind.Alias v) h = absurd cc
inner-body trees (kind.Record fs) h = absurd cc
inner-body trees (kind.Variant cs) h = absurd cc
inner-body trees (kind.Enum ns) h = absurd cc
inner-body trees (kind.Flags ns) h = absurd cc

-- so is a type of the table
pub alias-body : (r : Resolve) → IsInPackageForm r → (v : ValType) → is_type r.definitions v ≡ true → body_of (read_val (own_trees r) v) ≡ Alias (type_by (own_trees r) v)
alias-body r form (val.Primitive p) h = refl
alias-body r form val.String h = refl
alias-body r form (val.Id t) h = by (slice_get r.definitions t.0) refl h
  where
    same : (x y : Tree) → x ≡ y → body_of y ≡ Alias (ty_of y) → body_of x ≡ Alias (ty_of x)
    same x y e h = ap body_of e ∙ h ∙ sym (ap (λ z. Alias (ty_of z)) e)

    named : (d : TypeDef) (o : Option TypeName) → d.name ≡ o → slice_get r.definitions t.0 ≡ Some (row.Type d)
        → body_of (get_or (own_trees r) t.0 TextTree) ≡ Alias (ty_of (get_or (own_trees r) t.0 TextTree))
    named d None q e =
        same (get_or (own_trees r) t.0 TextTree) (read_kind (own_trees r) d.kind) (type-tree r t.0 d None e q)
        (inner-body (own_trees r) d.kind (inner-at r form t.0 d e q))
    named d (Some n) q e = same (get_or (own_trees r) t.0 TextTree) (Reference (key_of (own_names r) n)) (type-tree r t.0 d (Some n) e q) refl

    by : (o : Option Definition) → slice_get r.definitions t.0 ≡ o → is_there (type_of o) ≡ true → body_of (get_or (own_trees r) t.0 TextTree) ≡ Alias (ty_of (get_or (own_trees r) t.0 TextTree))
    by None e q = absurd (false≢true q)
    by (Some (row.Function f)) e q = absurd (false≢true q)
    by (Some (row.Type d)) e q = named d d.name refl e

pub alias-written : (r : Resolve) → IsInPackageForm r → (n : ℕ) (v : ValType) → is_type_before r.definitions n v ≡ true → (t : Ty) → t ≡ type_by (own_trees r) v → Alias t ≡ body_of (read_val (own_trees r) v)
alias-written r form n v h t e = ap Alias e ∙ sym (alias-body r form v (split (is_below n v) (is_type r.definitions v) h).1)
