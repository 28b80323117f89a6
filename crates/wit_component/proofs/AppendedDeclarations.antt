-- Declarations that are appended.
use Rattle.std.proofs.Common.{◌≡◌, Bool, false, cond, List, [], ◌∷◌, ◌++◌, Option, Some, map, option_map, ap, sym, ◌∙◌}
use Rattle.std.proofs.lemmas.List.{map-append}
use Rattle.ctype_format.specs.Raw.{Decl, Define, Entry}
use Rattle.ctype_format.specs.View.{decl_view, defined_view}
use Rattle.ctype_format.specs.declared.raw.RawDecl.{RawDecl}
use Rattle.ctype_format.specs.declared.raw.RawDefinedType.{RawDefinedType}
use Rattle.package_form.specs.Ids.{is_use}
use Rattle.tables.specs.declared.tables.TypeDefKind.{TypeDefKind}
use Rattle.wit_component.specs.Rows.{Place, outer_alias, defined_of, definition_if, definition_declared}

pub one-more : (before after : List RawDecl) (d : RawDecl) (e : Decl) → after ≡ before ++ d ∷ [] → decl_view d ≡ e → map decl_view after ≡ map decl_view before ++ e ∷ []
one-more before after d e is seen = ap (map decl_view) is ∙ map-append decl_view before (d ∷ []) ∙ ap (λ x. map decl_view before ++ x ∷ []) seen

pub definition-pushed : (at : Place) (k : TypeDefKind) (o : Option RawDefinedType) (x : RawDefinedType) (before after : List RawDecl) (d : RawDecl)
    → is_use k ≡ false → option_map defined_view o ≡ defined_of at.indices k → o ≡ Some x → decl_view d ≡ Entry (Define (defined_view x)) → after ≡ before ++ d ∷ []
    → map decl_view after ≡ map decl_view before ++ definition_declared at k
definition-pushed at k o x before after d none told some seen is =
    let defined : defined_of at.indices k ≡ Some (defined_view x) = sym told ∙ ap (option_map defined_view) some in
    let all : definition_declared at k ≡ Entry (Define (defined_view x)) ∷ [] =
    ap (λ (b : Bool). cond b (outer_alias at.used ∷ []) (definition_if (defined_of at.indices k))) none ∙ ap definition_if defined in
    one-more before after d (Entry (Define (defined_view x))) is seen ∙ ap (λ ds. map decl_view before ++ ds) (sym all)
