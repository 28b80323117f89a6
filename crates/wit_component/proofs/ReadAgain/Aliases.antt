-- The aliases of the types that an interface uses, read again.
use Rattle.std.proofs.Common.{◌≡◌, ℕ, suc, true, not, List, [], ◌∷◌, ◌++◌, map, length, Option, None, Some, refl, ap, sym, ◌∙◌, append_assoc, append-nil}
use Rattle.std.specs.List.{list_all}
use Rattle.std.specs.Option.{option_map}
use Rattle.ctype_format.specs.Raw.{Decl}
use Rattle.ctype_format.specs.View.{decls_of}
use Rattle.package_form.specs.Scoped.{NameEntry}
use Rattle.tables.specs.declared.tables.TypeId.{TypeId}
use Rattle.tables.specs.declared.tables.InterfaceId.{InterfaceId}
use Rattle.tables.specs.declared.tables.TypeDefKind.{TypeDefKind}
use Rattle.tables.specs.declared.tables.TypeDefKind.TheVariants as kind
use Rattle.tables.specs.declared.tables.Definition.{Definition}
use Rattle.tables.specs.declared.tables.Definition.TheVariants as row
use Rattle.component_reader.specs.Instance.{if_found}
use Rattle.component_reader.specs.Component.{ComponentRead, with_read_type, exported_type, declarations_read}
use Rattle.wit_component.specs.Component.{instance_export, row_alias, aliases_of}
use Rattle.package_form.specs.Reached.{used_by, name_at}
use Rattle.tables.proofs.ClosedTypesRowByRow.{split}
use Rattle.wit_component.proofs.ReadAgain.UsedNamesAreFound.{UsesFound, found_none, found_one, all_some}
use Rattle.wit_component.proofs.AcceptedComponents.DeclaredRows.{is_use_def}

-- an index of a type is that of no interface
abbrev pub no_interfaces : List TypeId → List (Option InterfaceId)
no_interfaces us = map (λ u. None) us

abbrev with_indices : ComponentRead → List (Option TypeId) → List (Option InterfaceId) → ComponentRead
with_indices s indices instances = record {
  packages = s.packages;
  rows = s.rows;
  interfaces = s.interfaces;
  exports = s.exports;
  worlds = s.worlds;
  indices = indices;
  instances = instances;
  awaited = s.awaited;
  awaited_world = s.awaited_world;
}

abbrev pub with_types : ComponentRead → List TypeId → ComponentRead
with_types s us = with_indices s (s.indices ++ all_some us) (s.instances ++ no_interfaces us)

no-alias : (table : List Definition) (d : Definition) → not (is_use_def d) ≡ true → row_alias table d ≡ []
no-alias table (row.Function f) h = refl
no-alias table (row.Type d) h = by d.kind h
  where
    by : (what : TypeDefKind) → not (is_use_def (row.Type (record { name = d.name; kind = what }))) ≡ true → instance_export (name_at table (used_by what)) ≡ []
    by (kind.Use t) h = absurd (cc)
    by _ h = refl

no-aliases : (table : List Definition) (ds : List Definition) → list_all (λ d. not (is_use_def d)) ds ≡ true → aliases_of table ds ≡ []
no-aliases table [] h = refl
no-aliases table (d ∷ ds) h =
    let s = split (not (is_use_def d)) _ h in
    ap (λ es. es ++ aliases_of table ds) (no-alias table d s.0) ∙ no-aliases table ds s.1

module _ (table : List Definition) (start k : ℕ) where
  pub aliases-length : (exports : List (List NameEntry)) (us : List TypeId) (ds : List Definition) → UsesFound table exports start k us ds → length (aliases_of table ds) ≡ length us
  aliases-length exports _ _ (found_none ds none) = ap length (no-aliases table ds none)
  aliases-length exports _ _ (found_one x t y us ds named e found) =
      ap (λ o. length (instance_export o ++ aliases_of table ds)) named ∙ ap suc (aliases-length exports us ds found)

  pub aliases-read : (exports : List (List NameEntry)) (us : List TypeId) (ds : List Definition) → UsesFound table exports start k us ds → (s : ComponentRead) → s.exports ≡ exports → (more : List Decl)
      → declarations_read (decls_of (aliases_of table ds ++ more)) s ≡ declarations_read (decls_of more) (with_types s us)
  aliases-read exports _ _ (found_none ds none) s is more =
      ap (λ es. declarations_read (decls_of (es ++ more)) s) (no-aliases table ds none)
      ∙ (λ j. declarations_read (decls_of more) (with_indices s (sym (append-nil s.indices) j) (sym (append-nil s.instances) j)))
  aliases-read exports _ _ (found_one x t y us ds named e found) s is more =
      ap (λ o. declarations_read (decls_of ((instance_export o ++ aliases_of table ds) ++ more)) s) named
      ∙ ap (λ o. if_found (option_map (with_read_type s) o) (declarations_read (decls_of (aliases_of table ds ++ more)))) (ap (λ es. exported_type es y.interface.0 y.name) is ∙ e.found)
      ∙ aliases-read exports us ds found (with_read_type s e.id) is more
      ∙ (λ j. declarations_read (decls_of more) (with_indices s (append_assoc s.indices (Some e.id ∷ []) (all_some us) j) (append_assoc s.instances (None ∷ []) (no_interfaces us) j)))
