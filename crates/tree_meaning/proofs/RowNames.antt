-- The names of rows are those of what the rows define.
use Rattle.std.proofs.Common.{◌≡◌, ℕ, List, [], ◌∷◌, ◌++◌, map, flat_map, Option, None, Some, refl, ap, sym, ◌∙◌}
use Rattle.std.proofs.lemmas.List.{map-append}
use Rattle.tables.specs.Package.{Tree, NamedDefinition, reference}
use Rattle.tables.specs.declared.tables.TypeName.{TypeName}
use Rattle.tables.specs.declared.tables.TypeDefKind.{TypeDefKind}
use Rattle.tables.specs.declared.tables.Definition.{Definition}
use Rattle.tables.specs.declared.tables.Definition.TheVariants as row
use Rattle.package_form.proofs.AllAndContains.{flat_map-append}
use Rattle.package_form.specs.Naming.{row_names}
use Rattle.tree_meaning.proofs.AllDefinitions.{all_from}

abbrev pub key_name : NamedDefinition → List ℕ
key_name x = x.key.name

type-defined : (ns : List (List ℕ)) (trees : List Tree) (o : Option TypeName) (k : TypeDefKind) (ds : List Definition)
    → ((ts : List Tree) → flat_map row_names ds ≡ map key_name (all_from ns ts ds))
    → flat_map row_names (row.Type (record { name = o; kind = k }) ∷ ds) ≡ map key_name (all_from ns trees (row.Type (record { name = o; kind = k }) ∷ ds))
type-defined ns trees None k ds again = again _
type-defined ns trees (Some n) k ds again = ap (λ (ms : List (List ℕ)). n.name ∷ ms) (again _)

pub names-defined : (ns : List (List ℕ)) (trees : List Tree) (ds : List Definition) → flat_map row_names ds ≡ map key_name (all_from ns trees ds)
names-defined ns trees [] = refl
names-defined ns trees (row.Type d ∷ ds) = type-defined ns trees d.name d.kind ds (λ ts. names-defined ns ts ds)
names-defined ns trees (row.Function f ∷ ds) = ap (λ (ms : List (List ℕ)). f.name ∷ ms) (names-defined ns (trees ++ reference ns trees (row.Function f) ∷ []) ds)

-- rows in three parts
pub parts-named : (U V W : List Definition) (A B C : List NamedDefinition) → flat_map row_names U ≡ map key_name A → flat_map row_names V ≡ map key_name B → flat_map row_names W ≡ map key_name C
    → flat_map row_names (U ++ (V ++ W)) ≡ map key_name (A ++ (B ++ C))
parts-named U V W A B C a b c =
    two U (V ++ W) A (B ++ C) a (two V W B C b c)
  where
    two : (U V : List Definition) (A B : List NamedDefinition) → flat_map row_names U ≡ map key_name A → flat_map row_names V ≡ map key_name B → flat_map row_names (U ++ V) ≡ map key_name (A ++ B)
    two U V A B a b =
        flat_map-append row_names U V ∙ ap (λ (ms : List (List ℕ)). ms ++ flat_map row_names V) a
        ∙ ap (λ (ms : List (List ℕ)). map key_name A ++ ms) b ∙ sym (map-append key_name A B)
