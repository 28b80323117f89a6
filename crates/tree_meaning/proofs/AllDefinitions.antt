-- The definitions of rows with the functions of worlds among them, as if these stood in an interface without a name; where there are none,
-- they are the definitions of the rows.
use Rattle.std.proofs.Common.{◌≡◌, ℕ, ◌+◌, Bool, true, false, not, cond, ◌&&◌, List, [], ◌∷◌, ◌++◌, get_or, refl, ap, ◌∙◌}
use Rattle.std.specs.List.{list_all}
use Rattle.tables.specs.Package.{Tree, NamedDefinition, reference, named_by, named_function, function_meaning, definitions_from}
use Rattle.tables.specs.Package as tree
use Rattle.tables.specs.declared.tables.Owner.{Owner}
use Rattle.tables.specs.declared.tables.Owner.TheVariants as owner
use Rattle.tables.specs.declared.tables.Function.{Function}
use Rattle.tables.specs.declared.tables.Definition.{Definition}
use Rattle.tables.specs.declared.tables.Definition.TheVariants as row
use Rattle.tables.proofs.ClosedTypesRowByRow.{split, both}
use Rattle.package_form.specs.Ids.{is_world_function, places_where}
use Rattle.tree_meaning.specs.Resolves.{HasNoWorlds}

abbrev pub owner_name : List (List ℕ) → Owner → List ℕ
owner_name interfaces (owner.Interface i) = get_or interfaces i.0 []
owner_name interfaces (owner.World w) = []

abbrev pub any_function : List (List ℕ) → List Tree → Function → NamedDefinition
any_function interfaces trees f = record { key = record { interface = owner_name interfaces f.owner; name = f.name }; meaning = function_meaning trees f }

abbrev pub all_of : List (List ℕ) → List Tree → Definition → List NamedDefinition
all_of interfaces trees (row.Type d) = named_by interfaces trees d.name d.kind
all_of interfaces trees (row.Function f) = any_function interfaces trees f ∷ []

abbrev pub all_from : List (List ℕ) → List Tree → List Definition → List NamedDefinition
all_from interfaces trees [] = []
all_from interfaces trees (d ∷ ds) = all_of interfaces trees d ++ all_from interfaces (trees ++ reference interfaces trees d ∷ []) ds

of-interface : (ns : List (List ℕ)) (trees : List Tree) (d : Definition) → not (is_world_function d) ≡ true → tree.definition_of ns trees d ≡ all_of ns trees d
of-interface ns trees (row.Type d) h = refl
of-interface ns trees (row.Function f) h = by f.owner h
  where
    by : (o : Owner) → not (is_world_function (row.Function (record { owner = o; name = f.name; params = f.params; result = f.result }))) ≡ true
        → named_function ns o f.name (function_meaning trees f) ≡ record { key = record { interface = owner_name ns o; name = f.name }; meaning = function_meaning trees f } ∷ []
    by (owner.Interface i) h = refl
    by (owner.World w) h = absurd (cc)

pub all-are : (ns : List (List ℕ)) (trees : List Tree) (ds : List Definition) → HasNoWorlds ds → definitions_from ns trees ds ≡ all_from ns trees ds
all-are ns trees [] h = refl
all-are ns trees (d ∷ ds) h =
    let s = split (not (is_world_function d)) (list_all (λ c. not (is_world_function c)) ds) h in
    ap (λ (xs : List NamedDefinition). xs ++ definitions_from ns (trees ++ reference ns trees d ∷ []) ds) (of-interface ns trees d s.0)
    ∙ ap (λ (xs : List NamedDefinition). all_of ns trees d ++ xs) (all-are ns (trees ++ reference ns trees d ∷ []) ds s.1)

-- where no place is that of a world's function, there is none
pub none-there : (n : ℕ) (ds : List Definition) → places_where is_world_function n ds ≡ [] → HasNoWorlds ds
none-there n [] h = refl
none-there n (d ∷ ds) h = by (is_world_function d) refl h (λ k. none-there (n + 1) ds k)
  where
    by : (b : Bool) → is_world_function d ≡ b → cond b (n ∷ places_where is_world_function (n + 1) ds) (places_where is_world_function (n + 1) ds) ≡ []
        → (places_where is_world_function (n + 1) ds ≡ [] → HasNoWorlds ds) → HasNoWorlds (d ∷ ds)
    by false e h later = both (not (is_world_function d)) _ (ap not e) (later h)
    by true e h later = absurd (cc)

pub no-place : (n : ℕ) (ds : List Definition) → HasNoWorlds ds → places_where is_world_function n ds ≡ []
no-place n [] h = refl
no-place n (d ∷ ds) h = by (is_world_function d) h (λ k. no-place (n + 1) ds k)
  where
    by : (b : Bool) → not b && list_all (λ c. not (is_world_function c)) ds ≡ true → (HasNoWorlds ds → places_where is_world_function (n + 1) ds ≡ [])
        → cond b (n ∷ places_where is_world_function (n + 1) ds) (places_where is_world_function (n + 1) ds) ≡ []
    by false h later = later h
    by true h later = absurd (cc)
