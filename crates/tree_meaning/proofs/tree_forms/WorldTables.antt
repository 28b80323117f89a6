-- The table of a file: the rows of its interfaces, and behind them those of its worlds.
use Rattle.std.proofs.Common.{◌≡◌, ℕ, ◌+◌, ◌<◌, true, cond, ◌&&◌, IsTrue, List, [], ◌∷◌, ◌++◌, Option, None, Some, map, flat_map, length, get_or, refl, ap, sym, ◌∙◌, subst, append-nil, All, Contains}
use Rattle.std.specs.List.{list_all}
use Rattle.std.proofs.lemmas.List.{append_cancel_left}
use Rattle.atoms.specs.Label.{IsLabel}
use Rattle.wit_tokens.specs.Syntax.{File}
use Rattle.tables.specs.Tables.{are_earlier, name_types}
use Rattle.tables.specs.Package.{Tree, NamedDefinition, definition_of, definitions_from, reference, references, package_of, interface_names as names_in}
use Rattle.tables.specs.declared.tables.Definition.{Definition}
use Rattle.tables.specs.declared.tables.Definition.TheVariants as row
use Rattle.tables.specs.declared.tables.Owner.{Owner}
use Rattle.tables.specs.declared.tables.Owner.TheVariants as owner
use Rattle.tables.specs.declared.tables.TypeName.{TypeName}
use Rattle.tables.specs.declared.tables.World.{World}
use Rattle.tables.specs.declared.tables.Resolve.{Resolve}
use Rattle.package_form.specs.Entries.{Table}
use Rattle.package_form.specs.Form.{functions_of}
use Rattle.package_form.specs.Ids.{is_of_worlds, is_world_function, places_where}
use Rattle.placement.specs.Order.{IsPlacement}
use Rattle.tree_meaning.specs.Declarations.{InterfaceTree, ItemTree, InterfaceNamed, ForeignNamed, FunctionOf, WorldTree, interfaces, file_worlds, package_named, interface_at, names_of_trees}
use Rattle.tree_meaning.specs.Imports.{Imports, imports_of}
use Rattle.tree_meaning.specs.Resolved.{meaning_of_world}
use Rattle.tree_meaning.specs.Resolves.{interface_uses, type_uses, names_in_order, IsKnownItemOf, IsKnownWorldOf, KnowsAllOf, is_behind, HasWorldsBehind, is_owned_among, is_of_interfaces, AreImports}
use Rattle.tree_meaning.specs.Building.{DefinesPackage, start_table, table_definitions, world_functions}
use Rattle.tree_meaning.specs.WorldRows.{AddsFunctions, DefinesWorlds}
use Rattle.tables.proofs.ClosedTypesRowByRow.{split}
use Rattle.package_form.proofs.AllAndContains.{all-mono}
use Rattle.tree_meaning.proofs.MoreRowsReadTheSame.{definitions-append, front-trans}
use Rattle.tree_meaning.proofs.AllDefinitions.{none-there}
use Rattle.tree_meaning.proofs.OrderedNames.{ordered-has}
use Rattle.tree_meaning.proofs.tree_forms.FinishedTrees.{IsTableOf}
use Rattle.tree_meaning.proofs.PackageOfAFile.{own_table, table-resolves}

-- ---- what the rows of worlds leave as it was

-- rows that define nothing in an interface are types without names and functions of worlds
nothing-defined : (ns : List (List ℕ)) (trees : List Tree) (ds : List Definition) → definitions_from ns trees ds ≡ [] → list_all is_behind ds ≡ true
nothing-defined ns trees [] e = refl
nothing-defined ns trees (d ∷ ds) e = by d e (nothing-defined ns (trees ++ reference ns trees d ∷ []) ds)
  where
    rest : List NamedDefinition
    rest = definitions_from ns (trees ++ reference ns trees d ∷ []) ds

    by : (c : Definition) → definition_of ns trees c ++ rest ≡ [] → (rest ≡ [] → list_all is_behind ds ≡ true) → (is_behind c && list_all is_behind ds) ≡ true
    by (row.Type t) q again = named t.name q
      where
        named : (n : Option TypeName) → definition_of ns trees (row.Type (record { name = n; kind = t.kind })) ++ rest ≡ [] → (is_behind (row.Type (record { name = n; kind = t.kind })) && list_all is_behind ds) ≡ true
        named None r = again r
        named (Some n) r = absurd (cc)
    by (row.Function f) q again = owned f.owner q
      where
        owned : (o : Owner) → definition_of ns trees (row.Function (record { owner = o; name = f.name; params = f.params; result = f.result })) ++ rest ≡ []
            → (is_behind (row.Function (record { owner = o; name = f.name; params = f.params; result = f.result })) && list_all is_behind ds) ≡ true
        owned (owner.Interface i) r = absurd (cc)
        owned (owner.World w) r = again r

worlds-behind : (old new : Table) (fs : List ℕ) → world_functions old ≡ [] → AddsFunctions old new fs → HasWorldsBehind new.rows
unfolding table_definitions
worlds-behind old new fs none a =
    let more = a.front.rows.0 in
    let before = definitions_from old.interfaces [] old.rows in
    let after = definitions_from old.interfaces (references old.interfaces [] old.rows) more in
    let whole : before ++ after ≡ before ++ [] =
    sym (definitions-append old.interfaces [] old.rows more) ∙ sym (ap (definitions_from old.interfaces []) a.front.rows.1)
    ∙ sym (ap (λ (ns : List (List ℕ)). definitions_from ns [] new.rows) a.front.interfaces) ∙ a.same ∙ sym (append-nil before) in
    record {
      front = old.rows;
      back = more;
      parts = a.front.rows.1;
      none = none-there 0 old.rows none;
      all = nothing-defined old.interfaces (references old.interfaces [] old.rows) more (append_cancel_left before after [] whole);
    }

-- ---- the table of a file

-- rows of interfaces are no functions of worlds
none-owned : (n k : ℕ) (ds : List Definition) → list_all (is_of_interfaces n) ds ≡ true → places_where is_world_function k ds ≡ []
none-owned n k [] h = refl
none-owned n k (row.Type d ∷ ds) h = none-owned n (k + 1) ds (split (is_of_interfaces n (row.Type d)) (list_all (is_of_interfaces n) ds) h).1
none-owned n k (row.Function f ∷ ds) h =
    let s = split (is_of_interfaces n (row.Function f)) (list_all (is_of_interfaces n) ds) h in
    by f.owner s.0 (none-owned n (k + 1) ds s.1)
  where
    by : (o : Owner) → is_owned_among n o ≡ true → places_where is_world_function (k + 1) ds ≡ [] → cond (is_of_worlds o) (k ∷ places_where is_world_function (k + 1) ds) (places_where is_world_function (k + 1) ds) ≡ []
    by (owner.Interface i) q rest = rest
    by (owner.World w) q rest = absurd (cc)

known-more : (m : Imports) (ns ms : List (List ℕ)) → ((n : List ℕ) → Contains ns n → Contains ms n) → (i : ItemTree) → IsKnownItemOf m ns i → IsKnownItemOf m ms i
known-more m ns ms f (InterfaceNamed way n) h = f n h
known-more m ns ms f (ForeignNamed way q n) h = h
known-more m ns ms f (FunctionOf way g) h = h

pub worlds-known : (m : Imports) (is : List InterfaceTree) (order : List ℕ) (ns : List (List ℕ)) (trees : List WorldTree) → ns ≡ names_in_order is order → IsPlacement (interface_uses is) order
    → All (IsKnownWorldOf m (names_of_trees is)) trees → All (IsKnownWorldOf m ns) trees
worlds-known m is order ns trees same placed known =
    all-mono (IsKnownWorldOf m (names_of_trees is)) (IsKnownWorldOf m ns)
    (λ w h. all-mono (IsKnownItemOf m (names_of_trees is)) (IsKnownItemOf m ns) (known-more m (names_of_trees is) ns (λ n c. subst (λ (ms : List (List ℕ)). Contains ms n) (sym same) (ordered-has is order placed n c))) w.items h)
    trees known

module _ (imports : Resolve) (a : AreImports imports) (f : File) (order : List ℕ) (orders : List (List ℕ)) (names : List (List ℕ)) (old new : Table) (ws : List World)
    (placed : IsPlacement (interface_uses (interfaces f)) order)
    (types : (k : ℕ) → k < length (interfaces f) → IsPlacement (type_uses (interface_at (interfaces f) k)) (get_or orders k [])) (ordered : names ≡ names_in_order (interfaces f) order)
    (made : DefinesPackage (start_table imports names) (interfaces f) order orders old) (labels : All IsLabel (names_of_trees (interfaces f))) (known : KnowsAllOf (imports_of imports) f)
    (d : DefinesWorlds old new (length imports.packages) ws (map meaning_of_world (file_worlds f))) where
  none : world_functions old ≡ []
  none = made.adds.own ∙ none-owned (length imports.interfaces) 0 imports.definitions a.owned

  pub interfaces-are : new.interfaces ≡ names_in imports ++ names
  interfaces-are = d.adds.front.interfaces ∙ made.adds.front.interfaces

  pub rows-are : (own : List Definition) × (new.rows ≡ imports.definitions ++ own)
  rows-are = (front-trans (start_table imports names) old new made.adds.front d.adds.front).rows

  pub earlier-are : IsTrue (are_earlier 0 new.rows)
  earlier-are = d.adds.front.earlier (made.adds.front.earlier imports.earlier)

  pub typed-are : IsTrue (name_types new.rows)
  typed-are = d.adds.front.typed (made.adds.front.typed imports.typed)

  pub is-table : IsTableOf (package_of imports) f (own_table names new ws)
  is-table = record {
    resolves = table-resolves imports a (package_named f) (interfaces f) order orders names new placed types ordered interfaces-are (d.adds.same ∙ made.adds.definitions) labels known.in_interfaces ws (file_worlds f) d.read
        (worlds-known (imports_of imports) (interfaces f) order names (file_worlds f) ordered placed known.in_worlds);
    postfix = d.adds.postfix (made.adds.postfix a.postfix);
    behind = worlds-behind old new (flat_map functions_of ws) none d.adds;
    items = d.adds.own ∙ ap (λ (ns : List ℕ). ns ++ flat_map functions_of ws) none;
    earlier = earlier-are;
    typed = typed-are;
  }
