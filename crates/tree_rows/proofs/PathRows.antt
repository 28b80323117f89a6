-- The rows that paths of worlds name.
use Rattle.std.proofs.Common.{◌≡◌, ◌+◌, ◌<◌, ◌∙◌, ◌++◌, ℕ, List, [], Option, length, get_or, ap, refl, sym, arith}
use Rattle.std.specs.Prelude.{Some, None}
use Rattle.std.specs.Option.{option_map}
use Rattle.std.proofs.lemmas.List.{length-append, length-map, get_or_append_left}
use Rattle.wit_tokens.specs.Syntax.{PathTo, Local, Foreign, Whole}
use Rattle.wit_tokens.specs.declared.wit_syntax.ast.Direction.{Direction}
use Rattle.tables.specs.PackageNames.{PackageParts}
use Rattle.tables.specs.Names.{full_name}
use Rattle.tables.specs.Package.{interface_names as import_names}
use Rattle.tables.specs.declared.tables.Direction.{Direction as Side}
use Rattle.tables.specs.declared.tables.InterfaceId.{InterfaceId}
use Rattle.tables.specs.declared.tables.Resolve.{Resolve}
use Rattle.tables.specs.declared.tables.WorldItemKind.TheVariants as item
use Rattle.package_form.specs.Entries.{Table}
use Rattle.tree_meaning.specs.Declarations.{item_tree}
use Rattle.tree_meaning.specs.Imports.{interfaces_of, imports_of}
use Rattle.tree_meaning.specs.Resolved.{direction_meaning, tree_item_meaning}
use Rattle.tree_meaning.specs.Resolves.{place_of, path_place, IsKnownItemOf}
use Rattle.tree_meaning.specs.WorldRows.{DefinesItem}
use Rattle.tree_meaning.proofs.NamesFoundInLists.{place-at, place-below}
use Rattle.tree_meaning.proofs.ImportsFoundByName.{imports-length, place-is, place-some, import-named, get_or-append-right}
use Rattle.tree_meaning.proofs.PlacedTypesNameEarlier.{place-found}
use Rattle.tree_rows.proofs.DefinedWorlds.{interface-defined}

pub item-there : (imports : Resolve) (names : List (List ℕ)) (way : Direction) (p : PathTo) → IsKnownItemOf (imports_of imports) names (item_tree (Whole way p))
    → path_place (interfaces_of imports) names p ≡ None → ⊥
item-there imports names way (Local n) known e =
    let f = place-found names n known in
    let g : path_place (interfaces_of imports) names (Local n) ≡ Some (length (interfaces_of imports) + f.0) =
    ap (λ (o : Option ℕ). option_map (λ j. length (interfaces_of imports) + j) o) f.1 in
    absurd (cc (e, g))
item-there imports names way (Foreign a b v n) known e =
    let f = place-some (interfaces_of imports) (record { namespace = a; name = b; version = v }) n known.0 known.1 known.2 known.3 in
    absurd (cc (e, f.1))

pub path-defined : (imports : Resolve) (names : List (List ℕ)) (t : Table) (k : ℕ) (way : Direction) (d : Side) (p : PathTo) (id : InterfaceId) (place : ℕ) → t.interfaces ≡ import_names imports ++ names
    → d ≡ direction_meaning way → id.0 ≡ place → path_place (interfaces_of imports) names p ≡ Some place
    → DefinesItem t t k (record { direction = d; kind = item.Interface id }) (tree_item_meaning (item_tree (Whole way p)))
path-defined imports names t k way d p id place is same at e = by p e
  where
    before : length (import_names imports) ≡ length imports.interfaces
    before = length-map imports.interfaces (full_name imports)

    counted : length (interfaces_of imports) ≡ length imports.interfaces
    counted = imports-length imports.packages imports.definitions 0 imports.interfaces

    long : length t.interfaces ≡ length imports.interfaces + length names
    long = omega (arith, ap length is, length-append (import_names imports) names, before)

    own : (n : List ℕ) (o : Option ℕ) → place_of names n ≡ o → option_map (λ j. length (interfaces_of imports) + j) o ≡ Some place
        → DefinesItem t t k (record { direction = d; kind = item.Interface id }) (tree_item_meaning (item_tree (Whole way (Local n))))
    own n None f g = absurd (cc)
    own n (Some j) f g =
        let here : length (interfaces_of imports) + j ≡ place = cc in
        let l = place-below names n j f in
        let so : length imports.interfaces + j ≡ place = omega (arith, here, counted) in
        interface-defined t k (direction_meaning way) d n id place same at (omega (arith, l, long, so))
        (ap (λ (ns : List (List ℕ)). get_or ns place []) is ∙ ap (λ (m : ℕ). get_or (import_names imports ++ names) m []) (sym so)
        ∙ get_or-append-right (import_names imports) names [] (length imports.interfaces) j (sym before) ∙ place-at names n j [] f)

    by : (p : PathTo) → path_place (interfaces_of imports) names p ≡ Some place
        → DefinesItem t t k (record { direction = d; kind = item.Interface id }) (tree_item_meaning (item_tree (Whole way p)))
    by (Local n) e = own n (place_of names n) refl e
    by (Foreign a b v n) e =
        let q : PackageParts = record { namespace = a; name = b; version = v } in
        let f = place-is (interfaces_of imports) q n place e in
        let below : place < length imports.interfaces = omega (arith, f.below, counted) in
        interface-defined t k (direction_meaning way) d _ id place same at (omega (arith, below, long))
        (ap (λ (ns : List (List ℕ)). get_or ns place []) is ∙ get_or_append_left (import_names imports) names [] place (omega (arith, below, before))
        ∙ import-named imports place below q n f)
