-- The type entries of what is kept of a set.
use Rattle.std.proofs.Common.{◌≡◌, ℕ, ◌+◌, List, [], ◌∷◌, length, map, Option, None, Some, refl, ap, ◌∙◌}
use Rattle.std.specs.Prelude.{sum, option_map}
use Rattle.std.proofs.lemmas.List.{length-map}
use Rattle.package_form.specs.Entries.{entries_under, entries_of, entries_at, item_entries, world_entries, type_entries, table_of, labels_of}
use Rattle.set_rows.specs.Moved.{Renaming, put_name, put_kind, put_row, put_item, put_item_kind, put_world, put_interface}
use Rattle.package_sets.specs.Part.{IsTableOf}
use Rattle.set_rows.specs.Renamed.{renaming}
use Rattle.package_sets.specs.Tower.{kept_entries}
use Rattle.set_rows.specs.declared.moved.Moved.{Moved}
use Rattle.tables.specs.declared.tables.Definition.{Definition}
use Rattle.tables.specs.declared.tables.Definition.TheVariants as row
use Rattle.tables.specs.declared.tables.Resolve.{Resolve}
use Rattle.tables.specs.declared.tables.TypeDefKind.{TypeDefKind}
use Rattle.tables.specs.declared.tables.TypeDefKind.TheVariants as kind
use Rattle.tables.specs.declared.tables.TypeName.{TypeName}
use Rattle.tables.specs.declared.tables.ValType.TheVariants as val
use Rattle.tables.specs.declared.tables.World.{World}
use Rattle.tables.specs.declared.tables.WorldItem.{WorldItem}
use Rattle.tables.specs.declared.tables.WorldItemKind.{WorldItemKind}
use Rattle.std.specs.List.{items_where_true}
use Rattle.tables.specs.declared.tables.WorldItemKind.TheVariants as item

-- ---- type entries

entries-under-put : (to : Renaming) (n : Option TypeName) (k : TypeDefKind) → entries_under (option_map (put_name to) n) (put_kind to k) ≡ entries_under n k
entries-under-put to None k = refl
entries-under-put to (Some n) (kind.Use t) = refl
entries-under-put to (Some n) (kind.Alias (val.Primitive p)) = refl
entries-under-put to (Some n) (kind.Alias val.String) = refl
entries-under-put to (Some n) (kind.Alias (val.Id t)) = refl
entries-under-put to (Some n) (kind.List v) = refl
entries-under-put to (Some n) (kind.Option v) = refl
entries-under-put to (Some n) (kind.Result ok error) = refl
entries-under-put to (Some n) (kind.Tuple vs) = refl
entries-under-put to (Some n) (kind.Record fs) = refl
entries-under-put to (Some n) (kind.Variant cs) = refl
entries-under-put to (Some n) (kind.Enum ns) = refl
entries-under-put to (Some n) (kind.Flags ns) = refl

pub entries-put : (to : Renaming) (d : Definition) → entries_of (put_row to d) ≡ entries_of d
entries-put to (row.Type d) = entries-under-put to d.name d.kind
entries-put to (row.Function f) = refl

item-put : (to : Renaming) (k : WorldItemKind) → item_entries (put_item_kind to k) ≡ item_entries k
item-put to (item.Interface i) = refl
item-put to (item.Function f) = refl

map-put : {A : Type 0} (put : A → A) (f : A → ℕ) → ((x : A) → f (put x) ≡ f x) → (xs : List A) → map f (map put xs) ≡ map f xs
map-put put f h [] = refl
map-put put f h (x ∷ xs) = let e = h x in let r = map-put put f h xs in cc

pub world-put : (to : Renaming) (w : World) → world_entries (put_world to w) ≡ world_entries w
world-put to w = ap (λ (ns : List ℕ). 1 + sum ns) (map-put (put_item to) entries_at (λ (i : WorldItem). item-put to i.kind) w.items)

-- what is kept of a set has the type entries of what is kept
pub entries-kept : (set : Resolve) (to : Moved) (r : Resolve) → IsTableOf set to r → type_entries (table_of r) ≡ kept_entries set to.interfaces to.worlds to.rows
entries-kept set to r t =
    let interfaces : length (labels_of r.interfaces) ≡ length (items_where_true to.interfaces set.interfaces) =
    length-map r.interfaces (λ i. i.name) ∙ (ap length t.interfaces ∙ length-map (items_where_true to.interfaces set.interfaces) (put_interface (renaming to))) in
    let worlds : map world_entries r.worlds ≡ map world_entries (items_where_true to.worlds set.worlds) =
    ap (map world_entries) t.worlds ∙ map-put (put_world (renaming to)) world_entries (world-put (renaming to)) (items_where_true to.worlds set.worlds) in
    let rows : map entries_of r.definitions ≡ map entries_of (items_where_true to.rows set.definitions) =
    ap (map entries_of) t.definitions ∙ map-put (put_row (renaming to)) entries_of (entries-put (renaming to)) (items_where_true to.rows set.definitions) in
    ap (λ (n : ℕ). 1 + n + (sum (map world_entries r.worlds) + sum (map entries_of r.definitions))) interfaces
    ∙ (ap (λ (ns : List ℕ). 1 + length (items_where_true to.interfaces set.interfaces) + (sum ns + sum (map entries_of r.definitions))) worlds
    ∙ ap (λ (ns : List ℕ). 1 + length (items_where_true to.interfaces set.interfaces) + (sum (map world_entries (items_where_true to.worlds set.worlds)) + sum ns)) rows)
