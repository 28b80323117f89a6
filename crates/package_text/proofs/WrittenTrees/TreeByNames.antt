-- The tree of a package as its names tell it: a use is written for what its row stands for, by the path that the name of its interface spells.
use Rattle.std.proofs.Common.{ℕ, List, [], ◌∷◌, ◌++◌, map, flat_map, slice_get}
use Rattle.wit_tokens.specs.Syntax.{Entry, Uses, Defines, Declares, Alias, WorldEntry, Whole, Single, FileEntry, AnInterface, AWorld, File}
use Rattle.wit_print.specs.Unplaced.{nowhere}
use Rattle.tables.specs.Package.{Tree, Reference, Meaning, IsUse, IsType, IsFunction, NamedDefinition, ItemMeaning, WithInterface, WithFunction}
use Rattle.tables.specs.declared.tables.Interface.{Interface}
use Rattle.tables.specs.declared.tables.World.{World}
use Rattle.tables.specs.declared.tables.Resolve.{Resolve}
use Rattle.package_form.specs.Form.{ids_of}
use Rattle.package_text.specs.Written.{ty_of, body_of, direction_for}
use Rattle.package_text.specs.Tree.{own_names, own_trees, definitions_in, local_of, function_by, interfaces_of_package, own_item, own_parts}
use Rattle.package_text.proofs.WrittenTrees.PathsSpelledByNames.{path_named}

abbrev pub use_entry : Tree → List ℕ → Entry
use_entry (Reference k) l = Uses nowhere (path_named k.interface) (record { name = k.name; local = local_of k.name l } ∷ [])
use_entry t l = Defines nowhere l (Alias (ty_of t))

abbrev pub entry_by : List ℕ → Meaning → Entry
entry_by n (IsUse t) = use_entry t n
entry_by n (IsType t) = Defines nowhere n (body_of t)
entry_by n (IsFunction fs result) = Declares nowhere n (function_by fs result)

abbrev pub entry_of : NamedDefinition → Entry
entry_of d = entry_by d.key.name d.meaning

abbrev pub interface_definitions : Resolve → Interface → List NamedDefinition
interface_definitions r i = flat_map (λ k. definitions_in (own_names r) (own_trees r) (slice_get r.definitions k)) (ids_of i)

abbrev pub interface_entry : Resolve → Interface → FileEntry
interface_entry r i = AnInterface i.name (map entry_of (interface_definitions r i))

abbrev pub item_entry : ItemMeaning → WorldEntry
item_entry (WithInterface way i) = Whole (direction_for way) (path_named i)
item_entry (WithFunction way n fs result) = Single (direction_for way) nowhere n (function_by fs result)

abbrev pub world_entry : Resolve → World → FileEntry
world_entry r w = AWorld nowhere w.name (map (λ i. item_entry (own_item r i)) w.items)

abbrev pub file_of : Resolve → File
file_of r =
    let p = own_parts r.packages in record {
      namespace = p.namespace;
      name = p.name;
      version = p.version;
      entries = map (interface_entry r) (interfaces_of_package r) ++ map (world_entry r) r.worlds;
    }
