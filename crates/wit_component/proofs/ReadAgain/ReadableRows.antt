-- The rows of an interface whose declarations can be read again, and what is read of them.
use Rattle.std.proofs.Common.{◌≡◌, ℕ, ◌+◌, ◌<◌, ◌≤◌, Bool, true, false, ◌&&◌, nat_le, nat_lt, List, [], ◌∷◌, ◌++◌, length, slice_get, slice_index, Option, None, Some}
use Rattle.std.specs.List.{list_all}
use Rattle.atoms.specs.Label.{is_label}
use Rattle.package_form.specs.Postfix.{is_unnamed_row, is_inner, inner_row}
use Rattle.package_form.specs.Ids.{function_id}
use Rattle.tables.specs.Tables.{is_type_id}
use Rattle.tables.specs.declared.tables.TypeId.{TypeId}
use Rattle.tables.specs.declared.tables.ValType.{ValType}
use Rattle.tables.specs.declared.tables.ValType.TheVariants as val
use Rattle.tables.specs.declared.tables.TypeDefKind.{TypeDefKind}
use Rattle.tables.specs.declared.tables.TypeDefKind.TheVariants as kind
use Rattle.tables.specs.declared.tables.TypeName.{TypeName}
use Rattle.tables.specs.declared.tables.Parameter.{Parameter}
use Rattle.tables.specs.declared.tables.Definition.{Definition}
use Rattle.tables.specs.declared.tables.Definition.TheVariants as row
use Rattle.component_reader.specs.Instance.{Nothing, AType, InstanceRead, type_named, awaiting, with_unnamed, named_row, with_named, with_index, alias_to, function_row}
use Rattle.package_form.specs.Reached.{name_at}
use Rattle.component_reader.specs.Types.{row_at}
use Rattle.package_form.specs.References.{kind_references, row_references}
use Rattle.wit_component.specs.Rows.{Place}
use Rattle.wit_component.proofs.ReadAgain.TypesOfRows.{is_defined}

-- a type of the table from place start on, and before place n
abbrev pub is_inside : List Definition → ℕ → ℕ → TypeId → Bool
is_inside table start n t = nat_le start t.0 && (nat_lt t.0 n && is_type_id table t)

-- A row of interface k at place n of the table, where the interface's rows begin at start. A used name's type is the one around at index m.
pub data IsReadable (table : List Definition) (around : List (Option TypeId)) (start k n m : ℕ) : Definition → Type 0 where
  inner : (what : TypeDefKind) → is_inner what ≡ true → list_all (is_inside table start n) (kind_references what) ≡ true
      → IsReadable table around start k n m (inner_row what)
  defines : (x : List ℕ) (what : TypeDefKind) → is_label x ≡ true → is_defined what ≡ true → list_all (is_inside table start n) (kind_references what) ≡ true
      → IsReadable table around start k n m (named_row k x what)
  renames : (x : List ℕ) (t : TypeId) → is_label x ≡ true → is_inside table start n t ≡ true → is_unnamed_row (slice_get table t.0) ≡ false
      → IsReadable table around start k n m (named_row k x (alias_to t))
  used : (x : List ℕ) (t u : TypeId) (y : TypeName) → is_label x ≡ true → row_at around m ≡ Some u
      → name_at table (Some t) ≡ Some y → name_at table (Some u) ≡ Some y → u.0 < start → IsReadable table around start k n m (named_row k x (kind.Use t))
  function : (x : List ℕ) (ps : List Parameter) (result : Option ValType) → is_label x ≡ true
      → list_all (is_inside table start n) (row_references (function_row k x ps result)) ≡ true → IsReadable table around start k n m (function_row k x ps result)

-- each of these rows, the first of which stands at place n; its used type would be at index m
pub data AreReadable (table : List Definition) (around : List (Option TypeId)) (start k : ℕ) : ℕ → ℕ → List Definition → Type 0 where
  no_rows : (n m : ℕ) → AreReadable table around start k n m []
  row_first : (n m : ℕ) (d : Definition) (ds : List Definition) → slice_get table n ≡ Some d → IsReadable table around start k n m d
      → AreReadable table around start k (n + 1) (m + 1) ds → AreReadable table around start k n m (d ∷ ds)

-- ---- what is read of a row

-- a definition takes an index of its own
abbrev pub definition_indexed : TypeDefKind → InstanceRead → InstanceRead
definition_indexed (kind.Alias (val.Id t)) s = s
definition_indexed _ s = with_index s

abbrev pub type_after : ℕ → Option TypeName → TypeDefKind → InstanceRead → InstanceRead
type_after k None what s = with_unnamed s what
type_after k (Some x) what s = with_named k x.name what (definition_indexed what s)

abbrev pub with_function : ℕ → List ℕ → List Parameter → Option ValType → InstanceRead → InstanceRead
with_function k n ps result s = record {
  rows = s.rows ++ function_row k n ps result ∷ [];
  indices = s.indices ++ None ∷ [];
  awaited = Nothing;
  names = s.names;
  uses = s.uses;
  types = s.types;
  functions = s.functions ++ function_id (length s.rows) ∷ [];
}

-- where nothing is awaited
abbrev pub row_after : ℕ → Definition → InstanceRead → InstanceRead
row_after k (row.Type d) s = type_after k d.name d.kind s
row_after k (row.Function f) s = with_function k f.name f.params f.result s

abbrev pub rows_after : ℕ → List Definition → InstanceRead → InstanceRead
rows_after k [] s = s
rows_after k (d ∷ ds) s = rows_after k ds (row_after k d s)

-- a row of interface k, or one without a name
pub data IsRowOf (k : ℕ) : Definition → Type 0 where
  nameless : (what : TypeDefKind) → is_inner what ≡ true → IsRowOf k (inner_row what)
  type_of_it : (x : List ℕ) (what : TypeDefKind) → IsRowOf k (named_row k x what)
  function_of_it : (x : List ℕ) (ps : List Parameter) (result : Option ValType) → IsRowOf k (function_row k x ps result)

abbrev pub AreRowsOf : ℕ → List Definition → Type 0
AreRowsOf k [] = Unit {0}
AreRowsOf k (d ∷ ds) = IsRowOf k d × AreRowsOf k ds

-- the second is the first when what was defined last has no name; it has none in the table
pub data IsSettled (table : List Definition) : InstanceRead → InstanceRead → Type 0 where
  rests : (s : InstanceRead) → s.awaited ≡ Nothing → IsSettled table s s
  awaits : (s : InstanceRead) (what : TypeDefKind) → is_unnamed_row (slice_get table (length s.rows)) ≡ true
      → IsSettled table (awaiting s (AType what)) (with_unnamed s what)

-- the name stands for a type of interface k from place start on, and before place n
pub record NamesType (table : List Definition) (start k n : ℕ) (s : InstanceRead) (y : TypeName) : Type 0 where
  pub id : TypeId
  pub found : type_named s.names y.name ≡ Some id
  pub named : name_at table (Some id) ≡ Some y
  pub lower : start ≤ id.0
  pub upper : id.0 < n
  pub here : y.interface.0 ≡ k

-- what was read of interface k up to this place, where its rows begin at start, and nothing is awaited
pub record HasRead (table : List Definition) (start k : ℕ) (at : Place) (s : InstanceRead) : Type 0 where
  pub awaited : s.awaited ≡ Nothing
  pub types : length s.indices ≡ at.types
  pub rows : length s.rows ≡ length at.indices
  pub begins : start ≤ length at.indices
  pub known : (t : TypeId) → is_inside table start (length at.indices) t ≡ true → row_at s.indices (slice_index at.indices t.0) ≡ Some t
  pub names : (t : TypeId) (y : TypeName) → start ≤ t.0 → t.0 < length at.indices → name_at table (Some t) ≡ Some y → NamesType table start k (length at.indices) s y
