-- What a raw component stands for.
use Rattle.std.specs.Prelude.{◌≡◌, ℕ, Bool, true, ◌&&◌, List, [], ◌∷◌, IsTrue, Option, None, Some}
use Rattle.std.specs.List.{list_all}
use Rattle.atoms.specs.Label.{is_label}
use Rattle.ctype_bin.specs.FileView.{raw_component_view}
use Rattle.ctype_bin.specs.declared.component.RawComponent.{RawComponent}
use Rattle.tables.specs.declared.tables.TypeName.{TypeName}
use Rattle.tables.specs.declared.tables.Definition.{Definition}
use Rattle.tables.specs.declared.tables.Definition.TheVariants as row
use Rattle.tables.specs.declared.tables.Interface.{Interface}
use Rattle.tables.specs.declared.tables.World.{World}
use Rattle.tables.specs.declared.tables.Resolve.{Resolve}
use Rattle.wit_component.specs.Component.{component_of}
use Rattle.package_form.specs.Ends.{end_of, rows_of, interfaces_end, world_end, world_rows}
use Rattle.package_form.specs.Form.{IsInPackageForm}

-- the name of a type is a label, if it has one
abbrev pub is_label_if : Option TypeName → Bool
is_label_if None = true
is_label_if (Some n) = is_label n.name

-- the name of a row is a label, if it has one
abbrev pub is_labelled : Definition → Bool
is_labelled (row.Type d) = is_label_if d.name
is_labelled (row.Function f) = is_label f.name

-- the names of these interfaces and of their rows are labels; the rows of the first begin at start
abbrev pub are_labelled : List Definition → ℕ → List Interface → Bool
are_labelled rows start [] = true
are_labelled rows start (i ∷ is) = (is_label i.name && list_all is_labelled (rows_of rows start i)) && are_labelled rows (end_of start i) is

-- the names of these worlds and of their rows are labels; the rows of the first begin at start
abbrev pub are_worlds_labelled : List Definition → ℕ → List World → Bool
are_worlds_labelled rows start [] = true
are_worlds_labelled rows start (w ∷ ws) =
    (is_label w.name && list_all is_labelled (world_rows rows start w)) && are_worlds_labelled rows (world_end start w) ws

-- the component is that of the table, which is in form, and whose interfaces, worlds and rows have labels as names
pub record ComponentStands (raw : RawComponent) (r : Resolve) : Type 0 where
  pub component : raw_component_view raw ≡ component_of r
  pub form : IsInPackageForm r
  pub labels : IsTrue (are_labelled r.definitions 0 r.interfaces)
  pub world_labels : IsTrue (are_worlds_labelled r.definitions (interfaces_end 0 r.interfaces) r.worlds)
