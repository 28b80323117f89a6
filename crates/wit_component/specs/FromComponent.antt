-- What is answered of a raw component.
use Rattle.std.specs.Prelude.{◌≡◌, Bool, true, false, List, [], ◌∷◌}
use Rattle.ctype_format.specs.Raw.{Component, Decls, none, then, TypeEntry}
use Rattle.ctype_bin.specs.FileView.{raw_component_view}
use Rattle.ctype_bin.specs.declared.component.RawComponent.{RawComponent}
use Rattle.tables.specs.declared.error.ResolveError.{ResolveError}
use Rattle.tables.specs.declared.error.ResolveError.TheVariants as error
use Rattle.tables.specs.declared.tables.Resolve.{Resolve}
use Rattle.wit_component.specs.ToComponent.{ComponentStands}
use Rattle.package_form.specs.Naming.{Repeats}

-- there are no declarations
abbrev pub is_none : Decls → Bool
is_none none = true
is_none (then d ds) = false

-- the type is a component type without declarations
abbrev pub has_no_decls : TypeEntry → Bool
has_no_decls (Component ds) = is_none ds
has_no_decls _ = false

-- the one type of the component is a component type without declarations
abbrev pub is_empty_package : List TypeEntry → Bool
is_empty_package [] = false
is_empty_package (t ∷ []) = has_no_decls t
is_empty_package (t ∷ u ∷ ts) = false

-- Why a component is refused: `43 empty package` if its one type is a component type without declarations, `44 not this
-- shape` if it is that of no table, `40 duplicate` if it is that of one with a name twice in a scope. Or out of memory
abbrev pub ClosedComponentRefuses : RawComponent → ResolveError → Type 0
ClosedComponentRefuses raw error.EmptyPackage = is_empty_package (raw_component_view raw).types ≡ true
ClosedComponentRefuses raw error.NotThisShape = (is_empty_package (raw_component_view raw).types ≡ false) × ((r : Resolve) → ComponentStands raw r → ⊥)
ClosedComponentRefuses raw error.NoMemory = Unit {0}
ClosedComponentRefuses raw (error.Duplicate n) = ∥ ((r : Resolve) × ComponentStands raw r × Repeats r n) ∥₁
ClosedComponentRefuses raw _ = ⊥
