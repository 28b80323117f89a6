-- What holds of every component that stands for a package.
use Rattle.std.specs.Prelude.{All, Ok}
use Rattle.ctype_bin.specs.FileView.{raw_component_view}
use Rattle.ctype_bin.specs.declared.component.RawComponent.{RawComponent}
use Rattle.tables.specs.declared.tables.Resolve.{Resolve}
use Rattle.package_form.specs.Scope.{AreDistinct}
use Rattle.package_form.specs.Naming.{package_scopes}
use Rattle.component_reader.specs.Component.{candidate_of, Makes}
use Rattle.wit_component.specs.ToComponent.{ComponentStands}

-- read declaration by declaration, each index followed to the declaration that took it, a component reads as the table
-- that it is the component of
abbrev pub FollowsComponent : RawComponent → Type 0
FollowsComponent raw = (r : Resolve) → ComponentStands raw r → All AreDistinct (package_scopes r) → Makes (candidate_of (raw_component_view raw)) (Ok r)
