-- Names of a world's items that are met one after the other, and the refusals of its sides.
use Rattle.std.specs.Prelude.{◌⊎◌, List, flat_map}
use Rattle.package_form.specs.Distinct.{AreMet, RefusesNames}
use Rattle.package_form.specs.Naming.{name_in}
use Rattle.package_names.specs.declared.distinct.Sides.{Sides}
use Rattle.tables.specs.Package.{ItemMeaning}
use Rattle.tables.specs.declared.tables.Direction.TheVariants as direction
use Rattle.tables.specs.declared.error.ResolveError.{ResolveError}

-- these are the names of a world's imports, and of its exports, in lower case, each once on its side
pub record AreMetOnSides (items : List ItemMeaning) (sides : Sides) : Type 0 where
  pub imports : AreMet (flat_map (name_in direction.Import) items) sides.imports
  pub exports : AreMet (flat_map (name_in direction.Export) items) sides.exports

-- the refusal of a name that is twice among a world's imports, or twice among its exports (40), or out of memory (46)
abbrev pub RefusesSides : List ItemMeaning → ResolveError → Type 0
RefusesSides items e = RefusesNames (flat_map (name_in direction.Import) items) e ⊎ RefusesNames (flat_map (name_in direction.Export) items) e
