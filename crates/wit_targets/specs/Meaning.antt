-- What uses mean, by how they are spelled.
use Rattle.std.specs.Prelude.{Bool, true, false, List, slice_get}
use Rattle.std.specs.Option.{option_map_or}
use Rattle.std.specs.Str.{bytes_eq}
use Rattle.wit_names.specs.declared.file.File.{File}
use Rattle.wit_names.specs.declared.name.Site.{Site}
use Rattle.wit_names.specs.declared.places.Declaration.{Declaration}
use Rattle.wit_names.specs.declared.places.DeclarationId.{DeclarationId}
use Rattle.wit_names.specs.Sites.{spelling}
use Rattle.wit_targets.specs.declared.target.Target.{Target}
use Rattle.wit_targets.specs.declared.target.Target.TheVariants as target

-- whether a name is spelled as the declaration of this id
abbrev pub is_spelled_as : List File → List Declaration → Site → DeclarationId → Bool
is_spelled_as fs ds s id = option_map_or (λ (d : Declaration). bytes_eq (spelling fs s) (spelling fs d.site)) (slice_get ds id.0) false

-- whether a use is spelled as the declaration that it means, if it means one
abbrev pub is_spelled : List File → List Declaration → Site → Target → Bool
is_spelled fs ds s (target.Declaration id) = is_spelled_as fs ds s id
is_spelled fs ds s (target.WrongKind id) = is_spelled_as fs ds s id
is_spelled fs ds s target.Unknown = true
is_spelled fs ds s target.NoPackage = true
is_spelled fs ds s target.Unreadable = true
is_spelled fs ds s target.Ring = true
