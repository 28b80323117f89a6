use Rattle.std.proofs.Common.{◌∙◌, List, ℕ, ap, sym}
use Rattle.std.specs.Map.{lookup}
use Rattle.std.specs.Str.{bytes_eq}
use Rattle.std.specs.String.{string_bytes}
use Rattle.package_names.proofs.InterfacesIndexedByName.{looked-up}
use Rattle.package_names.proofs.indexed.NamePlaces.get.Goals as goal

pub returns : goal.returns
returns c =
    let es = c.self.inside.places.entries in
    c.copied.ensures ∙ c.get.ensures.value
    ∙ ap (λ (n : List ℕ). lookup (λ s. bytes_eq n (string_bytes s)) es) c.as_str.ensures.is
    ∙ sym (looked-up c.args.name.now es)
    ∙ ap (lookup (bytes_eq c.args.name.now)) c.self.view_is
