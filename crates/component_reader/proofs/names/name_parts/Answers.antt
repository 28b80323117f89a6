use Rattle.std.proofs.Common.{ap, sym, ◌∙◌}
use Rattle.std.specs.Option.{option_map}
use Rattle.std.specs.String.{string_bytes}
use Rattle.atoms.specs.FullName.{full_name_text}
use Rattle.atoms.specs.FullNameView.{name_parts_of}
use Rattle.atoms.specs.declared.full_name.FullName.{FullName}
use Rattle.ctype_format.specs.Names.{name_view}
use Rattle.component_reader.proofs.FullNamesAreNoLabels.{name-of-parts}
use Rattle.component_reader.proofs.names.name_parts.Goals as goal

pub returns-in-FullName : goal.returns-in-FullName
returns-in-FullName c =
    let name = c.deref-name.result.now in
    name-of-parts _ name _ (ap name_view c.in-FullName.is ∙ ap (λ (n : FullName). full_name_text (name_parts_of n)) (sym c.deref-name.ensures)) c.as_bytes-in-FullName-3.ensures.label
    (λ j. record {
      namespace = c.as_bytes-in-FullName.ensures.is j;
      package_name = c.as_bytes-in-FullName-2.ensures.is j;
      name = c.as_bytes-in-FullName-3.ensures.is j;
      version = option_map string_bytes name.version;
    })
