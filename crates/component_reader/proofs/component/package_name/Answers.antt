use Rattle.std.proofs.Common.{refl, sym, ◌∙◌}
use Rattle.atoms.specs.FullName.{full_name_text}
use Rattle.component_reader.specs.Names.{parts_view}
use Rattle.component_reader.proofs.CutPartsAreNameParts.{parts-cut}
use Rattle.component_reader.proofs.FullNamesAreNoLabels.{package-label}
use Rattle.component_reader.proofs.component.package_name.Goals as goal

pub from_bytes-requires : goal.from_bytes-requires
from_bytes-requires c = package-label _ c.requires.namespace

pub from_bytes-requires-2 : goal.from_bytes-requires-2
from_bytes-requires-2 c = package-label _ c.requires.package_name

pub returns : goal.returns
returns c =
    let parts = parts_view c.args.name in
    let cut = parts-cut (full_name_text parts) parts c.requires in
    rw (c.in_ok-from_bytes.ensures ∙ sym cut.0, c.in_ok-from_bytes-2.ensures ∙ sym cut.1, c.in_ok-copy_version.ensures ∙ sym cut.3) refl
