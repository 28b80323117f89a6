use Rattle.std.proofs.Common.{◌≡◌, ℕ, List, sym, ap, rules}
use Rattle.ctype_format.proofs.FullNamesAreTested.{full_name_passes, refused}
use Rattle.atoms.specs.FullNameView.{name_parts_of}
use Rattle.component_structure.specs.Bytes.{Full}
use Rattle.component_structure.proofs.reader.full_name.Goals as goal

pub returns-in_ok-new-in-Ok : goal.returns-in_ok-new-in-Ok
returns-in_ok-new-in-Ok c = let same : c.in_ok-new-in-Ok.field-0.value ≡ c.in-Ok.name = search rules in rw same (full_name_passes c.args.text.now (name_parts_of c.in-Ok.name) c.in-Ok.ensures.found, ap (λ (t : List ℕ). Full t) (sym c.in-Ok.ensures.found.spelt))

pub returns-in-Err-BadName : goal.returns-in-Err-BadName
returns-in-Err-BadName c = refused c.args.text.now (rw c.in-Err-BadName.field-0-is at c.in-Err-BadName.ensures.only)
