use Rattle.std.proofs.Common.{◌≡◌, sym, ap, subst, ◌∙◌}
use Rattle.std.specs.Prelude.{string_bytes}
use Rattle.std.proofs.lemmas.Str.{IsUtf8-string_bytes}
use Rattle.std.proofs.lemmas.Result.{on_ok_weaker}
use Rattle.atoms.specs.FullName.{full_name_text}
use Rattle.atoms.specs.FullNameView.{name_parts_of}
use Rattle.atoms.specs.declared.full_name.FullName.{FullName}
use Rattle.ctype_format.specs.Names.{name_view}
use Rattle.ctype_format.specs.declared.name.ExternName.{ExternName}
use Rattle.ctype_format.specs.Formed.{FormedName}
use Rattle.ctype_format.proofs.FullNamesAreTested.{label_passes, extern_passes, full_name_passes}
use Rattle.ctype_format.proofs.writing.put_extern_name.Goals as goal

pub returns-in-Label-clause-formed : goal.returns-in-Label-clause-formed
returns-in-Label-clause-formed c =
    on_ok_weaker c.put_name.result (λ h. subst (λ (n : ExternName). FormedName (name_view n)) (sym c.in-Label.is) (rw c.as_bytes.ensures.is at h, label_passes c.in-Label.label c.as_bytes.ensures.label)) c.put_name.ensures.formed

pub returns-in_ok-text-in-FullName-clause-formed : goal.returns-in_ok-text-in-FullName-clause-formed
returns-in_ok-text-in-FullName-clause-formed c =
    let text = string_bytes c.in_ok-text-in-FullName.text in
    let spelt : text ≡ full_name_text (name_parts_of c.in-FullName.name.value) = c.in_ok-text-in-FullName.ensures.spelt ∙ ap (λ (n : FullName). full_name_text (name_parts_of n)) c.deref.ensures in
    let passes = extern_passes text (IsUtf8-string_bytes c.in_ok-text-in-FullName.text) (full_name_passes text (name_parts_of c.deref.result.now) c.in_ok-text-in-FullName.ensures.named) in
    on_ok_weaker c.put_name-in-FullName.result (λ h. subst (λ (n : ExternName). FormedName (name_view n)) (sym c.in-FullName.is) (subst FormedName spelt (rw c.as_bytes-in-FullName.ensures.value at h, passes))) c.put_name-in-FullName.ensures.formed
