use Rattle.std.proofs.Common.{◌≡◌, ◌-◌, Bool, cond, List, [], ◌∷◌, ◌++◌, length, slice_get, ap, sym, ◌∙◌}
use Rattle.atoms.specs.FullName.{full_name_text}
use Rattle.tables.specs.PackageNames.{PackageParts}
use Rattle.component_reader.specs.Component.{package_in_name, has_name}
use Rattle.component_reader.specs.Names.{parts_view, package_parts}
use Rattle.component_reader.proofs.CutPartsAreNameParts.{package-cut}
use Rattle.package_form.proofs.NamesMetOneByOne.{on-ok}
use Rattle.component_reader.proofs.component.package_of.Goals as goal
use Rattle.component_reader.proofs.component.package_of.Goals.{then-not-has_name+in_ok-package_name+in_ok-push, else-not-has_name}

pub returns-clause-packages : goal.returns-clause-packages
returns-clause-packages c =
    let items = c.args.packages.now.items in
    let parts = parts_view c.args.name in
    let p = package_in_name (full_name_text parts) in
    let told : has_name (slice_get items (length items - 1)) p ≡ c.has_name.result =
    ap (has_name (slice_get items (length items - 1))) (package-cut (full_name_text parts) parts c.requires)
    ∙ ap (λ (ps : List PackageParts). has_name (slice_get ps (length ps - 1)) (package_parts parts)) (sym c.deref.ensures.value) ∙ sym c.has_name.ensures in
    let all : c.if-not-has_name.packages.items ≡ cond (has_name (slice_get items (length items - 1)) p) items (items ++ p ∷ []) =
    elim c.if-not-has_name.branch [
      | then-not-has_name+in_ok-package_name+in_ok-push w ↦
          ap (λ v. v.items) w.packages-is ∙ w.in_ok-push.ensures.items ∙ ap (λ (q : PackageParts). items ++ q ∷ []) w.in_ok-package_name.ensures
          ∙ ap (λ (b : Bool). cond b items (items ++ p ∷ [])) (sym (told ∙ w.if-not-has_name.true))
      | else-not-has_name w ↦ ap (λ v. v.items) w.packages-is ∙ ap (λ (b : Bool). cond b items (items ++ p ∷ [])) (sym (told ∙ w.if-not-has_name.false))
    ] in
    on-ok c.last_package.result _ all
