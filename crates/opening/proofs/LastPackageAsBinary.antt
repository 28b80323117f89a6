-- The binary of a set's last package.
use Rattle.std.proofs.Common.{◌≡◌, ◌≤◌, ℕ, true, List, [], length, Ok, refl, ap, sym, subst, ◌∙◌}
use Rattle.std.proofs.Math.Logic.{∥∥₁_map₂}
use Rattle.std.specs.Prelude.{All}
use Rattle.ctype_bin.specs.Encoding.{AppendsSpelling}
use Rattle.ctype_format.specs.File.{decoded}
use Rattle.ctype_bin.specs.FileView.{raw_component_view}
use Rattle.ctype_format.specs.Raw.{BinaryFile}
use Rattle.ctype_format.specs.Writing.{file_bytes}
use Rattle.ctype_bin.specs.declared.component.RawComponent.{RawComponent}
use Rattle.layout.specs.Layout.{AreWithin}
use Rattle.package_form.specs.Form.{IsInPackageForm}
use Rattle.package_form.specs.Naming.{package_scopes}
use Rattle.package_form.specs.Scope.{AreDistinct}
use Rattle.tables.specs.declared.tables.Resolve.{Resolve}
use Rattle.wit_component.specs.ToComponent.{ComponentStands}
use Rattle.opening.specs.Opening.{IsLast, IsWrittenAs}
use Rattle.opening.specs.Sets.{is_binary, IsBinaryOf}

file-begins : (f : BinaryFile) → is_binary (file_bytes f) ≡ true
unfolding file_bytes
file-begins f = refl

-- what a file is written as begins as a binary does
pub begins : (bytes : List ℕ) (f : BinaryFile) → bytes ≡ file_bytes f → is_binary bytes ≡ true
begins bytes f all = ap is_binary all ∙ file-begins f

-- what was appended to nothing is a binary of the package that the component stands for, where it is short enough
is-binary-of : (new : List ℕ) (raw : RawComponent) (r : Resolve) → length new ≤ 1048576 → ComponentStands raw r → All AreDistinct (package_scopes r) → AppendsSpelling [] new (raw_component_view raw) → IsBinaryOf new r
is-binary-of new raw r short stands distinct spelt = record {
  raw = raw;
  spelt = subst (λ xs. decoded xs ≡ Ok (raw_component_view raw)) (sym spelt.appended) (spelt.decodes (subst (λ xs. length xs ≤ 1048576) spelt.appended short));
  component = record { stands = ∣ stands ∣₁; distinct = distinct };
}

-- .. which is written of it
pub written-as : (new : List ℕ) (raw : RawComponent) (r closed : Resolve) → length new ≤ 1048576 → ComponentStands raw closed → is_binary new ≡ true → ∥ AppendsSpelling [] new (raw_component_view raw) ∥₁ → IsLast r closed
    → ∥ IsInPackageForm closed × All AreDistinct (package_scopes closed) ∥₁ → ∥ AreWithin r ∥₁ → ∥ IsWrittenAs new r ∥₁
written-as new raw r closed short stands front spelt last form within =
    let binary = ∥∥₁_map₂ spelt form (λ s f. is-binary-of new raw closed short stands f.1 s) in
    ∥∥₁_map₂ binary within (λ b w. record { begins = front; closed = closed; last = last; binary = b; within = w })
