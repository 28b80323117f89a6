-- The set of some packages is told by names.
use Rattle.std.proofs.Common.{◌≡◌, Bool, true, false, ℕ, List, [], ◌∷◌, refl}
use Rattle.std.proofs.Math.Logic.{∥∥₁_map, ∥∥₁_map₂}
use Rattle.opening.specs.Sets.{AddsMember, AddsMembers, IsBinaryOf, IsOfTextBehind, is_binary}
use Rattle.opening.proofs.OneInputAdded.{as-binary, as-text, of-binary, of-text}
use Rattle.package_sets.specs.Tower.{IsInTower}
use Rattle.package_sets.proofs.AttachedSets.KeepsTower.{keeps-tower}
use Rattle.package_sets.proofs.AttachedSets.IsInTower.{none-in-tower}
use Rattle.package_text.specs.Writable.{IsWritable}
use Rattle.tables.specs.declared.tables.Resolve.{Resolve}
use Rattle.opening.specs.ToldSet.{AddsBinary, AddsInput, AddsInputs, AddsText, SetIsTold}
use Rattle.opening.proofs.AddedPackageIsTold.{component-is-told, tree-is-told}

module _ (set : Resolve) (bytes : List ℕ) (closed r : Resolve) (tower : IsInTower set) (w : IsWritable closed) (h : AddsMember set bytes closed r) where
  text : is_binary bytes ≡ false → AddsText set bytes r
  text e =
      let t = of-text bytes (IsBinaryOf bytes closed) (IsOfTextBehind set bytes closed) e h.member in
      record {
        utf8 = t.utf8;
        file = t.file;
        read = t.read;
        fits = t.fits;
        adds = tree-is-told t.file set closed r h.puts.id tower.form w (record { tree = t.tree; attached = h.puts.attached });
      }

  binary : is_binary bytes ≡ true → AddsBinary set bytes r
  binary e =
      let t = of-binary bytes (IsBinaryOf bytes closed) (IsOfTextBehind set bytes closed) e h.member in
      record {
        raw = t.raw;
        spelt = t.spelt;
        adds = component-is-told t.raw set closed r h.puts.id tower.form w (record { component = t.component; behind = h.puts.behind; attached = h.puts.attached });
      }

  input : (b : Bool) → is_binary bytes ≡ b → AddsInput set bytes r
  input true e = as-binary bytes (AddsBinary set bytes r) (AddsText set bytes r) e (binary e)
  input false e = as-text bytes (AddsBinary set bytes r) (AddsText set bytes r) e (text e)

  stays-in-tower : IsInTower r
  stays-in-tower = (keeps-tower set closed tower w.form w.distinct r h.puts.id h.puts.attached).tower

members : (set : Resolve) (inputs : List (List ℕ)) (r : Resolve) → ∥ IsInTower set ∥₁ → AddsMembers set inputs r → ∥ AddsInputs set inputs r ∥₁
members set [] r tower e = ∣ e ∣₁
members set (bytes ∷ rest) r tower (closed, next, h, more) =
    let later = members next rest r (∥∥₁_map₂ tower h.puts.writable (λ t w. stays-in-tower set bytes closed next t w h)) more in
    let here : ∥ AddsInput set bytes next ∥₁ = ∥∥₁_map₂ tower h.puts.writable (λ t w. input set bytes closed next t w h (is_binary bytes) refl) in
    ∥∥₁_map₂ here later (λ i a. (next, i, a))

pub set-is-told : (inputs : List (List ℕ)) (r : Resolve) → SetIsTold inputs r
set-is-told inputs r s = ∥∥₁_map (members s.none inputs r ∣ none-in-tower s.none s.empty ∣₁ s.adds) (λ a. record { none = s.none; empty = s.empty; adds = a })
