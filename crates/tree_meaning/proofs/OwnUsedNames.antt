-- Used names, by whether their interface is of the file's own package.
use Rattle.std.proofs.Common.{◌≡◌, ℕ, List, [], ◌∷◌, Option, None, Some, All, refl, ap, Contains}
use Rattle.std.specs.List.{cons_option, filter_map}
use Rattle.package_form.proofs.AllAndContains.{all-none, all-cons, contains-here, contains-later}
use Rattle.wit_tokens.specs.View.{path_view}
use Rattle.wit_tokens.specs.declared.wit_syntax.ast.Path.{Path}
use Rattle.wit_tokens.specs.declared.wit_syntax.ast.Path.TheVariants as path
use Rattle.tables.specs.PackageNames.{PackageParts}
use Rattle.tables.specs.Names.{full_name_in}
use Rattle.tree_meaning.specs.Declarations.{UsedItem, InterfaceTree, path_package, path_interface, own_use, own_interface, use_interface}
use Rattle.tree_meaning.specs.Resolves.{own_uses}
use Rattle.tree_meaning.proofs.FileEntries.{found}

-- it goes by its label
pub own-name : (u : UsedItem) → u.«package» ≡ None → use_interface u ≡ u.interface
own-name u e = ap (λ (o : Option PackageParts). full_name_in o u.interface) e

pub own-used : (i : InterfaceTree) (u : UsedItem) → u.«package» ≡ None → Contains i.uses u → Contains (own_uses i) u.interface
own-used i u e c = found own_use i.uses u u.interface c (ap (λ (o : Option PackageParts). own_interface o u.interface) e)

pub not-local : (q : Path) → ((n : List ℕ) → q ≡ path.Local n → ⊥) → own_interface (path_package (path_view q)) (path_interface (path_view q)) ≡ None
not-local (path.Local n) h = absurd (h n refl)
not-local (path.Foreign id i) h = refl

-- what is said of the own interfaces that are used
pub own-uses-all : (P : List ℕ → Type 0) (us : List UsedItem) → ((u : UsedItem) → Contains us u → u.«package» ≡ None → P u.interface) → All P (filter_map own_use us)
own-uses-all P [] h = all-none P
own-uses-all P (u ∷ us) h = by u.«package» (h u (contains-here u us)) (own-uses-all P us (λ v c. h v (contains-later u v us c)))
  where
    by : (o : Option PackageParts) → (o ≡ None → P u.interface) → All P (filter_map own_use us) → All P (cons_option (own_interface o u.interface) (filter_map own_use us))
    by None here rest = all-cons P u.interface (filter_map own_use us) (here refl) rest
    by (Some q) here rest = rest
