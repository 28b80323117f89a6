-- What paths name.
use Rattle.std.proofs.Common.{◌≡◌, ◌+◌, ◌<◌, ◌∙◌, ℕ, zero, suc, true, false, Bool, ◌||◌, IsTrue, ◌↔◌, is_some, List, [], ◌∷◌, ◌++◌, append_assoc, Option, map, flat_map, take, drop, length, get_or, ap, refl, sym, subst, arith, All}
use Rattle.std.specs.Prelude.{Contains, Some, None}
use Rattle.std.specs.List.{list_any}
use Rattle.wit_tokens.specs.Syntax.{PathTo, Local, Foreign, Whole}
use Rattle.wit_tokens.specs.View.{path_view, version_view}
use Rattle.wit_tokens.specs.declared.wit_syntax.ast.Direction.{Direction}
use Rattle.wit_tokens.specs.declared.wit_syntax.ast.PackageId.{PackageId}
use Rattle.wit_tokens.specs.declared.wit_syntax.ast.Path.{Path}
use Rattle.wit_tokens.specs.declared.wit_syntax.ast.Path.TheVariants as path
use Rattle.tables.specs.PackageNames.{PackageParts}
use Rattle.package_form.specs.Closed.{is_same_package}
use Rattle.package_form.proofs.AllAndContains.{contains-here, contains-later, flat_map-more, all-append}
use Rattle.package_form.proofs.FullNamesStandForInterfaces.{package-is, same-itself}
use Rattle.tree_meaning.specs.Declarations.{path_packages, path_interface, item_tree}
use Rattle.tree_meaning.specs.Imports.{Imports, HasImport, import_place}
use Rattle.tree_meaning.specs.Knowing.{IsThere}
use Rattle.tree_meaning.specs.Resolves.{place_of, IsKnownItemOf, IsUnknownItem, IsLacking}
use Rattle.tree_meaning.specs.Finished.{header_name}
use Rattle.tree_meaning.proofs.NamesFoundInLists.{place-has, place-lacks}
use Rattle.tree_meaning.proofs.ImportsFoundByName.{place-none, place-there}
use Rattle.tree_meaning.proofs.PackageOfAFile.{version-is}

-- ---- packages

pub parts-are : (id : PackageId) → ◌≡◌ {A = PackageParts} (record { namespace = id.namespace; name = id.name; version = version_view id.version }) (header_name id)
parts-are id = rw (version-is id.version) refl

pub names-package : (q : Path) (id : PackageId) (i : List ℕ) → q ≡ path.Foreign id i → path_packages (path_view q) ≡ header_name id ∷ []
names-package q id i e = ap (λ (x : Path). path_packages (path_view x)) e ∙ ap (λ (p : PackageParts). p ∷ []) (parts-are id)

-- a package of this name is one of these
pub any-there : (ps : List PackageParts) (q : PackageParts) → list_any (λ p. is_same_package p q) ps ≡ true → Contains ps q
any-there [] q e = absurd (cc)
any-there (p ∷ ps) q e = by (is_same_package p q) refl e (any-there ps q)
  where
    by : (b : Bool) → is_same_package p q ≡ b → (b || list_any (λ p. is_same_package p q) ps) ≡ true → (list_any (λ p. is_same_package p q) ps ≡ true → Contains ps q) → Contains (p ∷ ps) q
    by true f g rest = subst (Contains (p ∷ ps)) (package-is p q f) (contains-here p ps)
    by false f g rest = contains-later p q ps (rest g)

pub any-not : (ps : List PackageParts) (q : PackageParts) → list_any (λ p. is_same_package p q) ps ≡ false → ¬ Contains ps q
any-not [] q e c = omega (arith, c.1)
any-not (p ∷ ps) q e c = by (is_same_package p q) refl e c (any-not ps q)
  where
    by : (b : Bool) → is_same_package p q ≡ b → (b || list_any (λ p. is_same_package p q) ps) ≡ false → Contains (p ∷ ps) q → (list_any (λ p. is_same_package p q) ps ≡ false → ¬ Contains ps q) → ⊥
    by true f g d rest = absurd (cc)
    by false f g (zero, l, is) rest = let t : is_same_package p q ≡ true = ap (λ (x : PackageParts). is_same_package x q) is ∙ same-itself q in absurd (cc)
    by false f g (suc n, l, is) rest = rest g (n, omega (arith, l), is)

-- one more that names none but what is there
pub all-more : {A B C : Type 0} (P : C → Type 0) (f : B → List C) (g : A → B) (xs : List A) (k : ℕ) (x : A) → k < length xs → x ≡ get_or xs k x → All P (flat_map f (map g (take k xs))) → All P (f (g x))
    → All P (flat_map f (map g (take (k + 1) xs)))
all-more P f g xs k x l e before here =
    subst (All P) (sym (flat_map-more f g xs k x l e)) (all-append P (flat_map f (map g (take k xs))) (f (g x)) before here)

-- what the items name before one, what it names, and what those behind it name
split-flat : {A B C : Type 0} (f : B → List C) (g : A → B) (xs : List A) (k : ℕ) (x : A) → k < length xs → x ≡ get_or xs k x
    → flat_map f (map g xs) ≡ flat_map f (map g (take k xs)) ++ (f (g x) ++ flat_map f (map g (drop (suc k) xs)))
split-flat f g [] k x l e = absurd (omega (arith, l))
split-flat f g (y ∷ xs) zero x l e = ap (λ z. f (g z) ++ flat_map f (map g xs)) (sym e)
split-flat f g (y ∷ xs) (suc k) x l e =
    ap (λ l. f (g y) ++ l) (split-flat f g xs k x (omega (arith, l)) e)
    ∙ sym (append_assoc (f (g y)) (flat_map f (map g (take k xs))) (f (g x) ++ flat_map f (map g (drop (suc k) xs))))

-- the first that this item names and that isn't there is the first of all, if all before it are there
pub lacking-more : {A B : Type 0} (there : List PackageParts) (f : B → List PackageParts) (g : A → B) (xs : List A) (k : ℕ) (x : A) (p : PackageParts) → k < length xs → x ≡ get_or xs k x
    → All (Contains there) (flat_map f (map g (take k xs))) → IsLacking there (f (g x)) p → IsLacking there (flat_map f (map g xs)) p
lacking-more there f g xs k x p l e earlier here =
    let front = flat_map f (map g (take k xs)) in
    let back = flat_map f (map g (drop (suc k) xs)) in
    record {
      before = front ++ here.before;
      after = here.after ++ back;
      are =
          split-flat f g xs k x l e
          ∙ ap (λ l. front ++ (l ++ back)) here.are
          ∙ ap (λ l. front ++ l) (append_assoc here.before (p ∷ here.after) back)
          ∙ sym (append_assoc front here.before (p ∷ (here.after ++ back)));
      have = all-append (Contains there) front here.before earlier here.have;
      lacks = here.lacks;
    }

-- ---- interfaces

some-so : {A : Type 0} (o : Option A) (P : Type 0) → ((x : A) → o ≡ Some x → P) → (o ≡ None → ¬ P) → IsTrue (is_some o) ↔ P
some-so None P f g = (λ e. absurd (cc), λ h. absurd (g refl h))
some-so (Some x) P f g = (λ e. f x refl, λ h. refl)

pub local-there : (m : Imports) (names : List (List ℕ)) (q : Path) (n : List ℕ) (o : Option ℕ) → q ≡ path.Local n → o ≡ place_of names n → IsTrue (is_some o) ↔ IsThere m names (path_view q)
local-there m names q n o e f =
    subst (λ (x : Path). IsTrue (is_some o) ↔ IsThere m names (path_view x)) (sym e)
    (some-so o (Contains names n) (λ j g. place-has names n j (sym f ∙ g)) (λ g. place-lacks names n (sym f ∙ g)))

pub foreign-there : (m : Imports) (names : List (List ℕ)) (q : Path) (id : PackageId) (i : List ℕ) (o : Option ℕ) → q ≡ path.Foreign id i → o ≡ import_place m.interfaces (header_name id) i
    → IsTrue (is_some o) ↔ IsThere m names (path_view q)
foreign-there m names q id i o e f =
    subst (λ (x : Path). IsTrue (is_some o) ↔ IsThere m names (path_view x)) (sym e)
    (subst (λ (p : PackageParts). IsTrue (is_some o) ↔ HasImport m p i) (sym (parts-are id))
    (some-so o (HasImport m (header_name id) i) (λ j g. place-there m (header_name id) i j (sym f ∙ g)) (λ g. place-none m (header_name id) i (sym f ∙ g))))

pub item-known : (m : Imports) (names : List (List ℕ)) (way : Direction) (p : PathTo) → IsThere m names p → IsKnownItemOf m names (item_tree (Whole way p))
item-known m names way (Local n) h = h
item-known m names way (Foreign a b v n) h = h

pub item-unknown : (m : Imports) (names : List (List ℕ)) (way : Direction) (p : PathTo) → (¬ IsThere m names p) → IsUnknownItem m names (item_tree (Whole way p)) (path_interface p)
item-unknown m names way (Local n) h = (refl, h)
item-unknown m names way (Foreign a b v n) h = (refl, h)
