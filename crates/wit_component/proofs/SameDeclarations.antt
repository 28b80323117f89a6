-- Declarations that are compared.
use Rattle.std.proofs.Common.{◌≡◌, ℕ, ◌+◌, ◌<◌, ◌≤◌, Bool, true, false, List, [], ◌∷◌, map, drop, length, get_or, Option, refl, ap, sym, ◌∙◌, arith}
use Rattle.std.specs.Prelude.{Decides, option_map, string_bytes}
use Rattle.std.specs.Global.{Vec}
use Rattle.std.specs.Str.{bytes_eq}
use Rattle.std.proofs.lemmas.Bool.Decides.{Decides-like, Decides-at}
use Rattle.std.proofs.lemmas.Slice.Eq.{bytes_eq-Decides}
use Rattle.std.proofs.lemmas.List.{drop_all, length-map}
use Rattle.atoms.specs.Label.{is_label, IsLabel}
use Rattle.atoms.specs.FullName.{full_name_text, is_package_label, is_version_or_none}
use Rattle.atoms.specs.FullNameView.{name_parts_of}
use Rattle.atoms.specs.declared.full_name.FullName.{FullName}
use Rattle.ctype_format.specs.Raw.{Component, Instance, Decl, Decls}
use Rattle.ctype_format.specs.View.{type_view, decl_view, decls_of}
use Rattle.ctype_format.specs.declared.raw.RawDecl.{RawDecl}
use Rattle.ctype_format.specs.declared.raw.RawType as t
use Rattle.ctype_format.specs.declared.raw.RawType.{RawType}
use Rattle.ctype_format.proofs.ScopedTypeViews.{view-Component, view-Instance}
use Rattle.tables.specs.PackageNames.{PackageParts}
use Rattle.tables.proofs.ClosedTypesRowByRow.{both}
use Rattle.package_form.specs.Closed.{is_same_version}
use Rattle.package_form.specs.Form.{is_package_name}
use Rattle.package_form.proofs.FullNamesStandForInterfaces.{full-name-parts, package-is, same-itself}
use Rattle.component_reader.proofs.FullNamesAreNoLabels.{no-label}
use Rattle.wit_component.proofs.WorldsWritten.{next-of}

-- ---- names

abbrev package_of : FullName → PackageParts
package_of n = record { namespace = n.namespace; name = n.«package»; version = option_map string_bytes n.version }

is-named : (n : FullName) → is_package_name (package_of n) ≡ true
is-named n =
    both (is_package_label n.namespace) _ n.namespace_is (both (is_package_label n.«package») (is_version_or_none (option_map string_bytes n.version)) n.package_is n.version_is)

-- full names of one text have the same parts
pub same-parts : (a b : FullName) → IsLabel a.name → IsLabel b.name → full_name_text (name_parts_of a) ≡ full_name_text (name_parts_of b)
    → name_parts_of a ≡ name_parts_of b
same-parts a b la lb e =
    let x = full-name-parts (package_of a) (package_of b) a.name b.name (is-named a) (is-named b) la lb e in
    λ j. record { namespace = (x.0 j).namespace; package_name = (x.0 j).name; name = x.1 j; version = (x.0 j).version }

abbrev versioned : Option (List ℕ) → PackageParts
versioned v = record { namespace = []; name = []; version = v }

version-is : (v w : Option (List ℕ)) → is_same_version v w ≡ true → v ≡ w
version-is v w h = ap (λ (p : PackageParts). p.version) (package-is (versioned v) (versioned w) h)

version-itself : (v : Option (List ℕ)) → is_same_version v v ≡ true
version-itself v = same-itself (versioned v)

pub same-versions : (v w : Option (List ℕ)) → Decides (is_same_version v w) (v ≡ w)
same-versions v w = (version-is v w, λ e. ap (λ u. is_same_version u w) e ∙ version-itself w)

pub same-texts : (a b : FullName) → a.name ≡ b.name → a.«package» ≡ b.«package» → a.namespace ≡ b.namespace → option_map string_bytes a.version ≡ option_map string_bytes b.version
    → full_name_text (name_parts_of a) ≡ full_name_text (name_parts_of b)
same-texts a b n p s v = λ j. full_name_text (record { namespace = s j; package_name = p j; name = n j; version = v j })

pub same-bytes : (a b x y : List ℕ) (r : Bool) → x ≡ a → y ≡ b → r ≡ bytes_eq x y → Decides r (a ≡ b)
same-bytes a b x y r ea eb er =
    Decides-like r (λ e. sym ea ∙ e ∙ eb) (λ e. ea ∙ e ∙ sym eb) (Decides-at r (bytes_eq x y) er (bytes_eq-Decides x y))

-- no label is a full name
pub label-differs : (l : List ℕ) (n : FullName) → IsLabel l → l ≡ full_name_text (name_parts_of n) → ⊥
label-differs l n label e =
    let no : is_label l ≡ false = ap is_label e ∙ no-label (name_parts_of n) in
    let yes : is_label l ≡ true = label in
    absurd (cc)

-- ---- types with declarations

pub same-list : (xs ys : List Decl) → decls_of xs ≡ decls_of ys → xs ≡ ys
same-list [] [] e = refl
same-list [] (y ∷ ys) e = absurd (cc)
same-list (x ∷ xs) [] e = absurd (cc)
same-list (x ∷ xs) (y ∷ ys) e =
    let head : x ≡ y = cc in
    let rest : decls_of xs ≡ decls_of ys = cc in
    λ j. head j ∷ same-list xs ys rest j

pub of-component : (x y : Decls) → Component x ≡ Component y → x ≡ y
of-component x y e = cc

of-instance : (x y : Decls) → Instance x ≡ Instance y → x ≡ y
of-instance x y e = cc

pub components-decide : (a b : Vec RawDecl) (r : Bool) → Decides r (map decl_view a.items ≡ map decl_view b.items) → Decides r (type_view (t.Component a) ≡ type_view (t.Component b))
components-decide a b r =
    Decides-like r (λ e. view-Component a ∙ ap (λ (ds : List Decl). Component (decls_of ds)) e ∙ sym (view-Component b))
    (λ e. same-list _ _ (of-component _ _ (sym (view-Component a) ∙ e ∙ view-Component b)))

pub instances-decide : (a b : Vec RawDecl) (r : Bool) → Decides r (map decl_view a.items ≡ map decl_view b.items) → Decides r (type_view (t.Instance a) ≡ type_view (t.Instance b))
instances-decide a b r =
    Decides-like r (λ e. view-Instance a ∙ ap (λ (ds : List Decl). Instance (decls_of ds)) e ∙ sym (view-Instance b))
    (λ e. same-list _ _ (of-instance _ _ (sym (view-Instance a) ∙ e ∙ view-Instance b)))

module _ (s o : RawType) (a b : Vec RawDecl) (xs ys : List RawDecl) (r : Bool) (ex : xs ≡ a.items) (ey : ys ≡ b.items) (d : Decides r (map decl_view xs ≡ map decl_view ys)) where
  items : Decides r (map decl_view a.items ≡ map decl_view b.items)
  items = Decides-like r (λ e. ap (map decl_view) (sym ex) ∙ e ∙ ap (map decl_view) ey) (λ e. ap (map decl_view) ex ∙ e ∙ sym (ap (map decl_view) ey)) d

  pub component-types : s ≡ t.Component a → o ≡ t.Component b → Decides r (type_view s ≡ type_view o)
  component-types es eo = Decides-like r (λ e. ap type_view es ∙ e ∙ sym (ap type_view eo)) (λ e. sym (ap type_view es) ∙ e ∙ ap type_view eo) (components-decide a b r items)

  pub instance-types : s ≡ t.Instance a → o ≡ t.Instance b → Decides r (type_view s ≡ type_view o)
  instance-types es eo = Decides-like r (λ e. ap type_view es ∙ e ∙ sym (ap type_view eo)) (λ e. sym (ap type_view es) ∙ e ∙ ap type_view eo) (instances-decide a b r items)

-- ---- lists

-- what holds of lists from a place on
pub record SameFrom {A B : Type 0} (f : A → B) (k : ℕ) (xs ys : List A) : Type 0 where
  pub whole : map f (drop k xs) ≡ map f (drop k ys) → map f xs ≡ map f ys
  pub part : map f xs ≡ map f ys → map f (drop k xs) ≡ map f (drop k ys)

module _ {A B : Type 0} (f : A → B) (xs ys : List A) where
  pub same-from-start : SameFrom f 0 xs ys
  same-from-start = record { whole = λ e. e; part = λ e. e }

  module _ (k : ℕ) (x y : A) (l : k < length xs) (m : k < length ys) (xis : x ≡ get_or xs k x) (yis : y ≡ get_or ys k y) (s : SameFrom f k xs ys) where
    front : map f (drop k xs) ≡ f x ∷ map f (drop (k + 1) xs)
    front = ap (map f) (next-of xs k x l xis)

    other : map f (drop k ys) ≡ f y ∷ map f (drop (k + 1) ys)
    other = ap (map f) (next-of ys k y m yis)

    pub same-next : f x ≡ f y → SameFrom f (k + 1) xs ys
    same-next e = record {
      whole = λ rest. s.whole (front ∙ (λ j. e j ∷ rest j) ∙ sym other);
      part = λ all. by _ _ _ _ (sym front ∙ s.part all ∙ other);
    }
      where
        by : (a b : B) (ls ms : List B) → a ∷ ls ≡ b ∷ ms → ls ≡ ms
        by a b ls ms e = cc

    pub same-here : map f xs ≡ map f ys → f x ≡ f y
    same-here all = by _ _ _ _ (sym front ∙ s.part all ∙ other)
      where
        by : (a b : B) (ls ms : List B) → a ∷ ls ≡ b ∷ ms → a ≡ b
        by a b ls ms e = cc

  pub same-to-end : (k : ℕ) → length xs ≤ k → length xs ≡ length ys → SameFrom f k xs ys → map f xs ≡ map f ys
  same-to-end k l e s = s.whole (ap (map f) (none-left xs l) ∙ sym (ap (map f) (none-left ys (omega (arith, l, e)))))
    where
      none-left : (zs : List A) → length zs ≤ k → drop k zs ≡ []
      none-left zs l = drop_all k zs l

  pub same-length : map f xs ≡ map f ys → length xs ≡ length ys
  same-length e = sym (length-map xs f) ∙ ap length e ∙ length-map ys f
