-- The tests of trees tell what their files name.
use Rattle.std.proofs.Common.{◌≡◌, ◌↔◌, inl, inr, ◌||◌, ◌==◌, ℕ, zero, suc, Bool, true, false, not, List, [], ◌∷◌, map, filter_map, length, Some, refl, ap, sym, subst, ◌∙◌, arith, Contains}
use Rattle.std.specs.List.{list_any}
use Rattle.std.specs.Str.{bytes_eq}
use Rattle.std.proofs.lemmas.Bool.Decides.{nat_tests}
use Rattle.std.proofs.lemmas.Slice.Eq.{bytes_eq-Decides}
use Rattle.package_form.specs.Closed.{is_same_package}
use Rattle.package_form.proofs.AllAndContains.{contains-here, contains-later, contains-map, contains-unmap, contains-flat}
use Rattle.package_form.proofs.MarksOneByOne.{or-true}
use Rattle.package_form.proofs.FullNamesStandForInterfaces.{package-is, same-itself}
use Rattle.package_sets.proofs.GrowingLists.{contains-unflat}
use Rattle.tree_meaning.specs.Declarations.{UsedItem, path_package, path_interface, used_item, entry_uses, interface_tree, interface_of, InterfaceTree, WorldTree, ForeignNamed, item_tree, world_tree, world_of}
use Rattle.tree_meaning.proofs.FileEntries.{found}
use Rattle.tree_meaning.proofs.PathNames.{any-there, any-not}
use Rattle.tables.proofs.ClosedTypesRowByRow.{split, both}
use Rattle.tables.specs.PackageNames.{PackageParts}
use Rattle.wit_tokens.specs.Syntax.{PathTo, Local, Foreign, UsedAs, Entry, Uses, Defines, Declares, WorldEntry, Whole, Single, FileEntry, AnInterface, AWorld, File}
use Rattle.wit_tokens.specs.declared.wit_syntax.ast.Direction.{Direction}
use Rattle.wit_tokens.specs.declared.token.Span.{Span}
use Rattle.package_adding.specs.Named.{NamesInterface, path_names, entry_names_interface, world_entry_names, file_entry_names, any_names}

-- ---- lists

pub any-one : {A : Type 0} (f : A → Bool) (xs : List A) → list_any f xs ≡ true → (x : A) × Contains xs x × (f x ≡ true)
any-one f [] h = absurd (cc)
any-one {A = A} f (x ∷ xs) h = by (f x) refl h (any-one f xs)
  where
    by : (b : Bool) → f x ≡ b → (b || list_any f xs) ≡ true → (list_any f xs ≡ true → (y : A) × Contains xs y × (f y ≡ true)) → (y : A) × Contains (x ∷ xs) y × (f y ≡ true)
    by true e g rest = (x, contains-here x xs, e)
    by false e g rest = let r = rest g in (r.0, contains-later x r.0 xs r.1, r.2)

pub one-any : {A : Type 0} (f : A → Bool) (xs : List A) (x : A) → Contains xs x → f x ≡ true → list_any f xs ≡ true
one-any f [] x c h = absurd (omega (arith, c.1))
one-any f (y ∷ xs) x (zero, l, is) h = ap (λ (b : Bool). b || list_any f xs) (ap f is ∙ h)
one-any f (y ∷ xs) x (suc n, l, is) h = ap (λ (b : Bool). f y || b) (one-any f xs x (n, omega (arith, l), is) h) ∙ or-true (f y)

-- ---- what is declared is an entry's

abbrev IsOfInterface : List FileEntry → InterfaceTree → Type 0
IsOfInterface es j = (n : List ℕ) × (xs : List Entry) × Contains es (AnInterface n xs) × (interface_tree n xs ≡ j)

later : (e : FileEntry) (es : List FileEntry) (j : InterfaceTree) → IsOfInterface es j → IsOfInterface (e ∷ es) j
later e es j (n, xs, c, is) = (n, xs, contains-later e (AnInterface n xs) es c, is)

of-interface : (es : List FileEntry) (j : InterfaceTree) → Contains (filter_map interface_of es) j → IsOfInterface es j
of-interface [] j c = absurd (omega (arith, c.1))
of-interface (AnInterface n xs ∷ es) j (zero, l, is) = (n, xs, contains-here (AnInterface n xs) es, is)
of-interface (AnInterface n xs ∷ es) j (suc k, l, is) = later (AnInterface n xs) es j (of-interface es j (k, omega (arith, l), is))
of-interface (AWorld at n ws ∷ es) j c = later (AWorld at n ws) es j (of-interface es j c)

abbrev IsOfWorld : List FileEntry → WorldTree → Type 0
IsOfWorld es w = (at : Span) × (n : List ℕ) × (xs : List WorldEntry) × Contains es (AWorld at n xs) × (world_tree n xs ≡ w)

behind : (e : FileEntry) (es : List FileEntry) (w : WorldTree) → IsOfWorld es w → IsOfWorld (e ∷ es) w
behind e es w (at, n, xs, c, is) = (at, n, xs, contains-later e (AWorld at n xs) es c, is)

of-world : (es : List FileEntry) (w : WorldTree) → Contains (filter_map world_of es) w → IsOfWorld es w
of-world [] w c = absurd (omega (arith, c.1))
of-world (AnInterface n xs ∷ es) w c = behind (AnInterface n xs) es w (of-world es w c)
of-world (AWorld at n xs ∷ es) w (zero, l, is) = (at, n, xs, contains-here (AWorld at n xs) es, is)
of-world (AWorld at n xs ∷ es) w (suc k, l, is) = behind (AWorld at n xs) es w (of-world es w (k, omega (arith, l), is))

-- ---- paths

path-tells : (q : PackageParts) (i : List ℕ) (p : PathTo) → path_names p q i ≡ true → (path_package p ≡ Some q) × (path_interface p ≡ i)
path-tells q i (Local n) h = absurd (cc)
path-tells q i (Foreign a b v n) h =
    let p : PackageParts = record { namespace = a; name = b; version = v } in
    let s = split (is_same_package q p) (bytes_eq i n) h in
    (ap (λ (x : PackageParts). Some x) (sym (package-is q p s.0)), sym ((bytes_eq-Decides i n).0 s.1))

tells-path : (q : PackageParts) (i : List ℕ) (p : PathTo) → path_package p ≡ Some q → path_interface p ≡ i → path_names p q i ≡ true
tells-path q i (Local n) e h = absurd (cc)
tells-path q i (Foreign a b v n) e h =
    let p : PackageParts = record { namespace = a; name = b; version = v } in
    let is : p ≡ q = cc in
    both (is_same_package q p) (bytes_eq i n) (ap (is_same_package q) is ∙ same-itself q) ((bytes_eq-Decides i n).1 (sym h))

some-used : (us : List UsedAs) → not (length us == 0) ≡ true → (u : UsedAs) × Contains us u
some-used [] h = absurd (cc)
some-used (u ∷ us) h = (u, contains-here u us)

used-some : (us : List UsedAs) (u : UsedAs) → Contains us u → not (length us == 0) ≡ true
used-some [] u c = absurd (omega (arith, c.1))
used-some (v ∷ us) u c = grind (arith, nat_tests)

-- ---- files

module _ (f : File) (q : PackageParts) (i : List ℕ) where
  use-tells : (name : List ℕ) (es : List Entry) → Contains f.entries (AnInterface name es) → (e : Entry) → Contains es e → entry_names_interface e q i ≡ true → NamesInterface f q i
  use-tells name es c (Defines at m d) k h = absurd (cc)
  use-tells name es c (Declares at m g) k h = absurd (cc)
  use-tells name es c (Uses at p us) k h =
      let s = split (not (length us == 0)) (path_names p q i) h in
      let u = some-used us s.0 in
      let t = path-tells q i p s.1 in
      let used : UsedItem = used_item p u.0 in
      inl (
        interface_tree name es,
        found interface_of f.entries (AnInterface name es) (interface_tree name es) c refl,
        (used, contains-flat entry_uses es (Uses at p us) used k (contains-map (used_item p) us u.0 u.1), t.0, t.1),
      )

  item-tells : (at : Span) (name : List ℕ) (es : List WorldEntry) → Contains f.entries (AWorld at name es) → (e : WorldEntry) → Contains es e → world_entry_names e q i ≡ true → NamesInterface f q i
  item-tells at name es c (Single way a m g) k h = absurd (cc)
  item-tells at name es c (Whole way (Local n)) k h = absurd (cc)
  item-tells at name es c (Whole way (Foreign a b v n)) k h =
      let t = path-tells q i (Foreign a b v n) h in
      let p : PackageParts = record { namespace = a; name = b; version = v } in
      let is : p ≡ q = cc (t.0) in
      let item : Contains (map item_tree es) (ForeignNamed way p n) = contains-map item_tree es (Whole way (Foreign a b v n)) k in
      inr (
        world_tree name es,
        found world_of f.entries (AWorld at name es) (world_tree name es) c refl,
        (way, subst (λ (x : PackageParts). Contains (map item_tree es) (ForeignNamed way x i)) is (subst (λ (x : List ℕ). Contains (map item_tree es) (ForeignNamed way p x)) t.1 item)),
      )

  file-tells : any_names file_entry_names f.entries q i ≡ true → NamesInterface f q i
  file-tells h = let e = any-one (λ x. file_entry_names x q i) f.entries h in by e.0 e.1 e.2
    where
      by : (e : FileEntry) → Contains f.entries e → file_entry_names e q i ≡ true → NamesInterface f q i
      by (AnInterface name es) c g = let u = any-one (λ x. entry_names_interface x q i) es g in use-tells name es c u.0 u.1 u.2
      by (AWorld at name es) c g = let u = any-one (λ x. world_entry_names x q i) es g in item-tells at name es c u.0 u.1 u.2

  tells-use : (e : Entry) (u : UsedItem) → Contains (entry_uses e) u → u.«package» ≡ Some q → u.interface ≡ i → entry_names_interface e q i ≡ true
  tells-use (Defines at m d) u c e g = absurd (omega (arith, c.1))
  tells-use (Declares at m d) u c e g = absurd (omega (arith, c.1))
  tells-use (Uses at p us) u c e g =
      let x = contains-unmap (used_item p) us u c in
      both (not (length us == 0)) (path_names p q i) (used-some us x.0 x.1)
      (tells-path q i p (ap (λ (y : UsedItem). y.«package») x.2 ∙ e) (ap (λ (y : UsedItem). y.interface) x.2 ∙ g))

  tells-item : (e : WorldEntry) (way : Direction) → item_tree e ≡ ForeignNamed way q i → world_entry_names e q i ≡ true
  tells-item (Single d at m g) way e = absurd (cc)
  tells-item (Whole d (Local m)) way e = absurd (cc)
  tells-item (Whole d (Foreign a b v m)) way e =
      let p : PackageParts = record { namespace = a; name = b; version = v } in
      let is : p ≡ q = cc in
      let name : m ≡ i = cc in
      tells-path q i (Foreign a b v m) (ap (λ (x : PackageParts). Some x) is) name

  tells-file : NamesInterface f q i → any_names file_entry_names f.entries q i ≡ true
  tells-file (inl (j, c, (u, d, e, g))) =
      let o = of-interface f.entries j c in
      let uses = subst (λ (x : InterfaceTree). Contains x.uses u) (sym o.3) d in
      let x = contains-unflat entry_uses o.1 u uses in
      one-any (λ y. file_entry_names y q i) f.entries (AnInterface o.0 o.1) o.2 (one-any (λ y. entry_names_interface y q i) o.1 x.0 x.1 (tells-use x.0 u x.2 e g))
  tells-file (inr (w, c, (way, d))) =
      let o = of-world f.entries w c in
      let items = subst (λ (x : WorldTree). Contains x.items (ForeignNamed way q i)) (sym o.4) d in
      let x = contains-unmap item_tree o.2 (ForeignNamed way q i) items in
      one-any (λ y. file_entry_names y q i) f.entries (AWorld o.0 o.1 o.2) o.3 (one-any (λ y. world_entry_names y q i) o.2 x.0 x.1 (tells-item x.0 way x.2))

-- what the test of a file finds is what it names
pub file-names : (f : File) (q : PackageParts) (i : List ℕ) → (any_names file_entry_names f.entries q i ≡ true) ↔ NamesInterface f q i
file-names f q i = (file-tells f q i, tells-file f q i)

-- ---- a package of this name, whichever way it is compared

pub same-there : (ps : List PackageParts) (q : PackageParts) → list_any (λ p. is_same_package p q) ps ≡ true → list_any (is_same_package q) ps ≡ true
same-there ps q h = one-any (is_same_package q) ps q (any-there ps q h) (same-itself q)

pub none-there : (ps : List PackageParts) (q : PackageParts) → list_any (λ p. is_same_package p q) ps ≡ false → list_any (is_same_package q) ps ≡ false
none-there ps q h = by (list_any (is_same_package q) ps) refl
  where
    by : (b : Bool) → list_any (is_same_package q) ps ≡ b → b ≡ false
    by true e = let x = any-one (is_same_package q) ps e in absurd (any-not ps q h (subst (Contains ps) (sym (package-is q x.0 x.2)) x.1))
    by false e = refl
