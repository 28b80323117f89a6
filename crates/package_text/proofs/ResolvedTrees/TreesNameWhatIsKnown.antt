-- Definitions that name what is known before them, and the trees of their interfaces.
use Rattle.std.proofs.Common.{◌≡◌, ◌<◌, inl, inr, ℕ, zero, suc, List, [], ◌∷◌, ◌++◌, length, map, flat_map, take, get_or, refl, sym, ap, subst, ◌∙◌, append_assoc, append-nil, arith, All, Contains}
use Rattle.std.specs.Prelude.{Option, None, Some}
use Rattle.std.proofs.lemmas.List.{get_or_default}
use Rattle.tables.specs.PackageNames.{PackageParts}
use Rattle.tables.specs.Package.{Reference, Key, Meaning, IsUse, IsType, IsFunction, NamedDefinition}
use Rattle.package_form.proofs.AllAndContains.{all-none, all-cons, all-mono, contains-left, contains-right, contains-either, flat_map-append}
use Rattle.tree_meaning.specs.Declarations.{path_package, path_interface, TypeItem, FunctionItem, InterfaceTree, entry_uses, entry_types, entry_functions, interface_tree, no_interface, use_local, type_name, used_names, own_types, type_names, named_definition, names_in_function}
use Rattle.tree_meaning.specs.Resolved.{no_type}
use Rattle.tree_meaning.specs.Imports.{Imports}
use Rattle.tree_meaning.specs.Resolves.{IsKnownIn, IsKnownUseOf, HasKnownNamesOf}
use Rattle.tree_meaning.proofs.ReferencesOfDefinitions.{Every, every-mono}
use Rattle.package_text.specs.Written.{body_of}
use Rattle.package_text.specs.Tree.{function_by}
use Rattle.package_text.proofs.WrittenTrees.PathsSpelledByNames.{path_named}
use Rattle.package_text.proofs.WrittenTrees.TreeByNames.{entry_of}
use Rattle.package_text.proofs.ResolvedTrees.TreeResolvesInPlace.{Each, none_left, and_next, UseOf, a_use, TypeOf, a_type, FunctionOf, a_function, local-back, parts-uses, parts-types, parts-functions}

-- ---- definitions

-- the name that a definition gives a type
abbrev pub type_given : List ℕ → Meaning → List (List ℕ)
type_given n (IsUse t) = n ∷ []
type_given n (IsType t) = n ∷ []
type_given n (IsFunction fs result) = []

abbrev pub gives : NamedDefinition → List (List ℕ)
gives x = type_given x.key.name x.meaning

-- one of these interfaces, or an import, has the type
abbrev pub HasType : Imports → List InterfaceTree → Key → Type 0
HasType m is k = IsKnownIn m is (path_package (path_named k.interface)) (path_interface (path_named k.interface)) k.name

known-more-in : (m : Imports) (before is : List InterfaceTree) → ((j : InterfaceTree) → Contains before j → Contains is j) → (o : Option PackageParts) (i n : List ℕ) → IsKnownIn m before o i n → IsKnownIn m is o i n
known-more-in m before is more None i n k = (k.0, more k.0 k.1, k.2, k.3)
known-more-in m before is more (Some q) i n k = k

-- what stands in one of these interfaces stands in one of more
pub type-more : (m : Imports) (before is : List InterfaceTree) → ((j : InterfaceTree) → Contains before j → Contains is j) → (k : Key) → HasType m before k → HasType m is k
type-more m before is more k h = known-more-in m before is more (path_package (path_named k.interface)) (path_interface (path_named k.interface)) k.name h

-- a use names a type of an interface before, the others types whose names are known
abbrev pub IsKnownBy : Imports → List InterfaceTree → List (List ℕ) → Meaning → Type 0
IsKnownBy m before known (IsUse t) = (k : Key) × (t ≡ Reference k) × HasType m before k
IsKnownBy m before known (IsType t) = All (Contains known) (named_definition (body_of t))
IsKnownBy m before known (IsFunction fs result) = All (Contains known) (names_in_function (function_by fs result))

-- each of these definitions, where those before it give these names
abbrev pub AreKnownBy : Imports → List InterfaceTree → List (List ℕ) → List NamedDefinition → Type 0
AreKnownBy m before known [] = Unit {0}
AreKnownBy m before known (x ∷ xs) = IsKnownBy m before known x.meaning × AreKnownBy m before (known ++ gives x) xs

module _ (m : Imports) (before : List InterfaceTree) where
  known-more : (known more : List (List ℕ)) (x : Meaning) → IsKnownBy m before known x → IsKnownBy m before (known ++ more) x
  known-more known more (IsUse t) h = h
  known-more known more (IsType t) h = all-mono (Contains known) (Contains (known ++ more)) (λ n c. contains-left known more n c) (named_definition (body_of t)) h
  known-more known more (IsFunction fs result) h = all-mono (Contains known) (Contains (known ++ more)) (λ n c. contains-left known more n c) (names_in_function (function_by fs result)) h

  pub known-append : (known : List (List ℕ)) (ds es : List NamedDefinition) → Every (λ x. IsKnownBy m before known x.meaning) ds → AreKnownBy m before (known ++ flat_map gives ds) es → AreKnownBy m before known (ds ++ es)
  known-append known [] es h on = subst (λ ns. AreKnownBy m before ns es) (append-nil known) on
  known-append known (d ∷ ds) es h on = (
    h.0,
    known-append (known ++ gives d) ds es (every-mono (λ x. IsKnownBy m before known x.meaning) (λ x. IsKnownBy m before (known ++ gives d) x.meaning) (λ x q. known-more known (gives d) x.meaning q) ds h.1)
        (subst (λ ns. AreKnownBy m before ns es) (sym (append_assoc known (gives d) (flat_map gives ds))) on),
  )

  pub known-front : (known : List (List ℕ)) (ds es : List NamedDefinition) → AreKnownBy m before known (ds ++ es) → AreKnownBy m before known ds
  known-front known [] es h = tt
  known-front known (d ∷ ds) es h = (h.0, known-front (known ++ gives d) ds es h.1)

  pub known-back : (known : List (List ℕ)) (ds es : List NamedDefinition) → AreKnownBy m before known (ds ++ es) → AreKnownBy m before (known ++ flat_map gives ds) es
  known-back known [] es h = subst (λ ns. AreKnownBy m before ns es) (sym (append-nil known)) h
  known-back known (d ∷ ds) es h = subst (λ ns. AreKnownBy m before ns es) (append_assoc known (gives d) (flat_map gives ds)) (known-back (known ++ gives d) ds es h.1)

-- ---- the tree of an interface

-- uses name types of interfaces before, types what is used and the types before them, and functions types of the interface
pub record IsKnownTree (m : Imports) (before : List InterfaceTree) (i : InterfaceTree) : Type 0 where
  pub uses : All (IsKnownUseOf m before) i.uses
  pub types : (k : ℕ) → k < length i.types → All (Contains (used_names i ++ take k (own_types i))) (named_definition (get_or i.types k no_type).definition)
  pub functions : All (λ f. All (Contains (type_names i)) (names_in_function f.function)) i.functions

pub uses-given : (i : List ℕ) (us : List NamedDefinition) → Each (UseOf i) us → map use_local (flat_map entry_uses (map entry_of us)) ≡ flat_map gives us
uses-given i _ none_left = refl
uses-given i _ (and_next _ us (a_use l k) e) =
    ap (λ (n : List ℕ). n ∷ map use_local (flat_map entry_uses (map entry_of us))) (local-back k.name l) ∙ ap (λ (ns : List (List ℕ)). l ∷ ns) (uses-given i us e)

pub types-given : (i : List ℕ) (ts : List NamedDefinition) → Each (TypeOf i) ts → map type_name (flat_map entry_types (map entry_of ts)) ≡ flat_map gives ts
types-given i _ none_left = refl
types-given i _ (and_next _ ts (a_type n t d) e) = ap (λ (ns : List (List ℕ)). n ∷ ns) (types-given i ts e)

pub functions-given : (i : List ℕ) (fs : List NamedDefinition) → Each (FunctionOf i) fs → flat_map gives fs ≡ []
functions-given i _ none_left = refl
functions-given i _ (and_next _ ds (a_function n fs result h g) e) = functions-given i ds e

module _ (m : Imports) (before : List InterfaceTree) (i : List ℕ) where
  uses-known : (known : List (List ℕ)) (us : List NamedDefinition) → Each (UseOf i) us → AreKnownBy m before known us → All (IsKnownUseOf m before) (flat_map entry_uses (map entry_of us))
  uses-known known _ none_left h = all-none (IsKnownUseOf m before)
  uses-known known _ (and_next _ us (a_use l k) e) ((key, q, has), h) =
      let same : key ≡ k = cc in
      all-cons (IsKnownUseOf m before) _ (flat_map entry_uses (map entry_of us)) (subst (HasType m before) same has) (uses-known (known ++ l ∷ []) us e h)

  types-known : (known : List (List ℕ)) (ts : List NamedDefinition) → Each (TypeOf i) ts → AreKnownBy m before known ts → (k : ℕ) → k < length (flat_map entry_types (map entry_of ts))
      → All (Contains (known ++ take k (map type_name (flat_map entry_types (map entry_of ts))))) (named_definition (get_or (flat_map entry_types (map entry_of ts)) k no_type).definition)
  types-known known _ none_left h k l = absurd (omega (arith, l))
  types-known known _ (and_next _ ts (a_type n t d) e) h zero l =
      subst (λ ns. All (Contains ns) (named_definition (body_of t))) (sym (append-nil known)) h.0
  types-known known _ (and_next _ ts (a_type n t d) e) h (suc k) l =
      subst (λ ns. All (Contains ns) (named_definition (get_or (flat_map entry_types (map entry_of ts)) k no_type).definition))
      (append_assoc known (n ∷ []) (take k (map type_name (flat_map entry_types (map entry_of ts))))) (types-known (known ++ n ∷ []) ts e h.1 k (omega (arith, l)))

  functions-known : (known : List (List ℕ)) (fs : List NamedDefinition) → Each (FunctionOf i) fs → AreKnownBy m before known fs
      → All (λ f. All (Contains known) (names_in_function f.function)) (flat_map entry_functions (map entry_of fs))
  functions-known known _ none_left h = all-none (λ (f : FunctionItem). All (Contains known) (names_in_function f.function))
  functions-known known _ (and_next _ ds (a_function n fs result g u) e) h =
      all-cons (λ (f : FunctionItem). All (Contains known) (names_in_function f.function)) _ (flat_map entry_functions (map entry_of ds)) h.0
      (functions-known known ds e (subst (λ ns. AreKnownBy m before ns ds) (append-nil known) h.1))

module _ (m : Imports) (before : List InterfaceTree) (i : List ℕ) (us ts fs : List NamedDefinition) (a : Each (UseOf i) us) (b : Each (TypeOf i) ts) (c : Each (FunctionOf i) fs) where
  abbrev pub part_tree : InterfaceTree
  part_tree = interface_tree i (map entry_of (us ++ (ts ++ fs)))

  part-used : used_names part_tree ≡ flat_map gives us
  part-used = ap (map use_local) (parts-uses i us ts fs a b c) ∙ uses-given i us a

  part-owned : own_types part_tree ≡ flat_map gives ts
  part-owned = ap (map type_name) (parts-types i us ts fs a b c) ∙ types-given i ts b

  -- the types of an interface are those that its definitions give
  pub part-types : type_names part_tree ≡ flat_map gives (us ++ (ts ++ fs))
  part-types =
      ap (λ (ns : List (List ℕ)). ns ++ own_types part_tree) part-used
      ∙ (ap (λ (ns : List (List ℕ)). flat_map gives us ++ ns) (part-owned ∙ (sym (append-nil (flat_map gives ts)) ∙ ap (λ (ns : List (List ℕ)). flat_map gives ts ++ ns) (sym (functions-given i fs c))))
      ∙ (ap (λ (ns : List (List ℕ)). flat_map gives us ++ ns) (sym (flat_map-append gives ts fs)) ∙ sym (flat_map-append gives us (ts ++ fs))))

  pub part-known : AreKnownBy m before [] (us ++ (ts ++ fs)) → IsKnownTree m before part_tree
  part-known h =
      let rest = known-back m before [] us (ts ++ fs) h in
      let types : List TypeItem = flat_map entry_types (map entry_of ts) in
      let last : AreKnownBy m before (type_names part_tree) fs =
      subst (λ ns. AreKnownBy m before ns fs) (sym (ap (λ (ns : List (List ℕ)). ns ++ own_types part_tree) part-used ∙ ap (λ (ns : List (List ℕ)). flat_map gives us ++ ns) part-owned))
      (known-back m before (flat_map gives us) ts fs rest) in
      record {
        uses = subst (All (IsKnownUseOf m before)) (sym (parts-uses i us ts fs a b c)) (uses-known m before i [] us a (known-front m before [] us (ts ++ fs) h));
        types = λ k l.
            subst (λ ns. All (Contains (ns ++ take k (own_types part_tree))) (named_definition (get_or part_tree.types k no_type).definition)) (sym part-used)
            (subst (λ (xs : List TypeItem). All (Contains (flat_map gives us ++ take k (map type_name xs))) (named_definition (get_or xs k no_type).definition)) (sym (parts-types i us ts fs a b c))
            (types-known m before i (flat_map gives us) ts b (known-front m before (flat_map gives us) ts fs rest) k (subst (λ (xs : List TypeItem). k < length xs) (parts-types i us ts fs a b c) l)));
        functions = subst (All (λ f. All (Contains (type_names part_tree)) (names_in_function f.function))) (sym (parts-functions i us ts fs a b c))
            (functions-known m before i (type_names part_tree) fs c last);
      }

-- ---- all interfaces

-- each of these, which stand behind the first
abbrev pub AreKnownTrees : Imports → List InterfaceTree → List InterfaceTree → Type 0
AreKnownTrees m before [] = Unit {0}
AreKnownTrees m before (i ∷ is) = IsKnownTree m before i × AreKnownTrees m (before ++ i ∷ []) is

pub known-at : (m : Imports) (before is : List InterfaceTree) → AreKnownTrees m before is → (k : ℕ) → k < length is → IsKnownTree m (before ++ take k is) (get_or is k no_interface)
known-at m before [] h k l = absurd (omega (arith, l))
known-at m before (i ∷ is) h zero l = subst (λ js. IsKnownTree m js i) (sym (append-nil before)) h.0
known-at m before (i ∷ is) h (suc k) l =
    subst (λ js. IsKnownTree m js (get_or is k no_interface)) (append_assoc before (i ∷ []) (take k is)) (known-at m (before ++ i ∷ []) is h.1 k (omega (arith, l)))

taken-contained : {A : Type 0} (k : ℕ) (xs : List A) (x : A) → Contains (take k xs) x → Contains xs x
taken-contained zero xs x c = absurd (omega (arith, c.1))
taken-contained (suc k) [] x c = c
taken-contained (suc k) (y ∷ xs) x c = elim (contains-either (y ∷ []) (take k xs) x c) [
  | inl h ↦ contains-left (y ∷ []) xs x h
  | inr h ↦ contains-right (y ∷ []) xs x (taken-contained k xs x h)
]

-- a tree that is known among some is so among more
tree-knows : (m : Imports) (before is : List InterfaceTree) (i : InterfaceTree) → ((j : InterfaceTree) → Contains before j → Contains is j) → IsKnownTree m before i → HasKnownNamesOf m is i
tree-knows m before is i more h = record {
  uses = all-mono (IsKnownUseOf m before) (IsKnownUseOf m is) (λ u q. known-more-in m before is more u.«package» u.interface u.name q) i.uses h.uses;
  types = λ k d l.
      subst (λ (t : TypeItem). All (Contains (type_names i)) (named_definition t.definition)) (get_or_default i.types k no_type d l)
      (all-mono (Contains (used_names i ++ take k (own_types i))) (Contains (type_names i)) (later k) (named_definition (get_or i.types k no_type).definition) (h.types k l));
  functions = h.functions;
}
  where
    later : (k : ℕ) (n : List ℕ) → Contains (used_names i ++ take k (own_types i)) n → Contains (type_names i) n
    later k n c = elim (contains-either (used_names i) (take k (own_types i)) n c) [
      | inl q ↦ contains-left (used_names i) (own_types i) n q
      | inr q ↦ contains-right (used_names i) (own_types i) n (taken-contained k (own_types i) n q)
    ]

-- so each knows what it names
pub trees-know : (m : Imports) (is : List InterfaceTree) → AreKnownTrees m [] is → All (HasKnownNamesOf m is) is
trees-know m is h = λ k d l.
    subst (HasKnownNamesOf m is) (get_or_default is k no_interface d l) (tree-knows m (take k is) is (get_or is k no_interface) (λ j c. taken-contained k is j c) (known-at m [] is h k l))
