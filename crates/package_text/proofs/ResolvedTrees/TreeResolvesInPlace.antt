-- The tree of a table: it resolves to the package of the table.
use Rattle.std.proofs.Common.{◌≡◌, ℕ, List, [], ◌∷◌, ◌++◌, length, map, flat_map, filter_map, refl, ap, subst, ◌∙◌, append-nil}
use Rattle.std.specs.Prelude.{Bool, true, false, Option, None, Some, if◌then◌else◌, unwrap_or}
use Rattle.std.specs.Option.{option_map}
use Rattle.std.specs.Str.{bytes_eq}
use Rattle.std.proofs.lemmas.List.{map-append, length-map}
use Rattle.package_form.proofs.AllAndContains.{flat_map-append}
use Rattle.wit_tokens.specs.Syntax.{Entry, FileEntry, AnInterface}
use Rattle.tables.specs.Package.{Tree, Reference, Key, IsUse, IsType, IsFunction, NamedDefinition}
use Rattle.placement.specs.Order.{IsPlacement}
use Rattle.tables.specs.Names.{full_name_in}
use Rattle.tree_meaning.specs.Declarations.{path_package, path_interface, TypeItem, InterfaceTree, entry_uses, entry_types, entry_functions, interface_tree, interface_of, names_of_trees, own_types}
use Rattle.tree_meaning.specs.Resolved.{Labelled, fields_of_labelled, use_meaning, type_meaning, meaning_of_function, interface_meaning, in_order, no_type, resolved_if}
use Rattle.tree_meaning.specs.Resolves.{interface_uses, uses_of_interface, type_uses, uses_of_type}
use Rattle.tree_meaning.proofs.NamesFoundInLists.{same-bytes}
use Rattle.package_text.proofs.WrittenTrees.WrittenStandsForTree.{Anything, MaybeExpressed, FieldsExpressed, Defined, members-back, maybe-back, body-back}
use Rattle.package_text.proofs.ResolvedTrees.OwnPlacement.{UsesEarlier, NamesEarlier, places_of, map-places, own-placement}
use Rattle.package_text.specs.Written.{ty_of}
use Rattle.package_text.specs.Tree.{local_of}
use Rattle.package_text.proofs.WrittenTrees.PathsSpelledByNames.{path_named, named-back}
use Rattle.package_text.proofs.WrittenTrees.TreeByNames.{entry_of}

-- ---- the definitions of a package in package order

pub data Each {A : Type 0} (P : A → Type 0) : List A → Type 0 where
  none_left : Each P []
  and_next : (x : A) (xs : List A) → P x → Each P xs → Each P (x ∷ xs)

pub data UseOf (i : List ℕ) : NamedDefinition → Type 0 where
  a_use : (l : List ℕ) (k : Key) → UseOf i (record { key = record { interface = i; name = l }; meaning = IsUse (Reference k) })

pub data TypeOf (i : List ℕ) : NamedDefinition → Type 0 where
  a_type : (n : List ℕ) (t : Tree) → Defined i Anything t → TypeOf i (record { key = record { interface = i; name = n }; meaning = IsType t })

pub data FunctionOf (i : List ℕ) : NamedDefinition → Type 0 where
  a_function : (n : List ℕ) (fs : List Labelled) (result : Option Tree) → FieldsExpressed i Anything fs → MaybeExpressed i Anything result
      → FunctionOf i (record { key = record { interface = i; name = n }; meaning = IsFunction (fields_of_labelled fs) result })

-- what is written interface by interface, and the definitions that it is written for: in each interface uses, types and functions, which name
-- types of their own interface
pub data AreParts : List FileEntry → List NamedDefinition → Type 0 where
  no_part : AreParts [] []
  and_part : (n : List ℕ) (us ts fs : List NamedDefinition) → Each (UseOf n) us → Each (TypeOf n) ts → Each (FunctionOf n) fs
      → (es : List FileEntry) (ds : List NamedDefinition) → AreParts es ds → AreParts (AnInterface n (map entry_of (us ++ (ts ++ fs))) ∷ es) ((us ++ (ts ++ fs)) ++ ds)

-- ---- one interface

other-bytes : (a b : List ℕ) → (a ≡ b → ⊥) → bytes_eq a b ≡ false
other-bytes a b h = by (bytes_eq a b) refl
  where
    by : (c : Bool) → bytes_eq a b ≡ c → c ≡ false
    by true e = absurd (h (same-bytes a b e))
    by false e = refl

pub local-back : (n l : List ℕ) → unwrap_or (local_of n l) n ≡ l
local-back n l = by (bytes_eq n l) refl
  where
    by : (b : Bool) → bytes_eq n l ≡ b → unwrap_or (if b then None else Some l) n ≡ l
    by true e = same-bytes n l e
    by false e = refl

uses-back : (i : List ℕ) (us : List NamedDefinition) → Each (UseOf i) us → map (use_meaning i) (flat_map entry_uses (map entry_of us)) ≡ us
uses-back i _ none_left = refl
uses-back i _ (and_next _ us (a_use l k) e) =
    let path = path_named k.interface in
    ap (λ m. record { key = record { interface = i; name = m }; meaning = IsUse (Reference (record { interface = full_name_in (path_package path) (path_interface path); name = k.name })) }
    ∷ map (use_meaning i) (flat_map entry_uses (map entry_of us))) (local-back k.name l)
    ∙ ap (λ n. record { key = record { interface = i; name = l }; meaning = IsUse (Reference (record { interface = n; name = k.name })) } ∷ map (use_meaning i) (flat_map entry_uses (map entry_of us))) (named-back k.interface)
    ∙ ap (λ xs. record { key = record { interface = i; name = l }; meaning = IsUse (Reference k) } ∷ xs) (uses-back i us e)

uses-no-types : (i : List ℕ) (us : List NamedDefinition) → Each (UseOf i) us → flat_map entry_types (map entry_of us) ≡ []
uses-no-types i _ none_left = refl
uses-no-types i _ (and_next _ us (a_use l k) e) = uses-no-types i us e

uses-no-functions : (i : List ℕ) (us : List NamedDefinition) → Each (UseOf i) us → flat_map entry_functions (map entry_of us) ≡ []
uses-no-functions i _ none_left = refl
uses-no-functions i _ (and_next _ us (a_use l k) e) = uses-no-functions i us e

types-back : (i : List ℕ) (ts : List NamedDefinition) → Each (TypeOf i) ts → map (type_meaning i) (flat_map entry_types (map entry_of ts)) ≡ ts
types-back i _ none_left = refl
types-back i _ (and_next _ ts (a_type n t d) e) =
    ap (λ x. record { key = record { interface = i; name = n }; meaning = IsType x } ∷ map (type_meaning i) (flat_map entry_types (map entry_of ts))) (body-back i Anything t d)
    ∙ ap (λ xs. record { key = record { interface = i; name = n }; meaning = IsType t } ∷ xs) (types-back i ts e)

types-no-uses : (i : List ℕ) (ts : List NamedDefinition) → Each (TypeOf i) ts → flat_map entry_uses (map entry_of ts) ≡ []
types-no-uses i _ none_left = refl
types-no-uses i _ (and_next _ ts (a_type n t d) e) = types-no-uses i ts e

types-no-functions : (i : List ℕ) (ts : List NamedDefinition) → Each (TypeOf i) ts → flat_map entry_functions (map entry_of ts) ≡ []
types-no-functions i _ none_left = refl
types-no-functions i _ (and_next _ ts (a_type n t d) e) = types-no-functions i ts e

functions-back : (i : List ℕ) (fs : List NamedDefinition) → Each (FunctionOf i) fs → map (meaning_of_function i) (flat_map entry_functions (map entry_of fs)) ≡ fs
functions-back i _ none_left = refl
functions-back i _ (and_next _ ds (a_function n fs result h g) e) =
    ap (λ xs. record { key = record { interface = i; name = n }; meaning = IsFunction (fields_of_labelled xs) (resolved_if i (option_map ty_of result)) } ∷ map (meaning_of_function i) (flat_map entry_functions (map entry_of ds))) (members-back i Anything fs h)
    ∙ (ap (λ x. record { key = record { interface = i; name = n }; meaning = IsFunction (fields_of_labelled fs) x } ∷ map (meaning_of_function i) (flat_map entry_functions (map entry_of ds))) (maybe-back i Anything result g)
    ∙ ap (λ xs. record { key = record { interface = i; name = n }; meaning = IsFunction (fields_of_labelled fs) result } ∷ xs) (functions-back i ds e))

functions-no-uses : (i : List ℕ) (fs : List NamedDefinition) → Each (FunctionOf i) fs → flat_map entry_uses (map entry_of fs) ≡ []
functions-no-uses i _ none_left = refl
functions-no-uses i _ (and_next _ ds (a_function n fs result h g) e) = functions-no-uses i ds e

functions-no-types : (i : List ℕ) (fs : List NamedDefinition) → Each (FunctionOf i) fs → flat_map entry_types (map entry_of fs) ≡ []
functions-no-types i _ none_left = refl
functions-no-types i _ (and_next _ ds (a_function n fs result h g) e) = functions-no-types i ds e

three : {B : Type 0} (f : Entry → List B) (us ts fs : List NamedDefinition)
    → flat_map f (map entry_of (us ++ (ts ++ fs))) ≡ flat_map f (map entry_of us) ++ (flat_map f (map entry_of ts) ++ flat_map f (map entry_of fs))
three f us ts fs =
    ap (flat_map f) (map-append entry_of us (ts ++ fs)) ∙ (flat_map-append f (map entry_of us) (map entry_of (ts ++ fs))
    ∙ ap (λ xs. flat_map f (map entry_of us) ++ xs) (ap (flat_map f) (map-append entry_of ts fs) ∙ flat_map-append f (map entry_of ts) (map entry_of fs)))

module _ (n : List ℕ) (us ts fs : List NamedDefinition) (a : Each (UseOf n) us) (b : Each (TypeOf n) ts) (c : Each (FunctionOf n) fs) where
  pub parts-uses : flat_map entry_uses (map entry_of (us ++ (ts ++ fs))) ≡ flat_map entry_uses (map entry_of us)
  parts-uses =
      three entry_uses us ts fs ∙ (ap (λ xs. flat_map entry_uses (map entry_of us) ++ (xs ++ flat_map entry_uses (map entry_of fs))) (types-no-uses n ts b)
      ∙ (ap (λ xs. flat_map entry_uses (map entry_of us) ++ xs) (functions-no-uses n fs c) ∙ append-nil (flat_map entry_uses (map entry_of us))))

  pub parts-types : flat_map entry_types (map entry_of (us ++ (ts ++ fs))) ≡ flat_map entry_types (map entry_of ts)
  parts-types =
      three entry_types us ts fs ∙ (ap (λ xs. xs ++ (flat_map entry_types (map entry_of ts) ++ flat_map entry_types (map entry_of fs))) (uses-no-types n us a)
      ∙ (ap (λ xs. flat_map entry_types (map entry_of ts) ++ xs) (functions-no-types n fs c) ∙ append-nil (flat_map entry_types (map entry_of ts))))

  pub parts-functions : flat_map entry_functions (map entry_of (us ++ (ts ++ fs))) ≡ flat_map entry_functions (map entry_of fs)
  parts-functions =
      three entry_functions us ts fs ∙ (ap (λ xs. xs ++ (flat_map entry_functions (map entry_of ts) ++ flat_map entry_functions (map entry_of fs))) (uses-no-functions n us a)
      ∙ ap (λ xs. xs ++ flat_map entry_functions (map entry_of fs)) (types-no-functions n ts b))

-- an interface's types stand in the order of their places
abbrev pub meaning_in_place : InterfaceTree → List NamedDefinition
meaning_in_place i = interface_meaning i (places_of (length i.types))

pub interface-back : (n : List ℕ) (us ts fs : List NamedDefinition) → Each (UseOf n) us → Each (TypeOf n) ts → Each (FunctionOf n) fs
    → meaning_in_place (interface_tree n (map entry_of (us ++ (ts ++ fs)))) ≡ us ++ (ts ++ fs)
interface-back n us ts fs a b c =
    let types : List TypeItem = flat_map entry_types (map entry_of (us ++ (ts ++ fs))) in
    let first : map (use_meaning n) (flat_map entry_uses (map entry_of (us ++ (ts ++ fs)))) ≡ us = ap (map (use_meaning n)) (parts-uses n us ts fs a b c) ∙ uses-back n us a in
    let second : in_order n types (places_of (length types)) ≡ ts = map-places (type_meaning n) no_type types ∙ (ap (map (type_meaning n)) (parts-types n us ts fs a b c) ∙ types-back n ts b) in
    let third : map (meaning_of_function n) (flat_map entry_functions (map entry_of (us ++ (ts ++ fs)))) ≡ fs = ap (map (meaning_of_function n)) (parts-functions n us ts fs a b c) ∙ functions-back n fs c in
    ap (λ xs. xs ++ (in_order n types (places_of (length types)) ++ map (meaning_of_function n) (flat_map entry_functions (map entry_of (us ++ (ts ++ fs)))))) first
    ∙ (ap (λ xs. us ++ (xs ++ map (meaning_of_function n) (flat_map entry_functions (map entry_of (us ++ (ts ++ fs)))))) second ∙ ap (λ xs. us ++ (ts ++ xs)) third)

-- ---- all of them

pub each-append : {A : Type 0} (P : A → Type 0) (xs ys : List A) → Each P xs → Each P ys → Each P (xs ++ ys)
each-append P _ ys none_left g = g
each-append P _ ys (and_next x xs h e) g = and_next x (xs ++ ys) h (each-append P xs ys e g)

pub each-map : {A : Type 0} (P Q : A → Type 0) → ((x : A) → P x → Q x) → (xs : List A) → Each P xs → Each Q xs
each-map P Q f _ none_left = none_left
each-map P Q f _ (and_next x xs h e) = and_next x xs (f x h) (each-map P Q f xs e)

pub parts-back : (es : List FileEntry) (ds : List NamedDefinition) → AreParts es ds → flat_map meaning_in_place (filter_map interface_of es) ≡ ds
parts-back _ _ no_part = refl
parts-back _ _ (and_part n us ts fs a b c es ds p) =
    ap (λ xs. xs ++ flat_map meaning_in_place (filter_map interface_of es)) (interface-back n us ts fs a b c) ∙ ap (λ xs. (us ++ (ts ++ fs)) ++ xs) (parts-back es ds p)

-- Interfaces that name earlier ones alone are placed as they stand.
pub placed-here : (is : List InterfaceTree) → NamesEarlier is → IsPlacement (interface_uses is) (places_of (length is))
placed-here is e = subst (λ n. IsPlacement (interface_uses is) (places_of n)) (length-map is (uses_of_interface (names_of_trees is))) (own-placement (interface_uses is) e.interfaces)

pub types-placed : (i : InterfaceTree) → UsesEarlier (type_uses i) → IsPlacement (type_uses i) (places_of (length i.types))
types-placed i e = subst (λ n. IsPlacement (type_uses i) (places_of n)) (length-map i.types (uses_of_type (own_types i))) (own-placement (type_uses i) e)
