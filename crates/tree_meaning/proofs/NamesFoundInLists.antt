-- Names that are looked for in a list.
use Rattle.std.proofs.Common.{◌≡◌, ℕ, suc, Bool, true, false, cond, List, [], ◌∷◌, Option, None, Some, IfNone, IfSome, flat_map, get_or, refl, sym, subst, Contains, All, inl, inr, ◌<◌, length, arith}
use Rattle.std.specs.Option.{option_map}
use Rattle.std.specs.Str.{bytes_eq}
use Rattle.std.proofs.lemmas.Slice.Eq.{bytes_eq-Decides}
use Rattle.wit_tokens.specs.Syntax.{Entry, Uses, Defines, Declares}
use Rattle.tree_meaning.specs.Declarations.{TypeItem, FunctionItem, InterfaceTree, interface_tree, entry_uses, entry_types, entry_functions, path_uses, type_names, named_definition, names_in_function}
use Rattle.tree_meaning.specs.Knowing.{KnowsEntry, LacksEntry, LacksAny}
use Rattle.tree_meaning.specs.Imports.{Imports}
use Rattle.tree_meaning.specs.Resolves.{place_of, IsKnownUseOf, IsUnknownIn, HasKnownNamesOf}
use Rattle.package_form.proofs.AllAndContains.{contains-here, contains-later, contains-flat, all-none, all-cons, all-head, all-tail, all-append}
use Rattle.tree_meaning.proofs.PlacedTypesNameEarlier.{place-found}

pub place-lacks : (ns : List (List ℕ)) (n : List ℕ) → place_of ns n ≡ None → ¬ Contains ns n
place-lacks ns n e c = let f = place-found ns n c in absurd (cc (e, f.1))

has-here : (m : List ℕ) (ms : List (List ℕ)) (n : List ℕ) (j : ℕ) (b : Bool) → bytes_eq m n ≡ b → cond b (Some 0) (option_map suc (place_of ms n)) ≡ Some j
    → ((i : ℕ) → place_of ms n ≡ Some i → Contains ms n) → Contains (m ∷ ms) n
has-here m ms n j true e h rest = subst (Contains (m ∷ ms)) ((bytes_eq-Decides m n).0 e) (contains-here m ms)
has-here m ms n j false e h rest = by (place_of ms n) refl h
  where
    by : (o : Option ℕ) → place_of ms n ≡ o → option_map suc o ≡ Some j → Contains (m ∷ ms) n
    by None q r = absurd (cc)
    by (Some i) q r = contains-later m n ms (rest i q)

pub place-has : (ns : List (List ℕ)) (n : List ℕ) (j : ℕ) → place_of ns n ≡ Some j → Contains ns n
place-has [] n j e = absurd (cc)
place-has (m ∷ ms) n j e = has-here m ms n j (bytes_eq m n) refl e (λ i q. place-has ms n i q)

-- the name at the place that is found
pub place-at : (ns : List (List ℕ)) (n : List ℕ) (j : ℕ) (d : List ℕ) → place_of ns n ≡ Some j → get_or ns j d ≡ n
place-at [] n j d e = absurd (cc)
place-at (m ∷ ns) n j d e = by (bytes_eq m n) refl e (λ i q. place-at ns n i d q)
  where
    after : (o : Option ℕ) → place_of ns n ≡ o → option_map suc o ≡ Some j → ((i : ℕ) → place_of ns n ≡ Some i → get_or ns i d ≡ n) → get_or (m ∷ ns) j d ≡ n
    after None q r rest = absurd (cc)
    after (Some i) q r rest = let s : suc i ≡ j = cc in subst (λ (k : ℕ). get_or (m ∷ ns) k d ≡ n) s (rest i q)

    by : (b : Bool) → bytes_eq m n ≡ b → cond b (Some 0) (option_map suc (place_of ns n)) ≡ Some j → ((i : ℕ) → place_of ns n ≡ Some i → get_or ns i d ≡ n) → get_or (m ∷ ns) j d ≡ n
    by true q r rest = let z : 0 ≡ j = cc in subst (λ (k : ℕ). get_or (m ∷ ns) k d ≡ n) z ((bytes_eq-Decides m n).0 q)
    by false q r rest = after (place_of ns n) refl r rest

pub none-of : {A : Type 0} (o : Option A) → ((x : A) → o ≡ Some x → ⊥) → o ≡ None
none-of None h = refl
none-of (Some x) h = absurd (h x refl)

pub if-none : {A : Type 0} (o : Option A) (P : Type 0) → ((x : A) → o ≡ Some x → ⊥) → IfNone o P → P
if-none None P h p = p
if-none (Some x) P h p = absurd (h x refl)

pub none-map : {A : Type 0} (o : Option A) (P Q : Type 0) → (P → Q) → IfNone o P → IfNone o Q
none-map None P Q f p = f p
none-map (Some x) P Q f p = tt

pub some-map : {A : Type 0} (o : Option A) (P Q : A → Type 0) → ((x : A) → P x → Q x) → IfSome o P → IfSome o Q
some-map None P Q f p = tt
some-map (Some x) P Q f p = f x p

-- ---- an interface, of its items

module _ (m : Imports) (is : List InterfaceTree) (i : InterfaceTree) where
  uses-known : (es : List Entry) → All (KnowsEntry m is i) es → All (IsKnownUseOf m is) (flat_map entry_uses es)
  uses-known [] h = all-none (IsKnownUseOf m is)
  uses-known (Uses at p us ∷ es) h = all-append (IsKnownUseOf m is) (path_uses p us) (flat_map entry_uses es) (all-head (KnowsEntry m is i) (Uses at p us) es h) (uses-known es (all-tail (KnowsEntry m is i) (Uses at p us) es h))
  uses-known (Defines at n d ∷ es) h = uses-known es (all-tail (KnowsEntry m is i) (Defines at n d) es h)
  uses-known (Declares at n f ∷ es) h = uses-known es (all-tail (KnowsEntry m is i) (Declares at n f) es h)

  types-known : (es : List Entry) → All (KnowsEntry m is i) es → All (λ t. All (Contains (type_names i)) (named_definition t.definition)) (flat_map entry_types es)
  types-known [] h = all-none (λ (t : TypeItem). All (Contains (type_names i)) (named_definition t.definition))
  types-known (Uses at p us ∷ es) h = types-known es (all-tail (KnowsEntry m is i) (Uses at p us) es h)
  types-known (Defines at n d ∷ es) h =
      all-cons (λ (t : TypeItem). All (Contains (type_names i)) (named_definition t.definition)) (record { name = n; definition = d }) (flat_map entry_types es)
      (all-head (KnowsEntry m is i) (Defines at n d) es h) (types-known es (all-tail (KnowsEntry m is i) (Defines at n d) es h))
  types-known (Declares at n f ∷ es) h = types-known es (all-tail (KnowsEntry m is i) (Declares at n f) es h)

  functions-known : (es : List Entry) → All (KnowsEntry m is i) es → All (λ f. All (Contains (type_names i)) (names_in_function f.function)) (flat_map entry_functions es)
  functions-known [] h = all-none (λ (f : FunctionItem). All (Contains (type_names i)) (names_in_function f.function))
  functions-known (Uses at p us ∷ es) h = functions-known es (all-tail (KnowsEntry m is i) (Uses at p us) es h)
  functions-known (Defines at n d ∷ es) h = functions-known es (all-tail (KnowsEntry m is i) (Defines at n d) es h)
  functions-known (Declares at n f ∷ es) h =
      all-cons (λ (g : FunctionItem). All (Contains (type_names i)) (names_in_function g.function)) (record { name = n; function = f }) (flat_map entry_functions es)
      (all-head (KnowsEntry m is i) (Declares at n f) es h) (functions-known es (all-tail (KnowsEntry m is i) (Declares at n f) es h))

  pub interface-known : (n : List ℕ) (es : List Entry) → i ≡ interface_tree n es → All (KnowsEntry m is i) es → HasKnownNamesOf m is i
  interface-known n es e h = record {
    uses = subst (λ (j : InterfaceTree). All (IsKnownUseOf m is) j.uses) (sym e) (uses-known es h);
    types = subst (λ (j : InterfaceTree). All (λ t. All (Contains (type_names i)) (named_definition t.definition)) j.types) (sym e) (types-known es h);
    functions = subst (λ (j : InterfaceTree). All (λ f. All (Contains (type_names i)) (names_in_function f.function)) j.functions) (sym e) (functions-known es h);
  }

  lacks-by : (n : List ℕ) (es : List Entry) (name : List ℕ) (e : Entry) → i ≡ interface_tree n es → Contains es e → LacksEntry m is i e name → IsUnknownIn m is i name
  lacks-by n es name (Uses at p us) same c l = inl (l.0, subst (λ (j : InterfaceTree). Contains j.uses l.0) (sym same) (contains-flat entry_uses es (Uses at p us) l.0 c l.1), l.2)
  lacks-by n es name (Defines at k d) same c l =
      let t : TypeItem = record { name = k; definition = d } in
      inr (inl (t, subst (λ (j : InterfaceTree). Contains j.types t) (sym same) (contains-flat entry_types es (Defines at k d) t c (contains-here t [])), l))
  lacks-by n es name (Declares at k f) same c l =
      let g : FunctionItem = record { name = k; function = f } in
      inr (inr (g, subst (λ (j : InterfaceTree). Contains j.functions g) (sym same) (contains-flat entry_functions es (Declares at k f) g c (contains-here g [])), l))

  pub interface-lacks : (n : List ℕ) (es : List Entry) (name : List ℕ) → i ≡ interface_tree n es → LacksAny m is i es name → IsUnknownIn m is i name
  interface-lacks n es name same l = lacks-by n es name l.0 same l.1 l.2

pub same-bytes : (x y : List ℕ) → bytes_eq x y ≡ true → x ≡ y
same-bytes x y e = (bytes_eq-Decides x y).0 e

below-later : (o : Option ℕ) (n j : ℕ) → ((i : ℕ) → o ≡ Some i → i < n) → option_map suc o ≡ Some j → j < suc n
below-later None n j h r = absurd (cc)
below-later (Some i) n j h r = let b = h i refl in let s : suc i ≡ j = cc in omega (arith, b, s)

below-here : (b : Bool) (o : Option ℕ) (n j : ℕ) → ((i : ℕ) → o ≡ Some i → i < n) → cond b (Some 0) (option_map suc o) ≡ Some j → j < suc n
below-here true o n j h e = let z : 0 ≡ j = cc in omega (arith, z)
below-here false o n j h e = below-later o n j h e

pub place-below : (ns : List (List ℕ)) (n : List ℕ) (j : ℕ) → place_of ns n ≡ Some j → j < length ns
place-below [] n j e = absurd (cc)
place-below (m ∷ ms) n j e = below-here (bytes_eq m n) (place_of ms n) (length ms) j (λ i q. place-below ms n i q) e
