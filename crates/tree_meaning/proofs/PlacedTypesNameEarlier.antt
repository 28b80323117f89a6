-- In the order of their placement, types name what stands before them.
use Rattle.std.proofs.Common.{◌≡◌, ℕ, zero, suc, ◌≤◌, ◌<◌, Bool, true, false, not, cond, ◌||◌, ◌==◌, List, [], ◌∷◌, ◌++◌, Option, None, Some, map, take, length, get_or, refl, ap, ◌∙◌, subst, arith, Contains, All, inl, inr}
use Rattle.std.specs.List.{list_all, filter_map, cons_option}
use Rattle.std.specs.Option.{option_map}
use Rattle.std.specs.Str.{bytes_eq}
use Rattle.std.proofs.lemmas.List.{length-map, get_or-map, get_or_default}
use Rattle.std.proofs.lemmas.Slice.Eq.{bytes_eq-Decides}
use Rattle.std.proofs.lemmas.Bool.Decides.{nat_tests}
use Rattle.placement.specs.Order.{IsPlacement, has_placed}
use Rattle.tree_meaning.specs.Declarations.{TypeItem, InterfaceTree, used_names, own_types, type_names, named_definition, names_in_function}
use Rattle.tree_meaning.specs.Resolved.{no_type}
use Rattle.tree_meaning.specs.Resolves.{place_of, uses_of_type, type_uses}
use Rattle.tree_meaning.specs.Building.{NamesEarlier, TypesKnown, FunctionsKnown, ordered_names}
use Rattle.tables.proofs.ClosedTypesRowByRow.{split}
use Rattle.package_form.proofs.AllAndContains.{all-mono, contains-left, contains-right, contains-either, contains-map, contains-later}

pub all-from : {A : Type 0} (P : A → Type 0) (xs : List A) → ((x : A) → Contains xs x → P x) → All P xs
all-from P xs f = λ k d l. f (get_or xs k d) (k, l, get_or_default xs k (get_or xs k d) d l)

-- a name that stands in a list has a place there
place-here : (m : List ℕ) (ms : List (List ℕ)) (n : List ℕ) (b : Bool) → bytes_eq m n ≡ b → (b ≡ true → m ≡ n)
    → (b ≡ false → (j : ℕ) × (place_of ms n ≡ Some j) × (get_or ms j [] ≡ n) × (j < length ms))
    → (j : ℕ) × (cond b (Some 0) (option_map suc (place_of ms n)) ≡ Some j) × (get_or (m ∷ ms) j [] ≡ n) × (j < length (m ∷ ms))
place-here m ms n true e here later = (0, refl, here refl, omega arith)
place-here m ms n false e here later = let r = later refl in (suc r.0, ap (λ (o : Option ℕ). option_map suc o) r.1, r.2, omega (arith, r.3))

pub place-found : (ns : List (List ℕ)) (n : List ℕ) → Contains ns n → (j : ℕ) × (place_of ns n ≡ Some j) × (get_or ns j [] ≡ n) × (j < length ns)
place-found [] n h = absurd (omega (arith, h.1))
place-found (m ∷ ms) n (zero, l, e) = place-here m ms n (bytes_eq m n) refl (λ t. (bytes_eq-Decides m n).0 t)
    (λ f. absurd (cc (f, (bytes_eq-Decides m n).1 e)))
place-found (m ∷ ms) n (suc k, l, e) = place-here m ms n (bytes_eq m n) refl (λ t. (bytes_eq-Decides m n).0 t)
    (λ f. place-found ms n (k, omega (arith, l), e))

-- .. and its first place is no later than any other
first-here : (m : List ℕ) (ms : List (List ℕ)) (n : List ℕ) (k : ℕ) (b : Bool) → bytes_eq m n ≡ b → (b ≡ true → m ≡ n)
    → (b ≡ false → (j : ℕ) × (place_of ms n ≡ Some j) × (get_or ms j [] ≡ n) × (suc j ≤ k))
    → (j : ℕ) × (cond b (Some 0) (option_map suc (place_of ms n)) ≡ Some j) × (get_or (m ∷ ms) j [] ≡ n) × (j ≤ k)
first-here m ms n k true e here later = (0, refl, here refl, omega arith)
first-here m ms n k false e here later = let r = later refl in (suc r.0, ap (λ (o : Option ℕ). option_map suc o) r.1, r.2, r.3)

pub place-first : (ns : List (List ℕ)) (n : List ℕ) (k : ℕ) → k < length ns → get_or ns k [] ≡ n
    → (j : ℕ) × (place_of ns n ≡ Some j) × (get_or ns j [] ≡ n) × (j ≤ k)
place-first [] n k l e = absurd (omega (arith, l))
place-first (m ∷ ms) n zero l e = first-here m ms n zero (bytes_eq m n) refl (λ t. (bytes_eq-Decides m n).0 t)
    (λ f. absurd (cc (f, (bytes_eq-Decides m n).1 e)))
place-first (m ∷ ms) n (suc k) l e = first-here m ms n (suc k) (bytes_eq m n) refl (λ t. (bytes_eq-Decides m n).0 t)
    (λ f. let r = place-first ms n k (omega (arith, l)) e in (r.0, r.1, r.2, omega (arith, r.3)))

rest-all : (p : ℕ → Bool) (o : Option ℕ) (xs : List ℕ) → list_all p (cons_option o xs) ≡ true → list_all p xs ≡ true
rest-all p None xs h = h
rest-all p (Some x) xs h = (split (p x) (list_all p xs) h).1

pub all-places : (p : ℕ → Bool) (h : List ℕ → Option ℕ) (wanted : List (List ℕ)) (n : List ℕ) (j : ℕ) → list_all p (filter_map h wanted) ≡ true → Contains wanted n → h n ≡ Some j → p j ≡ true
all-places p h [] n j a c e = absurd (omega (arith, c.1))
all-places p h (w ∷ ws) n j a (zero, l, same) e =
    let o : h w ≡ Some j = ap h same ∙ e in
    (split (p j) (list_all p (filter_map h ws)) (subst (λ z. list_all p (cons_option z (filter_map h ws)) ≡ true) o a)).0
all-places p h (w ∷ ws) n j a (suc k, l, same) e = all-places p h ws n j (rest-all p (h w) (filter_map h ws) a) (k, omega (arith, l), same) e

among-here : (x : ℕ) (xs : List ℕ) (j : ℕ) (b : Bool) → (b ≡ true → x ≡ j) → (b || has_placed xs j) ≡ true
    → (has_placed xs j ≡ true → Contains xs j) → Contains (x ∷ xs) j
among-here x xs j true same h rest = (0, omega arith, same refl)
among-here x xs j false same h rest = contains-later x j xs (rest h)

pub among-at : (xs : List ℕ) (j : ℕ) → has_placed xs j ≡ true → Contains xs j
among-at [] j h = absurd (cc)
among-at (x ∷ xs) j h = among-here x xs j (x == j) (λ e. grind (arith, nat_tests)) h (λ g. among-at xs j g)

item-name : (ts : List TypeItem) (j : ℕ) → (get_or ts j no_type).name ≡ get_or (map (λ t. t.name) ts) j []
item-name [] j = refl
item-name (t ∷ ts) zero = refl
item-name (t ∷ ts) (suc j) = item-name ts j

-- a type that stands in an order has its name there
ordered : (ts : List TypeItem) (order : List ℕ) (j : ℕ) (n : List ℕ) → Contains order j → get_or (map (λ t. t.name) ts) j [] ≡ n → Contains (ordered_names ts order) n
ordered ts order j n c e =
    subst (Contains (ordered_names ts order)) (item-name ts j ∙ e) (contains-map (λ (k : ℕ). (get_or ts k no_type).name) order j c)

pub placed-earlier : (i : InterfaceTree) (order : List ℕ) → IsPlacement (type_uses i) order → TypesKnown i → NamesEarlier (used_names i) i.types order
placed-earlier i order placed known k l =
    let at = get_or order k 0 in
    let next = placed.next k l in
    let in_range : at < length i.types = omega (arith, next.in_range, length-map i.types (uses_of_type (own_types i))) in
    let t = get_or i.types at no_type in
    let before = take k order in
    let ready = (split (not (has_placed before at)) (list_all (has_placed before) (get_or (type_uses i) at [])) next.ready).1 in
    let all = subst (λ us. list_all (has_placed before) us ≡ true) (get_or-map (uses_of_type (own_types i)) i.types at no_type [] in_range) ready in (
      in_range,
      all-from (Contains (used_names i ++ ordered_names i.types before)) (named_definition t.definition) (λ n c.
          let knows : Contains (type_names i) n = let h = known at no_type in_range c.0 n c.1 in subst (Contains (type_names i)) c.2 h in
          elim (contains-either (used_names i) (own_types i) n knows) [
            | inl u ↦ contains-left (used_names i) (ordered_names i.types before) n u
            | inr o ↦
                let found = place-found (own_types i) n o in
                let placed_before = all-places (has_placed before) (place_of (own_types i)) (named_definition t.definition) n found.0 all c found.1 in
                contains-right (used_names i) (ordered_names i.types before) n (ordered i.types before found.0 n (among-at before found.0 placed_before) found.2)
          ]),
    )

-- all of an interface's types stand before its functions
own-placed : (i : InterfaceTree) (order : List ℕ) → IsPlacement (type_uses i) order → (n : List ℕ) → Contains (own_types i) n → Contains (ordered_names i.types order) n
own-placed i order placed n c =
    let l : c.0 < length (type_uses i) = omega (arith, c.1, length-map i.types (λ (t : TypeItem). t.name), length-map i.types (uses_of_type (own_types i))) in
    ordered i.types order c.0 n (among-at order c.0 (placed.complete c.0 l)) (get_or_default (own_types i) c.0 [] n c.1 ∙ c.2)

-- the names of an interface's scope
pub all-placed : (i : InterfaceTree) (order : List ℕ) → IsPlacement (type_uses i) order → (n : List ℕ) → Contains (type_names i) n → Contains (used_names i ++ ordered_names i.types order) n
all-placed i order placed n c = elim (contains-either (used_names i) (own_types i) n c) [
  | inl u ↦ contains-left (used_names i) (ordered_names i.types order) n u
  | inr o ↦ contains-right (used_names i) (ordered_names i.types order) n (own-placed i order placed n o)
]

pub functions-placed : (i : InterfaceTree) (order : List ℕ) → IsPlacement (type_uses i) order → FunctionsKnown i
    → All (λ f. All (Contains (used_names i ++ ordered_names i.types order)) (names_in_function f.function)) i.functions
functions-placed i order placed known k d l = all-mono _ _ (all-placed i order placed) (names_in_function (get_or i.functions k d).function) (known k d l)
