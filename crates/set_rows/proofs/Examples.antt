-- Worked examples: which elements are kept and where they stand then, whose the rows of a table are, and what is reached in a set.
use Rattle.std.specs.List.{list_all, items_where_true}
use Rattle.std.specs.Option.{unwrap_or}
use Rattle.std.proofs.Common.{◌≡◌, inl, inr, ℕ, zero, suc, Bool, true, false, not, ◌&&◌, ◌||◌, List, [], ◌∷◌, map, slice_get, slice_index_or, Some, None, Option, codes, refl, ap, sym, subst, arith, Contains, true≢false}
use Rattle.tables.specs.declared.tables.ValType.TheVariants as val
use Rattle.tables.specs.declared.tables.TypeDefKind.TheVariants as kind
use Rattle.tables.specs.declared.tables.Owner.{Owner}
use Rattle.tables.specs.declared.tables.Owner.TheVariants as owner
use Rattle.tables.specs.declared.tables.Definition.{Definition}
use Rattle.tables.specs.declared.tables.Interface.{Interface}
use Rattle.tables.specs.declared.tables.World.{World}
use Rattle.tables.specs.declared.tables.Resolve.{Resolve}
use Rattle.tables.specs.PackageNames.{PackageParts}
use Rattle.tables.proofs.ClosedTypesRowByRow.{split}
use Rattle.tables.proofs.Examples.{type_id, in_interface, in_world, id, named_row, unnamed_row, field_of, parameter_of, function_in, function_of_world, interface_of, imports_interface, imports_function, world_of, u8, u32, item_row, put_row, a_b, c_d}
use Rattle.set_rows.specs.Places.{place}
use Rattle.set_rows.specs.Owners.{owners, names}
use Rattle.set_rows.specs.Moved.{Renaming, put_kind, put_row as move_row, put_interface, put_world}
use Rattle.set_rows.specs.Renamed.{renaming}
use Rattle.set_rows.specs.Reaches.{Marks, is_marked, own_marks, given_marks, world_owners, named_owners, Start, OfPackage, OfInterfaces, IsStart, Reaches, of_start, of_row, AreReached}

-- ---- what is kept of a list, and where it is then

kept-two : items_where_true {X = ℕ} (true ∷ false ∷ true ∷ []) (7 ∷ 8 ∷ 9 ∷ []) ≡ 7 ∷ 9 ∷ []
kept-two = refl

-- an element without a mark is not kept
kept-first : items_where_true {X = ℕ} (true ∷ []) (7 ∷ 8 ∷ 9 ∷ []) ≡ 7 ∷ []
kept-first = refl

kept-none : (items_where_true {X = ℕ} (false ∷ false ∷ []) (7 ∷ 8 ∷ []) ≡ []) × (items_where_true {X = ℕ} (true ∷ true ∷ []) (7 ∷ []) ≡ 7 ∷ [])
kept-none = (refl, refl)

places-of-two : map (place (true ∷ false ∷ true ∷ [])) (0 ∷ 1 ∷ 2 ∷ 3 ∷ 4 ∷ []) ≡ 0 ∷ 1 ∷ 1 ∷ 2 ∷ 2 ∷ []
places-of-two = refl

-- the third is the second of those that are kept, and not the third
place-moves : place (true ∷ false ∷ true ∷ []) 2 ≡ 2 → ⊥
place-moves e = let n : 1 ≡ 2 = e in omega (arith, n)

-- ---- a set of three packages: the second uses a type of the first, and a world of the third imports the second's interface

abbrev e_f : PackageParts
e_f = record { namespace = codes "e"; name = codes "f"; version = None }

abbrev money_row : Definition
money_row = named_row 0 (codes "money") (kind.Alias u32)

abbrev coin_row : Definition
coin_row = named_row 2 (codes "coin") (kind.Use (type_id 0))

abbrev run_row : Definition
run_row = function_of_world 0 (codes "run") (parameter_of (codes "x") (id 3) ∷ []) None

abbrev rows_of_set : List Definition
rows_of_set = money_row ∷ named_row 1 (codes "other") (kind.Alias u8) ∷ coin_row ∷ unnamed_row (kind.List u8) ∷ run_row ∷ []

abbrev money : Interface
money = interface_of 0 (codes "money") [] (0 ∷ []) []

abbrev other : Interface
other = interface_of 0 (codes "other") [] (1 ∷ []) []

abbrev till : Interface
till = interface_of 1 (codes "till") (2 ∷ []) [] []

abbrev host : World
host = world_of 2 (codes "host") (imports_interface 2 ∷ imports_function 4 ∷ [])

abbrev set : Resolve
set = record {
  packages = a_b ∷ c_d ∷ e_f ∷ [];
  interfaces = money ∷ other ∷ till ∷ [];
  worlds = host ∷ [];
  definitions = rows_of_set;
  earlier = refl;
  typed = refl;
  standard = refl;
  placed = refl;
  grouped = refl;
  worlds_grouped = refl;
  worlds_placed = refl;
}

abbrev of_interface : ℕ → Option Owner
of_interface n = Some (owner.Interface (in_interface n))

abbrev of_world : ℕ → Option Owner
of_world n = Some (owner.World (in_world n))

-- a row without a name is of the next one's
set-owners : owners rows_of_set ≡ of_interface 0 ∷ of_interface 1 ∷ of_interface 2 ∷ of_world 0 ∷ of_world 0 ∷ []
set-owners = refl

last-without-name : owners (unnamed_row (kind.List u8) ∷ []) ≡ None ∷ []
last-without-name = refl

-- what rows name: a used name its type, others what they are made of
row-names : (names coin_row ≡ type_id 0 ∷ []) × (names item_row ≡ type_id 0 ∷ []) × (names put_row ≡ type_id 7 ∷ type_id 8 ∷ type_id 9 ∷ []) × (names money_row ≡ [])
row-names = (refl, refl, refl, refl)

row-owners : (named_owners (owners rows_of_set) coin_row ≡ of_interface 0 ∷ []) × (named_owners (owners rows_of_set) run_row ≡ of_world 0 ∷ [])
row-owners = (refl, refl)

-- ---- where what is kept of the set stands: the first two packages, without the second interface

abbrev to : Renaming
to = renaming (record {
  packages = true ∷ true ∷ false ∷ [];
  interfaces = true ∷ false ∷ true ∷ [];
  worlds = false ∷ [];
  rows = true ∷ false ∷ true ∷ false ∷ false ∷ [];
})

abbrev moved_coin : Definition
moved_coin = named_row 1 (codes "coin") (kind.Use (type_id 0))

moved-rows : map (move_row to) (items_where_true (true ∷ false ∷ true ∷ false ∷ false ∷ []) rows_of_set) ≡ money_row ∷ moved_coin ∷ []
moved-rows = refl

moved-interfaces : map (put_interface to) (items_where_true (true ∷ false ∷ true ∷ []) set.interfaces) ≡ money ∷ interface_of 1 (codes "till") (1 ∷ []) [] [] ∷ []
moved-interfaces = refl

-- ids of rows that are not kept don't stay
moved-ids : put_interface to (interface_of 1 (codes "i") (0 ∷ 1 ∷ []) (1 ∷ 2 ∷ []) (2 ∷ 3 ∷ [])) ≡ interface_of 1 (codes "i") (0 ∷ []) (1 ∷ []) (1 ∷ [])
moved-ids = refl

-- the third package alone: row 4 is the second that is kept, and the interface the first
abbrev to_last : Renaming
to_last = renaming (record {
  packages = false ∷ true ∷ true ∷ [];
  interfaces = false ∷ false ∷ true ∷ [];
  worlds = true ∷ [];
  rows = false ∷ false ∷ false ∷ true ∷ true ∷ [];
})

moved-world : put_world to_last host ≡ world_of 1 (codes "host") (imports_interface 0 ∷ imports_function 1 ∷ [])
moved-world = refl

moved-function : move_row to_last run_row ≡ function_of_world 0 (codes "run") (parameter_of (codes "x") (id 0) ∷ []) None
moved-function = refl

-- a world behind one that is not kept
moved-owner : move_row (renaming (record { packages = []; interfaces = []; worlds = false ∷ true ∷ []; rows = [] })) (function_of_world 1 (codes "f") [] None) ≡ function_of_world 0 (codes "f") [] None
moved-owner = refl

-- every type that a row names moves: row 2 is the second that is kept
moved-kinds : map (put_kind to)
    (kind.Alias (id 2) ∷ kind.List (id 2) ∷ kind.Option (id 2) ∷ kind.Result (Some (id 2)) (Some val.String) ∷ kind.Result None (Some (id 2)) ∷ kind.Tuple (u8 ∷ id 2 ∷ [])
    ∷ kind.Record (field_of (codes "a") (id 2) ∷ []) ∷ kind.Variant (record { name = codes "a"; ty = None } ∷ record { name = codes "b"; ty = Some (id 2) } ∷ [])
    ∷ kind.Enum (codes "a" ∷ []) ∷ kind.Flags (codes "a" ∷ []) ∷ [])
    ≡ kind.Alias (id 1) ∷ kind.List (id 1) ∷ kind.Option (id 1) ∷ kind.Result (Some (id 1)) (Some val.String) ∷ kind.Result None (Some (id 1)) ∷ kind.Tuple (u8 ∷ id 1 ∷ [])
    ∷ kind.Record (field_of (codes "a") (id 1) ∷ []) ∷ kind.Variant (record { name = codes "a"; ty = None } ∷ record { name = codes "b"; ty = Some (id 1) } ∷ [])
    ∷ kind.Enum (codes "a" ∷ []) ∷ kind.Flags (codes "a" ∷ []) ∷ []
moved-kinds = refl

moved-result : move_row to (function_in 2 (codes "f") (parameter_of (codes "x") (id 0) ∷ []) (Some (id 2))) ≡ function_in 1 (codes "f") (parameter_of (codes "x") (id 0) ∷ []) (Some (id 1))
moved-result = refl

-- ---- what is reached

abbrev marks : Marks
marks = record { interfaces = true ∷ false ∷ []; worlds = false ∷ [] }

marked : (is_marked marks (of_interface 0) ≡ true) × (is_marked marks (of_interface 1) ≡ false) × (is_marked marks (of_world 0) ≡ false) × (is_marked marks (of_interface 2) ≡ true) × (is_marked marks None ≡ true)
marked = (refl, refl, refl, refl, refl)

own-and-given : (own_marks set 1 ≡ record { interfaces = false ∷ false ∷ true ∷ []; worlds = false ∷ [] })
    × (given_marks set (false ∷ true ∷ []) ≡ record { interfaces = false ∷ true ∷ false ∷ []; worlds = false ∷ [] })
    × (given_marks set (true ∷ true ∷ true ∷ true ∷ []) ≡ record { interfaces = true ∷ true ∷ true ∷ []; worlds = false ∷ [] })
own-and-given = (refl, refl, refl)

-- the interfaces of a world's items, of its own package alone
world-names : (world_owners 2 host ≡ of_interface 2 ∷ []) × (world_owners 1 host ≡ [])
world-names = (refl, refl)

-- the third package reaches its world, the interface that the world imports, and that whose type this one uses
world-reached : Reaches set (OfPackage 2) (of_world 0)
world-reached = of_start (of_world 0) (inl refl)

till-reached : Reaches set (OfPackage 2) (of_interface 2)
till-reached = of_start (of_interface 2) (inr (0, omega arith, refl))

money-reached : Reaches set (OfPackage 2) (of_interface 0)
money-reached = of_row 2 coin_row (of_interface 0) refl till-reached (0, omega arith, refl)

-- so do interfaces alone
money-reached-by-till : Reaches set (OfInterfaces (false ∷ false ∷ true ∷ [])) (of_interface 0)
money-reached-by-till = of_row 2 coin_row (of_interface 0) refl (of_start (of_interface 2) refl) (0, omega arith, refl)

-- whether what marked rows name is marked, row by row
abbrev are_fixed : Marks → List (Option Owner) → List (Option Owner) → List Definition → Bool
are_fixed m os own [] = true
are_fixed m os [] (d ∷ ds) = false
are_fixed m os (o ∷ own) (d ∷ ds) = (not (is_marked m o) || list_all (is_marked m) (named_owners os d)) && are_fixed m os own ds

each-marked : (m : Marks) (xs : List (Option Owner)) → list_all (is_marked m) xs ≡ true → (o : Option Owner) → Contains xs o → is_marked m o ≡ true
each-marked m [] h o (k, l, e) = absurd (omega arith)
each-marked m (x ∷ xs) h o (zero, l, e) = subst (λ y. is_marked m y ≡ true) e (split (is_marked m x) (list_all (is_marked m) xs) h).0
each-marked m (x ∷ xs) h o (suc k, l, e) = each-marked m xs (split (is_marked m x) (list_all (is_marked m) xs) h).1 o (k, omega arith, e)

fixed-at : (m : Marks) (os own : List (Option Owner)) (ds : List Definition) → are_fixed m os own ds ≡ true → (k : ℕ) (d : Definition) (o : Option Owner) → slice_get ds k ≡ Some d
    → is_marked m (slice_index_or own k None) ≡ true → Contains (named_owners os d) o → is_marked m o ≡ true
fixed-at m os own [] h k d o e is c = absurd (cc)
fixed-at m os [] (x ∷ ds) h k d o e is c = absurd (true≢false (sym h))
fixed-at m os (p ∷ own) (x ∷ ds) h zero d o e is c =
    let test = (split (not (is_marked m p) || list_all (is_marked m) (named_owners os x)) (are_fixed m os own ds) h).0 in
    let all : list_all (is_marked m) (named_owners os x) ≡ true = subst (λ b. (not b || list_all (is_marked m) (named_owners os x)) ≡ true) is test in
    let same : x ≡ d = ap (λ (y : Option Definition). unwrap_or y x) e in
    each-marked m (named_owners os d) (subst (λ y. list_all (is_marked m) (named_owners os y) ≡ true) same all) o c
fixed-at m os (p ∷ own) (x ∷ ds) h (suc k) d o e is c =
    fixed-at m os own ds (split (not (is_marked m p) || list_all (is_marked m) (named_owners os x)) (are_fixed m os own ds) h).1 k d o e is c

module _ (from : Start) (m : Marks) (starts : (o : Option Owner) → IsStart set from o → is_marked m o ≡ true) (fixed : are_fixed m (owners rows_of_set) (owners rows_of_set) rows_of_set ≡ true) where
  all-marked : (o : Option Owner) → Reaches set from o → is_marked m o ≡ true
  all-marked o (of_start _ s) = starts o s
  all-marked o (of_row k d _ at r c) = fixed-at m (owners rows_of_set) (owners rows_of_set) rows_of_set fixed k d o at (all-marked _ r) c

-- of the second package: the first and the third interface, and no world
abbrev reached_by_second : Marks
reached_by_second = record { interfaces = true ∷ false ∷ true ∷ []; worlds = false ∷ [] }

second-starts : (o : Option Owner) → IsStart set (OfPackage 1) o → is_marked reached_by_second o ≡ true
second-starts None s = refl
second-starts (Some (owner.Interface i)) (inl e) = at i.0 e
  where
    at : (n : ℕ) → slice_index_or (false ∷ false ∷ true ∷ []) n true ≡ true → slice_index_or (true ∷ false ∷ true ∷ []) n true ≡ true
    at zero e = refl
    at (suc zero) e = e
    at (suc (suc zero)) e = refl
    at (suc (suc (suc n))) e = refl
second-starts (Some (owner.World w)) (inl e) = e
second-starts (Some (owner.Interface i)) (inr (k, l, e)) = absurd (omega arith)
second-starts (Some (owner.World w)) (inr (k, l, e)) = absurd (omega arith)

second-reaches : AreReached set (OfPackage 1) reached_by_second
second-reaches = record { count = refl; sound = sound; complete = all-marked (OfPackage 1) reached_by_second second-starts refl }
  where
    from_till : Reaches set (OfPackage 1) (of_interface 0)
    from_till = of_row 2 coin_row (of_interface 0) refl (of_start (of_interface 2) (inl refl)) (0, omega arith, refl)

    at : (n : ℕ) → slice_index_or (true ∷ false ∷ true ∷ []) n true ≡ true → Reaches set (OfPackage 1) (of_interface n)
    at zero e = from_till
    at (suc zero) e = absurd (true≢false (sym e))
    at (suc (suc zero)) e = of_start (of_interface 2) (inl refl)
    at (suc (suc (suc n))) e = of_start (of_interface (suc (suc (suc n)))) (inl refl)

    sound : (o : Option Owner) → is_marked reached_by_second o ≡ true → Reaches set (OfPackage 1) o
    sound None e = of_start None (inl refl)
    sound (Some (owner.Interface i)) e = at i.0 e
    sound (Some (owner.World w)) e = of_start (Some (owner.World w)) (inl e)

other-not-reached : Reaches set (OfPackage 1) (of_interface 1) → ⊥
other-not-reached r = true≢false (sym (second-reaches.complete (of_interface 1) r))

world-not-reached : Reaches set (OfPackage 1) (of_world 0) → ⊥
world-not-reached r = true≢false (sym (second-reaches.complete (of_world 0) r))

-- not these marks: one too few, one too many
not-fewer : AreReached set (OfPackage 1) (record { interfaces = false ∷ false ∷ true ∷ []; worlds = false ∷ [] }) → ⊥
not-fewer a = true≢false (sym (a.complete (of_interface 0) (second-reaches.sound (of_interface 0) refl)))

not-more : AreReached set (OfPackage 1) (record { interfaces = true ∷ true ∷ true ∷ []; worlds = false ∷ [] }) → ⊥
not-more a = other-not-reached (a.sound (of_interface 1) refl)

-- what uses an interface is not reached from it
given-starts : (o : Option Owner) → IsStart set (OfInterfaces (true ∷ [])) o → is_marked (record { interfaces = true ∷ false ∷ false ∷ []; worlds = false ∷ [] }) o ≡ true
given-starts None s = refl
given-starts (Some (owner.Interface i)) s = s
given-starts (Some (owner.World w)) s = s

till-not-reached : Reaches set (OfInterfaces (true ∷ [])) (of_interface 2) → ⊥
till-not-reached r = true≢false (sym (all-marked (OfInterfaces (true ∷ [])) (record { interfaces = true ∷ false ∷ false ∷ []; worlds = false ∷ [] }) given-starts refl (of_interface 2) r))
