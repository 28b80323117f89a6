-- Worked examples: the form, the type entries and the scopes of two small tables, and tables that no package has.
use Rattle.std.specs.List.{list_any, list_all}
use Rattle.std.proofs.lemmas.Slice.Eq.{bytes_eq-Decides}
use Rattle.std.proofs.Common.{Bool, ◌||◌, slice_index_or, bytes_eq, subst, nat_le, slice_index, ◌&&◌, ◌∙◌, ◌≡◌, ◌≤◌, ◌<◌, inl, inr, ℕ, zero, suc, ◌+◌, true, false, not, List, [], ◌∷◌, map, length, take, Some, None, codes, refl, ap, sym, arith, IsTrue, Contains, All, true≢false}
use Rattle.atoms.specs.Label.{is_label}
use Rattle.atoms.specs.FullName.{is_package_label, is_version}
use Rattle.tables.specs.declared.tables.ValType.TheVariants as val
use Rattle.tables.specs.declared.tables.TypeDefKind.TheVariants as kind
use Rattle.tables.specs.declared.tables.Definition.{Definition}
use Rattle.tables.specs.declared.tables.Resolve.{Resolve}
use Rattle.tables.specs.PackageNames.{PackageParts}
use Rattle.tables.specs.Tables.{are_earlier}
use Rattle.package_form.specs.Scope.{lowered, IsDuplicate, IsMetBefore, AreDistinct}
use Rattle.package_form.specs.Ids.{type_id, interfaces_in, places_where, is_world_function}
use Rattle.package_form.specs.Entries.{table_of, type_entries}
use Rattle.package_form.specs.Ends.{end_of, rows_of, interfaces_end, world_end, world_rows, is_parted}
use Rattle.package_form.specs.Postfix.{parts_of, begin, inner, whole, IsPostfix}
use Rattle.package_form.specs.Unused.{are_used}
use Rattle.package_form.specs.References.{row_references}
use Rattle.package_form.specs.Reached.{reached}
use Rattle.package_form.specs.Closed.{is_same_package, are_apart, are_of_a_set, has_each_package, is_closed_table}
use Rattle.package_form.specs.Form.{is_package_name, ids_of, has_ids, functions_of, has_items, have_items, are_interfaces, is_local, is_world_row, IsInPackageForm}
use Rattle.package_form.specs.Naming.{package_scopes, Repeats}
use Rattle.tables.proofs.Examples.{id, named_row, unnamed_row, field_of, parameter_of, function_in, function_of_world, interface_of, imports_interface, imports_function, world_of, u8, u32, texts, item_row, pay_row, put_row, shop_rows, host_rows, rows, types, shop, host, a_b, p, types_name, shop_name, c_d, used_rows, money, till, q}
use Rattle.tables.proofs.ClosedTypesRowByRow.{split}
use Rattle.package_form.proofs.NamesMetOneByOne.{below_or_at}
use Rattle.package_form.proofs.PostfixIsDecided.{used-postfix, postfix-used}

-- ---- its form

-- 1 the component type; types 1, then 1, 2, 1, 1, 2, 2, 2; shop 1 and 1, then 2, 1, 1, 1; host 1 and 1 and 1, then 1, 1
p-entries : type_entries (table_of p) ≡ 25
p-entries = refl

p-few : type_entries (table_of p) ≤ 65535
p-few = omega arith

pub p-postfix : IsPostfix rows
p-postfix = used-postfix rows refl refl

-- 1.2.0 is a version of SemVer: the library `semver` reads it
p-in-form : is_version (codes "1.2.0") ≡ true → IsInPackageForm p
unfolding is_package_label is_label
p-in-form version = record {
  closed = refl;
  names = ap (λ b. b && true) version;
  parted = refl;
  interfaces = refl;
  worlds = refl;
  postfix = p-postfix;
  entries = p-few;
}

-- where the rows of each interface and of the world begin and end
p-ends : (end_of 0 types ≡ 7) × (interfaces_end 0 p.interfaces ≡ 11) × (world_end 11 host ≡ 13)
p-ends = (refl, refl, refl)

p-parts : (rows_of rows 7 shop ≡ shop_rows) × (world_rows rows 11 host ≡ host_rows)
p-parts = (refl, refl)

p-ids : (ids_of types ≡ 1 ∷ 2 ∷ 4 ∷ 5 ∷ 6 ∷ []) × (functions_of host ≡ 12 ∷ []) × (interfaces_in (table_of p) ≡ p.interfaces) × (places_where is_world_function 0 rows ≡ 12 ∷ [])
p-ids = (refl, refl, refl, refl)

-- what rows are made of, and which of these have no name
p-references : (row_references item_row ≡ type_id 0 ∷ []) × (row_references pay_row ≡ type_id 3 ∷ []) × (row_references put_row ≡ type_id 7 ∷ type_id 8 ∷ type_id 9 ∷ [])
p-references = (refl, refl, refl)

p-unnamed : (parts_of rows item_row ≡ 0 ∷ []) × (parts_of rows pay_row ≡ 3 ∷ []) × (parts_of rows put_row ≡ 8 ∷ 9 ∷ [])
p-unnamed = (refl, refl, refl)

-- the use reaches types, the world types and shop
p-reached : reached rows p.worlds ≡ 0 ∷ 0 ∷ 1 ∷ []
p-reached = refl

p-scopes : package_scopes p
    ≡ (codes "types" ∷ codes "shop" ∷ codes "host" ∷ [])
    ∷ (codes "item" ∷ codes "stock" ∷ codes "pay" ∷ codes "color" ∷ codes "mode" ∷ [])
    ∷ [] ∷ (codes "tags" ∷ codes "size" ∷ []) ∷ [] ∷ [] ∷ (codes "cash" ∷ codes "card" ∷ []) ∷ (codes "red" ∷ codes "green" ∷ []) ∷ (codes "r" ∷ codes "w" ∷ [])
    ∷ (codes "thing" ∷ codes "put" ∷ [])
    ∷ [] ∷ [] ∷ [] ∷ (codes "t" ∷ codes "m" ∷ [])
    ∷ (types_name ∷ codes "run" ∷ []) ∷ (shop_name ∷ []) ∷ [] ∷ [] ∷ (codes "x" ∷ [])
    ∷ []
p-scopes = refl

-- ---- rows in no postfix order

-- list<string>, then the record that is made of it
two-rows : IsPostfix (texts ∷ item_row ∷ [])
two-rows = whole (texts ∷ []) item_row refl refl (inner [] [] (kind.List val.String) refl begin)

module _ (rows : List Definition) (earlier : IsTrue (are_earlier 0 rows)) where
  -- the relation holds of no rows that the test refuses
  abbrev IsRefused : Type 0
  IsRefused = are_used rows 0 [] rows ≡ false → IsPostfix rows → ⊥

  refused : IsRefused
  refused fails is = true≢false (sym (postfix-used rows earlier is) ∙ fails)

abbrev two_lists : ℕ → ℕ → Definition
two_lists m n = named_row 0 (codes "a") (kind.Record (field_of (codes "x") (id m) ∷ field_of (codes "y") (id n) ∷ []))

-- a list that is used twice, not at all, or by a row behind the next one with a name
used-twice : IsPostfix (texts ∷ two_lists 0 0 ∷ []) → ⊥
used-twice = refused (texts ∷ two_lists 0 0 ∷ []) refl refl

not-used : IsPostfix (texts ∷ named_row 0 (codes "a") (kind.Alias val.String) ∷ []) → ⊥
not-used = refused (texts ∷ named_row 0 (codes "a") (kind.Alias val.String) ∷ []) refl refl

left-over : IsPostfix (texts ∷ []) → ⊥
left-over = refused (texts ∷ []) refl refl

used-late : IsPostfix (texts ∷ named_row 0 (codes "a") (kind.Alias u8) ∷ item_row ∷ []) → ⊥
used-late = refused (texts ∷ named_row 0 (codes "a") (kind.Alias u8) ∷ item_row ∷ []) refl refl

-- two lists stand in the order in which they are used
in-order : IsPostfix (texts ∷ unnamed_row (kind.List u8) ∷ two_lists 0 1 ∷ [])
in-order = used-postfix (texts ∷ unnamed_row (kind.List u8) ∷ two_lists 0 1 ∷ []) refl refl

out-of-order : IsPostfix (texts ∷ unnamed_row (kind.List u8) ∷ two_lists 1 0 ∷ []) → ⊥
out-of-order = refused (texts ∷ unnamed_row (kind.List u8) ∷ two_lists 1 0 ∷ []) refl refl

-- a record has a name, and a new name is not that of a row without one: `type a = list<string>` is one row
record-without-name : IsPostfix (unnamed_row (kind.Record (field_of (codes "x") u8 ∷ [])) ∷ named_row 0 (codes "a") (kind.List (id 0)) ∷ []) → ⊥
record-without-name = refused (unnamed_row (kind.Record (field_of (codes "x") u8 ∷ [])) ∷ named_row 0 (codes "a") (kind.List (id 0)) ∷ []) refl refl

alias-of-a-list : IsPostfix (texts ∷ named_row 0 (codes "a") (kind.Alias (id 0)) ∷ []) → ⊥
alias-of-a-list = refused (texts ∷ named_row 0 (codes "a") (kind.Alias (id 0)) ∷ []) refl refl

-- ---- interfaces that don't fit their rows

-- the rows of shop before those of types, a row of nobody, or a function of a world that is no item
not-parted : (is_parted 13 0 (shop ∷ types ∷ []) (host ∷ []) ≡ false) × (is_parted 14 0 p.interfaces p.worlds ≡ false) × (is_parted 13 0 p.interfaces [] ≡ false)
not-parted = (refl, refl, refl)

-- ids in another order, one that is left out, a used name among the types, a type of another interface
ids-swapped : has_ids rows 0 (interface_of 0 (codes "types") [] (2 ∷ 1 ∷ 4 ∷ 5 ∷ 6 ∷ []) []) ≡ false
ids-swapped = refl

id-left-out : has_ids rows 0 (interface_of 0 (codes "types") [] (1 ∷ 2 ∷ 5 ∷ 6 ∷ []) []) ≡ false
id-left-out = refl

use-as-a-type : (has_ids rows 7 shop ≡ true) × (has_ids rows 7 (interface_of 0 (codes "shop") [] (7 ∷ []) (10 ∷ [])) ≡ false)
use-as-a-type = (refl, refl)

type-as-a-use : has_ids rows 0 (interface_of 0 (codes "types") (1 ∷ []) (2 ∷ 4 ∷ 5 ∷ 6 ∷ []) []) ≡ false
type-as-a-use = refl

-- used names come first, then types, then functions
abbrev all_three : Definition → Definition → Definition → List Definition
all_three a b c = named_row 0 (codes "a") (kind.Alias u8) ∷ a ∷ b ∷ c ∷ []

abbrev use_row : Definition
use_row = named_row 1 (codes "b") (kind.Use (type_id 0))

abbrev type_row : Definition
type_row = named_row 1 (codes "c") (kind.Alias u8)

abbrev function_row : Definition
function_row = function_in 1 (codes "d") [] None

use-type-function : has_ids (all_three use_row type_row function_row) 1 (interface_of 0 (codes "i") (1 ∷ []) (2 ∷ []) (3 ∷ [])) ≡ true
use-type-function = refl

no-other-order : (has_ids (all_three type_row use_row function_row) 1 (interface_of 0 (codes "i") (2 ∷ []) (1 ∷ []) (3 ∷ [])) ≡ false)
    × (has_ids (all_three use_row function_row type_row) 1 (interface_of 0 (codes "i") (1 ∷ []) (3 ∷ []) (2 ∷ [])) ≡ false)
no-other-order = (refl, refl)

-- a row is of its interface, names types of its interface alone, and uses those of earlier ones
other-interface : (is_local rows 0 item_row ≡ true) × (is_local rows 1 item_row ≡ false)
other-interface = (refl, refl)

other-function : (is_local rows 1 put_row ≡ true) × (is_local rows 0 put_row ≡ false) × (is_local rows 0 (function_of_world 0 (codes "f") [] None) ≡ false)
other-function = (refl, refl, refl)

named-elsewhere : is_local rows 1 (named_row 1 (codes "a") (kind.List (id 1))) ≡ false
named-elsewhere = refl

use-of-its-own : is_local rows 0 (named_row 0 (codes "a") (kind.Use (type_id 1))) ≡ false
use-of-its-own = refl

-- two interfaces, of which the first uses a name of the second
abbrev crossed_rows : List Definition
crossed_rows = named_row 1 (codes "a") (kind.Alias u8) ∷ named_row 0 (codes "a") (kind.Use (type_id 0)) ∷ []

use-of-a-later : (is_local crossed_rows 0 (named_row 0 (codes "a") (kind.Use (type_id 0))) ≡ false)
    × (are_interfaces crossed_rows 1 0 (interface_of 0 (codes "y") [] (0 ∷ []) [] ∷ interface_of 0 (codes "x") (1 ∷ []) [] [] ∷ []) ≡ false)
use-of-a-later = (refl, refl)

-- a use of a row without a name
use-of-a-list : is_local rows 1 (named_row 1 (codes "a") (kind.Use (type_id 0))) ≡ false
use-of-a-list = refl

-- a world's functions are its items, in order, and name no type
world-items : (has_items rows 11 host ≡ true) × (has_items rows 11 (world_of 0 (codes "host") (imports_interface 0 ∷ [])) ≡ true)
world-items = (refl, refl)

abbrev two_functions : List Definition
two_functions = function_of_world 0 (codes "f") [] None ∷ function_of_world 0 (codes "g") [] None ∷ []

functions-in-order : (have_items two_functions 0 0 (world_of 0 (codes "w") (imports_function 0 ∷ imports_function 1 ∷ []) ∷ []) ≡ true)
    × (have_items two_functions 0 0 (world_of 0 (codes "w") (imports_function 1 ∷ imports_function 0 ∷ []) ∷ []) ≡ false)
    × (have_items two_functions 0 0 (world_of 0 (codes "w") (imports_function 1 ∷ []) ∷ []) ≡ false)
functions-in-order = (refl, refl, refl)

function-of-a-world : (is_world_row rows 0 (function_of_world 0 (codes "f") (parameter_of (codes "x") (id 0) ∷ []) None) ≡ true)
    × (is_world_row rows 0 (function_of_world 1 (codes "f") [] None) ≡ false) × (is_world_row rows 0 put_row ≡ false) × (is_world_row rows 0 item_row ≡ false)
    × (is_world_row rows 0 (function_of_world 0 (codes "f") (parameter_of (codes "x") (id 1) ∷ []) None) ≡ false)
function-of-a-world = (refl, refl, refl, refl, refl)

-- ---- two packages: the second imports an interface of the first

q-in-form : is_version (codes "1.2.0") ≡ true → IsInPackageForm q
unfolding is_package_label is_label
q-in-form version = record {
  closed = refl;
  names = ap (λ b. b && true) version;
  parted = refl;
  interfaces = refl;
  worlds = refl;
  postfix = used-postfix used_rows refl refl;
  entries = omega arith;
}

-- 1; money 1, then a definition and an export; till an alias, 1, then an outer alias and an export
q-entries : type_entries (table_of q) ≡ 1 + (1 + 2) + (1 + 1 + 2)
q-entries = refl

-- each package has a scope of its own
q-scopes : package_scopes q ≡ (codes "money" ∷ []) ∷ (codes "till" ∷ []) ∷ (codes "money" ∷ []) ∷ [] ∷ (codes "money" ∷ []) ∷ [] ∷ []
q-scopes = refl

-- an interface that isn't reached, by nothing or by its own number in another place; an item of a world reaches it
not-reached : (is_closed_table q.packages q.interfaces [] (named_row 0 (codes "money") (kind.Alias u32) ∷ named_row 1 (codes "money") (kind.Alias u32) ∷ []) ≡ false)
    × (is_closed_table q.packages (money ∷ []) (world_of 1 (codes "w") [] ∷ []) [] ≡ false)
    × (is_closed_table q.packages (money ∷ []) (world_of 1 (codes "w") (imports_interface 0 ∷ []) ∷ []) [] ≡ true)
not-reached = (refl, refl, refl)

-- the own package has nothing, an earlier package has nothing, or packages come in another order
own-is-empty : is_closed_table q.packages (money ∷ []) [] used_rows ≡ false
own-is-empty = refl

package-left-out : (is_closed_table (a_b ∷ c_d ∷ []) (till ∷ []) [] [] ≡ false) × (has_each_package 2 0 (money ∷ till ∷ []) ≡ true) × (has_each_package 2 0 (money ∷ []) ≡ false)
package-left-out = (refl, refl, refl)

wrong-order : (has_each_package 1 0 (till ∷ money ∷ []) ≡ false) × (has_each_package 1 0 (money ∷ interface_of 2 (codes "x") [] [] [] ∷ []) ≡ false)
wrong-order = (refl, refl)

no-package : is_closed_table [] [] [] [] ≡ false
no-package = refl

-- a world of another package
foreign-world : is_closed_table q.packages q.interfaces (world_of 0 (codes "w") [] ∷ []) used_rows ≡ false
foreign-world = refl

-- packages are the same by namespace, name and version
same-name : (is_same_package a_b a_b ≡ true) × (is_same_package a_b c_d ≡ false)
    × (is_same_package a_b (record { namespace = codes "a"; name = codes "b"; version = Some (codes "1.2.1") }) ≡ false)
    × (is_same_package a_b (record { namespace = codes "a"; name = codes "b"; version = None }) ≡ false)
    × (is_same_package c_d (record { namespace = codes "c"; name = codes "e"; version = None }) ≡ false)
    × (is_same_package c_d (record { namespace = codes "e"; name = codes "d"; version = None }) ≡ false)
    × (is_same_package c_d c_d ≡ true)
same-name = (refl, refl, refl, refl, refl, refl, refl)

twice-one-name : (are_apart (a_b ∷ c_d ∷ []) ≡ true) × (are_apart (a_b ∷ c_d ∷ a_b ∷ []) ≡ false) × (are_of_a_set (c_d ∷ c_d ∷ []) ≡ false)
twice-one-name = (refl, refl, refl)

-- 64 packages at most
few-packages : (ps : List PackageParts) → are_apart ps ≡ true → (length ps ≡ 64 → are_of_a_set ps ≡ true) × (length ps ≡ 65 → are_of_a_set ps ≡ false)
few-packages ps apart = (
  λ e. ap (λ n. nat_le n 64 && are_apart ps) e ∙ apart,
  λ e. ap (λ n. nat_le n 64 && are_apart ps) e,
)

-- namespaces and packages in lower case, and versions of SemVer
lower-case : (is_package_name c_d ≡ true) × (is_package_name (record { namespace = codes "A"; name = codes "b"; version = None }) ≡ false)
    × (is_package_name (record { namespace = codes "a"; name = codes "b-C"; version = None }) ≡ false)
    × (is_package_name (record { namespace = codes "a"; name = codes "b-2"; version = None }) ≡ false)
unfolding is_package_label is_label
lower-case = (refl, refl, refl, refl)

version-of-semver : is_version (codes "1.2") ≡ false → is_package_name (record { namespace = codes "a"; name = codes "b"; version = Some (codes "1.2") }) ≡ false
unfolding is_package_label is_label
version-of-semver not_version = not_version

-- 65,535 type entries, and no more
too-many : (r : Resolve) → type_entries (table_of r) ≡ 65536 → IsInPackageForm r → ⊥
too-many r e form = omega (arith, e, form.entries)

-- ---- names of one scope

abbrev pub three_names : List (List ℕ)
three_names = codes "item" ∷ codes "other" ∷ codes "Item" ∷ []

-- ITEM is item again, and other is no name before it
met-again : IsDuplicate three_names (codes "Item")
met-again = (2, omega arith, refl, (0, omega arith, refl))

not-again : IsDuplicate (codes "item" ∷ codes "other" ∷ []) (codes "other") → ⊥
not-again (zero, l, e, (j, m, same)) = omega arith
not-again (suc zero, l, e, (zero, m, same)) = let n : 105 ≡ 111 = ap (λ ns. slice_index ns 0) same in omega (arith, n)
not-again (suc zero, l, e, (suc j, m, same)) = omega arith
not-again (suc (suc k), l, e, met) = omega arith

-- the first of two is not the one that is told
not-the-first : IsDuplicate three_names (codes "item") → ⊥
not-the-first (zero, l, e, (j, m, same)) = omega arith
not-the-first (suc zero, l, e, met) = let n : 111 ≡ 105 = ap (λ ns. slice_index ns 0) e in omega (arith, n)
not-the-first (suc (suc zero), l, e, met) = let n : 73 ≡ 105 = ap (λ ns. slice_index ns 0) e in omega (arith, n)
not-the-first (suc (suc (suc k)), l, e, met) = omega arith

two-distinct : AreDistinct (codes "item" ∷ codes "other" ∷ [])
two-distinct = record { each = each }
  where
    each : (k : ℕ) → k < 2 → IsMetBefore (codes "item" ∷ codes "other" ∷ []) k → ⊥
    each zero l (j, m, same) = omega arith
    each (suc zero) l (zero, m, same) = let n : 105 ≡ 111 = ap (λ ns. slice_index ns 0) same in omega (arith, n)
    each (suc zero) l (suc j, m, same) = omega arith
    each (suc (suc k)) l met = omega arith

not-distinct : AreDistinct three_names → ⊥
not-distinct d = d.each 2 (omega arith) (0, omega arith, refl)

-- an interface whose type and function share a name
abbrev twice : Resolve
twice = record {
  packages = c_d ∷ [];
  interfaces = interface_of 0 (codes "i") [] (0 ∷ []) (1 ∷ []) ∷ [];
  worlds = [];
  definitions = named_row 0 (codes "a") (kind.Alias u8) ∷ function_in 0 (codes "A") [] None ∷ [];
  earlier = refl;
  typed = refl;
  standard = refl;
  placed = refl;
  grouped = refl;
  worlds_grouped = refl;
  worlds_placed = refl;
}

repeats : Repeats twice (codes "A")
repeats = (codes "a" ∷ codes "A" ∷ [], (1, omega arith, refl), (1, omega arith, refl, (0, omega arith, refl)))

-- a test of names that differ, by which whole tables are shown to have none twice
abbrev pub is_met : List (List ℕ) → ℕ → Bool
is_met names k = list_any (λ m. bytes_eq m (lowered (slice_index_or names k []))) (map lowered (take k names))

abbrev pub are_new : List (List ℕ) → ℕ → Bool
are_new names zero = true
are_new names (suc n) = not (is_met names n) && are_new names n

abbrev pub is_scope : List (List ℕ) → Bool
is_scope names = are_new names (length names)

pub found : (n : List ℕ) (ms : List (List ℕ)) → Contains ms n → list_any (λ m. bytes_eq m n) ms ≡ true
found n [] (k, l, e) = absurd (omega arith)
found n (m ∷ ms) (zero, l, e) = ap (λ b. b || list_any (λ m. bytes_eq m n) ms) ((bytes_eq-Decides m n).1 e)
found n (m ∷ ms) (suc k, l, e) = or-right (bytes_eq m n) (found n ms (k, omega arith, e))
  where
    or-right : (a : Bool) {b : Bool} → b ≡ true → (a || b) ≡ true
    or-right true h = refl
    or-right false h = h

new-each : (names : List (List ℕ)) (n : ℕ) → are_new names n ≡ true → (k : ℕ) → k < n → IsMetBefore names k → ⊥
new-each names zero h k l met = omega arith
new-each names (suc n) h k l met = elim (below_or_at k n l) [
  | inl less ↦ new-each names n (split (not (is_met names n)) (are_new names n) h).1 k less met
  | inr is ↦
      let at : IsMetBefore names n = subst (λ i. IsMetBefore names i) is met in
      true≢false (sym (sym (ap not (found (lowered (slice_index_or names n [])) (map lowered (take n names)) at)) ∙ (split (not (is_met names n)) (are_new names n) h).0))
]

pub all-distinct : (ss : List (List (List ℕ))) → list_all is_scope ss ≡ true → All AreDistinct ss
all-distinct [] h k d l = absurd (omega arith)
all-distinct (s ∷ ss) h zero d l = record { each = new-each s (length s) (split (is_scope s) (list_all is_scope ss) h).0 }
all-distinct (s ∷ ss) h (suc k) d l = all-distinct ss (split (is_scope s) (list_all is_scope ss) h).1 k d (omega arith)

p-distinct : All AreDistinct (package_scopes p)
p-distinct = all-distinct (package_scopes p) refl

p-has-none-twice : (name : List ℕ) → Repeats p name → ⊥
p-has-none-twice name (names, (k, l, e), (j, m, is, met)) = (subst AreDistinct e (p-distinct k names l)).each j m met
