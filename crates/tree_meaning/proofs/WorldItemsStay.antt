-- Items of worlds that stand in a table, when more rows come behind it.
use Rattle.std.proofs.Common.{◌≡◌, ℕ, zero, suc, ◌+◌, true, ◌&&◌, ◌==◌, nat_lt, List, [], ◌∷◌, ◌++◌, Option, None, Some, map, flat_map, length, get_or, slice_get, refl, ap, sym, ◌∙◌}
use Rattle.std.specs.List.{list_all}
use Rattle.std.specs.Option.{option_map}
use Rattle.wit_tokens.specs.Syntax.{Ty, Prim, Named, ListOf, OptionOf, TupleOf, ResultOf, Tys, none, more, MaybeTy, Absent, Present, Member}
use Rattle.tables.specs.Tables.{is_type, option_all, function_all, function_of, is_owner_world, is_function_of, is_placed_item}
use Rattle.tables.specs.Package.{Tree, ListTree, ItemMeaning, WithInterface, WorldMeaning, read_val, read_params, function_item, item_meaning}
use Rattle.package_form.specs.Postfix.{unnamed_parameter}
use Rattle.package_form.specs.Entries.{Table}
use Rattle.tree_meaning.specs.Declarations.{named, named_all, named_maybe, named_if, named_member}
use Rattle.tree_meaning.specs.Resolved.{Labelled, resolved, resolved_all, resolved_maybe, resolved_if, member_meaning, fields_of_labelled, option_tree, tuple_tree, result_tree}
use Rattle.tree_meaning.specs.Building.{IsTableFront, table_trees, parameter_typed, read_parameter}
use Rattle.tree_meaning.specs.WorldRows.{is_typed, has_types, item_stands, world_stands, worlds_stand, item_reads, world_reads}
use Rattle.tables.specs.declared.tables.Direction.{Direction}
use Rattle.tables.specs.declared.tables.Function.{Function}
use Rattle.tables.specs.declared.tables.Definition.{Definition}
use Rattle.tables.specs.declared.tables.Definition.TheVariants as row
use Rattle.tables.specs.declared.tables.WorldItemKind.{WorldItemKind}
use Rattle.tables.specs.declared.tables.WorldItemKind.TheVariants as item
use Rattle.tables.specs.declared.tables.WorldItem.{WorldItem}
use Rattle.tables.specs.declared.tables.World.{World}
use Rattle.tables.proofs.ClosedTypesRowByRow.{split, both}
use Rattle.tree_meaning.proofs.TypesReadStay.{all-stay, option-stays, parameter-stays, parameters-read}

-- ---- types that name nothing stand for the same in each interface

pub none-left : (xs ys : List (List ℕ)) → xs ++ ys ≡ [] → xs ≡ []
none-left [] ys e = refl
none-left (x ∷ xs) ys e = absurd (cc)

pub none-right : (xs ys : List (List ℕ)) → xs ++ ys ≡ [] → ys ≡ []
none-right [] ys e = e
none-right (x ∷ xs) ys e = absurd (cc)

module _ (i j : List ℕ) where
  mutual
    type-same : (t : Ty) → named t ≡ [] → resolved i t ≡ resolved j t
    type-same (Prim p) h = refl
    type-same (Named n) h = absurd (cc)
    type-same (ListOf t) h = ap ListTree (type-same t h)
    type-same (OptionOf t) h = ap option_tree (type-same t h)
    type-same (TupleOf ts) h = ap tuple_tree (types-same ts h)
    type-same (ResultOf ok error) h =
        ap (λ (t : Option Tree). result_tree t (resolved_maybe i error)) (maybe-same ok (none-left (named_maybe ok) (named_maybe error) h))
        ∙ ap (result_tree (resolved_maybe j ok)) (maybe-same error (none-right (named_maybe ok) (named_maybe error) h))

    types-same : (ts : Tys) → named_all ts ≡ [] → resolved_all i ts ≡ resolved_all j ts
    types-same none h = refl
    types-same (more t ts) h =
        ap (λ (u : Tree). u ∷ resolved_all i ts) (type-same t (none-left (named t) (named_all ts) h))
        ∙ ap (λ (us : List Tree). resolved j t ∷ us) (types-same ts (none-right (named t) (named_all ts) h))

    maybe-same : (t : MaybeTy) → named_maybe t ≡ [] → resolved_maybe i t ≡ resolved_maybe j t
    maybe-same Absent h = refl
    maybe-same (Present t) h = ap (λ (u : Tree). Some u) (type-same t h)

  pub if-same : (t : Option Ty) → named_if t ≡ [] → resolved_if i t ≡ resolved_if j t
  if-same None h = refl
  if-same (Some t) h = ap (λ (u : Tree). Some u) (type-same t h)

  pub members-same : (ms : List Member) → flat_map named_member ms ≡ [] → map (member_meaning i) ms ≡ map (member_meaning j) ms
  members-same [] h = refl
  members-same (m ∷ ms) h =
      let first : Tree → Labelled = λ t. record { name = m.name; tree = t } in
      ap (λ (t : Tree). first t ∷ map (member_meaning i) ms) (type-same m.ty (none-left (named m.ty) (flat_map named_member ms) h))
      ∙ ap (λ (ls : List Labelled). first (resolved j m.ty) ∷ ls) (members-same ms (none-right (named m.ty) (flat_map named_member ms) h))

-- ---- more rows

get-kept : (xs ys : List Definition) (n : ℕ) (d : Definition) → slice_get xs n ≡ Some d → slice_get (xs ++ ys) n ≡ Some d
get-kept [] ys n d e = absurd (cc)
get-kept (x ∷ xs) ys zero d e = e
get-kept (x ∷ xs) ys (suc n) d e = get-kept xs ys n d e

module _ (old new : Table) (x : IsTableFront old new) where
  -- a function reads the same
  pub function-read : (f : Function) → function_all (is_type old.rows) f ≡ true → (function_all (is_type new.rows) f ≡ true)
      × (read_params (table_trees new) f.params ≡ read_params (table_trees old) f.params) × (option_map (read_val (table_trees new)) f.result ≡ option_map (read_val (table_trees old)) f.result)
  function-read f h =
      let s = split (list_all (parameter_typed old.rows) f.params) (option_all (is_type old.rows) f.result) h in
      let p = all-stay parameter_typed read_parameter unnamed_parameter parameter-stays old new x f.params s.0 in
      let r = option-stays old new x f.result s.1 in (
        both (list_all (parameter_typed new.rows) f.params) (option_all (is_type new.rows) f.result) p.0 r.0,
        parameters-read (table_trees new) f.params ∙ ap fields_of_labelled p.1 ∙ sym (parameters-read (table_trees old) f.params),
        r.1,
      )

  pub function-stays : (way : Direction) (f : Function) → function_all (is_type old.rows) f ≡ true
      → (function_all (is_type new.rows) f ≡ true) × (function_item (table_trees new) way (Some f) ≡ function_item (table_trees old) way (Some f))
  function-stays way f h =
      let r = function-read f h in
      (r.0, rw (r.1, r.2) refl)

  item-stays : (k : ℕ) (i : WorldItem) → item_stands old k i ≡ true → (item_stands new k i ≡ true) × (item_reads new i ≡ item_reads old i)
  item-stays k i h = by i.kind h
    where
      by : (w : WorldItemKind) → (is_placed_item old.rows (length old.interfaces) k w && has_types old.rows w) ≡ true
          → ((is_placed_item new.rows (length new.interfaces) k w && has_types new.rows w) ≡ true)
          × (item_meaning new.interfaces (table_trees new) new.rows i.direction w ≡ item_meaning old.interfaces (table_trees old) old.rows i.direction w)
      by (item.Interface j) q = (
        ap (λ (ns : List (List ℕ)). nat_lt j.0 (length ns) && true) x.interfaces ∙ q,
        ap (λ (ns : List (List ℕ)). WithInterface i.direction (get_or ns j.0 [])) x.interfaces,
      )
      by (item.Function f) q = at (slice_get old.rows f.0) refl q
        where
          at : (o : Option Definition) → slice_get old.rows f.0 ≡ o → (is_function_of k (function_of o) && is_typed old.rows (function_of o)) ≡ true
              → ((is_function_of k (function_of (slice_get new.rows f.0)) && is_typed new.rows (function_of (slice_get new.rows f.0))) ≡ true)
              × (function_item (table_trees new) i.direction (function_of (slice_get new.rows f.0)) ≡ function_item (table_trees old) i.direction (function_of (slice_get old.rows f.0)))
          at None e r = absurd (cc)
          at (Some (row.Type d)) e r = absurd (cc)
          at (Some (row.Function g)) e r =
              let there : slice_get new.rows f.0 ≡ Some (row.Function g) =
              ap (λ (ds : List Definition). slice_get ds f.0) x.rows.1 ∙ get-kept old.rows x.rows.0 f.0 (row.Function g) e in
              let s = split (is_owner_world k g.owner) (function_all (is_type old.rows) g) r in
              let t = function-stays i.direction g s.1 in (
                ap (λ (o : Option Definition). is_function_of k (function_of o) && is_typed new.rows (function_of o)) there
                    ∙ both (is_owner_world k g.owner) (function_all (is_type new.rows) g) s.0 t.0,
                ap (λ (o : Option Definition). function_item (table_trees new) i.direction (function_of o)) there ∙ t.1
                    ∙ sym (ap (λ (o : Option Definition). function_item (table_trees old) i.direction (function_of o)) e),
              )

  pub items-stay : (k : ℕ) (is : List WorldItem) → list_all (item_stands old k) is ≡ true
      → (list_all (item_stands new k) is ≡ true) × (map (item_reads new) is ≡ map (item_reads old) is)
  items-stay k [] h = (refl, refl)
  items-stay k (i ∷ is) h =
      let s = split (item_stands old k i) (list_all (item_stands old k) is) h in
      let a = item-stays k i s.0 in
      let b = items-stay k is s.1 in
      (both (item_stands new k i) (list_all (item_stands new k) is) a.0 b.0, rw (a.1, b.1) refl)

  pub worlds-stay : (own k : ℕ) (ws : List World) → worlds_stand own old k ws ≡ true → (worlds_stand own new k ws ≡ true) × (map (world_reads new) ws ≡ map (world_reads old) ws)
  worlds-stay own k [] h = (refl, refl)
  worlds-stay own k (w ∷ ws) h =
      let s = split (world_stands own old k w) (worlds_stand own old (k + 1) ws) h in
      let r = split (w.«package».0 == own) (list_all (item_stands old k) w.items) s.0 in
      let a = items-stay k w.items r.1 in
      let b = worlds-stay own (k + 1) ws s.1 in
      let named : List ItemMeaning → WorldMeaning = λ ms. record { name = w.name; items = ms } in (
        both (world_stands own new k w) (worlds_stand own new (k + 1) ws) (both (w.«package».0 == own) (list_all (item_stands new k) w.items) r.0 a.0) b.0,
        ap (λ (ms : List ItemMeaning). named ms ∷ map (world_reads new) ws) a.1 ∙ ap (λ (us : List WorldMeaning). world_reads old w ∷ us) b.1,
      )
