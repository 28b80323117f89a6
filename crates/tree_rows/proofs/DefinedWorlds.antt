-- Items of worlds that stand in a table, when more rows come behind it.
use Rattle.std.proofs.Common.{◌≡◌, ℕ, suc, ◌+◌, ◌<◌, true, ◌&&◌, ◌==◌, nat_lt, List, [], ◌∷◌, ◌++◌, Option, Some, map, flat_map, length, get_or, slice_get, refl, ap, sym, ◌∙◌, subst, arith, append_assoc, append-nil}
use Rattle.std.specs.List.{list_all}
use Rattle.std.proofs.lemmas.Bool.{lt-ltb}
use Rattle.std.proofs.lemmas.List.{map-append}
use Rattle.std.proofs.lemmas.List.Folds.{list_all-append}
use Rattle.tables.specs.Tables.{is_type, option_all, function_all, function_of, is_function_of}
use Rattle.tables.specs.Package.{Tree, ItemMeaning, WithInterface, WithFunction, WorldMeaning, read_params, function_item}
use Rattle.package_form.specs.Postfix.{Leaves, whole, unnamed_if, unnamed_parameter}
use Rattle.package_form.specs.Entries.{Table}
use Rattle.package_form.specs.Form.{functions_in_item, functions_of}
use Rattle.tree_meaning.specs.Declarations.{named}
use Rattle.tree_meaning.specs.Resolved.{Labelled, fields_of_labelled}
use Rattle.tree_meaning.specs.Building.{Extends, LowersIf, LowersParameters, table_trees, world_functions, parameter_typed, read_parameter}
use Rattle.tree_meaning.specs.WorldRows.{AddsFunctions, is_typed, item_stands, world_stands, worlds_stand, item_reads, world_reads, DefinesItem, DefinesItems, DefinesWorld, DefinesWorlds}
use Rattle.tables.specs.declared.tables.Direction.{Direction}
use Rattle.tables.specs.declared.tables.WorldId.{WorldId}
use Rattle.tables.specs.declared.tables.PackageId.{PackageId}
use Rattle.tables.specs.declared.tables.InterfaceId.{InterfaceId}
use Rattle.tables.specs.declared.tables.Owner.TheVariants as owner
use Rattle.tables.specs.declared.tables.Parameter.{Parameter}
use Rattle.tables.specs.declared.tables.Function.{Function}
use Rattle.tables.specs.declared.tables.ValType.{ValType}
use Rattle.tables.specs.declared.tables.Definition.{Definition}
use Rattle.tables.specs.declared.tables.Definition.TheVariants as row
use Rattle.tables.specs.declared.tables.WorldItemKind.TheVariants as item
use Rattle.tables.specs.declared.tables.WorldItem.{WorldItem}
use Rattle.tables.specs.declared.tables.World.{World}
use Rattle.tables.proofs.ClosedTypesRowByRow.{split, both}
use Rattle.package_form.proofs.AllAndContains.{flat_map-append, flat_map-one}
use Rattle.tree_meaning.proofs.TableRows.{is-that}
use Rattle.tree_rows.proofs.OneRowMore.{With, with-rows, with-front, with-functions, with-definitions}
use Rattle.tree_meaning.proofs.MoreRowsReadTheSame.{get-end, front-none, front-trans, extends-trans}
use Rattle.tree_meaning.proofs.TypesReadStay.{all-stay, parameter-stays, parameters-read}
use Rattle.tree_meaning.proofs.WorldItemsStay.{function-stays, items-stay, worlds-stay}

-- ---- growth after growth

pub functions-none : (t : Table) → AddsFunctions t t []
functions-none t = record { front = front-none t; same = refl; postfix = λ h. h; own = sym (append-nil (world_functions t)) }

functions-trans : (a b c : Table) (fs gs : List ℕ) → AddsFunctions a b fs → AddsFunctions b c gs → AddsFunctions a c (fs ++ gs)
functions-trans a b c fs gs x y = record {
  front = front-trans a b c x.front y.front;
  same = y.same ∙ x.same;
  postfix = λ h. y.postfix (x.postfix h);
  own = y.own ∙ ap (λ (ns : List ℕ). ns ++ gs) x.own ∙ append_assoc (world_functions a) fs gs;
}

-- one more behind the last
last-flat : {A : Type 0} (f : A → List ℕ) (xs : List A) (x : A) → flat_map f xs ++ f x ≡ flat_map f (xs ++ x ∷ [])
last-flat f xs x = sym (flat_map-append f xs (x ∷ []) ∙ ap (λ (ns : List ℕ). flat_map f xs ++ ns) (flat_map-one f x))

pub items-none : (t : Table) (k : ℕ) → DefinesItems t t k [] []
items-none t k = record { adds = functions-none t; stand = refl; read = refl }

pub items-more : (a b c : Table) (k : ℕ) (is : List WorldItem) (ms : List ItemMeaning) (i : WorldItem) (m : ItemMeaning)
    → DefinesItems a b k is ms → DefinesItem b c k i m → DefinesItems a c k (is ++ i ∷ []) (ms ++ m ∷ [])
items-more a b c k is ms i m x y =
    let s = items-stay b c y.adds.front k is x.stand in
    record {
      adds = subst (AddsFunctions a c) (last-flat functions_in_item is i) (functions-trans a b c _ _ x.adds y.adds);
      stand = list_all-append (item_stands c k) is (i ∷ [])
          ∙ both (list_all (item_stands c k) is) (item_stands c k i && true) s.0 (both (item_stands c k i) true y.stands refl);
      read = map-append (item_reads c) is (i ∷ []) ∙ rw (s.1, x.read, y.reads) refl;
    }

pub world-defined : (own : PackageId) (old new : Table) (k : ℕ) (n name : List ℕ) (is js : List WorldItem) (ms ns : List ItemMeaning) → n ≡ name → js ≡ is → ms ≡ ns → DefinesItems old new k is ms
    → DefinesWorld old new own.0 k (record { «package» = own; name = n; items = js }) (record { name = name; items = ns })
world-defined own old new k n name is js ms ns en ej em d =
    let named : List ℕ → List ItemMeaning → WorldMeaning = λ m xs. record { name = m; items = xs } in
    record {
      adds = subst (λ (xs : List WorldItem). AddsFunctions old new (flat_map functions_in_item xs)) (sym ej) d.adds;
      stands = both (own.0 == own.0) (list_all (item_stands new k) js) (is-that own.0 own.0 refl) (ap (list_all (item_stands new k)) ej ∙ d.stand);
      reads = ap (λ (m : List ℕ). named m (map (item_reads new) js)) en ∙ ap (named name) (ap (map (item_reads new)) ej ∙ d.read ∙ em);
    }

pub worlds-none : (own : ℕ) (t : Table) → DefinesWorlds t t own [] []
worlds-none own t = record { adds = functions-none t; stand = refl; read = refl }

worlds-end : (own : ℕ) (t : Table) (j : ℕ) (ws : List World) (w : World) → worlds_stand own t j ws ≡ true → world_stands own t (j + length ws) w ≡ true → worlds_stand own t j (ws ++ w ∷ []) ≡ true
worlds-end own t j [] w h q = let here : j + 0 ≡ j = omega arith in both (world_stands own t j w) true (subst (λ (n : ℕ). world_stands own t n w ≡ true) here q) refl
worlds-end own t j (v ∷ ws) w h q =
    let s = split (world_stands own t j v) (worlds_stand own t (j + 1) ws) h in
    let here : j + suc (length ws) ≡ j + 1 + length ws = omega arith in
    both (world_stands own t j v) (worlds_stand own t (j + 1) (ws ++ w ∷ [])) s.0 (worlds-end own t (j + 1) ws w s.1 (subst (λ (n : ℕ). world_stands own t n w ≡ true) here q))

pub worlds-more : (own : ℕ) (a b c : Table) (ws : List World) (ms : List WorldMeaning) (k : ℕ) (w : World) (m : WorldMeaning) → k ≡ length ws
    → DefinesWorlds a b own ws ms → DefinesWorld b c own k w m → DefinesWorlds a c own (ws ++ w ∷ []) (ms ++ m ∷ [])
worlds-more own a b c ws ms k w m at x y =
    let s = worlds-stay b c y.adds.front own 0 ws x.stand in
    let here : k ≡ 0 + length ws = omega (arith, at) in
    record {
      adds = subst (AddsFunctions a c) (last-flat functions_of ws w) (functions-trans a b c _ _ x.adds y.adds);
      stand = worlds-end own c 0 ws w s.0 (subst (λ (n : ℕ). world_stands own c n w ≡ true) here y.stands);
      read = map-append (world_reads c) ws (w ∷ []) ∙ rw (s.1, x.read, y.reads) refl;
    }

-- ---- one item

-- a function of a world behind the rows of its parameters and its result
pub function-defined : (old mid last new : Table) (k : WorldId) (n name : List ℕ) (ps : List Parameter) (ls : List Labelled) (r : Option ValType) (t : Option Tree) (id : ℕ)
    → LowersParameters old mid ps ls → LowersIf mid last r t → n ≡ name → id ≡ length last.rows
    → With last (row.Function (record { owner = owner.World k; name = n; params = ps; result = r })) new
    → (way : Direction) → DefinesItem old new k.0 (record { direction = way; kind = item.Function (record { 0 = id }) }) (WithFunction way name (fields_of_labelled ls) t)
function-defined old mid last new k n name ps ls r t id l m en at with way =
    let f : Function = record { owner = owner.World k; name = n; params = ps; result = r } in
    let d = row.Function f in
    let s = all-stay parameter_typed read_parameter unnamed_parameter parameter-stays mid last m.extends.front ps l.within in
    let extends = subst (λ (us : List ℕ). Extends old last (us ++ unnamed_if last.rows r)) (sym s.2) (extends-trans old mid last _ _ l.extends m.extends) in
    let typed : function_all (is_type last.rows) f ≡ true = both (list_all (parameter_typed last.rows) ps) (option_all (is_type last.rows) r) s.0 m.typed in
    let front = with-front last new d with typed in
    let reads : read_params (table_trees last) ps ≡ fields_of_labelled ls = parameters-read (table_trees last) ps ∙ ap fields_of_labelled (s.1 ∙ l.reads) in
    let there : slice_get new.rows id ≡ Some d = ap (λ (ds : List Definition). slice_get ds id) (with-rows last new d with) ∙ get-end last.rows d id at in
    let q = function-stays last new front way f typed in
    record {
      adds = record {
        front = front-trans old last new extends.front front;
        same = with-definitions last new d with ∙ append-nil _ ∙ extends.same;
        postfix = λ h. subst (λ (ds : List Definition). Leaves ds []) (sym (with-rows last new d with)) (whole last.rows d refl refl (extends.postfix [] h));
        own = with-functions last new d with ∙ ap (λ (ns : List ℕ). ns ++ length last.rows ∷ []) extends.own ∙ ap (λ (x : ℕ). world_functions old ++ x ∷ []) (sym at);
      };
      stands = ap (λ (o : Option Definition). is_function_of k.0 (function_of o) && is_typed new.rows (function_of o)) there
          ∙ both (k.0 == k.0) (function_all (is_type new.rows) f) (is-that k.0 k.0 refl) q.0;
      reads = ap (λ (o : Option Definition). function_item (table_trees new) way (function_of o)) there ∙ q.1 ∙ rw (reads, m.reads, en) refl;
    }

-- an interface that stands at this place
pub interface-defined : (t : Table) (k : ℕ) (way d : Direction) (n : List ℕ) (id : InterfaceId) (place : ℕ) → d ≡ way → id.0 ≡ place → place < length t.interfaces → get_or t.interfaces place [] ≡ n
    → DefinesItem t t k (record { direction = d; kind = item.Interface id }) (WithInterface way n)
interface-defined t k way d n id place same at below named = record {
  adds = functions-none t;
  stands = both (nat_lt id.0 (length t.interfaces)) true (lt-ltb id.0 (length t.interfaces) (omega (arith, at, below))) refl;
  reads = rw (same, at, named) refl;
}
