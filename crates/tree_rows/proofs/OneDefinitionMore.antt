-- The table and the scope of an interface, when a definition is put behind them.
use Rattle.std.proofs.Common.{◌≡◌, ℕ, true, List, [], ◌∷◌, ◌++◌, Option, Some, map, length, get_or, refl, ap, sym, ◌∙◌, subst, All, Contains, append_assoc, Result, Ok, Err, OnOk}
use Rattle.std.proofs.lemmas.List.{map-append}
use Rattle.std.specs.List.{list_all}
use Rattle.tables.specs.Tables.{is_type, option_all, function_all}
use Rattle.tables.specs.Package.{Tree, Reference, NamedDefinition, Meaning, IsUse, IsFunction, definition_of, read_params}
use Rattle.package_form.specs.Postfix.{Leaves, whole, unnamed_if, unnamed_parameter}
use Rattle.tree_meaning.specs.Imports.{Import}
use Rattle.tree_meaning.specs.Declarations.{UsedItem, TypeItem, FunctionItem, InterfaceTree, used_names}
use Rattle.tree_meaning.specs.Resolved.{Labelled, use_meaning, meaning_of_function, in_order, interface_meaning, no_type, fields_of_labelled}
use Rattle.package_form.specs.Entries.{Table}
use Rattle.tree_meaning.specs.Building.{table_trees, table_definitions, label_at, IsTableFront, Extends, AddsDefinitions, TreeStands, LowersKind, LowersIf, LowersParameters, IsEntry, names_of, ordered_names, parameter_typed, read_parameter}
use Rattle.tree_rows.specs.Defining.{Grows, CanUse, DefinesInterface}
use Rattle.tree_scopes.specs.KnownScopes.{IsScope, scope_name, scope_names, KnowsNames}
use Rattle.package_form.specs.Scoped.{NameEntry}
use Rattle.tree_scopes.specs.declared.known.KnownTypes.{KnownTypes}
use Rattle.tables.specs.declared.tables.Function.{Function}
use Rattle.tables.specs.declared.tables.Parameter.{Parameter}
use Rattle.tables.specs.declared.tables.Owner.TheVariants as owner
use Rattle.tables.specs.declared.tables.TypeId.{TypeId}
use Rattle.tables.specs.declared.tables.InterfaceId.{InterfaceId}
use Rattle.tables.specs.declared.tables.ValType.{ValType}
use Rattle.tables.specs.declared.tables.ValType.TheVariants as val
use Rattle.tables.specs.declared.tables.TypeDefKind.{TypeDefKind}
use Rattle.tables.specs.declared.tables.TypeDefKind.TheVariants as kind
use Rattle.tables.specs.declared.tables.Definition.{Definition}
use Rattle.tables.specs.declared.tables.Definition.TheVariants as row
use Rattle.tables.proofs.ClosedTypesRowByRow.{both}
use Rattle.package_form.proofs.AllAndContains.{all-append, all-cons, all-none}
use Rattle.tree_rows.proofs.OneRowMore.{With, with-rows, with-front, with-own, with-definitions, with-stands, with-unnamed, adds-trans}
use Rattle.tree_meaning.proofs.MoreRowsReadTheSame.{front-trans, extends-none, extends-trans}
use Rattle.tree_rows.proofs.LoweredTypesStay.{scope-later}
use Rattle.tree_meaning.proofs.TypesReadStay.{all-stay, parameter-stays, parameters-read}

-- ---- one definition

pub on-ok : {T E : Type 0} (r : Result T E) (P Q : Type 0) → (P → Q) → OnOk r P → OnOk r Q
on-ok (Ok x) P Q f h = f h
on-ok (Err e) P Q f h = tt

abbrev one : List ℕ → List ℕ → Meaning → List NamedDefinition
one i n m = record { key = record { interface = i; name = n }; meaning = m } ∷ []

scope-push : (t : Table) (before after : KnownTypes) (e : NameEntry) → IsScope t before → IsEntry t (scope_name t before) e
    → after ≡ record { interface = before.interface; entries = before.entries ++ e ∷ [] } → IsScope t after
scope-push t before after e h p is =
    let P = IsEntry t (scope_name t before) in
    let made : IsScope t (record { interface = before.interface; entries = before.entries ++ e ∷ [] }) =
    record { each = all-append P before.entries (e ∷ []) h.each (all-cons P e [] p (all-none P)) } in
    subst (IsScope t) (sym is) made

-- another name of a type needs no rows
pub uses-kind : (t : Table) (target : TypeId) (tree : Tree) → TreeStands t (val.Id target) tree → LowersKind t t (kind.Use target) (IsUse tree)
uses-kind t target tree s = record { extends = extends-none t; typed = s.typed; means = ap IsUse s.reads; names = refl }

-- a row with a name behind the rows that it needs
pub define-grows : (first mid new : Table) (before after : KnownTypes) (k : TypeDefKind) (n m name : List ℕ) (id : TypeId) (meaning : Meaning)
    → n ≡ name → m ≡ name → id.0 ≡ length mid.rows
    → With mid (row.Type (record { name = Some (record { interface = before.interface; name = n }); kind = k })) new
    → after ≡ record { interface = before.interface; entries = before.entries ++ record { name = m; id = id } ∷ [] }
    → IsScope first before → LowersKind first mid k meaning
    → Grows first before new after (one (scope_name first before) name meaning)
define-grows first mid new before after k n m name id meaning en em at with is scope l =
    let d = row.Type (record { name = Some (record { interface = before.interface; name = n }); kind = k }) in
    let front = with-front mid new d with l.typed in
    let all = front-trans first mid new l.extends.front front in
    let defined : definition_of mid.interfaces (table_trees mid) d ≡ one (scope_name first before) name meaning = rw (l.means, en, l.extends.front.interfaces) refl in
    let stands = with-stands mid new d with id at refl in
    let here : IsEntry new (scope_name new before) (record { name = m; id = id }) = record {
      stands = subst (λ (ns : List (List ℕ)). TreeStands new (val.Id id) (Reference (record { interface = get_or ns before.interface.0 []; name = m }))) (sym front.interfaces)
          (subst (λ (z : List ℕ). TreeStands new (val.Id id) (Reference (record { interface = get_or mid.interfaces before.interface.0 []; name = z }))) (en ∙ sym em) stands);
      named = with-unnamed mid new d with id at;
    } in
    record {
      adds = record {
        front = all;
        own = with-own mid new d with refl ∙ l.extends.own;
        definitions = with-definitions mid new d with ∙ ap (λ (ds : List NamedDefinition). ds ++ definition_of mid.interfaces (table_trees mid) d) l.extends.same
            ∙ ap (λ (ds : List NamedDefinition). table_definitions first ++ ds) defined;
        postfix = λ h. subst (λ (ds : List Definition). Leaves ds []) (sym (with-rows mid new d with)) (whole mid.rows d refl l.names (l.extends.postfix [] h));
      };
      scoped = scope-push new before after (record { name = m; id = id }) (scope-later first new before all scope) here is;
      interface = ap (λ (s : KnownTypes). s.interface) is;
      names = ap scope_names is ∙ map-append (λ (e : NameEntry). e.name) before.entries (record { name = m; id = id } ∷ [])
          ∙ ap (λ (z : List ℕ). scope_names before ++ z ∷ []) em;
    }

-- a function behind the rows of its parameters and its result
pub function-adds : (old mid last new : Table) (i : InterfaceId) (n name : List ℕ) (ps : List Parameter) (ls : List Labelled) (r : Option ValType) (t : Option Tree)
    → LowersParameters old mid ps ls → LowersIf mid last r t → n ≡ name
    → With last (row.Function (record { owner = owner.Interface i; name = n; params = ps; result = r })) new
    → AddsDefinitions old new (one (label_at old i.0) name (IsFunction (fields_of_labelled ls) t))
function-adds old mid last new i n name ps ls r t l m en with =
    let f : Function = record { owner = owner.Interface i; name = n; params = ps; result = r } in
    let d = row.Function f in
    let s = all-stay parameter_typed read_parameter unnamed_parameter parameter-stays mid last m.extends.front ps l.within in
    let extends = subst (λ (us : List ℕ). Extends old last (us ++ unnamed_if last.rows r)) (sym s.2) (extends-trans old mid last _ _ l.extends m.extends) in
    let typed : function_all (is_type last.rows) f ≡ true = both (list_all (parameter_typed last.rows) ps) (option_all (is_type last.rows) r) s.0 m.typed in
    let front = with-front last new d with typed in
    let reads : read_params (table_trees last) ps ≡ fields_of_labelled ls = parameters-read (table_trees last) ps ∙ ap fields_of_labelled (s.1 ∙ l.reads) in
    let defined : definition_of last.interfaces (table_trees last) d ≡ one (label_at old i.0) name (IsFunction (fields_of_labelled ls) t) =
    rw (reads, m.reads, en, extends.front.interfaces) refl in
    record {
      front = front-trans old last new extends.front front;
      own = with-own last new d with refl ∙ extends.own;
      definitions = with-definitions last new d with ∙ ap (λ (ds : List NamedDefinition). ds ++ definition_of last.interfaces (table_trees last) d) extends.same
          ∙ ap (λ (ds : List NamedDefinition). table_definitions old ++ ds) defined;
      postfix = λ h. subst (λ (ds : List Definition). Leaves ds []) (sym (with-rows last new d with)) (whole last.rows d refl refl (extends.postfix [] h));
    }

-- ---- growth after growth

pub grows-trans : (a : Table) (s : KnownTypes) (b : Table) (t : KnownTypes) (c : Table) (u : KnownTypes) (ds es : List NamedDefinition)
    → Grows a s b t ds → Grows b t c u es → Grows a s c u (ds ++ es)
grows-trans a s b t c u ds es x y = record {
  adds = adds-trans a b c ds es x.adds y.adds;
  scoped = y.scoped;
  interface = y.interface ∙ x.interface;
  names = y.names ∙ ap (λ (zs : List (List ℕ)). zs ++ names_of es) x.names ∙ append_assoc (scope_names s) (names_of ds) (names_of es)
      ∙ ap (λ (zs : List (List ℕ)). scope_names s ++ zs) (sym (map-append (λ (d : NamedDefinition). d.key.name) ds es));
}

-- the interface of a scope keeps its name
pub grown_name : (a : Table) (s : KnownTypes) (b : Table) (t : KnownTypes) (ds : List NamedDefinition) → Grows a s b t ds → scope_name b t ≡ scope_name a s
grown_name a s b t ds x =
    ap (λ (i : InterfaceId). get_or b.interfaces i.0 []) x.interface ∙ ap (λ (ns : List (List ℕ)). get_or ns s.interface.0 []) x.adds.front.interfaces

-- the names that a scope gets
pub order-names : (i : List ℕ) (ts : List TypeItem) (order : List ℕ) → names_of (in_order i ts order) ≡ ordered_names ts order
order-names i ts [] = refl
order-names i ts (k ∷ order) = ap (λ (ns : List (List ℕ)). (get_or ts k no_type).name ∷ ns) (order-names i ts order)

pub use-names : (i : List ℕ) (us : List UsedItem) → names_of (map (use_meaning i) us) ≡ map (λ u. u.local) us
use-names i [] = refl
use-names i (u ∷ us) = ap (λ (ns : List (List ℕ)). u.local ∷ ns) (use-names i us)

pub knows-by : (s : KnownTypes) (ns ms : List (List ℕ)) → scope_names s ≡ ms → All (Contains ms) ns → KnowsNames s ns
knows-by s ns ms e h = subst (λ (zs : List (List ℕ)). All (Contains zs) ns) (sym e) h

pub can_use-later : (ks : List Import) (names : List (List ℕ)) (old new : Table) (scopes : List KnownTypes) (u : UsedItem) → IsTableFront old new → CanUse ks names old scopes u → CanUse ks names new scopes u
can_use-later ks names old new scopes u x h = record {
  place = h.place;
  found = h.found;
  within = h.within;
  named = ap (λ (ns : List (List ℕ)). get_or ns h.place []) x.interfaces ∙ h.named;
  has = h.has;
}

pub scopes-later : (old new : Table) (scopes : List KnownTypes) → IsTableFront old new → All (IsScope old) scopes → All (IsScope new) scopes
scopes-later old new scopes x h k d l = scope-later old new (get_or scopes k d) x (h k d l)

-- ---- an interface

pub defines-interface : (old b1 b2 b3 : Table) (s0 s1 s2 : KnownTypes) (place : InterfaceId) (i : InterfaceTree) (order : List ℕ) (us : List UsedItem) (ts : List TypeItem) (fs : List FunctionItem)
    → us ≡ i.uses → ts ≡ i.types → fs ≡ i.functions → s0.interface ≡ place → s0.entries ≡ [] → label_at old place.0 ≡ i.name
    → Grows old s0 b1 s1 (map (use_meaning (scope_name old s0)) us)
    → Grows b1 s1 b2 s2 (in_order (scope_name b1 s1) ts order)
    → AddsDefinitions b2 b3 (map (meaning_of_function (scope_name b2 s2)) fs)
    → DefinesInterface old b3 s2 place i order
defines-interface old b1 b2 b3 s0 s1 s2 place i order us ts fs eu et ef at free named u t f =
    let zeroth : scope_name old s0 ≡ i.name = ap (λ (p : InterfaceId). get_or old.interfaces p.0 []) at ∙ named in
    let first : scope_name b1 s1 ≡ i.name = grown_name old s0 b1 s1 _ u ∙ zeroth in
    let second : scope_name b2 s2 ≡ i.name = grown_name b1 s1 b2 s2 _ t ∙ first in
    let both = grows-trans old s0 b1 s1 b2 s2 _ _ u t in
    let all = adds-trans old b2 b3 _ _ both.adds f in
    let same : (map (use_meaning (scope_name old s0)) us ++ in_order (scope_name b1 s1) ts order) ++ map (meaning_of_function (scope_name b2 s2)) fs ≡ interface_meaning i order =
    rw (zeroth, first, second, eu, et, ef) (append_assoc (map (use_meaning i.name) i.uses) (in_order i.name i.types order) (map (meaning_of_function i.name) i.functions)) in
    let names : scope_names s1 ≡ used_names i =
    u.names ∙ ap (λ (es : List NameEntry). map (λ (e : NameEntry). e.name) es ++ names_of (map (use_meaning (scope_name old s0)) us)) free
    ∙ use-names (scope_name old s0) us ∙ ap (λ (vs : List UsedItem). map (λ (v : UsedItem). v.local) vs) eu in
    record {
      adds = subst (λ (ds : List NamedDefinition). AddsDefinitions old b3 ds) same all;
      scoped = scope-later b2 b3 s2 f.front t.scoped;
      interface = t.interface ∙ u.interface ∙ at;
      names = t.names ∙ ap (λ (ns : List (List ℕ)). ns ++ names_of (in_order (scope_name b1 s1) ts order)) names
          ∙ ap (λ (ns : List (List ℕ)). used_names i ++ ns) (order-names (scope_name b1 s1) ts order ∙ ap (λ (us : List TypeItem). ordered_names us order) et);
    }

pub first_names : (old b1 : Table) (s0 s1 : KnownTypes) (i : List ℕ) (us vs : List UsedItem) → us ≡ vs → s0.entries ≡ []
    → Grows old s0 b1 s1 (map (use_meaning i) us) → scope_names s1 ≡ map (λ u. u.local) vs
first_names old b1 s0 s1 i us vs eu free u =
    u.names ∙ ap (λ (es : List NameEntry). map (λ (e : NameEntry). e.name) es ++ names_of (map (use_meaning i) us)) free
    ∙ use-names i us ∙ ap (λ (vs : List UsedItem). map (λ (v : UsedItem). v.local) vs) eu

pub both_names : (b1 b2 : Table) (s1 s2 : KnownTypes) (i : List ℕ) (ns : List (List ℕ)) (ts us : List TypeItem) (order : List ℕ) → ts ≡ us → scope_names s1 ≡ ns
    → Grows b1 s1 b2 s2 (in_order i ts order) → scope_names s2 ≡ ns ++ ordered_names us order
both_names b1 b2 s1 s2 i ns ts us order et names t =
    t.names ∙ ap (λ (ms : List (List ℕ)). ms ++ names_of (in_order i ts order)) names
    ∙ ap (λ (ms : List (List ℕ)). ns ++ ms) (order-names i ts order ∙ ap (λ (us : List TypeItem). ordered_names us order) et)
