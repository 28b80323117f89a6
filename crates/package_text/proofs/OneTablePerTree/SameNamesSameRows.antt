-- Tables in the form of packages that tell the same by their names have the same rows.
use Rattle.std.proofs.Common.{◌≡◌, ◌<◌, ℕ, List, [], ◌∷◌, ◌++◌, length, map, flat_map, get_or, refl, sym, ap, subst, ◌∙◌, append_assoc, append-nil, length-append, arith}
use Rattle.std.specs.Prelude.{Bool, true, false, not, Option, None, Some, is_some}
use Rattle.std.specs.List.{list_all}
use Rattle.std.specs.Option.{option_map}
use Rattle.std.proofs.lemmas.Bool.{and_parts, false≢true}
use Rattle.std.proofs.lemmas.List.{length-map, map-append}
use Rattle.std.proofs.lemmas.List.Folds.{list_all-append}
use Rattle.tables.specs.Tables.{option_all, is_type}
use Rattle.tables.specs.Package.{Tree, TextTree, Meaning, IsUse, IsType, IsFunction, Key, key_of, NamedDefinition, HasDistinctTypes, read_val, read_params, read_kind, meaning_of, named_by, references, TreeFields}
use Rattle.tables.specs.declared.tables.TypeId.{TypeId}
use Rattle.tables.specs.declared.tables.InterfaceId.{InterfaceId}
use Rattle.tables.specs.declared.tables.ValType.{ValType}
use Rattle.tables.specs.declared.tables.ValType.TheVariants as val
use Rattle.tables.specs.declared.tables.TypeDef.{TypeDef}
use Rattle.tables.specs.declared.tables.TypeDefKind.{TypeDefKind}
use Rattle.tables.specs.declared.tables.TypeDefKind.TheVariants as kind
use Rattle.tables.specs.declared.tables.TypeName.{TypeName}
use Rattle.tables.specs.declared.tables.Owner.{Owner}
use Rattle.tables.specs.declared.tables.Owner.TheVariants as owner
use Rattle.tables.specs.declared.tables.Function.{Function}
use Rattle.tables.specs.declared.tables.Definition.{Definition}
use Rattle.tables.specs.declared.tables.Definition.TheVariants as row
use Rattle.package_form.specs.Postfix.{is_unnamed, unnamed, parts, parts_of, aliased_by, is_inner, inner_row, Leaves, begin, inner, whole}
use Rattle.package_form.proofs.AllAndContains.{flat_map-append}
use Rattle.tree_meaning.proofs.RowsOfEachInterface.{is_inner_row}
use Rattle.tree_meaning.proofs.AllDefinitions.{owner_name, all_of, all_from}
use Rattle.tree_meaning.proofs.TableRows.{IsTyped, definitions-append, tree-here}
use Rattle.package_text.proofs.OneTablePerTree.UnnamedRowsOfTrees.{loose, loose_parts, loose_meaning, meaning_by, val-loose, inner-told, row-told}
use Rattle.package_text.proofs.OneTablePerTree.TreesTellRows.{distinct-front, kind_from, kind_by, params_from, result_from, params-back, result-back, inner-back, kind-back}

-- ---- lists

pub append-same : {A : Type 0} (xs ys zs ws : List A) → length xs ≡ length ys → xs ++ zs ≡ ys ++ ws → (xs ≡ ys) × (zs ≡ ws)
append-same [] [] zs ws l e = (refl, e)
append-same [] (y ∷ ys) zs ws l e = absurd (omega (arith, l))
append-same (x ∷ xs) [] zs ws l e = absurd (omega (arith, l))
append-same (x ∷ xs) (y ∷ ys) zs ws l e =
    let front : x ≡ y = cc in
    let back : xs ++ zs ≡ ys ++ ws = cc in
    let r = append-same xs ys zs ws (omega (arith, l)) back in
    let same = r.0 in
    (cc, r.1)

pub last-same : {A : Type 0} (xs ys : List A) (x y : A) → xs ++ x ∷ [] ≡ ys ++ y ∷ [] → (xs ≡ ys) × (x ≡ y)
last-same xs ys x y e =
    let long = ap length e in
    let a = length-append xs (x ∷ []) in
    let b = length-append ys (y ∷ []) in
    let r = append-same xs ys (x ∷ []) (y ∷ []) (omega (arith, long, a, b)) e in
    let end = r.1 in
    (r.0, cc)

no-last : {A : Type 0} (xs : List A) (x : A) → [] ≡ xs ++ x ∷ [] → ⊥
no-last [] x e = absurd cc
no-last (y ∷ xs) x e = absurd cc

no-place : {A : Type 0} (g : ℕ → A) (ps : List ℕ) (n : ℕ) → [] ≡ map g (ps ++ n ∷ []) → ⊥
no-place g [] n e = absurd cc
no-place g (p ∷ ps) n e = absurd cc

-- ---- the worlds of functions

abbrev pub owner_world : Owner → List ℕ
owner_world (owner.Interface i) = []
owner_world (owner.World w) = w.0 ∷ []

abbrev pub row_world : Definition → List ℕ
row_world (row.Type d) = []
row_world (row.Function f) = owner_world f.owner

-- of each function of a world among these rows that world
abbrev pub world_owners : List Definition → List ℕ
world_owners rows = flat_map row_world rows

abbrev row_owner : Definition → Option Owner
row_owner (row.Type d) = None
row_owner (row.Function f) = Some f.owner

-- ---- what a row with a name tells

abbrev key_if : List (List ℕ) → Option TypeName → Key
key_if ns None = record { interface = []; name = [] }
key_if ns (Some n) = key_of ns n

abbrev key_by : List (List ℕ) → Definition → Key
key_by ns (row.Type d) = key_if ns d.name
key_by ns (row.Function f) = record { interface = owner_name ns f.owner; name = f.name }

told-whole : (ns : List (List ℕ)) (trees : List Tree) (d : Definition) → is_unnamed d ≡ false → all_of ns trees d ≡ record { key = key_by ns d; meaning = meaning_by trees d } ∷ []
told-whole ns trees (row.Type d) u = by d.name u
  where
    by : (m : Option TypeName) → not (is_some m) ≡ false → named_by ns trees m d.kind ≡ record { key = key_if ns m; meaning = meaning_of trees d.kind } ∷ []
    by None q = absurd (false≢true (sym q))
    by (Some n) q = refl
told-whole ns trees (row.Function f) u = refl

abbrev is_function : Meaning → Bool
is_function (IsUse t) = false
is_function (IsType t) = false
is_function (IsFunction fs result) = true

no-function : (trees : List Tree) (k : TypeDefKind) → is_function (meaning_of trees k) ≡ false
no-function trees (kind.Use t) = refl
no-function trees (kind.Alias v) = refl
no-function trees (kind.List v) = refl
no-function trees (kind.Option v) = refl
no-function trees (kind.Result ok error) = refl
no-function trees (kind.Tuple vs) = refl
no-function trees (kind.Record fs) = refl
no-function trees (kind.Variant cs) = refl
no-function trees (kind.Enum ls) = refl
no-function trees (kind.Flags ls) = refl

abbrev AreSameMeanings : Meaning → Meaning → Type 0
AreSameMeanings m n = m ≡ n

same-function : (A B : TreeFields) (X Y : Option Tree) → AreSameMeanings (IsFunction A X) (IsFunction B Y) → (A ≡ B) × (X ≡ Y)
same-function A B X Y e = (cc, cc)

abbrev AreSameOwners : Option Owner → Option Owner → Type 0
AreSameOwners o p = o ≡ p

same-owner : (o p : Owner) → AreSameOwners (Some o) (Some p) → o ≡ p
same-owner o p e = cc

-- what is asked of a table's rows, of whose interfaces these are the names
pub record IsSound (ns : List (List ℕ)) (all : List Definition) : Type 0 where
  pub typed : IsTyped all
  pub inners : list_all is_inner_row all ≡ true
  pub keys : HasDistinctTypes ns all []
  pub uses : (front : List Definition) (d : TypeDef) (t : TypeId) (rest : List Definition) → all ≡ front ++ row.Type d ∷ rest → d.kind ≡ kind.Use t → unnamed front (val.Id t) ≡ []
  pub homes : (front : List Definition) (d : TypeDef) (n : TypeName) (rest : List Definition) → all ≡ front ++ row.Type d ∷ rest → d.name ≡ Some n → n.interface.0 < length ns
  pub owners : (front : List Definition) (f : Function) (i : InterfaceId) (rest : List Definition) → all ≡ front ++ row.Function f ∷ rest → f.owner ≡ owner.Interface i → i.0 < length ns

module _ (ns : List (List ℕ)) (apart : (i j : ℕ) → i < length ns → j < length ns → get_or ns i [] ≡ get_or ns j [] → i ≡ j) (named : (i : ℕ) → i < length ns → get_or ns i [] ≡ [] → ⊥) where
  -- ---- owners

  owners-same : (o p : Owner) → ((i : InterfaceId) → o ≡ owner.Interface i → i.0 < length ns) → ((i : InterfaceId) → p ≡ owner.Interface i → i.0 < length ns) → (xs ys : List ℕ)
      → owner_name ns o ≡ owner_name ns p → xs ++ owner_world o ≡ ys ++ owner_world p → (xs ≡ ys) × (o ≡ p)
  owners-same (owner.Interface i) (owner.Interface j) l m xs ys e w =
      let same : i.0 ≡ j.0 = apart i.0 j.0 (l i refl) (m j refl) e in
      (sym (append-nil xs) ∙ (w ∙ append-nil ys), ap (λ (k : ℕ). owner.Interface (record { 0 = k })) same)
  owners-same (owner.World v) (owner.World w) l m xs ys e q =
      let r = last-same xs ys v.0 w.0 q in (r.0, ap (λ (k : ℕ). owner.World (record { 0 = k })) r.1)
  owners-same (owner.Interface i) (owner.World w) l m xs ys e q = absurd (named i.0 (l i refl) e)
  owners-same (owner.World v) (owner.Interface j) l m xs ys e q = absurd (named j.0 (m j refl) (sym e))

  module _ (all : List Definition) (s : IsSound ns all) where
    inners-front : (rows rest : List Definition) → all ≡ rows ++ rest → list_all is_inner_row rows ≡ true
    inners-front rows rest e =
        (and_parts (list_all is_inner_row rows) (list_all is_inner_row rest) (sym (list_all-append is_inner_row rows rest) ∙ subst (λ (ds : List Definition). list_all is_inner_row ds ≡ true) e s.inners)).0

    keys-front : (rows rest : List Definition) → all ≡ rows ++ rest → HasDistinctTypes ns rows []
    keys-front rows rest e = distinct-front ns rows rest [] (subst (λ (ds : List Definition). HasDistinctTypes ns ds []) e s.keys)

    told : (rows rest : List Definition) → all ≡ rows ++ rest → (v : ValType) → is_type rows v ≡ true
        → map (λ p. get_or (references ns [] all) p TextTree) (unnamed rows v) ≡ loose (read_val (references ns [] rows) v)
    told rows rest e v h =
        subst (λ (ds : List Definition). map (λ p. get_or (references ns [] ds) p TextTree) (unnamed rows v) ≡ loose (read_val (references ns [] rows) v)) (sym e)
        (val-loose ns rows (inners-front rows rest e) rest v h)

    -- the trees of the parts of a row are told by what it reads as
    inner-trees : (rows rest : List Definition) (k : TypeDefKind) → all ≡ rows ++ inner_row k ∷ rest → is_inner k ≡ true
        → map (λ p. get_or (references ns [] all) p TextTree) (parts rows k) ≡ loose_parts (read_kind (references ns [] rows) k)
    inner-trees rows rest k e i = inner-told rows (references ns [] rows) (references ns [] all) (told rows (inner_row k ∷ rest) e) k i (s.typed rows (inner_row k) rest e)

    inner-tree : (rows rest : List Definition) (k : TypeDefKind) → all ≡ rows ++ inner_row k ∷ rest → get_or (references ns [] all) (length rows) TextTree ≡ read_kind (references ns [] rows) k
    inner-tree rows rest k e = ap (λ (ds : List Definition). get_or (references ns [] ds) (length rows) TextTree) e ∙ tree-here ns rows rest (inner_row k)

    whole-trees : (rows rest : List Definition) (d : Definition) → all ≡ rows ++ d ∷ rest → aliased_by rows d ≡ []
        → map (λ p. get_or (references ns [] all) p TextTree) (parts_of rows d) ≡ loose_meaning (meaning_by (references ns [] rows) d)
    whole-trees rows rest d e x = row-told rows (references ns [] rows) (references ns [] all) (told rows (d ∷ rest) e) d (s.typed rows d rest e) x

    -- and a row is told by what it reads as, with the places of its parts
    inner-kind : (rows rest : List Definition) (k : TypeDefKind) → all ≡ rows ++ inner_row k ∷ rest → is_inner k ≡ true → kind_from ns rows (read_kind (references ns [] rows) k) (parts rows k) ≡ k
    inner-kind rows rest k e i = inner-back ns rows (inners-front rows (inner_row k ∷ rest) e) (keys-front rows (inner_row k ∷ rest) e) k i (s.typed rows (inner_row k) rest e)

    whole-kind : (rows rest : List Definition) (d : TypeDef) → all ≡ rows ++ row.Type d ∷ rest → aliased_by rows (row.Type d) ≡ []
        → kind_by ns rows (meaning_of (references ns [] rows) d.kind) (parts rows d.kind) ≡ d.kind
    whole-kind rows rest d e x =
        kind-back ns rows (inners-front rows (row.Type d ∷ rest) e) (keys-front rows (row.Type d ∷ rest) e) d.kind (s.typed rows (row.Type d) rest e) x (λ t q. s.uses rows d t rest e q)

    function-typed : (rows rest : List Definition) (f : Function) → all ≡ rows ++ row.Function f ∷ rest → (list_all (λ p. is_type rows p.ty) f.params ≡ true) × (option_all (is_type rows) f.result ≡ true)
    function-typed rows rest f e = and_parts (list_all (λ p. is_type rows p.ty) f.params) (option_all (is_type rows) f.result) (s.typed rows (row.Function f) rest e)

    whole-params : (rows rest : List Definition) (f : Function) → all ≡ rows ++ row.Function f ∷ rest → params_from ns rows (read_params (references ns [] rows) f.params) (parts_of rows (row.Function f)) ≡ f.params
    whole-params rows rest f e =
        params-back ns rows (inners-front rows (row.Function f ∷ rest) e) (keys-front rows (row.Function f ∷ rest) e) f.params (function-typed rows rest f e).0 (parts_of rows (row.Function f)) _ refl

    whole-result : (rows rest : List Definition) (f : Function) → all ≡ rows ++ row.Function f ∷ rest
        → result_from ns rows (read_params (references ns [] rows) f.params) (option_map (read_val (references ns [] rows)) f.result) (parts_of rows (row.Function f)) ≡ f.result
    whole-result rows rest f e =
        let t = function-typed rows rest f e in
        result-back ns rows (inners-front rows (row.Function f ∷ rest) e) (keys-front rows (row.Function f ∷ rest) e) f.params f.result t.0 t.1

  -- ---- two tables

  module _ (R S : List Definition) (a : IsSound ns R) (b : IsSound ns S) where
    worlds-same : (rows others rest more : List Definition) (d e : Definition) → R ≡ rows ++ d ∷ rest → S ≡ others ++ e ∷ more → key_by ns d ≡ key_by ns e
        → is_function (meaning_by (references ns [] rows) d) ≡ is_function (meaning_by (references ns [] others) e) → (xs ys : List ℕ) → xs ++ row_world d ≡ ys ++ row_world e → (xs ≡ ys) × (row_owner d ≡ row_owner e)
    worlds-same rows others rest more (row.Type c) (row.Type d) p q k m xs ys w = (sym (append-nil xs) ∙ (w ∙ append-nil ys), refl)
    worlds-same rows others rest more (row.Function f) (row.Function g) p q k m xs ys w =
        let r = owners-same f.owner g.owner (λ i o. a.owners rows f i rest p o) (λ i o. b.owners others g i more q o) xs ys (ap (λ (x : Key). x.interface) k) w in
        (r.0, ap (λ (o : Owner). Some o) r.1)
    worlds-same rows others rest more (row.Type c) (row.Function g) p q k m xs ys w = absurd (false≢true (sym (no-function (references ns [] rows) c.kind) ∙ m))
    worlds-same rows others rest more (row.Function f) (row.Type d) p q k m xs ys w = absurd (false≢true (sym (no-function (references ns [] others) d.kind) ∙ sym m))

    names-same : (m n : Option TypeName) → ((x : TypeName) → m ≡ Some x → x.interface.0 < length ns) → ((x : TypeName) → n ≡ Some x → x.interface.0 < length ns)
        → not (is_some m) ≡ false → not (is_some n) ≡ false → key_if ns m ≡ key_if ns n → m ≡ n
    names-same None n l k u v e = absurd (false≢true (sym u))
    names-same (Some x) None l k u v e = absurd (false≢true (sym v))
    names-same (Some x) (Some y) l k u v e =
        let at : x.interface.0 ≡ y.interface.0 = apart x.interface.0 y.interface.0 (l x refl) (k y refl) (ap (λ (z : Key). z.interface) e) in
        let name : x.name ≡ y.name = ap (λ (z : Key). z.name) e in
        let same : x ≡ y = rw (at, name) refl in
        ap (λ (z : TypeName). Some z) same

    -- rows that read alike behind the same rows, with the same parts, are the same
    row-same : (rows others rest more : List Definition) (d e : Definition) → R ≡ rows ++ d ∷ rest → S ≡ others ++ e ∷ more → is_unnamed d ≡ false → is_unnamed e ≡ false
        → aliased_by rows d ≡ [] → aliased_by others e ≡ [] → key_by ns d ≡ key_by ns e → meaning_by (references ns [] rows) d ≡ meaning_by (references ns [] others) e → row_owner d ≡ row_owner e
        → rows ≡ others → parts_of rows d ≡ parts_of others e → d ≡ e
    row-same rows others rest more (row.Type c) (row.Type d) p q u v x y k m o front parted =
        let name : c.name ≡ d.name = names-same c.name d.name (λ n h. a.homes rows c n rest p h) (λ n h. b.homes others d n more q h) u v k in
        let kinds : c.kind ≡ d.kind =
        sym (whole-kind R a rows rest c p x)
        ∙ (ap (λ (ds : List Definition). kind_by ns ds (meaning_of (references ns [] rows) c.kind) (parts rows c.kind)) front
        ∙ (ap (λ (z : Meaning). kind_by ns others z (parts rows c.kind)) m ∙ (ap (kind_by ns others (meaning_of (references ns [] others) d.kind)) parted ∙ whole-kind S b others more d q y))) in
        let same : c ≡ d = rw (name, kinds) refl in
        ap (λ (z : TypeDef). row.Type z) same
    row-same rows others rest more (row.Function f) (row.Function g) p q u v x y k m o front parted =
        let A : TreeFields = read_params (references ns [] rows) f.params in
        let B : TreeFields = read_params (references ns [] others) g.params in
        let X : Option Tree = option_map (read_val (references ns [] rows)) f.result in
        let Y : Option Tree = option_map (read_val (references ns [] others)) g.result in
        let ps : List ℕ = parts_of rows (row.Function f) in
        let read = same-function A B X Y m in
        let fields : A ≡ B = read.0 in
        let results : X ≡ Y = read.1 in
        let owned : f.owner ≡ g.owner = same-owner f.owner g.owner o in
        let name : f.name ≡ g.name = ap (λ (z : Key). z.name) k in
        let params : f.params ≡ g.params =
        sym (whole-params R a rows rest f p)
        ∙ (ap (λ (ds : List Definition). params_from ns ds A ps) front ∙ (ap (λ (z : TreeFields). params_from ns others z ps) fields ∙ (ap (params_from ns others B) parted ∙ whole-params S b others more g q))) in
        let result : f.result ≡ g.result =
        sym (whole-result R a rows rest f p)
        ∙ (ap (λ (ds : List Definition). result_from ns ds A X ps) front ∙ (ap (λ (z : TreeFields). result_from ns others z X ps) fields
        ∙ (ap (λ (z : Option Tree). result_from ns others B z ps) results ∙ (ap (result_from ns others B Y) parted ∙ whole-result S b others more g q)))) in
        let same : f ≡ g = rw (owned, name, params, result) refl in
        ap (λ (z : Function). row.Function z) same
    row-same rows others rest more (row.Type c) (row.Function g) p q u v x y k m o same parted = absurd cc
    row-same rows others rest more (row.Function f) (row.Type d) p q u v x y k m o same parted = absurd cc

    abbrev at_first : List ℕ → List Tree
    at_first ps = map (λ p. get_or (references ns [] R) p TextTree) ps

    abbrev at_second : List ℕ → List Tree
    at_second ps = map (λ p. get_or (references ns [] S) p TextTree) ps

    inner-defines : (rows : List Definition) (k : TypeDefKind) → all_from ns [] (rows ++ inner_row k ∷ []) ≡ all_from ns [] rows
    inner-defines rows k = definitions-append ns [] rows (inner_row k) ∙ append-nil (all_from ns [] rows)

    whole-defines : (rows : List Definition) (d : Definition) → is_unnamed d ≡ false
        → all_from ns [] (rows ++ d ∷ []) ≡ all_from ns [] rows ++ record { key = key_by ns d; meaning = meaning_by (references ns [] rows) d } ∷ []
    whole-defines rows d u = definitions-append ns [] rows d ∙ ap (λ (xs : List NamedDefinition). all_from ns [] rows ++ xs) (told-whole ns (references ns [] rows) d u)

    row-owned : (rows : List Definition) (d : Definition) → world_owners (rows ++ d ∷ []) ≡ world_owners rows ++ row_world d
    row-owned rows d = flat_map-append row_world rows (d ∷ []) ∙ ap (λ (xs : List ℕ). world_owners rows ++ xs) (append-nil (row_world d))

    same-rows : (rows : List Definition) (us : List ℕ) → Leaves rows us → (others : List Definition) (vs : List ℕ) → Leaves others vs → (rest more : List Definition) → R ≡ rows ++ rest → S ≡ others ++ more
        → at_first us ≡ at_second vs → all_from ns [] rows ≡ all_from ns [] others → world_owners rows ≡ world_owners others → (rows ≡ others) × (us ≡ vs)
    same-rows _ _ begin _ _ begin rest more e f t n w = (refl, refl)
    same-rows _ _ begin _ _ (inner others vs l j behind) rest more e f t n w = absurd (no-place (λ p. get_or (references ns [] S) p TextTree) vs (length others) t)
    same-rows _ _ begin _ _ (whole others c v y behind) rest more e f t n w = absurd (no-last (all_from ns [] others) _ (n ∙ whole-defines others c v))
    same-rows _ _ (inner rows us k i before) _ _ begin rest more e f t n w = absurd (no-place (λ p. get_or (references ns [] R) p TextTree) us (length rows) (sym t))
    same-rows _ _ (inner rows us k i before) _ _ (whole others c v y behind) rest more e f t n w = absurd (no-place (λ p. get_or (references ns [] R) p TextTree) us (length rows) (sym t))
    same-rows _ _ (whole rows d u x before) _ _ begin rest more e f t n w = absurd (no-last (all_from ns [] rows) _ (sym n ∙ whole-defines rows d u))
    same-rows _ _ (whole rows d u x before) _ _ (inner others vs l j behind) rest more e f t n w = absurd (no-place (λ p. get_or (references ns [] S) p TextTree) vs (length others) t)
    same-rows _ _ (inner rows us k i before) _ _ (inner others vs l j behind) rest more e f t n w =
        let first : ℕ → Tree = λ p. get_or (references ns [] R) p TextTree in
        let second : ℕ → Tree = λ p. get_or (references ns [] S) p TextTree in
        let p : R ≡ rows ++ inner_row k ∷ rest = e ∙ append_assoc rows (inner_row k ∷ []) rest in
        let q : S ≡ others ++ inner_row l ∷ more = f ∙ append_assoc others (inner_row l ∷ []) more in
        let last = last-same (map first us) (map second vs) (first (length rows)) (second (length others)) (sym (map-append first us (length rows ∷ [])) ∙ (t ∙ map-append second vs (length others ∷ []))) in
        let trees : read_kind (references ns [] rows) k ≡ read_kind (references ns [] others) l = sym (inner-tree R a rows rest k p) ∙ (last.1 ∙ inner-tree S b others more l q) in
        let part_trees : map first (parts rows k) ≡ map second (parts others l) = inner-trees R a rows rest k p i ∙ (ap loose_parts trees ∙ sym (inner-trees S b others more l q j)) in
        let all_trees : map first (us ++ parts rows k) ≡ map second (vs ++ parts others l) =
        map-append first us (parts rows k) ∙ (ap (λ (xs : List Tree). xs ++ map first (parts rows k)) last.0 ∙ (ap (λ (xs : List Tree). map second vs ++ xs) part_trees ∙ sym (map-append second vs (parts others l)))) in
        let told_same : all_from ns [] rows ≡ all_from ns [] others = sym (inner-defines rows k) ∙ (n ∙ inner-defines others l) in
        let owned : world_owners rows ≡ world_owners others = sym (row-owned rows (inner_row k) ∙ append-nil (world_owners rows)) ∙ (w ∙ (row-owned others (inner_row l) ∙ append-nil (world_owners others))) in
        let r = same-rows rows (us ++ parts rows k) before others (vs ++ parts others l) behind (inner_row k ∷ rest) (inner_row l ∷ more) p q all_trees told_same owned in
        let cut = append-same us vs (parts rows k) (parts others l) (sym (length-map us first) ∙ (ap length last.0 ∙ length-map vs second)) r.1 in
        let kinds : k ≡ l =
        sym (inner-kind R a rows rest k p i)
        ∙ (ap (λ (ds : List Definition). kind_from ns ds (read_kind (references ns [] rows) k) (parts rows k)) r.0
        ∙ (ap (λ (z : Tree). kind_from ns others z (parts rows k)) trees ∙ (ap (kind_from ns others (read_kind (references ns [] others) l)) cut.1 ∙ inner-kind S b others more l q j))) in (
          ap (λ (ds : List Definition). ds ++ inner_row k ∷ []) r.0 ∙ ap (λ (z : TypeDefKind). others ++ inner_row z ∷ []) kinds,
          ap (λ (xs : List ℕ). xs ++ length rows ∷ []) cut.0 ∙ ap (λ (ds : List Definition). vs ++ length ds ∷ []) r.0,
        )
    same-rows _ _ (whole rows d u x before) _ _ (whole others c v y behind) rest more e f t n w =
        let p : R ≡ rows ++ d ∷ rest = e ∙ append_assoc rows (d ∷ []) rest in
        let q : S ≡ others ++ c ∷ more = f ∙ append_assoc others (c ∷ []) more in
        let last = last-same (all_from ns [] rows) (all_from ns [] others) _ _ (sym (whole-defines rows d u) ∙ (n ∙ whole-defines others c v)) in
        let key : key_by ns d ≡ key_by ns c = ap (λ (z : NamedDefinition). z.key) last.1 in
        let meant : meaning_by (references ns [] rows) d ≡ meaning_by (references ns [] others) c = ap (λ (z : NamedDefinition). z.meaning) last.1 in
        let part_trees : at_first (parts_of rows d) ≡ at_second (parts_of others c) = whole-trees R a rows rest d p x ∙ (ap loose_meaning meant ∙ sym (whole-trees S b others more c q y)) in
        let owned = worlds-same rows others rest more d c p q key (ap is_function meant) (world_owners rows) (world_owners others) (sym (row-owned rows d) ∙ (w ∙ row-owned others c)) in
        let r = same-rows rows (parts_of rows d) before others (parts_of others c) behind (d ∷ rest) (c ∷ more) p q part_trees last.0 owned.0 in
        let same = row-same rows others rest more d c p q u v x y key meant owned.1 r.0 r.1 in (
          ap (λ (ds : List Definition). ds ++ d ∷ []) r.0 ∙ ap (λ (z : Definition). others ++ z ∷ []) same,
          refl,
        )

    -- Tables that tell the same have the same rows.
    pub one-list : Leaves R [] → Leaves S [] → all_from ns [] R ≡ all_from ns [] S → world_owners R ≡ world_owners S → R ≡ S
    one-list p q n w = (same-rows R [] p S [] q [] [] (sym (append-nil R)) (sym (append-nil S)) refl n w).0
