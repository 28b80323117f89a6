-- What a table's types are read as stays while rows come behind.
use Rattle.std.proofs.Common.{◌≡◌, ℕ, ◌+◌, Bool, true, List, [], ◌∷◌, ◌++◌, Option, None, Some, map, flat_map, refl, ap, sym, ◌∙◌, subst}
use Rattle.std.specs.List.{list_all}
use Rattle.std.specs.Option.{option_map}
use Rattle.std.proofs.lemmas.List.{map-append}
use Rattle.tables.specs.Tables.{is_type, option_all}
use Rattle.tables.specs.Package.{Tree, read_val, read_tuple, read_fields, read_params, read_cases, read_choice, field, Choices, TreeFields}
use Rattle.package_form.specs.Postfix.{unnamed, unnamed_if, unnamed_parameter}
use Rattle.tree_meaning.specs.Resolved.{Labelled, fields_of_labelled, unlabelled, choices_of, choice}
use Rattle.package_form.specs.Entries.{Table}
use Rattle.tree_meaning.specs.Building.{table_trees, IsTableFront, Extends, LowersEach, read_field, read_parameter, read_case, parameter_typed}
use Rattle.tables.specs.declared.tables.ValType.{ValType}
use Rattle.tables.specs.declared.tables.Definition.{Definition}
use Rattle.tables.specs.declared.tables.Field.{Field}
use Rattle.tables.specs.declared.tables.Parameter.{Parameter}
use Rattle.tables.specs.declared.tables.Case.{Case}
use Rattle.tables.proofs.ClosedTypesRowByRow.{split, both}
use Rattle.package_form.proofs.AllAndContains.{flat_map-append, flat_map-one}
use Rattle.tree_meaning.proofs.MoreRowsReadTheSame.{extends-trans, extends-none, read_val-same, typed-stays, unnamed-same}

-- ---- a type that may be left out

pub option-stays : (old new : Table) → IsTableFront old new → (v : Option ValType) → option_all (is_type old.rows) v ≡ true
    → (option_all (is_type new.rows) v ≡ true) × (option_map (read_val (table_trees new)) v ≡ option_map (read_val (table_trees old)) v)
    × (unnamed_if new.rows v ≡ unnamed_if old.rows v)
option-stays old new x None h = (refl, refl, refl)
option-stays old new x (Some v) h = (typed-stays old new x v h, ap (λ (t : Tree). Some t) (read_val-same old new x v h), unnamed-same old new x v h)

pub choice-reads : (ts : List Tree) (label : List ℕ) (v : Option ValType) (cs : Choices) → read_choice ts label v cs ≡ choice label (option_map (read_val ts) v) cs
choice-reads ts label None cs = refl
choice-reads ts label (Some v) cs = refl

-- ---- many

-- what stands in a table stands in it and reads the same when more rows come
abbrev pub Stays : {A X : Type 0} → (List Definition → A → Bool) → (List Tree → A → X) → (List Definition → A → List ℕ) → Type 0
Stays {A} typed read rest = (old new : Table) → IsTableFront old new → (v : A) → typed old.rows v ≡ true
    → (typed new.rows v ≡ true) × (read (table_trees new) v ≡ read (table_trees old) v) × (rest new.rows v ≡ rest old.rows v)

pub val-stays : Stays is_type read_val unnamed
val-stays old new x v h = (typed-stays old new x v h, read_val-same old new x v h, unnamed-same old new x v h)

pub parameter-stays : Stays parameter_typed read_parameter unnamed_parameter
parameter-stays old new x f h =
    let p = val-stays old new x f.ty h in
    let g : Tree → Labelled = λ t. record { name = f.name; tree = t } in
    (p.0, ap g p.1, p.2)

module _ {A X : Type 0} (typed : List Definition → A → Bool) (read : List Tree → A → X) (rest : List Definition → A → List ℕ) where
  pub lowers_each-none : (a : Table) → LowersEach typed read rest a a [] []
  lowers_each-none a = record { extends = extends-none a; within = refl; reads = refl }

  all-push : (rows : List Definition) (vs : List A) (v : A) → list_all (typed rows) vs ≡ true → typed rows v ≡ true → list_all (typed rows) (vs ++ v ∷ []) ≡ true
  all-push rows [] v p q = both _ true q refl
  all-push rows (w ∷ vs) v p q = let h = split (typed rows w) (list_all (typed rows) vs) p in both _ _ h.0 (all-push rows vs v h.1 q)

  module _ (stays : Stays typed read rest) where
    pub all-stay : (old new : Table) → IsTableFront old new → (vs : List A) → list_all (typed old.rows) vs ≡ true
        → (list_all (typed new.rows) vs ≡ true) × (map (read (table_trees new)) vs ≡ map (read (table_trees old)) vs)
        × (flat_map (rest new.rows) vs ≡ flat_map (rest old.rows) vs)
    all-stay old new x [] h = (refl, refl, refl)
    all-stay old new x (v ∷ vs) h =
        let p = split (typed old.rows v) (list_all (typed old.rows) vs) h in
        let q = all-stay old new x vs p.1 in
        let r = stays old new x v p.0 in
        (both _ _ r.0 q.0, rw (r.1, q.1) refl, rw (r.2, q.2) refl)

    pub lowers_each-more : (a b c : Table) (vs : List A) (xs : List X) (v : A) (x : X) → LowersEach typed read rest a b vs xs
        → Extends b c (rest c.rows v) → typed c.rows v ≡ true → read (table_trees c) v ≡ x → LowersEach typed read rest a c (vs ++ v ∷ []) (xs ++ x ∷ [])
    lowers_each-more a b c vs xs v x l m under reads =
        let p = all-stay b c m.front vs l.within in
        let unused : flat_map (rest b.rows) vs ++ rest c.rows v ≡ flat_map (rest c.rows) (vs ++ v ∷ []) =
        ap (λ us. us ++ rest c.rows v) (sym p.2) ∙ ap (λ us. flat_map (rest c.rows) vs ++ us) (sym (flat_map-one (rest c.rows) v)) ∙ sym (flat_map-append (rest c.rows) vs (v ∷ [])) in
        record {
          extends = subst (λ (us : List ℕ). Extends a c us) unused (extends-trans a b c _ _ l.extends m);
          within = all-push c.rows vs v p.0 under;
          reads = map-append (read (table_trees c)) vs (v ∷ []) ∙ rw (p.1, l.reads, reads) refl;
        }

-- ---- lists of the table, read

pub tuple-reads : (ts : List Tree) (vs : List ValType) → read_tuple ts vs ≡ unlabelled (map (read_val ts) vs)
tuple-reads ts [] = refl
tuple-reads ts (v ∷ vs) = ap (λ (fs : TreeFields). field [] (read_val ts v) fs) (tuple-reads ts vs)

pub fields-read : (ts : List Tree) (fs : List Field) → read_fields ts fs ≡ fields_of_labelled (map (read_field ts) fs)
fields-read ts [] = refl
fields-read ts (f ∷ fs) = ap (λ (gs : TreeFields). field f.name (read_val ts f.ty) gs) (fields-read ts fs)

pub parameters-read : (ts : List Tree) (fs : List Parameter) → read_params ts fs ≡ fields_of_labelled (map (read_parameter ts) fs)
parameters-read ts [] = refl
parameters-read ts (f ∷ fs) = ap (λ (gs : TreeFields). field f.name (read_val ts f.ty) gs) (parameters-read ts fs)

pub cases-read : (ts : List Tree) (cs : List Case) → read_cases ts cs ≡ choices_of (map (read_case ts) cs)
cases-read ts [] = refl
cases-read ts (c ∷ cs) =
    choice-reads ts c.name c.ty (read_cases ts cs) ∙ ap (λ (ds : Choices). choice c.name (option_map (read_val ts) c.ty) ds) (cases-read ts cs)
