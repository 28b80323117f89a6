-- What is known of the rows of an interface in package form, and that they can be read.
use Rattle.std.proofs.Common.{◌≡◌, ◌≤◌, ◌<◌, ℕ, zero, suc, ◌+◌, ◌-◌, Bool, true, false, not, ◌==◌, nat_eq, nat_lt, nat_le, List, [], ◌∷◌, ◌++◌, flat_map, take, drop, length, slice_get, Option, None, Some, refl, sym, subst, ◌∙◌, arith, eqb-true}
use Rattle.std.specs.List.{list_all, ends_with}
use Rattle.std.proofs.lemmas.List.Folds.{list_all-append}
use Rattle.std.proofs.lemmas.Slice.Eq.{bytes_eq-Decides}
use Rattle.std.proofs.lemmas.Bool.Decides.{nat_tests}
use Rattle.std.proofs.lemmas.Bool.{ltb-true}
use Rattle.atoms.specs.Label.{is_label}
use Rattle.package_form.specs.Postfix.{is_unnamed, is_unnamed_row, one_if}
use Rattle.package_form.specs.Ids.{is_use, is_owned_by}
use Rattle.tables.specs.Tables.{definition_below, are_earlier, type_of, is_there}
use Rattle.tables.specs.declared.tables.TypeId.{TypeId}
use Rattle.tables.specs.declared.tables.ValType.{ValType}
use Rattle.tables.specs.declared.tables.ValType.TheVariants as val
use Rattle.tables.specs.declared.tables.TypeDefKind.{TypeDefKind}
use Rattle.tables.specs.declared.tables.TypeDefKind.TheVariants as kind
use Rattle.tables.specs.declared.tables.TypeName.{TypeName}
use Rattle.tables.specs.declared.tables.TypeDef.{TypeDef}
use Rattle.tables.specs.declared.tables.Parameter.{Parameter}
use Rattle.tables.specs.declared.tables.Owner.{Owner}
use Rattle.tables.specs.declared.tables.Owner.TheVariants as owner
use Rattle.tables.specs.declared.tables.Definition.{Definition}
use Rattle.tables.specs.declared.tables.Definition.TheVariants as row
use Rattle.component_reader.specs.Instance.{named_row, function_row}
use Rattle.package_form.specs.Reached.{name_of, name_at}
use Rattle.package_form.specs.Form.{is_own_name, is_own_type, is_own, is_owned, is_local}
use Rattle.package_form.specs.References.{kind_references, row_references}
use Rattle.wit_component.specs.ToComponent.{is_label_if, is_labelled}
use Rattle.package_form.specs.Unused.{unnamed_at, inner_rows, can_use, closes, is_next, unused_after, are_used}
use Rattle.package_form.proofs.LaterRowsChangeNothing.{stands_before, row-before}
use Rattle.wit_component.proofs.InterfaceRows.RowsStandInOrder.{StandAt}
use Rattle.tables.proofs.ClosedTypesRowByRow.{split, both}
use Rattle.wit_component.proofs.ReadAgain.ReadableRows.{is_inside, IsReadable, inner, defines, renames, function, AreReadable, no_rows, row_first}
use Rattle.wit_component.proofs.AcceptedComponents.DeclaredRows.{is_use_def}

pub all-take : {A : Type 0} (p : A → Bool) (n : ℕ) (xs : List A) → list_all p xs ≡ true → list_all p (take n xs) ≡ true
all-take p zero xs h = refl
all-take p (suc n) [] h = refl
all-take p (suc n) (x ∷ xs) h = let s = split (p x) (list_all p xs) h in both _ _ s.0 (all-take p n xs s.1)

pub all-drop : {A : Type 0} (p : A → Bool) (n : ℕ) (xs : List A) → list_all p xs ≡ true → list_all p (drop n xs) ≡ true
all-drop p zero xs h = h
all-drop p (suc n) [] h = refl
all-drop p (suc n) (x ∷ xs) h = all-drop p n xs (split (p x) (list_all p xs) h).1

module _ (table : List Definition) (start k : ℕ) where
  -- names before the interface's rows are of earlier interfaces
  abbrev pub NameEarlier : Type 0
  NameEarlier = (t : TypeId) (y : TypeName) → t.0 < start → name_at table (Some t) ≡ Some y → y.interface.0 < k

  -- these rows of interface k, the first of which stands at place n, and those behind them use the unused ones, all of the interface
  pub record HasFacts (n : ℕ) (unused : List ℕ) (ds rest : List Definition) : Type 0 where
    pub local : list_all (is_local table k) ds ≡ true
    pub labels : list_all is_labelled ds ≡ true
    pub earlier : are_earlier n ds ≡ true
    pub used : are_used table n unused (ds ++ rest) ≡ true
    pub since : list_all (nat_le start) unused ≡ true
    pub begins : start ≤ n

  since-after : (n : ℕ) (unused taken : List ℕ) (d : Definition) → start ≤ n → list_all (nat_le start) unused ≡ true → list_all (nat_le start) (unused_after n unused taken d) ≡ true
  since-after n unused taken d low h =
      list_all-append (nat_le start) (take (length unused - length taken) unused) (one_if (is_unnamed d) n)
      ∙ both _ _ (all-take (nat_le start) (length unused - length taken) unused h) (by (is_unnamed d))
    where
      by : (b : Bool) → list_all (nat_le start) (one_if b n) ≡ true
      by true = let e : nat_le start n ≡ true = grind (arith, nat_tests) in both _ _ e refl
      by false = refl

  pub facts-more : (n : ℕ) (unused : List ℕ) (d : Definition) (ds rest : List Definition) → HasFacts n unused (d ∷ ds) rest
      → HasFacts (n + 1) (unused_after n unused (inner_rows table d) d) ds rest
  facts-more n unused d ds rest f = record {
    local = (split (is_local table k d) _ f.local).1;
    labels = (split (is_labelled d) _ f.labels).1;
    earlier = (split (definition_below n d) _ f.earlier).1;
    used = (split (is_next unused (inner_rows table d) d) _ f.used).1;
    since = since-after n unused (inner_rows table d) d f.begins f.since;
    begins = omega (arith, f.begins);
  }

  -- ---- what a row refers to

  module _ (n : ℕ) (lows : NameEarlier) where
    own-low : (t : TypeId) → is_own table k t ≡ true → list_all (nat_le start) (unnamed_at table t) ≡ true → nat_le start t.0 ≡ true
    own-low t own inside = by (slice_get table t.0) own inside (λ y e. lows t y e)
      where
        type-low : (o : Option TypeName) → is_own_type k (Some (record { name = o; kind = kind.Enum [] })) ≡ true
            → list_all (nat_le start) (one_if (is_unnamed_row (Some (row.Type (record { name = o; kind = kind.Enum [] })))) t.0) ≡ true
            → ((y : TypeName) → t.0 < start → o ≡ Some y → y.interface.0 < k) → nat_le start t.0 ≡ true
        type-low None own inside low = (split (nat_le start t.0) true inside).0
        type-low (Some x) own inside low =
            let same : x.interface.0 ≡ k = eqb-true x.interface.0 k own in
            test (λ below. omega (arith, low x below refl, same))
          where
            test : (t.0 < start → ⊥) → nat_le start t.0 ≡ true
            test h = by (nat_lt t.0 start) refl
              where
                by : (b : Bool) → nat_lt t.0 start ≡ b → nat_le start t.0 ≡ true
                by true e = absurd (h (ltb-true t.0 start e))
                by false e = grind (arith, nat_tests)

        by : (o : Option Definition) → is_own_type k (type_of o) ≡ true → list_all (nat_le start) (one_if (is_unnamed_row o) t.0) ≡ true
            → ((y : TypeName) → t.0 < start → name_of (type_of o) ≡ Some y → y.interface.0 < k) → nat_le start t.0 ≡ true
        by None own inside low = absurd (cc)
        by (Some (row.Function f)) own inside low = absurd (cc)
        by (Some (row.Type d)) own inside low = type-low d.name own inside low

    own-type : (t : TypeId) → is_own table k t ≡ true → is_there (type_of (slice_get table t.0)) ≡ true
    own-type t own = by (type_of (slice_get table t.0)) own
      where
        by : (o : Option TypeDef) → is_own_type k o ≡ true → is_there o ≡ true
        by None h = absurd (cc)
        by (Some d) h = refl

    pub refs-inside : (ts : List TypeId) → list_all (is_own table k) ts ≡ true → list_all (stands_before n) ts ≡ true
        → list_all (nat_le start) (flat_map (unnamed_at table) ts) ≡ true → list_all (is_inside table start n) ts ≡ true
    refs-inside [] own before unnamed = refl
    refs-inside (t ∷ ts) own before unnamed =
        let a = split (is_own table k t) _ own in
        let b = split (stands_before n t) _ before in
        let c = split (list_all (nat_le start) (unnamed_at table t)) _ (sym (list_all-append (nat_le start) (unnamed_at table t) (flat_map (unnamed_at table) ts)) ∙ unnamed) in
        both _ _ (both _ _ (own-low t a.0 c.0) (both _ _ b.0 (own-type t a.0))) (refs-inside ts a.1 b.1 c.1)

  -- ---- a row can be read

  pub inner-since : (unused taken : List ℕ) → ends_with nat_eq unused taken ≡ true → list_all (nat_le start) unused ≡ true → list_all (nat_le start) taken ≡ true
  inner-since unused taken h since =
      subst (λ ns. list_all (nat_le start) ns ≡ true) (sym ((bytes_eq-Decides taken (drop (length unused - length taken) unused)).0 h))
      (all-drop (nat_le start) (length unused - length taken) unused since)

  -- a new name stands for a type that has a name
  alias-named : (t : TypeId) → can_use (row.Type (record { name = None; kind = kind.Alias (val.Id t) })) (flat_map (unnamed_at table) (t ∷ [])) ≡ true → is_unnamed_row (slice_get table t.0) ≡ false
  alias-named t h = by (is_unnamed_row (slice_get table t.0)) h
    where
      by : (b : Bool) → (length (one_if b t.0 ++ []) == 0) ≡ true → b ≡ false
      by true h = absurd (cc)
      by false h = refl

  module _ (n m : ℕ) (around : List (Option TypeId)) where
    named-readable : (x : List ℕ) (what : TypeDefKind) → is_label x ≡ true → is_use what ≡ false → list_all (is_inside table start n) (kind_references what) ≡ true
        → can_use (row.Type (record { name = None; kind = what })) (flat_map (unnamed_at table) (kind_references what)) ≡ true → IsReadable table around start k n m (named_row k x what)
    named-readable x (kind.Use t) label plain refs can = absurd (cc)
    named-readable x (kind.Alias (val.Id t)) label plain refs can = renames x t label (split (is_inside table start n t) true refs).0 (alias-named t can)
    named-readable x what label plain refs can = defines x what label refl refs

    type-readable : (o : Option TypeName) (what : TypeDefKind) → is_own_name k o ≡ true → is_label_if o ≡ true → is_use what ≡ false
        → list_all (is_inside table start n) (kind_references what) ≡ true → (left : ℕ)
        → can_use (row.Type (record { name = None; kind = what })) (flat_map (unnamed_at table) (kind_references what)) ≡ true
        → closes (row.Type (record { name = o; kind = what })) left ≡ true
        → IsReadable table around start k n m (row.Type (record { name = o; kind = what }))
    type-readable None what own label plain refs left can closed = inner what closed refs
    type-readable (Some x) what own label plain refs left can closed =
        subst (λ j. IsReadable table around start k n m (row.Type (record { name = Some (record { interface = record { 0 = j }; name = x.name }); kind = what })))
        (sym (eqb-true x.interface.0 k own)) (named-readable x.name what label plain refs can)

    function-readable : (o : Owner) (x : List ℕ) (ps : List Parameter) (result : Option ValType) → is_owned_by k o ≡ true → is_label x ≡ true
        → list_all (is_inside table start n) (row_references (function_row k x ps result)) ≡ true
        → IsReadable table around start k n m (row.Function (record { owner = o; name = x; params = ps; result = result }))
    function-readable (owner.World w) x ps result own label refs = absurd (cc)
    function-readable (owner.Interface i) x ps result own label refs =
        subst (λ j. IsReadable table around start k n m (row.Function (record { owner = owner.Interface (record { 0 = j }); name = x; params = ps; result = result })))
        (sym (eqb-true i.0 k own)) (function x ps result label refs)

    row-readable : (unused : List ℕ) (d : Definition) (ds rest : List Definition) → NameEarlier → HasFacts n unused (d ∷ ds) rest → is_use_def d ≡ false
        → IsReadable table around start k n m d
    row-readable unused d ds rest lows f plain =
        let local = split (is_owned table k d) _ (split (is_local table k d) _ f.local).0 in
        let next = split (can_use d (inner_rows table d)) _ (split (is_next unused (inner_rows table d) d) _ f.used).0 in
        let ends = split (ends_with nat_eq unused (inner_rows table d)) _ next.1 in
        let before = row-before n d (split (definition_below n d) _ f.earlier).0 in
        let refs = refs-inside n lows (row_references d) local.1 before (inner-since unused (inner_rows table d) ends.0 f.since) in
        by d plain local.0 (split (is_labelled d) _ f.labels).0 refs (length unused - length (inner_rows table d)) next.0 ends.1
      where
        by : (d : Definition) → is_use_def d ≡ false → is_owned table k d ≡ true → is_labelled d ≡ true → list_all (is_inside table start n) (row_references d) ≡ true → (left : ℕ)
            → can_use d (inner_rows table d) ≡ true → closes d left ≡ true → IsReadable table around start k n m d
        by (row.Type d) plain owned label refs left can closed =
            type-readable d.name d.kind (split (is_own_name k d.name) _ owned).0 label plain refs left can closed
        by (row.Function g) plain owned label refs left can closed = function-readable g.owner g.name g.params g.result owned label refs

  pub rows-readable : (around : List (Option TypeId)) (n m : ℕ) (unused : List ℕ) (ds rest : List Definition) → NameEarlier → StandAt table n ds → HasFacts n unused ds rest
      → list_all (λ d. not (is_use_def d)) ds ≡ true → AreReadable table around start k n m ds
  rows-readable around n m unused [] rest lows stand f plain = no_rows n m
  rows-readable around n m unused (d ∷ ds) rest lows stand f plain =
      let s = split (not (is_use_def d)) _ plain in
      row_first n m d ds stand.0 (row-readable n m around unused d ds rest lows f (no-test (is_use_def d) s.0))
      (rows-readable around (n + 1) (m + 1) (unused_after n unused (inner_rows table d) d) ds rest lows stand.1 (facts-more n unused d ds rest f) s.1)
    where
      no-test : (b : Bool) → not b ≡ true → b ≡ false
      no-test true h = absurd (cc)
      no-test false h = refl
