-- From row to row of an interface: the types that a row can refer to have type indices of the interface.
use Rattle.std.proofs.Common.{◌≡◌, ℕ, ◌+◌, ◌-◌, ◌<◌, ◌≤◌, Bool, true, false, cond, not, ◌==◌, nat_lt, List, [], ◌∷◌, ◌++◌, take, flat_map, length, slice_get, slice_index, Option, None, Some, is_some, refl, sym, ap, subst, ◌∙◌, arith, inl, inr}
use Rattle.std.specs.List.{list_all}
use Rattle.std.proofs.lemmas.Bool.Decides.{nat_tests}
use Rattle.std.proofs.lemmas.Bool.{cases_lt, eqb-true}
use Rattle.std.proofs.lemmas.List.{length-append, get_or_append_left, get_or_push}
use Rattle.ctype_format.specs.Formed.{All}
use Rattle.tables.specs.Tables.{type_of}
use Rattle.tables.specs.declared.tables.TypeId.{TypeId}
use Rattle.tables.specs.declared.tables.TypeDef.{TypeDef}
use Rattle.tables.specs.declared.tables.TypeDefKind.{TypeDefKind}
use Rattle.tables.specs.declared.tables.TypeDefKind.TheVariants as kind
use Rattle.tables.specs.declared.tables.TypeName.{TypeName}
use Rattle.tables.specs.declared.tables.Definition.{Definition}
use Rattle.tables.specs.declared.tables.Definition.TheVariants as row
use Rattle.package_form.specs.Postfix.{is_unnamed, is_unnamed_row, one_if, is_inner}
use Rattle.package_form.specs.References.{row_references}
use Rattle.wit_component.specs.Rows.{Place, defined_types, row_types, export_offset, row_offset, place_after}
use Rattle.package_form.specs.Reached.{name_of}
use Rattle.package_form.specs.Form.{is_own_name, is_own_type, is_own, uses_earlier, is_owned}
use Rattle.package_form.specs.Unused.{unnamed_at, inner_rows, closes, unused_after}
use Rattle.package_form.proofs.LaterRowsChangeNothing.{stands_before}
use Rattle.tables.proofs.ClosedTypesRowByRow.{split}
use Rattle.wit_component.proofs.AcceptedComponents.DeclaredRows.{all-split, StandsSo, CanStand, IsKnown}
use Rattle.std.specs.Option.{option_len}

-- ---- lists

pub all-join : {X : Type 0} (P : X → Type 0) (xs ys : List X) → All P xs → All P ys → All P (xs ++ ys)
all-join P [] ys h q = q
all-join P (x ∷ xs) ys h q = (h.0, all-join P xs ys h.1 q)

pub all-weaken : {X : Type 0} (P Q : X → Type 0) → ((x : X) → P x → Q x) → (xs : List X) → All P xs → All Q xs
all-weaken P Q e [] h = tt
all-weaken P Q e (x ∷ xs) h = (e x h.0, all-weaken P Q e xs h.1)

-- ---- what stands without a name

unnamed-stands : (o : Option TypeName) (k : TypeDefKind) (left : ℕ) → cond (not (is_some o)) (is_inner k) (left == 0) ≡ true → StandsSo o k
unnamed-stands None k left h e = h
unnamed-stands (Some n) k left h e = absurd (cc)

pub closed-stands : (d : Definition) (left : ℕ) → closes d left ≡ true → CanStand d
closed-stands (row.Type d) left h = unnamed-stands d.name d.kind left h
closed-stands (row.Function f) left h = tt

inner-types : (k : TypeDefKind) → is_inner k ≡ true → defined_types k ≡ 1
inner-types (kind.List v) h = refl
inner-types (kind.Option v) h = refl
inner-types (kind.Result v w) h = refl
inner-types (kind.Tuple vs) h = refl
inner-types (kind.Use t) h = absurd (cc)
inner-types (kind.Alias v) h = absurd (cc)
inner-types (kind.Record fs) h = absurd (cc)
inner-types (kind.Variant cs) h = absurd (cc)
inner-types (kind.Enum ns) h = absurd (cc)
inner-types (kind.Flags ns) h = absurd (cc)

type-offset : (o : Option TypeName) (k : TypeDefKind) → StandsSo o k → export_offset o k < defined_types k + option_len o
type-offset None k h = let one = inner-types k (h refl) in omega (arith, one)
type-offset (Some n) k h = omega arith

-- a row's index is one that it takes
row-offset : (d : Definition) → CanStand d → row_offset d < row_types d
row-offset (row.Type d) h = type-offset d.name d.kind h
row-offset (row.Function f) h = omega arith

-- the name of a row of interface k
pub own-name : (rows : List Definition) (k : ℕ) (e : Definition) (m : TypeName) → is_owned rows k e ≡ true → name_of (type_of (Some e)) ≡ Some m → m.interface.0 ≡ k
own-name rows k (row.Type e) m owned named =
    let s = split (is_own_name k e.name) (uses_earlier rows k e.kind) owned in
    eqb-true m.interface.0 k (subst (λ (o : Option TypeName). is_own_name k o ≡ true) named s.0)
own-name rows k (row.Function f) m owned named = absurd (cc)

-- ---- the state before a row

module _ (rows : List Definition) where
  abbrev pub named_at : ℕ → Option TypeName
  named_at n = name_of (type_of (slice_get rows n))

  -- Before the row at place n of interface k: the types that later rows can refer to have indices, and no later interface has begun.
  pub record State (k n : ℕ) (at : Place) (unused : List ℕ) : Type 0 where
    pub long : length at.indices ≡ n
    pub known : (t : ℕ) (m : TypeName) → t < n → named_at t ≡ Some m → m.interface.0 ≡ k → slice_index at.indices t < at.types
    pub inner : All (λ t. (t < n) × (slice_index at.indices t < at.types)) unused
    pub before : (t : ℕ) (m : TypeName) → t < n → named_at t ≡ Some m → m.interface.0 ≤ k

  module _ (k n : ℕ) (at : Place) (unused : List ℕ) (state : State k n at unused) where
    abbrev HasIndex : ℕ → Type 0
    HasIndex t = (t < n) × (slice_index at.indices t < at.types)

    type-known : (t : TypeId) (d : TypeDef) (o : Option TypeName) → d.name ≡ o → slice_get rows t.0 ≡ Some (row.Type d) → is_own_name k o ≡ true → t.0 < n → All HasIndex (one_if (not (is_some o)) t.0) → IsKnown at.indices at.types t
    type-known t d None e is own lt h = h.0.1
    type-known t d (Some m) e is own lt h = state.known t.0 m lt (ap (λ (x : Option Definition). name_of (type_of x)) is ∙ e) (eqb-true m.interface.0 k own)

    ref-known : (t : TypeId) (o : Option Definition) → slice_get rows t.0 ≡ o → is_own_type k (type_of o) ≡ true → t.0 < n → All HasIndex (one_if (is_unnamed_row o) t.0) → IsKnown at.indices at.types t
    ref-known t None is own lt h = absurd (let e : false ≡ true = own in cc)
    ref-known t (Some (row.Function f)) is own lt h = absurd (let e : false ≡ true = own in cc)
    ref-known t (Some (row.Type d)) is own lt h = type-known t d d.name refl is own lt h

    refs-known : (ts : List TypeId) → list_all (is_own rows k) ts ≡ true → list_all (stands_before n) ts ≡ true → All HasIndex (flat_map (unnamed_at rows) ts) → All (IsKnown at.indices at.types) ts
    refs-known [] own lt h = tt
    refs-known (t ∷ ts) own lt h =
        let o = split (is_own rows k t) (list_all (is_own rows k) ts) own in
        let l = split (stands_before n t) (list_all (stands_before n) ts) lt in
        let s = all-split HasIndex (unnamed_at rows t) (flat_map (unnamed_at rows) ts) h in
        (ref-known t (slice_get rows t.0) refl o.0 (let b : nat_lt t.0 n ≡ true = l.0 in grind (arith, nat_tests)) s.0, refs-known ts o.1 l.1 s.1)

    module _ (d : Definition) (here : slice_get rows n ≡ Some d) (own : list_all (is_own rows k) (row_references d) ≡ true)
        (names : (m : TypeName) → name_of (type_of (Some d)) ≡ Some m → m.interface.0 ≡ k) (stands : CanStand d) where
      abbrev front : List ℕ
      front = take (length unused - length (inner_rows rows d)) unused

      -- the rows that are still unused, and those that this one is made of
      cut : unused ≡ take (length unused - length (inner_rows rows d)) unused ++ inner_rows rows d → All HasIndex (take (length unused - length (inner_rows rows d)) unused) × All HasIndex (inner_rows rows d)
      cut is = all-split HasIndex (take (length unused - length (inner_rows rows d)) unused) (inner_rows rows d) (subst (λ ns. All HasIndex ns) is state.inner)

      pub row-known : list_all (stands_before n) (row_references d) ≡ true → unused ≡ take (length unused - length (inner_rows rows d)) unused ++ inner_rows rows d → All (IsKnown at.indices at.types) (row_references d)
      row-known lt is = refs-known (row_references d) own lt (cut is).1

      abbrev next : Place
      next = place_after at d

      grown : row_offset d < row_types d
      grown = row-offset d stands

      old-index : (t : ℕ) → t < n → slice_index next.indices t ≡ slice_index at.indices t
      old-index t lt = get_or_append_left at.indices ((at.types + row_offset d) ∷ []) 0 t (let long = state.long in omega (arith, long, lt))

      new-index : slice_index next.indices n ≡ at.types + row_offset d
      new-index = get_or_push at.indices (at.types + row_offset d) 0 n state.long

      old-known : (t : ℕ) → t < n → slice_index at.indices t < at.types → slice_index next.indices t < next.types
      old-known t lt h = let e = old-index t lt in omega (arith, e, h)

      new-known : (t : ℕ) → t ≡ n → slice_index next.indices t < next.types
      new-known t is = subst (λ (m : ℕ). slice_index next.indices m < next.types) (sym is) (let e = new-index in let g = grown in omega (arith, e, g))

      next-known : (t : ℕ) (m : TypeName) → t < n + 1 → named_at t ≡ Some m → m.interface.0 ≡ k → slice_index next.indices t < next.types
      next-known t m lt named own = elim (cases_lt t n) [
        | inl l ↦ old-known t l (state.known t m l named own)
        | inr l ↦ new-known t (omega (arith, l, lt))
      ]

      next-before : (t : ℕ) (m : TypeName) → t < n + 1 → named_at t ≡ Some m → m.interface.0 ≤ k
      next-before t m lt named = elim (cases_lt t n) [
        | inl l ↦ state.before t m l named
        | inr l ↦
            let at_n : t ≡ n = omega (arith, l, lt) in
            let name : name_of (type_of (Some d)) ≡ Some m = ap (λ (o : Option Definition). name_of (type_of o)) (sym (ap (λ (j : ℕ). slice_get rows j) at_n ∙ here)) ∙ named in
            omega (arith, names m name)
      ]

      new-inner : (b : Bool) → All (λ t. (t < n + 1) × (slice_index next.indices t < next.types)) (one_if b n)
      new-inner true = ((omega arith, new-known n refl), tt)
      new-inner false = tt

      pub state-next : unused ≡ take (length unused - length (inner_rows rows d)) unused ++ inner_rows rows d → State k (n + 1) (place_after at d) (unused_after n unused (inner_rows rows d) d)
      state-next is = record {
        long = let long = state.long in omega (arith, long, length-append at.indices ((at.types + row_offset d) ∷ []));
        known = next-known;
        inner = all-join (λ t. (t < n + 1) × (slice_index next.indices t < next.types)) front (one_if (is_unnamed d) n)
            (all-weaken HasIndex (λ t. (t < n + 1) × (slice_index next.indices t < next.types)) (λ t h. let l = h.0 in (omega (arith, l), old-known t h.0 h.1)) front (cut is).0)
            (new-inner (is_unnamed d));
        before = next-before;
      }
