-- An object's members beside the fields of a record.
use Rattle.std.proofs.Common.{◌≡◌, ℕ, suc, List, [], ◌∷◌, length, Some, None, String, Global, string_bytes, string_cmp, Ordering, Less, Equal, Greater, nat_cmp, refl, sym, ap, ◌∙◌, subst, arith}
use Rattle.std.proofs.lemmas.Cmp.{nat_list_cmp_total, tied_itself}
use Rattle.std.specs.Cmp.Lexicographic.{slice_cmp}
use Rattle.std.specs.List.{AllByRecursion}
use Rattle.std.specs.List.Sorted.{IsStrictlySortedBy}
use Rattle.std.specs.Map.{keys_of}
use Rattle.std.specs.Ordering.{match_ordering}
use Rattle.std.proofs.lemmas.Option.{same_Some}
use Rattle.canonical_abi.specs.Values.{Value}
use Rattle.canonical_abi.specs.Labelled.{LabelledType}
use Rattle.serde_json.specs.Data.{Data, Members, no_members, member, put}
use Rattle.serde_json.specs.Events.{members_len}
use Rattle.serde_json.specs.Find.{get_member}
use Rattle.serde_json.specs.View.{members_view}
use Rattle.serde_json.specs.declared.value.Value.{Value as JsonValue}
use Rattle.serde_json.proofs.Views.{get_member-put, get_member-put_other}
use Rattle.tables.specs.declared.tables.Field.{Field}
use Rattle.tables.specs.Labelled.{labelled_val, labelled_fields}
use Rattle.value_json.specs.Apart.{HaveLabelsApart}
use Rattle.value_json.specs.Json.{Json, FieldsJson}
use Rattle.value_json.proofs.JsonAsData.{same-key}
use Rattle.value_json.proofs.ValuesMadeOneByOne.{Run}

-- the key is below each of these members'
abbrev pub Above : List ℕ → Members → Type 0
Above k no_members = Unit {0}
Above k (member l d ms) = (slice_cmp nat_cmp k l ≡ Less) × Above k ms

abbrev pub Sorted : Members → Type 0
Sorted no_members = Unit {0}
Sorted (member k d ms) = Above k ms × Sorted ms

above-later : (l k : List ℕ) (ms : Members) → slice_cmp nat_cmp l k ≡ Less → Above k ms → Above l ms
above-later l k no_members less a = tt
above-later l k (member m d ms) less (here, a) = (nat_list_cmp_total.trans l k m less here, above-later l k ms less a)

absent : (l : List ℕ) (ms : Members) → Above l ms → get_member l ms ≡ None
absent l no_members a = refl
absent l (member k d ms) (here, a) = rw here (absent l ms a)

pub equal-itself : (l : List ℕ) → slice_cmp nat_cmp l l ≡ Equal
equal-itself l = tied_itself nat_list_cmp_total l

put-first : (k : List ℕ) (d : Data) (ms : Members) → Above k ms → put k d ms ≡ member k d ms
put-first k d no_members a = refl
put-first k d (member l e ms) (here, a) = rw here refl

-- a sorted object without one of its members
pub record Taken (l : List ℕ) (d : Data) (ms : Members) : Type 0 where
  pub rest : Members
  pub back : put l d rest ≡ ms
  pub gone : get_member l rest ≡ None
  pub fewer : members_len ms ≡ suc (members_len rest)
  pub sorted : Sorted rest
  pub above : (k : List ℕ) → Above k ms → Above k rest

pub taken : (l : List ℕ) (d : Data) (ms : Members) → Sorted ms → get_member l ms ≡ Some d → Taken l d ms
taken l d no_members s found = absurd (cc)
taken l d (member k e ms) (a, s) found = by (taken l d ms s) (slice_cmp nat_cmp l k) refl found
  where
    by : (get_member l ms ≡ Some d → Taken l d ms) → (o : Ordering) → slice_cmp nat_cmp l k ≡ o → match_ordering o (get_member l ms) (Some e) (get_member l ms) ≡ Some d → Taken l d (member k e ms)
    by again Less is f = let same : None ≡ Some d = sym (absent l ms (above-later l k ms is a)) ∙ f in absurd (cc)
    by again Equal is f =
        let key : l ≡ k = same-key l k is in
        let at : Above l ms = subst (λ x. Above x ms) (sym key) a in
        let held : d ≡ e = sym (same_Some e d f) in
        record {
          rest = ms;
          back = put-first l d ms at ∙ ap (λ x. member x d ms) key ∙ ap (λ x. member k x ms) held;
          gone = absent l ms at;
          fewer = refl;
          sorted = s;
          above = λ q up. up.1;
        }
    by again Greater is f =
        let inner = again f in
        record {
          rest = member k e inner.rest;
          back = rw is (ap (member k e) inner.back);
          gone = rw is inner.gone;
          fewer = ap suc inner.fewer;
          sorted = (inner.above k a, inner.sorted);
          above = λ q up. (up.0, inner.above q up.1);
        }

len-put : (l : List ℕ) (d : Data) (ms : Members) → get_member l ms ≡ None → members_len (put l d ms) ≡ suc (members_len ms)
len-put l d no_members none = refl
len-put l d (member k e ms) none = by (len-put l d ms) (slice_cmp nat_cmp l k) refl none
  where
    by : (get_member l ms ≡ None → members_len (put l d ms) ≡ suc (members_len ms)) → (o : Ordering) → slice_cmp nat_cmp l k ≡ o → match_ordering o (get_member l ms) (Some e) (get_member l ms) ≡ None
        → members_len (put l d (member k e ms)) ≡ suc (suc (members_len ms))
    by again Less is f = rw is refl
    by again Equal is f = let same : Some e ≡ None = f in absurd (cc)
    by again Greater is f = rw is (ap suc (again f))

-- ---- records

abbrev pub FieldStands : List LabelledType → Members → ℕ → Field → Value → Type 0
FieldStands rows ms i f v = (d : Data) × (get_member f.name ms ≡ Some d) × Json (labelled_val rows f.ty) v d

-- the other fields stand without a member as they stood with it
fewer-stand : (rows : List LabelledType) (l : List ℕ) (d : Data) (rest ms : Members) (fs : List Field) (vs : List Value) → put l d rest ≡ ms
    → AllByRecursion (λ g. g.name ≡ l → ⊥) fs → Run (FieldStands rows ms) fs vs → Run (FieldStands rows rest) fs vs
fewer-stand rows l d rest ms [] vs back apart r = r
fewer-stand rows l d rest ms (f ∷ fs) vs back (other, apart) (v, vs2, is, (x, at, stands), r) =
    (v, vs2, is, (x, sym (get_member-put_other f.name l d rest other) ∙ ap (get_member f.name) back ∙ at, stands), fewer-stand rows l d rest ms fs vs2 back apart r)

more-stand : (rows : List LabelledType) (l : List ℕ) (d : Data) (rest ms : Members) (fs : List Field) (vs : List Value) → ms ≡ put l d rest
    → get_member l rest ≡ None → Run (FieldStands rows rest) fs vs → Run (FieldStands rows ms) fs vs
more-stand rows l d rest ms [] vs is_put gone r = r
more-stand rows l d rest ms (f ∷ fs) vs is_put gone (v, vs2, is, (x, at, stands), r) =
    let other : f.name ≡ l → ⊥ = λ same. let both : None ≡ Some x = sym gone ∙ ap (λ q. get_member q rest) (sym same) ∙ at in absurd (cc) in
    (v, vs2, is, (x, ap (get_member f.name) is_put ∙ get_member-put_other f.name l d rest other ∙ at, stands), more-stand rows l d rest ms fs vs2 is_put gone r)

pub fields-of : (rows : List LabelledType) (fs : List Field) (ms : Members) (vs : List Value) → HaveLabelsApart fs → Sorted ms → members_len ms ≡ length fs
    → Run (FieldStands rows ms) fs vs → FieldsJson (labelled_fields rows fs) vs ms
fields-of rows [] no_members vs apart s len r = (r, refl)
fields-of rows [] (member k e ms) vs apart s len r = absurd (omega (arith, len))
fields-of rows (f ∷ fs) ms vs (first, apart) s len (v, others, is, (d, at, stands), r) =
    let t = taken f.name d ms s at in
    let fewer : members_len t.rest ≡ length fs = omega (arith, len, t.fewer) in
    (v, others, d, t.rest, is, sym t.back, t.gone, stands, fields-of rows fs t.rest others apart t.sorted fewer (fewer-stand rows f.name d t.rest ms fs others t.back first r))

pub of-fields : (rows : List LabelledType) (fs : List Field) (ms : Members) (vs : List Value)
    → FieldsJson (labelled_fields rows fs) vs ms → (members_len ms ≡ length fs) × Run (FieldStands rows ms) fs vs
of-fields rows [] ms vs (no_vs, no_ms) = (ap members_len no_ms, no_vs)
of-fields rows (f ∷ fs) ms vs (v, others, d, rest, is, is_put, gone, stands, each) =
    let (len, r) = of-fields rows fs rest others each in (
      ap members_len is_put ∙ len-put f.name d rest gone ∙ ap suc len,
      (v, others, is, (d, ap (get_member f.name) is_put ∙ get_member-put f.name d rest, stands), more-stand rows f.name d rest ms fs others is_put gone r),
    )

pub sorted-view : (es : List (String Global × JsonValue)) → IsStrictlySortedBy string_cmp (keys_of es) → Sorted (members_view es)
unfolding IsStrictlySortedBy
sorted-view [] h = tt
sorted-view (e ∷ es) (first, rest) = (by es first, sorted-view es rest)
  where
    by : (xs : List (String Global × JsonValue)) → AllByRecursion (λ y. string_cmp e.0 y ≡ Less) (keys_of xs) → Above (string_bytes e.0) (members_view xs)
    by [] h = tt
    by (x ∷ xs) (here, h) = (here, by xs h)
