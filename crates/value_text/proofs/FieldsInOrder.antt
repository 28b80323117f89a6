-- The members of a record's object, put in the order of their labels.
use Rattle.std.proofs.Common.{◌≡◌, inl, inr, ◌+◌, ◌<◌, ◌≤◌, ℕ, zero, suc, List, [], ◌∷◌, ◌++◌, true, false, length, take, drop, Some, Result, Ordering, Less, Equal, Greater, nat_cmp, refl, sym, ap, ◌∙◌, subst, append_assoc, append-nil, length-append, arith}
use Rattle.std.proofs.lemmas.List.{length-take-le, take_all, take-append-drop}
use Rattle.std.specs.Cmp.Lexicographic.{slice_cmp}
use Rattle.std.specs.List.{AllByRecursion}
use Rattle.std.specs.Ordering.{match_ordering}
use Rattle.canonical_abi.specs.Values.{Value, plain_value}
use Rattle.canonical_abi.specs.Labelled.{LabelledType, labelled_string}
use Rattle.json.specs.Print.{quoted}
use Rattle.serde_json.specs.Data.{Data, Members, no_members, member, put, object}
use Rattle.serde_json.specs.Events.{members_len}
use Rattle.serde_json.specs.Find.{get_member}
use Rattle.serde_json.specs.Written.{compact_text, members_text}
use Rattle.serde_json.proofs.Views.{get_member-put_other}
use Rattle.tables.specs.declared.tables.Field.{Field}
use Rattle.tables.specs.Labelled.{labelled_val, labelled_fields}
use Rattle.value_json.specs.Apart.{HaveLabelsApart}
use Rattle.value_json.proofs.JsonAsData.{same-key}
use Rattle.value_json.proofs.MembersBesideFields.{Above, Sorted, equal-itself, taken}
use Rattle.value_text.specs.Function.{json_of, fields_json}
use Rattle.value_text.specs.Orders.{label_at, Ascends, IsIn, IsLabelOrder}
use Rattle.value_text.specs.Puts.{Puts, PutsWithin}
use Rattle.value_text.specs.Texts.{key_at, members_front}
use Rattle.value_text.proofs.Elements.{IsAt, at-inside, at-taken}
use Rattle.value_text.proofs.PutsInTurn.{within-then}

-- ---- texts

abbrev pub behind : Members → List ℕ → Data → Members
behind no_members l d = member l d no_members
behind (member k e ms) l d = member k e (behind ms l d)

later-closed : (n : ℕ) (ms : Members) → members_text true ms ≡ members_front (suc n) ms ++ 125 ∷ []
later-closed n no_members = refl
later-closed n (member k d ms) =
    ap (λ xs. 44 ∷ (quoted k ++ 58 ∷ (compact_text d ++ xs))) (later-closed (suc n) ms)
    ∙ ap (λ xs. 44 ∷ (quoted k ++ 58 ∷ xs)) (sym (append_assoc (compact_text d) (members_front (suc (suc n)) ms) (125 ∷ [])))
    ∙ ap (λ xs. 44 ∷ xs) (sym (append_assoc (quoted k) (58 ∷ []) ((compact_text d ++ members_front (suc (suc n)) ms) ++ 125 ∷ [])))
    ∙ ap (λ xs. 44 ∷ xs) (sym (append_assoc (quoted k ++ 58 ∷ []) (compact_text d ++ members_front (suc (suc n)) ms) (125 ∷ [])))

members-closed : (ms : Members) → members_text false ms ≡ members_front 0 ms ++ 125 ∷ []
members-closed no_members = refl
members-closed (member k d ms) =
    ap (λ xs. quoted k ++ 58 ∷ (compact_text d ++ xs)) (later-closed 0 ms)
    ∙ ap (λ xs. quoted k ++ 58 ∷ xs) (sym (append_assoc (compact_text d) (members_front 1 ms) (125 ∷ [])))
    ∙ sym (append_assoc (quoted k) (58 ∷ []) ((compact_text d ++ members_front 1 ms) ++ 125 ∷ []))
    ∙ sym (append_assoc (quoted k ++ 58 ∷ []) (compact_text d ++ members_front 1 ms) (125 ∷ []))

-- an object is its members in braces
pub object-parts : (ms : Members) → compact_text (object ms) ≡ (123 ∷ members_front 0 ms) ++ 125 ∷ []
object-parts ms = ap (λ xs. 123 ∷ xs) (members-closed ms)

members-more : (n : ℕ) (ms : Members) (l : List ℕ) (d : Data) → members_front n (behind ms l d) ≡ members_front n ms ++ (key_at (n + members_len ms) l ++ compact_text d)
members-more n no_members l d =
    let e : n + 0 ≡ n = omega arith in
    ap (λ xs. key_at n l ++ xs) (append-nil (compact_text d)) ∙ ap (λ k. key_at k l ++ compact_text d) (sym e)
members-more n (member k x ms) l d =
    let e : n + suc (members_len ms) ≡ suc n + members_len ms = omega arith in
    let new : List ℕ = key_at (n + suc (members_len ms)) l ++ compact_text d in
    let same : members_front (suc n) (behind ms l d) ≡ members_front (suc n) ms ++ new =
    members-more (suc n) ms l d ∙ ap (λ i. members_front (suc n) ms ++ (key_at i l ++ compact_text d)) (sym e) in
    ap (λ xs. key_at n k ++ (compact_text x ++ xs)) same
    ∙ ap (λ xs. key_at n k ++ xs) (sym (append_assoc (compact_text x) (members_front (suc n) ms) new))
    ∙ sym (append_assoc (key_at n k) (compact_text x ++ members_front (suc n) ms) new)

-- ---- the values and types of fields by their places

abbrev pub value_at : List Value → ℕ → Value
value_at [] i = plain_value 0
value_at (v ∷ vs) zero = v
value_at (v ∷ vs) (suc i) = value_at vs i

pub at-value : (vs : List Value) (i : ℕ) (v : Value) → IsAt vs i v → value_at vs i ≡ v
at-value [] i v at = absurd at
at-value (w ∷ vs) zero v at = at
at-value (w ∷ vs) (suc i) v at = at-value vs i v at

pub at-label : (fs : List Field) (i : ℕ) (f : Field) → IsAt fs i f → label_at fs i ≡ f.name
at-label [] i f at = absurd at
at-label (g ∷ fs) zero f at = ap (λ (x : Field). x.name) at
at-label (g ∷ fs) (suc i) f at = at-label fs i f at

module _ (rows : List LabelledType) where
  abbrev pub field_type : List Field → ℕ → LabelledType
  field_type [] i = labelled_string
  field_type (f ∷ fs) zero = labelled_val rows f.ty
  field_type (f ∷ fs) (suc i) = field_type fs i

  pub at-type : (fs : List Field) (i : ℕ) (f : Field) → IsAt fs i f → field_type fs i ≡ labelled_val rows f.ty
  at-type [] i f at = absurd at
  at-type (g ∷ fs) zero f at = ap (λ (x : Field). labelled_val rows x.ty) at
  at-type (g ∷ fs) (suc i) f at = at-type fs i f at

  -- the JSON value of field i
  abbrev pub field_data : List Field → List Value → ℕ → Data
  field_data fs vs i = json_of (field_type fs i) (value_at vs i)

  pub at-data : (fs : List Field) (vs : List Value) (i : ℕ) (f : Field) (v : Value) → IsAt fs i f → IsAt vs i v → json_of (labelled_val rows f.ty) v ≡ field_data fs vs i
  at-data fs vs i f v at_f at_v = ap (λ t. json_of t v) (sym (at-type fs i f at_f)) ∙ ap (json_of (field_type fs i)) (sym (at-value vs i v at_v))

  -- the members of these fields in turn
  abbrev pub members_in : List Field → List Value → List ℕ → Members
  members_in fs vs [] = no_members
  members_in fs vs (i ∷ is) = member (label_at fs i) (field_data fs vs i) (members_in fs vs is)

  one-more : (fs : List Field) (vs : List Value) (is : List ℕ) (i : ℕ) → members_in fs vs (is ++ i ∷ []) ≡ behind (members_in fs vs is) (label_at fs i) (field_data fs vs i)
  one-more fs vs [] i = refl
  one-more fs vs (k ∷ is) i = ap (member (label_at fs k) (field_data fs vs k)) (one-more fs vs is i)

  as-many : (fs : List Field) (vs : List Value) (is : List ℕ) → members_len (members_in fs vs is) ≡ length is
  as-many fs vs [] = refl
  as-many fs vs (i ∷ is) = ap suc (as-many fs vs is)

  above : (fs : List Field) (vs : List Value) (l : List ℕ) (is : List ℕ) → AllByRecursion (λ j. slice_cmp nat_cmp l (label_at fs j) ≡ Less) is → Above l (members_in fs vs is)
  above fs vs l [] all = tt
  above fs vs l (i ∷ is) (less, all) = (less, above fs vs l is all)

  sorted : (fs : List Field) (vs : List Value) (is : List ℕ) → Ascends fs is → Sorted (members_in fs vs is)
  sorted fs vs [] up = tt
  sorted fs vs (i ∷ is) (less, up) = (above fs vs (label_at fs i) is less, sorted fs vs is up)

  less-in : (fs : List Field) (l : List ℕ) (is : List ℕ) (i : ℕ) → AllByRecursion (λ j. slice_cmp nat_cmp l (label_at fs j) ≡ Less) is → IsIn i is → slice_cmp nat_cmp l (label_at fs i) ≡ Less
  less-in fs l [] i all none = elim none [ ]
  less-in fs l (j ∷ is) i (here, all) (inl same) = ap (λ x. slice_cmp nat_cmp l (label_at fs x)) same ∙ here
  less-in fs l (j ∷ is) i (here, all) (inr later) = less-in fs l is i all later

  skips : (k l : List ℕ) (d : Data) (ms : Members) → slice_cmp nat_cmp l k ≡ Less → get_member k (member l d ms) ≡ get_member k ms
  skips k l d ms less = by (slice_cmp nat_cmp k l) refl
    where
      by : (o : Ordering) → slice_cmp nat_cmp k l ≡ o → match_ordering (slice_cmp nat_cmp k l) (get_member k ms) (Some d) (get_member k ms) ≡ get_member k ms
      by Less is = rw is refl
      by Greater is = rw is refl
      by Equal is =
          let same : k ≡ l = same-key k l is in
          let both : Equal ≡ Less = sym (equal-itself l) ∙ ap (slice_cmp nat_cmp l) (sym same) ∙ less in absurd (cc)

  found-in : (fs : List Field) (vs : List Value) (is : List ℕ) (i : ℕ) → Ascends fs is → IsIn i is → get_member (label_at fs i) (members_in fs vs is) ≡ Some (field_data fs vs i)
  found-in fs vs [] i up none = elim none [ ]
  found-in fs vs (j ∷ is) i (less, up) (inl same) =
      let l = label_at fs j in
      let found : get_member l (members_in fs vs (j ∷ is)) ≡ Some (field_data fs vs j) = rw (equal-itself l) refl in
      ap (λ x. get_member (label_at fs x) (members_in fs vs (j ∷ is))) same ∙ found ∙ ap (λ x. Some (field_data fs vs x)) (sym same)
  found-in fs vs (j ∷ is) i (less, up) (inr later) =
      skips (label_at fs i) (label_at fs j) (field_data fs vs j) (members_in fs vs is) (less-in fs (label_at fs j) is i less later) ∙ found-in fs vs is i up later

  -- each field's member is among these
  abbrev Found : Members → List Field → List Value → Type 0
  Found ms [] vs = vs ≡ []
  Found ms (f ∷ fs) vs = (v : Value) × (rest : List Value) × (vs ≡ v ∷ rest) × (get_member f.name ms ≡ Some (json_of (labelled_val rows f.ty) v)) × Found ms fs rest

  fewer : (l : List ℕ) (d : Data) (rest ms : Members) (fs : List Field) (vs : List Value) → put l d rest ≡ ms → AllByRecursion (λ g. g.name ≡ l → ⊥) fs → Found ms fs vs → Found rest fs vs
  fewer l d rest ms [] vs back apart r = r
  fewer l d rest ms (f ∷ fs) vs back (other, apart) (v, vs2, is, at, r) =
      (v, vs2, is, sym (get_member-put_other f.name l d rest other) ∙ ap (get_member f.name) back ∙ at, fewer l d rest ms fs vs2 back apart r)

  all-found : (fs : List Field) (ms : Members) (vs : List Value) → HaveLabelsApart fs → Sorted ms → members_len ms ≡ length fs → Found ms fs vs → fields_json (labelled_fields rows fs) vs ≡ ms
  all-found [] no_members vs apart s len r = refl
  all-found [] (member k e ms) vs apart s len r = absurd (omega (arith, len))
  all-found (f ∷ fs) ms vs (first, apart) s len (v, others, is, at, r) =
      let d = json_of (labelled_val rows f.ty) v in
      let t = taken f.name d ms s at in
      let less : members_len t.rest ≡ length fs = omega (arith, len, t.fewer) in
      let rest = all-found fs t.rest others apart t.sorted less (fewer f.name d t.rest ms fs others t.back first r) in
      ap (fields_json (labelled_fields rows (f ∷ fs))) is ∙ ap (put f.name d) rest ∙ t.back

  each-found : (fs : List Field) (vs : List Value) (ms : Members) → length vs ≡ length fs → ((i : ℕ) → i < length fs → get_member (label_at fs i) ms ≡ Some (field_data fs vs i)) → Found ms fs vs
  each-found [] [] ms long each = refl
  each-found [] (v ∷ vs) ms long each = absurd (omega (arith, long))
  each-found (f ∷ fs) [] ms long each = absurd (omega (arith, long))
  each-found (f ∷ fs) (v ∷ vs) ms long each = (v, vs, refl, each 0 (omega arith), each-found fs vs ms (omega (arith, long)) (λ i h. each (suc i) (omega (arith, h))))

  -- in the order of their labels, the members are those of the record
  pub fields-in-order : (fs : List Field) (vs : List Value) (is : List ℕ) → HaveLabelsApart fs → length vs ≡ length fs → IsLabelOrder fs is
      → fields_json (labelled_fields rows fs) vs ≡ members_in fs vs is
  fields-in-order fs vs is apart long (many, inside, up, whole) =
      all-found fs (members_in fs vs is) vs apart (sorted fs vs is up) (as-many fs vs is ∙ many) (each-found fs vs (members_in fs vs is) long (λ i h. found-in fs vs is i up (whole i h)))

  members-front-less : (fs : List Field) (vs : List Value) (n : ℕ) (is more : List ℕ) → length (members_front n (members_in fs vs is)) ≤ length (members_front n (members_in fs vs (is ++ more)))
  members-front-less fs vs n [] more = omega arith
  members-front-less fs vs n (i ∷ is) more =
      let c = compact_text (field_data fs vs i) in
      let some = members_front (suc n) (members_in fs vs is) in
      let all = members_front (suc n) (members_in fs vs (is ++ more)) in
      let rest = members-front-less fs vs (suc n) is more in
      omega (arith, rest, length-append (key_at n (label_at fs i)) (c ++ some), length-append c some, length-append (key_at n (label_at fs i)) (c ++ all), length-append c all)

-- ---- the members of a record's object in turn

module _ (rows : List LabelledType) (fs : List Field) (vs : List Value) (order : List ℕ) (limit : ℕ) (old : List ℕ) (at : ℕ) where
  -- one member more
  pub member-next : {E : Type 0} → (k i : ℕ) (mid : List ℕ) (m : ℕ) (new : List ℕ) (done : Result ℕ E) → IsAt order k i
      → Puts (123 ∷ members_front 0 (members_in rows fs vs (take k order))) old at mid m
      → PutsWithin limit (key_at k (label_at fs i) ++ compact_text (field_data rows fs vs i)) mid m done new
      → PutsWithin limit (123 ∷ members_front 0 (members_in rows fs vs (take (k + 1) order))) old at done new
  member-next k i mid m new done is first step =
      let front = members_in rows fs vs (take k order) in
      let l = label_at fs i in
      let d = field_data rows fs vs i in
      let less = at-inside order k i is in
      let many : members_len front ≡ length (take k order) = as-many rows fs vs (take k order) in
      let count : 0 + members_len front ≡ k = omega (arith, many, length-take-le k order (omega (arith, less))) in
      let whole : behind front l d ≡ members_in rows fs vs (take (k + 1) order) = sym (ap (members_in rows fs vs) (at-taken order k i is) ∙ one-more rows fs vs (take k order) i) in
      let same : (123 ∷ members_front 0 front) ++ (key_at k l ++ compact_text d) ≡ 123 ∷ members_front 0 (members_in rows fs vs (take (k + 1) order)) =
      ap (λ n. 123 ∷ (members_front 0 front ++ (key_at n l ++ compact_text d))) (sym count) ∙ ap (λ xs. 123 ∷ xs) (sym (members-more 0 front l d)) ∙ ap (λ ms. 123 ∷ members_front 0 ms) whole in
      subst (λ xs. PutsWithin limit xs old at done new) same (within-then limit old at (123 ∷ members_front 0 front) mid m (key_at k l ++ compact_text d) new done first step)

  -- an object passes the limit if its first members do
  pub member-long : (k : ℕ) → limit < at + length (123 ∷ members_front 0 (members_in rows fs vs (take k order))) → limit < at + length (compact_text (object (members_in rows fs vs order)))
  member-long k h =
      let front = members_front 0 (members_in rows fs vs (take k order)) in
      let all = members_front 0 (members_in rows fs vs order) in
      let less : length front ≤ length all =
      subst (λ is. length front ≤ length (members_front 0 (members_in rows fs vs is))) (take-append-drop k order) (members-front-less rows fs vs 0 (take k order) (drop k order)) in
      let parts : length (compact_text (object (members_in rows fs vs order))) ≡ length ((123 ∷ all) ++ 125 ∷ []) = ap length (object-parts (members_in rows fs vs order)) in
      omega (arith, h, less, parts, length-append (123 ∷ all) (125 ∷ []))

  -- the brace behind all members
  pub member-end : {E : Type 0} → (k : ℕ) (mid : List ℕ) (m : ℕ) (new : List ℕ) (done : Result ℕ E) → length order ≤ k
      → Puts (123 ∷ members_front 0 (members_in rows fs vs (take k order))) old at mid m → PutsWithin limit (125 ∷ []) mid m done new
      → PutsWithin limit (compact_text (object (members_in rows fs vs order))) old at done new
  member-end k mid m new done h first last =
      let ms = members_in rows fs vs order in
      let front = subst (λ is. Puts (123 ∷ members_front 0 (members_in rows fs vs is)) old at mid m) (take_all k order h) first in
      subst (λ xs. PutsWithin limit xs old at done new) (sym (object-parts ms)) (within-then limit old at (123 ∷ members_front 0 ms) mid m (125 ∷ []) new done front last)

  -- one member more, by its field and its value
  pub field-next : {E : Type 0} → (k i : ℕ) (f : Field) (v : Value) (mid : List ℕ) (m : ℕ) (new : List ℕ) (done : Result ℕ E) → IsAt order k i → IsAt fs i f → IsAt vs i v
      → Puts (123 ∷ members_front 0 (members_in rows fs vs (take k order))) old at mid m
      → PutsWithin limit (key_at k f.name ++ compact_text (json_of (labelled_val rows f.ty) v)) mid m done new
      → PutsWithin limit (123 ∷ members_front 0 (members_in rows fs vs (take (k + 1) order))) old at done new
  field-next k i f v mid m new done at_k at_f at_v first step =
      let text : key_at k f.name ++ compact_text (json_of (labelled_val rows f.ty) v) ≡ key_at k (label_at fs i) ++ compact_text (field_data rows fs vs i) =
      ap (λ l. key_at k l ++ compact_text (json_of (labelled_val rows f.ty) v)) (sym (at-label fs i f at_f)) ∙ ap (λ d. key_at k (label_at fs i) ++ compact_text d) (at-data rows fs vs i f v at_f at_v) in
      member-next k i mid m new done at_k first (subst (λ xs. PutsWithin limit xs mid m done new) text step)
