-- Rows in postfix order: the test answers the relation.
use Rattle.std.proofs.Common.{◌≡◌, ℕ, suc, ◌+◌, ◌-◌, Bool, true, false, cond, not, ◌&&◌, ◌==◌, nat_eq, IsTrue, List, [], ◌∷◌, ◌++◌, take, drop, length, Option, None, Some, is_some, refl, ap, sym, subst, ◌∙◌, append_assoc, append-nil, arith, length-append, Result, Ok, Err, IfOk}
use Rattle.std.specs.Bool.{Decides}
use Rattle.std.specs.List.{ends_with}
use Rattle.std.proofs.Math.Seq.{drop-append_seam, take-append_seam}
use Rattle.std.proofs.lemmas.List.{take-append-drop}
use Rattle.std.proofs.lemmas.Slice.Eq.{bytes_eq-Decides}
use Rattle.std.proofs.lemmas.Bool.Decides.{nat_tests}
use Rattle.tables.specs.Tables.{definition_below, are_earlier}
use Rattle.tables.specs.declared.tables.TypeDef.{TypeDef}
use Rattle.tables.specs.declared.tables.TypeDefKind.{TypeDefKind}
use Rattle.tables.specs.declared.tables.TypeDefKind.TheVariants as kind
use Rattle.tables.specs.declared.tables.TypeName.{TypeName}
use Rattle.tables.specs.declared.tables.Definition.{Definition}
use Rattle.tables.specs.declared.tables.Definition.TheVariants as row
use Rattle.package_form.specs.Postfix.{is_unnamed, one_if, parts, parts_of, aliased, aliased_by, is_inner, inner_row, Leaves, begin, inner, whole, IsPostfix}
use Rattle.package_form.specs.Unused.{inner_rows, can_use, closes, is_next, unused_after, are_used}
use Rattle.tables.proofs.ClosedTypesRowByRow.{split, both}
use Rattle.package_form.proofs.InnerRowsInPostfix.{can-inner, inner-can}
use Rattle.package_form.proofs.LaterRowsChangeNothing.{front-inner}

-- ---- ends of lists

pub ends : (u p : List ℕ) → ends_with nat_eq u p ≡ true → u ≡ take (length u - length p) u ++ p
ends u p h =
    sym (take-append-drop (length u - length p) u)
    ∙ ap (λ x. take (length u - length p) u ++ x) (sym ((bytes_eq-Decides p (drop (length u - length p) u)).0 h))

front-length : (u p : List ℕ) → length (u ++ p) - length p ≡ length u
front-length u p = omega (arith, length-append u p)

ends-append : (u p : List ℕ) → ends_with nat_eq (u ++ p) p ≡ true
ends-append u p = (bytes_eq-Decides p (drop (length (u ++ p) - length p) (u ++ p))).1 (sym (ap (λ n. drop n (u ++ p)) (front-length u p) ∙ drop-append_seam u p))

front-append : (u p : List ℕ) → take (length (u ++ p) - length p) (u ++ p) ≡ u
front-append u p = ap (λ n. take n (u ++ p)) (front-length u p) ∙ take-append_seam u p

pub is-none : (n : ℕ) → (n == 0) ≡ true → n ≡ 0
is-none n h = grind (arith, nat_tests)

pub no-length : (xs : List ℕ) → length xs ≡ 0 → xs ≡ []
no-length [] h = refl
no-length (x ∷ xs) h = absurd (omega arith)

-- ---- one row more, by the test

module _ (pre : List Definition) (unused : List ℕ) where
  named-next : (d : Definition) → is_unnamed d ≡ false → aliased_by pre d ≡ [] → (length unused - length (parts_of pre d) == 0) ≡ true → unused ≡ take (length unused - length (parts_of pre d)) unused ++ parts_of pre d
      → Leaves pre unused → Leaves (pre ++ d ∷ []) (unused_after (length pre) unused (parts_of pre d) d)
  named-next d named alias left is l =
      let none : length unused - length (parts_of pre d) ≡ 0 = is-none _ left in
      let all : unused ≡ parts_of pre d = is ∙ ap (λ n. take n unused ++ parts_of pre d) none in
      let rest : unused_after (length pre) unused (parts_of pre d) d ≡ [] =
      ap (λ n. take n unused ++ one_if (is_unnamed d) (length pre)) none ∙ ap (λ b. one_if b (length pre)) named in
      subst (λ ns. Leaves (pre ++ d ∷ []) ns) (sym rest) (whole pre d named alias (subst (λ ns. Leaves pre ns) all l))

  inner-next : (k : TypeDefKind) → is_inner k ≡ true → unused ≡ take (length unused - length (parts pre k)) unused ++ parts pre k
      → Leaves pre unused → Leaves (pre ++ inner_row k ∷ []) (unused_after (length pre) unused (parts pre k) (inner_row k))
  inner-next k is e l = inner pre (take (length unused - length (parts pre k)) unused) k is (subst (λ ns. Leaves pre ns) e l)

  type-next : (d : TypeDef) (o : Option TypeName) → d.name ≡ o → aliased_by pre (row.Type d) ≡ [] → closes (row.Type d) (length unused - length (parts pre d.kind)) ≡ true
      → unused ≡ take (length unused - length (parts pre d.kind)) unused ++ parts pre d.kind
      → Leaves pre unused → Leaves (pre ++ row.Type d ∷ []) (unused_after (length pre) unused (parts pre d.kind) (row.Type d))
  type-next d None e alias closed is l =
      let same : inner_row d.kind ≡ row.Type d = ap (λ (o : Option TypeName). row.Type (record { name = o; kind = d.kind })) (sym e) in
      let inside : is_inner d.kind ≡ true =
      sym (ap (λ (o : Option TypeName). cond (not (is_some o)) (is_inner d.kind) (length unused - length (parts pre d.kind) == 0)) e) ∙ closed in
      subst (λ (x : Definition). Leaves (pre ++ x ∷ []) (unused_after (length pre) unused (parts pre d.kind) x)) same (inner-next d.kind inside is l)
  type-next d (Some n) e alias closed is l =
      let named : is_unnamed (row.Type d) ≡ false = ap (λ (o : Option TypeName). not (is_some o)) e in
      let left = sym (ap (λ (o : Option TypeName). cond (not (is_some o)) (is_inner d.kind) (length unused - length (parts pre d.kind) == 0)) e) ∙ closed in
      named-next (row.Type d) named alias left is l

  row-next : (d : Definition) → aliased_by pre d ≡ [] → closes d (length unused - length (parts_of pre d)) ≡ true
      → unused ≡ take (length unused - length (parts_of pre d)) unused ++ parts_of pre d
      → Leaves pre unused → Leaves (pre ++ d ∷ []) (unused_after (length pre) unused (parts_of pre d) d)
  row-next (row.Type d) alias closed is l = type-next d d.name refl alias closed is l
  row-next (row.Function f) alias closed is l = named-next (row.Function f) refl refl closed is l

  pub leaves-next : (d : Definition) → is_next unused (inner_rows pre d) d ≡ true → Leaves pre unused → Leaves (pre ++ d ∷ []) (unused_after (length pre) unused (inner_rows pre d) d)
  leaves-next d h l =
      let s = split (can_use d (inner_rows pre d)) _ h in
      let t = split (ends_with nat_eq unused (inner_rows pre d)) _ s.1 in
      let c = can-inner pre d s.0 in
      let closed : closes d (length unused - length (parts_of pre d)) ≡ true = ap (λ (ns : List ℕ). closes d (length unused - length ns)) (sym c.0) ∙ t.1 in
      let is : unused ≡ take (length unused - length (parts_of pre d)) unused ++ parts_of pre d =
      subst (λ (ns : List ℕ). unused ≡ take (length unused - length ns) unused ++ ns) c.0 (ends unused (inner_rows pre d) t.0) in
      subst (λ (ns : List ℕ). Leaves (pre ++ d ∷ []) (unused_after (length pre) unused ns d)) (sym c.0) (row-next d c.1 closed is l)

leaves : (all pre ds : List Definition) (unused : List ℕ) → all ≡ pre ++ ds → IsTrue (are_earlier (length pre) ds) → Leaves pre unused → are_used all (length pre) unused ds ≡ true → IsPostfix all
leaves all pre [] unused e h l u =
    subst (λ (ds : List Definition). Leaves ds []) (sym (e ∙ append-nil pre)) (subst (λ ns. Leaves pre ns) (no-length unused (is-none (length unused) u)) l)
leaves all pre (d ∷ ds) unused e h l u =
    let s = split (is_next unused (inner_rows all d) d) _ u in
    let b = split (definition_below (length pre) d) _ h in
    let same : inner_rows all d ≡ inner_rows pre d = ap (λ (xs : List Definition). inner_rows xs d) e ∙ front-inner pre (d ∷ ds) d b.0 in
    let next : Leaves (pre ++ d ∷ []) (unused_after (length pre) unused (inner_rows all d) d) =
    subst (λ ns. Leaves (pre ++ d ∷ []) (unused_after (length pre) unused ns d)) (sym same)
    (leaves-next pre unused d (subst (λ ns. is_next unused ns d ≡ true) same s.0) l) in
    let len : length pre + 1 ≡ length (pre ++ d ∷ []) = omega (arith, length-append pre (d ∷ [])) in
    leaves all (pre ++ d ∷ []) ds (unused_after (length pre) unused (inner_rows all d) d) (e ∙ sym (append_assoc pre (d ∷ []) ds))
    (subst (λ n. IsTrue (are_earlier n ds)) len b.1) next
    (subst (λ n. are_used all n (unused_after (length pre) unused (inner_rows all d) d) ds ≡ true) len s.1)

pub used-postfix : (rows : List Definition) → IsTrue (are_earlier 0 rows) → are_used rows 0 [] rows ≡ true → IsPostfix rows
used-postfix rows h u = leaves rows [] rows [] refl h begin u

-- ---- the test, by the relation

earlier-here : (n : ℕ) (pre : List Definition) (d : Definition) (ds : List Definition) → IsTrue (are_earlier n (pre ++ d ∷ ds)) → definition_below (n + length pre) d ≡ true
earlier-here n [] d ds h = let e : n + 0 ≡ n = omega arith in rw e (split (definition_below n d) (are_earlier (n + 1) ds) h).0
earlier-here n (x ∷ pre) d ds h =
    let e : n + suc (length pre) ≡ n + 1 + length pre = omega arith in
    rw e (earlier-here (n + 1) pre d ds (split (definition_below n x) (are_earlier (n + 1) (pre ++ d ∷ ds)) h).1)

below-here : (pre : List Definition) (d : Definition) (ds : List Definition) → IsTrue (are_earlier 0 (pre ++ d ∷ ds)) → definition_below (length pre) d ≡ true
below-here pre d ds h = let e : 0 + length pre ≡ length pre = omega arith in subst (λ n. definition_below n d ≡ true) e (earlier-here 0 pre d ds h)

closes-named : (d : Definition) → is_unnamed d ≡ false → closes d 0 ≡ true
closes-named (row.Type d) h = ap (λ (b : Bool). cond b (is_inner d.kind) (0 == 0)) h
closes-named (row.Function f) h = refl

inner-plain : (rows : List Definition) (k : TypeDefKind) → is_inner k ≡ true → aliased rows k ≡ []
inner-plain rows (kind.Use t) h = refl
inner-plain rows (kind.Alias v) h = absurd (cc)
inner-plain rows (kind.List v) h = refl
inner-plain rows (kind.Option v) h = refl
inner-plain rows (kind.Result v w) h = refl
inner-plain rows (kind.Tuple vs) h = refl
inner-plain rows (kind.Record fs) h = refl
inner-plain rows (kind.Variant cs) h = refl
inner-plain rows (kind.Enum ns) h = refl
inner-plain rows (kind.Flags ns) h = refl

module _ (all : List Definition) (earlier : IsTrue (are_earlier 0 all)) where
  same-inner : (pre : List Definition) (d : Definition) (ds : List Definition) → all ≡ pre ++ d ∷ ds → aliased_by pre d ≡ [] → inner_rows all d ≡ parts_of pre d
  same-inner pre d ds e alias =
      let below = below-here pre d ds (subst (λ (xs : List Definition). IsTrue (are_earlier 0 xs)) e earlier) in
      ap (λ (xs : List Definition). inner_rows xs d) e ∙ front-inner pre (d ∷ ds) d below ∙ (can-inner pre d (inner-can pre d alias)).0

  can-here : (pre : List Definition) (d : Definition) (ds : List Definition) → all ≡ pre ++ d ∷ ds → aliased_by pre d ≡ [] → can_use d (parts_of pre d) ≡ true
  can-here pre d ds e alias = subst (λ (ns : List ℕ). can_use d ns ≡ true) (can-inner pre d (inner-can pre d alias)).0 (inner-can pre d alias)

  -- the row is next, and these rows are unused after it
  goes-on : (pre : List Definition) (d : Definition) (ds : List Definition) (unused after : List ℕ) → all ≡ pre ++ d ∷ ds → aliased_by pre d ≡ [] → closes d (length unused) ≡ true
      → unused ++ one_if (is_unnamed d) (length pre) ≡ after
      → are_used all (length pre) (unused ++ parts_of pre d) (d ∷ ds) ≡ are_used all (length (pre ++ d ∷ [])) after ds
  goes-on pre d ds unused after e alias closed is =
      let same = same-inner pre d ds e alias in
      let p = parts_of pre d in
      let next : is_next (unused ++ p) p d ≡ true =
      both _ _ (can-here pre d ds e alias) (both _ _ (ends-append unused p) (ap (closes d) (front-length unused p) ∙ closed)) in
      let left : unused_after (length pre) (unused ++ p) p d ≡ after = ap (λ ns. ns ++ one_if (is_unnamed d) (length pre)) (front-append unused p) ∙ is in
      let len : length pre + 1 ≡ length (pre ++ d ∷ []) = omega (arith, length-append pre (d ∷ [])) in
      ap (λ (ns : List ℕ). is_next (unused ++ p) ns d && are_used all (length pre + 1) (unused_after (length pre) (unused ++ p) ns d) ds) same
      ∙ ap (λ (b : Bool). b && are_used all (length pre + 1) (unused_after (length pre) (unused ++ p) p d) ds) next
      ∙ ap (λ (ns : List ℕ). are_used all (length pre + 1) ns ds) left
      ∙ ap (λ (n : ℕ). are_used all n after ds) len

  tested : (pre : List Definition) (unused : List ℕ) → Leaves pre unused → (ds : List Definition) → all ≡ pre ++ ds → are_used all 0 [] all ≡ are_used all (length pre) unused ds
  tested _ _ begin ds e = ap (λ (xs : List Definition). are_used all 0 [] xs) e
  tested _ _ (inner rows unused k is l) ds e =
      let e2 : all ≡ rows ++ inner_row k ∷ ds = e ∙ append_assoc rows (inner_row k ∷ []) ds in
      tested rows (unused ++ parts rows k) l (inner_row k ∷ ds) e2
      ∙ goes-on rows (inner_row k) ds unused (unused ++ length rows ∷ []) e2 (inner-plain rows k is) is refl
  tested _ _ (whole rows d named alias l) ds e =
      let e2 : all ≡ rows ++ d ∷ ds = e ∙ append_assoc rows (d ∷ []) ds in
      tested rows (parts_of rows d) l (d ∷ ds) e2
      ∙ goes-on rows d ds [] [] e2 alias (closes-named d named) (ap (λ (b : Bool). one_if b (length rows)) named)

pub postfix-used : (rows : List Definition) → IsTrue (are_earlier 0 rows) → IsPostfix rows → are_used rows 0 [] rows ≡ true
postfix-used rows h l = tested rows h rows [] l [] (sym (append-nil rows))

pub decides-postfix : {E : Type 0} (rows : List Definition) → IsTrue (are_earlier 0 rows) → (result : Result Bool E) → IfOk result (λ b. b ≡ are_used rows 0 [] rows)
    → IfOk result (λ b. Decides b (IsPostfix rows))
decides-postfix rows h (Ok b) u = (λ q. used-postfix rows h (sym u ∙ q), λ p. u ∙ postfix-used rows h p)
decides-postfix rows h (Err e) u = tt
