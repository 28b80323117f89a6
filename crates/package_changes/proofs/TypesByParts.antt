-- How alike two types are follows from their labels and from how alike their parts are.
use Rattle.std.proofs.Common.{◌≡◌, ℕ, zero, suc, Bool, true, false, ◌&&◌, ◌||◌, eqb, nat_le, List, [], ◌∷◌, map, length, Option, Some, None, refl, ap, sym, subst, ◌∙◌, arith}
use Rattle.std.proofs.Math.Dec.{eqb-suc-suc, eqb-suc-zero, eqb-zero-suc, leb-suc-suc, leb-suc-zero}
use Rattle.std.proofs.lemmas.Bool.{eqb-true, eq-eqb, false≢true, le-leb}
use Rattle.canonical_abi.specs.Types.{ClosedType, string_type, list_type, record_type, variant_type, flags_type, Fields, no_field, field, Cases, no_case, plain_case, case_with, case_count}
use Rattle.canonical_abi.specs.Labelled.{Label, LabelledType, closed}
use Rattle.canonical_abi.specs.Layout.{flags_size, discriminant_size}
use Rattle.package_changes.specs.declared.likeness.Likeness.{Likeness}
use Rattle.package_changes.specs.declared.type_nodes.Family.{Family}
use Rattle.package_changes.specs.declared.type_nodes.Family.TheVariants as families
use Rattle.package_changes.specs.declared.type_nodes.Spelling.{Spelling}
use Rattle.package_changes.specs.declared.type_nodes.Spelling.TheVariants as spelled
use Rattle.package_changes.specs.declared.type_nodes.Node.{Node}
use Rattle.package_changes.specs.Forms.{Form, node_form, Parts, no_part, bare, part, form_of, family, family_code, is_one_family, label_moves, label_goes, moves, part_moves, renames, part_renames}
use Rattle.package_changes.specs.Likeness.{likeness, is_same_form, are_same_parts, spelling_code, is_same_spelling, are_same_labels, is_same_type, are_same_fields, are_same_cases, widens, fields_widen, cases_widen, have_one_layout}
use Rattle.package_changes.specs.Alike.{leaves, both, part_likeness, parts_likeness, grows, counted, fits, whole}

-- ---- types by their parts

abbrev pub parts_form : List (Option LabelledType) → Parts
parts_form [] = no_part
parts_form (None ∷ ps) = bare (parts_form ps)
parts_form (Some t ∷ ps) = part (form_of t) (parts_form ps)

abbrev pub part_fields : List (Option LabelledType) → Fields
part_fields [] = no_field
part_fields (None ∷ ps) = field string_type (part_fields ps)
part_fields (Some t ∷ ps) = field (closed t) (part_fields ps)

abbrev pub part_cases : List (Option LabelledType) → Cases
part_cases [] = no_case
part_cases (None ∷ ps) = plain_case (part_cases ps)
part_cases (Some t ∷ ps) = case_with (closed t) (part_cases ps)

abbrev pub first_type : List (Option LabelledType) → ClosedType
first_type (Some t ∷ ps) = closed t
first_type _ = string_type

-- the closed type of a family with these parts
abbrev pub closed_node : Family → ℕ → List (Option LabelledType) → ClosedType
closed_node families.List n ps = list_type (first_type ps)
closed_node families.Record n ps = record_type (part_fields ps)
closed_node families.Variant n ps = variant_type (part_cases ps)
closed_node families.Flags n ps = flags_type n

abbrev pub AllThere : List (Option LabelledType) → Type 0
AllThere [] = Unit {0}
AllThere (None ∷ ps) = ⊥
AllThere (Some t ∷ ps) = AllThere ps

abbrev pub OneThere : List (Option LabelledType) → Type 0
OneThere (Some t ∷ []) = Unit {0}
OneThere _ = ⊥

abbrev pub NoneThere : List (Option LabelledType) → Type 0
NoneThere [] = Unit {0}
NoneThere _ = ⊥

-- a family's types have such parts
abbrev pub AreFit : Family → List (Option LabelledType) → Type 0
AreFit families.List ps = OneThere ps
AreFit families.Record ps = AllThere ps
AreFit families.Variant ps = Unit {0}
AreFit families.Flags ps = NoneThere ps

-- the type is spelled so, and has these labels and parts
pub record IsMadeOf (t : LabelledType) (s : Spelling) (ls : List Label) (ps : List (Option LabelledType)) : Type 0 where
  pub form : form_of t ≡ node_form s ls (parts_form ps)
  pub shape : closed t ≡ closed_node (family s) (length ls) ps
  pub fit : AreFit (family s) ps

-- ---- tests of parts

and-false : (a : Bool) → (a && false) ≡ false
and-false true = refl
and-false false = refl

and-true : (a : Bool) → (a && true) ≡ a
and-true true = refl
and-true false = refl

or-false : (a : Bool) → (a || false) ≡ a
or-false true = refl
or-false false = refl

-- a && (n && b) as n && (a && b)
and-swap : (a n b : Bool) → (a && (n && b)) ≡ (n && (a && b))
and-swap true n b = refl
and-swap false true b = refl
and-swap false false b = refl

parts-same : (ps qs : List (Option LabelledType)) → are_same_parts (parts_form ps) (parts_form qs) ≡ (eqb (length ps) (length qs) && (parts_likeness ps qs).same)
unfolding parts_likeness likeness
parts-same [] [] = refl
parts-same [] (None ∷ qs) = rw (eqb-zero-suc (length qs)) refl
parts-same [] (Some u ∷ qs) = rw (eqb-zero-suc (length qs)) refl
parts-same (None ∷ ps) [] = rw (eqb-suc-zero (length ps)) refl
parts-same (Some t ∷ ps) [] = rw (eqb-suc-zero (length ps)) refl
parts-same (None ∷ ps) (None ∷ qs) = rw (eqb-suc-suc (length ps) (length qs)) (parts-same ps qs)
parts-same (None ∷ ps) (Some u ∷ qs) = sym (and-false (eqb (length (None ∷ ps)) (length (Some u ∷ qs))))
parts-same (Some t ∷ ps) (None ∷ qs) = sym (and-false (eqb (length (Some t ∷ ps)) (length (None ∷ qs))))
parts-same (Some t ∷ ps) (Some u ∷ qs) =
    rw (eqb-suc-suc (length ps) (length qs), parts-same ps qs)
    (and-swap (is_same_form (form_of t) (form_of u)) (eqb (length ps) (length qs)) (parts_likeness ps qs).same)

parts-move : (ps qs : List (Option LabelledType)) → part_moves (parts_form ps) (parts_form qs) ≡ (parts_likeness ps qs).moved
unfolding parts_likeness likeness
parts-move [] [] = refl
parts-move [] (None ∷ qs) = refl
parts-move [] (Some u ∷ qs) = refl
parts-move (None ∷ ps) [] = refl
parts-move (Some t ∷ ps) [] = refl
parts-move (None ∷ ps) (None ∷ qs) = parts-move ps qs
parts-move (None ∷ ps) (Some u ∷ qs) = parts-move ps qs
parts-move (Some t ∷ ps) (None ∷ qs) = parts-move ps qs
parts-move (Some t ∷ ps) (Some u ∷ qs) = rw (parts-move ps qs) refl

parts-rename : (ps qs : List (Option LabelledType)) → part_renames (parts_form ps) (parts_form qs) ≡ (parts_likeness ps qs).renamed
unfolding parts_likeness likeness
parts-rename [] [] = refl
parts-rename [] (None ∷ qs) = refl
parts-rename [] (Some u ∷ qs) = refl
parts-rename (None ∷ ps) [] = refl
parts-rename (Some t ∷ ps) [] = refl
parts-rename (None ∷ ps) (None ∷ qs) = parts-rename ps qs
parts-rename (None ∷ ps) (Some u ∷ qs) = parts-rename ps qs
parts-rename (Some t ∷ ps) (None ∷ qs) = parts-rename ps qs
parts-rename (Some t ∷ ps) (Some u ∷ qs) = rw (parts-rename ps qs) refl

fields-equal : (ps qs : List (Option LabelledType)) → AllThere ps → AllThere qs
    → are_same_fields (part_fields ps) (part_fields qs) ≡ (eqb (length ps) (length qs) && (parts_likeness ps qs).equal)
unfolding parts_likeness likeness
fields-equal [] [] p q = refl
fields-equal [] (None ∷ qs) p q = absurd q
fields-equal [] (Some u ∷ qs) p q = rw (eqb-zero-suc (length qs)) refl
fields-equal (None ∷ ps) qs p q = absurd p
fields-equal (Some t ∷ ps) [] p q = rw (eqb-suc-zero (length ps)) refl
fields-equal (Some t ∷ ps) (None ∷ qs) p q = absurd q
fields-equal (Some t ∷ ps) (Some u ∷ qs) p q =
    rw (eqb-suc-suc (length ps) (length qs), fields-equal ps qs p q)
    (and-swap (is_same_type (closed t) (closed u)) (eqb (length ps) (length qs)) (parts_likeness ps qs).equal)

fields-wider : (ps qs : List (Option LabelledType)) → AllThere ps → AllThere qs
    → fields_widen (part_fields ps) (part_fields qs) ≡ (eqb (length ps) (length qs) && (parts_likeness ps qs).wider)
unfolding parts_likeness likeness
fields-wider [] [] p q = refl
fields-wider [] (None ∷ qs) p q = absurd q
fields-wider [] (Some u ∷ qs) p q = rw (eqb-zero-suc (length qs)) refl
fields-wider (None ∷ ps) qs p q = absurd p
fields-wider (Some t ∷ ps) [] p q = rw (eqb-suc-zero (length ps)) refl
fields-wider (Some t ∷ ps) (None ∷ qs) p q = absurd q
fields-wider (Some t ∷ ps) (Some u ∷ qs) p q =
    rw (eqb-suc-suc (length ps) (length qs), fields-wider ps qs p q)
    (and-swap (widens (closed t) (closed u)) (eqb (length ps) (length qs)) (parts_likeness ps qs).wider)

cases-equal : (ps qs : List (Option LabelledType)) → are_same_cases (part_cases ps) (part_cases qs) ≡ (eqb (length ps) (length qs) && (parts_likeness ps qs).equal)
unfolding parts_likeness likeness
cases-equal [] [] = refl
cases-equal [] (None ∷ qs) = rw (eqb-zero-suc (length qs)) refl
cases-equal [] (Some u ∷ qs) = rw (eqb-zero-suc (length qs)) refl
cases-equal (None ∷ ps) [] = rw (eqb-suc-zero (length ps)) refl
cases-equal (Some t ∷ ps) [] = rw (eqb-suc-zero (length ps)) refl
cases-equal (None ∷ ps) (None ∷ qs) = rw (eqb-suc-suc (length ps) (length qs)) (cases-equal ps qs)
cases-equal (None ∷ ps) (Some u ∷ qs) = sym (and-false (eqb (length (None ∷ ps)) (length (Some u ∷ qs))))
cases-equal (Some t ∷ ps) (None ∷ qs) = sym (and-false (eqb (length (Some t ∷ ps)) (length (None ∷ qs))))
cases-equal (Some t ∷ ps) (Some u ∷ qs) =
    rw (eqb-suc-suc (length ps) (length qs), cases-equal ps qs)
    (and-swap (is_same_type (closed t) (closed u)) (eqb (length ps) (length qs)) (parts_likeness ps qs).equal)

cases-wider : (ps qs : List (Option LabelledType)) → cases_widen (part_cases ps) (part_cases qs) ≡ (nat_le (length ps) (length qs) && (parts_likeness ps qs).wider)
unfolding parts_likeness likeness
cases-wider [] [] = refl
cases-wider [] (None ∷ qs) = sym (ap (λ b. b && true) (le-leb 0 (length (None ∷ qs)) (omega arith)))
cases-wider [] (Some u ∷ qs) = sym (ap (λ b. b && true) (le-leb 0 (length (Some u ∷ qs)) (omega arith)))
cases-wider (None ∷ ps) [] = rw (leb-suc-zero (length ps)) refl
cases-wider (Some t ∷ ps) [] = rw (leb-suc-zero (length ps)) refl
cases-wider (None ∷ ps) (None ∷ qs) = rw (leb-suc-suc (length ps) (length qs)) (cases-wider ps qs)
cases-wider (None ∷ ps) (Some u ∷ qs) = sym (and-false (nat_le (length (None ∷ ps)) (length (Some u ∷ qs))))
cases-wider (Some t ∷ ps) (None ∷ qs) = sym (and-false (nat_le (length (Some t ∷ ps)) (length (None ∷ qs))))
cases-wider (Some t ∷ ps) (Some u ∷ qs) =
    rw (leb-suc-suc (length ps) (length qs), cases-wider ps qs)
    (and-swap (widens (closed t) (closed u)) (nat_le (length ps) (length qs)) (parts_likeness ps qs).wider)

cases-counted : (ps : List (Option LabelledType)) → case_count (part_cases ps) ≡ length ps
cases-counted [] = refl
cases-counted (None ∷ ps) = ap suc (cases-counted ps)
cases-counted (Some t ∷ ps) = ap suc (cases-counted ps)

-- ---- families

pub one-family : (f g : Family) → eqb (family_code f) (family_code g) ≡ true → f ≡ g
one-family families.List families.List h = refl
one-family families.Record families.Record h = refl
one-family families.Variant families.Variant h = refl
one-family families.Flags families.Flags h = refl
one-family families.List families.Record h = absurd (false≢true h)
one-family families.List families.Variant h = absurd (false≢true h)
one-family families.List families.Flags h = absurd (false≢true h)
one-family families.Record families.List h = absurd (false≢true h)
one-family families.Record families.Variant h = absurd (false≢true h)
one-family families.Record families.Flags h = absurd (false≢true h)
one-family families.Variant families.List h = absurd (false≢true h)
one-family families.Variant families.Record h = absurd (false≢true h)
one-family families.Variant families.Flags h = absurd (false≢true h)
one-family families.Flags families.List h = absurd (false≢true h)
one-family families.Flags families.Record h = absurd (false≢true h)
one-family families.Flags families.Variant h = absurd (false≢true h)

-- closed types of one family are equal as their parts are
node-equal : (f : Family) (m n : ℕ) (ps qs : List (Option LabelledType)) → AreFit f ps → AreFit f qs
    → is_same_type (closed_node f m ps) (closed_node f n qs) ≡ (eqb (counted f m (length ps)) (counted f n (length qs)) && (parts_likeness ps qs).equal)
unfolding parts_likeness likeness
node-equal families.List m n [] qs p q = absurd p
node-equal families.List m n (None ∷ ps) qs p q = absurd p
node-equal families.List m n (Some t ∷ p ∷ ps) qs a b = absurd a
node-equal families.List m n (Some t ∷ []) [] p q = absurd q
node-equal families.List m n (Some t ∷ []) (None ∷ qs) p q = absurd q
node-equal families.List m n (Some t ∷ []) (Some u ∷ q ∷ qs) a b = absurd b
node-equal families.List m n (Some t ∷ []) (Some u ∷ []) p q = sym (and-true (is_same_type (closed t) (closed u)))
node-equal families.Record m n ps qs p q = fields-equal ps qs p q
node-equal families.Variant m n ps qs p q = cases-equal ps qs
node-equal families.Flags m n [] [] p q = sym (and-true (eqb m n))
node-equal families.Flags m n (p ∷ ps) qs a b = absurd a
node-equal families.Flags m n [] (q ∷ qs) a b = absurd b

-- v && (n && (d && w)), told with the tests in another order
layout-first : (v n d w : Bool) → (v && (d && (n && w))) ≡ (v && ((n && d) && w))
layout-first v true d w = refl
layout-first true false true w = refl
layout-first true false false w = refl
layout-first false false d w = refl

-- a type of one family is wider as its parts are, and as it grows
node-wider : (f : Family) (m n : ℕ) (ps qs : List (Option LabelledType)) → AreFit f ps → AreFit f qs
    → widens (closed_node f m ps) (closed_node f n qs)
    ≡ (fits f (closed_node f m ps) (closed_node f n qs) && (grows f (counted f m (length ps)) (counted f n (length qs)) && (parts_likeness ps qs).wider))
unfolding parts_likeness likeness
node-wider families.List m n [] qs p q = absurd p
node-wider families.List m n (None ∷ ps) qs p q = absurd p
node-wider families.List m n (Some t ∷ p ∷ ps) qs a b = absurd a
node-wider families.List m n (Some t ∷ []) [] p q = absurd q
node-wider families.List m n (Some t ∷ []) (None ∷ qs) p q = absurd q
node-wider families.List m n (Some t ∷ []) (Some u ∷ q ∷ qs) a b = absurd b
node-wider families.List m n (Some t ∷ []) (Some u ∷ []) p q = sym (and-true (widens (closed t) (closed u)))
node-wider families.Record m n ps qs p q = fields-wider ps qs p q
node-wider families.Variant m n ps qs p q =
    let t = variant_type (part_cases ps) in
    let u = variant_type (part_cases qs) in
    let counts : eqb (discriminant_size (case_count (part_cases ps))) (discriminant_size (case_count (part_cases qs))) ≡ eqb (discriminant_size (length ps)) (discriminant_size (length qs)) =
    ap (λ k. eqb (discriminant_size k) (discriminant_size (case_count (part_cases qs)))) (cases-counted ps) ∙ ap (λ k. eqb (discriminant_size (length ps)) (discriminant_size k)) (cases-counted qs) in
    ap (λ b. have_one_layout t u && (b && cases_widen (part_cases ps) (part_cases qs))) counts
    ∙ ap (λ b. have_one_layout t u && (eqb (discriminant_size (length ps)) (discriminant_size (length qs)) && b)) (cases-wider ps qs)
    ∙ layout-first (have_one_layout t u) (nat_le (length ps) (length qs)) (eqb (discriminant_size (length ps)) (discriminant_size (length qs))) (parts_likeness ps qs).wider
node-wider families.Flags m n [] [] p q = sym (and-true (nat_le m n && eqb (flags_size m) (flags_size n)))
node-wider families.Flags m n (p ∷ ps) qs a b = absurd a
node-wider families.Flags m n [] (q ∷ qs) a b = absurd b

-- ---- two types of one family

-- what `whole` says, of what two nodes have
abbrev pub whole_by : Spelling → Spelling → List Label → List Label → ℕ → ℕ → Likeness → Bool → Likeness
whole_by s s' ls ls' n n' parts fit = record {
  same = is_same_spelling s s' && (are_same_labels ls ls' && (eqb n n' && parts.same));
  equal = eqb (counted (family s) (length ls) n) (counted (family s') (length ls') n') && parts.equal;
  wider = fit && (grows (family s) (counted (family s) (length ls) n) (counted (family s') (length ls') n') && parts.wider);
  moved = label_moves ls' ls ls' || parts.moved;
  renamed = label_goes ls ls' || parts.renamed;
}

module _ (t u : LabelledType) (s s' : Spelling) (ls ls' : List Label) (ps ps' : List (Option LabelledType)) (made : IsMadeOf t s ls ps) (made' : IsMadeOf u s' ls' ps')
    (one : is_one_family s s' ≡ true) where
  families-one : family s ≡ family s'
  families-one = one-family (family s) (family s') one

  shape' : closed u ≡ closed_node (family s) (length ls') ps'
  shape' = subst (λ f. closed u ≡ closed_node f (length ls') ps') (sym families-one) made'.shape

  fit' : AreFit (family s) ps'
  fit' = subst (λ f. AreFit f ps') (sym families-one) made'.fit

  same-is : is_same_form (form_of t) (form_of u) ≡ (is_same_spelling s s' && (are_same_labels ls ls' && (eqb (length ps) (length ps') && (parts_likeness ps ps').same)))
  same-is =
      ap (λ f. is_same_form f (form_of u)) made.form ∙ ap (is_same_form (node_form s ls (parts_form ps))) made'.form
      ∙ ap (λ b. is_same_spelling s s' && (are_same_labels ls ls' && b)) (parts-same ps ps')

  equal-is : is_same_type (closed t) (closed u) ≡ (eqb (counted (family s) (length ls) (length ps)) (counted (family s') (length ls') (length ps')) && (parts_likeness ps ps').equal)
  equal-is =
      ap (λ a. is_same_type a (closed u)) made.shape ∙ ap (is_same_type (closed_node (family s) (length ls) ps)) shape'
      ∙ node-equal (family s) (length ls) (length ls') ps ps' made.fit fit'
      ∙ ap (λ f. eqb (counted (family s) (length ls) (length ps)) (counted f (length ls') (length ps')) && (parts_likeness ps ps').equal) families-one

  wider-is : widens (closed t) (closed u)
      ≡ (fits (family s) (closed t) (closed u) && (grows (family s) (counted (family s) (length ls) (length ps)) (counted (family s') (length ls') (length ps')) && (parts_likeness ps ps').wider))
  wider-is =
      let there = node-wider (family s) (length ls) (length ls') ps ps' made.fit fit' in
      let back = subst (λ a. widens a (closed_node (family s) (length ls') ps')
      ≡ (fits (family s) a (closed_node (family s) (length ls') ps') && (grows (family s) (counted (family s) (length ls) (length ps)) (counted (family s) (length ls') (length ps')) && (parts_likeness ps ps').wider))) (sym made.shape) there in
      let both_back = subst (λ a. widens (closed t) a
      ≡ (fits (family s) (closed t) a && (grows (family s) (counted (family s) (length ls) (length ps)) (counted (family s) (length ls') (length ps')) && (parts_likeness ps ps').wider))) (sym shape') back in
      both_back
      ∙ ap (λ f. fits (family s) (closed t) (closed u) && (grows (family s) (counted (family s) (length ls) (length ps)) (counted f (length ls') (length ps')) && (parts_likeness ps ps').wider)) families-one

  moved-is : moves (form_of t) (form_of u) ≡ (label_moves ls' ls ls' || (parts_likeness ps ps').moved)
  moved-is =
      ap (λ f. moves f (form_of u)) made.form ∙ ap (moves (node_form s ls (parts_form ps))) made'.form
      ∙ ap (λ b. b && (label_moves ls' ls ls' || part_moves (parts_form ps) (parts_form ps'))) one
      ∙ ap (λ b. label_moves ls' ls ls' || b) (parts-move ps ps')

  renamed-is : renames (form_of t) (form_of u) ≡ (label_goes ls ls' || (parts_likeness ps ps').renamed)
  renamed-is =
      ap (λ f. renames f (form_of u)) made.form ∙ ap (renames (node_form s ls (parts_form ps))) made'.form
      ∙ ap (λ b. b && (label_goes ls ls' || part_renames (parts_form ps) (parts_form ps'))) one
      ∙ ap (λ b. label_goes ls ls' || b) (parts-rename ps ps')

  pub whole-is : whole_by s s' ls ls' (length ps) (length ps') (parts_likeness ps ps') (fits (family s) (closed t) (closed u)) ≡ likeness t u
  unfolding likeness
  whole-is = λ i. record {
    same = sym same-is i;
    equal = sym equal-is i;
    wider = sym wider-is i;
    moved = sym moved-is i;
    renamed = sym renamed-is i;
  }

-- ---- two types of two families

apart-type : (f g : Family) (m n : ℕ) (ps qs : List (Option LabelledType)) → eqb (family_code f) (family_code g) ≡ false
    → (is_same_type (closed_node f m ps) (closed_node g n qs) ≡ false) × (widens (closed_node f m ps) (closed_node g n qs) ≡ false)
apart-type families.List families.Record m n ps qs h = (refl, refl)
apart-type families.List families.Variant m n ps qs h = (refl, refl)
apart-type families.List families.Flags m n ps qs h = (refl, refl)
apart-type families.Record families.List m n ps qs h = (refl, refl)
apart-type families.Record families.Variant m n ps qs h = (refl, refl)
apart-type families.Record families.Flags m n ps qs h = (refl, refl)
apart-type families.Variant families.List m n ps qs h = (refl, refl)
apart-type families.Variant families.Record m n ps qs h = (refl, refl)
apart-type families.Variant families.Flags m n ps qs h = (refl, refl)
apart-type families.Flags families.List m n ps qs h = (refl, refl)
apart-type families.Flags families.Record m n ps qs h = (refl, refl)
apart-type families.Flags families.Variant m n ps qs h = (refl, refl)
apart-type families.List families.List m n ps qs h = absurd (false≢true (sym h))
apart-type families.Record families.Record m n ps qs h = absurd (false≢true (sym h))
apart-type families.Variant families.Variant m n ps qs h = absurd (false≢true (sym h))
apart-type families.Flags families.Flags m n ps qs h = absurd (false≢true (sym h))

-- the way to spell a type that has this number
abbrev spelled_by : ℕ → Spelling
spelled_by zero = spelled.List
spelled_by (suc zero) = spelled.Option
spelled_by (suc (suc zero)) = spelled.Tuple
spelled_by (suc (suc (suc zero))) = spelled.Result
spelled_by (suc (suc (suc (suc zero)))) = spelled.Record
spelled_by (suc (suc (suc (suc (suc zero))))) = spelled.Variant
spelled_by (suc (suc (suc (suc (suc (suc zero)))))) = spelled.Enum
spelled_by _ = spelled.Flags

spelled-back : (s : Spelling) → spelled_by (spelling_code s) ≡ s
spelled-back spelled.List = refl
spelled-back spelled.Option = refl
spelled-back spelled.Tuple = refl
spelled-back spelled.Result = refl
spelled-back spelled.Record = refl
spelled-back spelled.Variant = refl
spelled-back spelled.Enum = refl
spelled-back spelled.Flags = refl

pub spelling-one : (s s' : Spelling) → spelling_code s ≡ spelling_code s' → s ≡ s'
spelling-one s s' h = sym (spelled-back s) ∙ ap spelled_by h ∙ spelled-back s'

-- what is spelled alike is of one family
spelled-one : (s s' : Spelling) → is_one_family s s' ≡ false → is_same_spelling s s' ≡ false
spelled-one s s' h = by (is_same_spelling s s') refl
  where
    by : (b : Bool) → is_same_spelling s s' ≡ b → is_same_spelling s s' ≡ false
    by false e = e
    by true e = absurd (false≢true (sym h ∙ eq-eqb _ _ (ap (λ k. family_code (family k)) (spelling-one s s' (eqb-true _ _ e)))))

module _ (t u : LabelledType) (s s' : Spelling) (ls ls' : List Label) (ps ps' : List (Option LabelledType)) (made : IsMadeOf t s ls ps) (made' : IsMadeOf u s' ls' ps')
    (two : is_one_family s s' ≡ false) where
  pub apart-is : leaves false ≡ likeness t u
  unfolding likeness
  apart-is =
      let types = apart-type (family s) (family s') (length ls) (length ls') ps ps' two in
      let same : is_same_form (form_of t) (form_of u) ≡ false =
      ap (λ f. is_same_form f (form_of u)) made.form ∙ ap (is_same_form (node_form s ls (parts_form ps))) made'.form
      ∙ ap (λ b. b && (are_same_labels ls ls' && are_same_parts (parts_form ps) (parts_form ps'))) (spelled-one s s' two) in
      let equal : is_same_type (closed t) (closed u) ≡ false = ap (λ a. is_same_type a (closed u)) made.shape ∙ ap (is_same_type (closed_node (family s) (length ls) ps)) made'.shape ∙ types.0 in
      let wider : widens (closed t) (closed u) ≡ false = ap (λ a. widens a (closed u)) made.shape ∙ ap (widens (closed_node (family s) (length ls) ps)) made'.shape ∙ types.1 in
      let moved : moves (form_of t) (form_of u) ≡ false =
      ap (λ f. moves f (form_of u)) made.form ∙ ap (moves (node_form s ls (parts_form ps))) made'.form
      ∙ ap (λ b. b && (label_moves ls' ls ls' || part_moves (parts_form ps) (parts_form ps'))) two in
      let renamed : renames (form_of t) (form_of u) ≡ false =
      ap (λ f. renames f (form_of u)) made.form ∙ ap (renames (node_form s ls (parts_form ps))) made'.form
      ∙ ap (λ b. b && (label_goes ls ls' || part_renames (parts_form ps) (parts_form ps'))) two in
      λ i. record {
        same = sym same i;
        equal = sym equal i;
        wider = sym wider i;
        moved = sym moved i;
        renamed = sym renamed i;
      }
