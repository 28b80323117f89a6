-- The names in what is written for a tree are those that are known.
use Rattle.std.proofs.Common.{ℕ, List, [], ◌∷◌, flat_map, sym, subst}
use Rattle.std.specs.Prelude.{All, Option, None, Some}
use Rattle.std.specs.Option.{option_map}
use Rattle.tables.specs.Package.{Tree, Choices}
use Rattle.package_form.proofs.AllAndContains.{all-none, all-cons, all-head, all-tail, all-append, all-mono}
use Rattle.tree_meaning.specs.Declarations.{named, named_all, named_if, named_member, named_case, named_definition}
use Rattle.tree_meaning.specs.Resolved.{Labelled, Choice, fields_of_labelled, unlabelled, choice, choices_of}
use Rattle.package_text.specs.Written.{ty_of, tys_in, members_in, cases_in, body_of}
use Rattle.package_text.proofs.WrittenTrees.WrittenStandsForTree.{Expressed, a_primitive, a_string, a_name, a_list, an_option, a_tuple, a_result, AllExpressed, no_more, one_more, MaybeExpressed, not_there, is_there, FieldExpressed, CaseExpressed, FieldsExpressed, CasesExpressed, Defined, an_alias, a_record, a_variant, an_enum, a_flags, alias-body}

-- ---- where more names are known

module _ (i : List ℕ) (K L : List ℕ → Type 0) (more : (n : List ℕ) → K n → L n) where
  mutual
    pub expressed-more : (t : Tree) → Expressed i K t → Expressed i L t
    expressed-more _ (a_primitive p) = a_primitive p
    expressed-more _ a_string = a_string
    expressed-more _ (a_name n h) = a_name n (more n h)
    expressed-more _ (a_list t e) = a_list t (expressed-more t e)
    expressed-more _ (an_option t e) = an_option t (expressed-more t e)
    expressed-more _ (a_tuple ts e) = a_tuple ts (all-more ts e)
    expressed-more _ (a_result ok error e f) = a_result ok error (maybe-more ok e) (maybe-more error f)

    pub all-more : (ts : List Tree) → AllExpressed i K ts → AllExpressed i L ts
    all-more _ no_more = no_more
    all-more _ (one_more t ts e es) = one_more t ts (expressed-more t e) (all-more ts es)

    pub maybe-more : (t : Option Tree) → MaybeExpressed i K t → MaybeExpressed i L t
    maybe-more _ not_there = not_there
    maybe-more _ (is_there t e) = is_there t (expressed-more t e)

  pub fields-more : (fs : List Labelled) → FieldsExpressed i K fs → FieldsExpressed i L fs
  fields-more fs h = all-mono (FieldExpressed i K) (FieldExpressed i L) (λ f e. expressed-more f.tree e) fs h

  pub defined-more : (t : Tree) → Defined i K t → Defined i L t
  defined-more t (an_alias _ e) = an_alias t (expressed-more t e)
  defined-more _ (a_record fs h) = a_record fs (fields-more fs h)
  defined-more _ (a_variant cs h) = a_variant cs (all-mono (CaseExpressed i K) (CaseExpressed i L) (λ c e. maybe-more c.payload e) cs h)
  defined-more _ (an_enum ns) = an_enum ns
  defined-more _ (a_flags ns) = a_flags ns

-- ---- the names

module _ (i : List ℕ) (K : List ℕ → Type 0) where
  mutual
    pub ty-names : (t : Tree) → Expressed i K t → All K (named (ty_of t))
    ty-names _ (a_primitive p) = all-none K
    ty-names _ a_string = all-none K
    ty-names _ (a_name n h) = all-cons K n [] h (all-none K)
    ty-names _ (a_list t e) = ty-names t e
    ty-names _ (an_option t e) = ty-names t e
    ty-names _ (a_tuple ts e) = tys-names ts e
    ty-names _ (a_result None None not_there not_there) = all-none K
    ty-names _ (a_result (Some t) None (is_there _ e) not_there) = all-append K (named (ty_of t)) [] (ty-names t e) (all-none K)
    ty-names _ (a_result None (Some u) not_there (is_there _ f)) = ty-names u f
    ty-names _ (a_result (Some t) (Some u) (is_there _ e) (is_there _ f)) = all-append K (named (ty_of t)) (named (ty_of u)) (ty-names t e) (ty-names u f)

    pub tys-names : (ts : List Tree) → AllExpressed i K ts → All K (named_all (tys_in (unlabelled ts)))
    tys-names _ no_more = all-none K
    tys-names _ (one_more t ts e es) = all-append K (named (ty_of t)) (named_all (tys_in (unlabelled ts))) (ty-names t e) (tys-names ts es)

  pub maybe-names : (t : Option Tree) → MaybeExpressed i K t → All K (named_if (option_map ty_of t))
  maybe-names _ not_there = all-none K
  maybe-names _ (is_there t e) = ty-names t e

  pub members-names : (fs : List Labelled) → FieldsExpressed i K fs → All K (flat_map named_member (members_in (fields_of_labelled fs)))
  members-names [] h = all-none K
  members-names (f ∷ fs) h =
      all-append K (named (ty_of f.tree)) (flat_map named_member (members_in (fields_of_labelled fs))) (ty-names f.tree (all-head (FieldExpressed i K) f fs h))
      (members-names fs (all-tail (FieldExpressed i K) f fs h))

  choice-names : (n : List ℕ) (p : Option Tree) (cs : Choices) → MaybeExpressed i K p → All K (flat_map named_case (cases_in cs)) → All K (flat_map named_case (cases_in (choice n p cs)))
  choice-names n _ cs not_there h = h
  choice-names n _ cs (is_there t e) h = all-append K (named (ty_of t)) (flat_map named_case (cases_in cs)) (ty-names t e) h

  cases-names : (cs : List Choice) → CasesExpressed i K cs → All K (flat_map named_case (cases_in (choices_of cs)))
  cases-names [] h = all-none K
  cases-names (c ∷ cs) h =
      choice-names c.name c.payload (choices_of cs) (all-head (CaseExpressed i K) c cs h) (cases-names cs (all-tail (CaseExpressed i K) c cs h))

  -- the definition of a defined tree names what is known
  pub body-names : (t : Tree) → Defined i K t → All K (named_definition (body_of t))
  body-names t (an_alias _ e) = subst (λ b. All K (named_definition b)) (sym (alias-body i K t e)) (ty-names t e)
  body-names _ (a_record fs h) = members-names fs h
  body-names _ (a_variant cs h) = cases-names cs h
  body-names _ (an_enum ns) = all-none K
  body-names _ (a_flags ns) = all-none K
