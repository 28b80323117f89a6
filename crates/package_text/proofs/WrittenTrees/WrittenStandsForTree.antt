-- What is written for a tree stands for that tree.
use Rattle.std.proofs.Common.{◌≡◌, ℕ, List, [], ◌∷◌, map, refl, ap, ◌∙◌}
use Rattle.std.specs.Prelude.{All, Option, None, Some}
use Rattle.std.specs.Option.{option_map}
use Rattle.wit_tokens.specs.Syntax.{Alias}
use Rattle.tables.specs.declared.tables.Primitive.{Primitive}
use Rattle.tables.specs.declared.tables.Primitive.TheVariants as primitive
use Rattle.tables.specs.Package.{Tree, PrimTree, TextTree, Reference, ListTree, RecordTree, VariantTree, FlagsTree, Choices, Plain, AsEnum, read_enum}
use Rattle.package_form.proofs.AllAndContains.{all-head, all-tail}
use Rattle.tree_meaning.specs.Resolved.{primitive_tree, Labelled, Choice, fields_of_labelled, unlabelled, choice, choices_of, option_tree, result_tree, tuple_tree, resolved, resolved_all, resolved_if, member_meaning, case_meaning, definition_meaning}
use Rattle.package_text.specs.Written.{ty_of, tys_in, members_in, cases_in, labels_in, body_of, keyword_for}

-- ---- types

-- where each name counts as known
abbrev pub Anything : List ℕ → Type 0
Anything n = Unit {0}

-- the tree of an expression of the interface of this name, which names types of it that are known
mutual
  pub data Expressed (i : List ℕ) (K : List ℕ → Type 0) : Tree → Type 0 where
    a_primitive : (p : Primitive) → Expressed i K (PrimTree p)
    a_string : Expressed i K TextTree
    a_name : (n : List ℕ) → K n → Expressed i K (Reference (record { interface = i; name = n }))
    a_list : (t : Tree) → Expressed i K t → Expressed i K (ListTree t)
    an_option : (t : Tree) → Expressed i K t → Expressed i K (option_tree t)
    a_tuple : (ts : List Tree) → AllExpressed i K ts → Expressed i K (tuple_tree ts)
    a_result : (ok error : Option Tree) → MaybeExpressed i K ok → MaybeExpressed i K error → Expressed i K (result_tree ok error)

  pub data AllExpressed (i : List ℕ) (K : List ℕ → Type 0) : List Tree → Type 0 where
    no_more : AllExpressed i K []
    one_more : (t : Tree) (ts : List Tree) → Expressed i K t → AllExpressed i K ts → AllExpressed i K (t ∷ ts)

  pub data MaybeExpressed (i : List ℕ) (K : List ℕ → Type 0) : Option Tree → Type 0 where
    not_there : MaybeExpressed i K None
    is_there : (t : Tree) → Expressed i K t → MaybeExpressed i K (Some t)

primitive-back : (p : Primitive) → primitive_tree (keyword_for p) ≡ PrimTree p
primitive-back primitive.Bool = refl
primitive-back primitive.S8 = refl
primitive-back primitive.U8 = refl
primitive-back primitive.S16 = refl
primitive-back primitive.U16 = refl
primitive-back primitive.S32 = refl
primitive-back primitive.U32 = refl
primitive-back primitive.S64 = refl
primitive-back primitive.U64 = refl
primitive-back primitive.Char = refl

-- the type of an expressed tree resolves to it
mutual
  pub ty-back : (i : List ℕ) (K : List ℕ → Type 0) (t : Tree) → Expressed i K t → resolved i (ty_of t) ≡ t
  ty-back i K _ (a_primitive p) = primitive-back p
  ty-back i K _ a_string = refl
  ty-back i K _ (a_name n h) = refl
  ty-back i K _ (a_list t e) = ap ListTree (ty-back i K t e)
  ty-back i K _ (an_option t e) = ap option_tree (ty-back i K t e)
  ty-back i K _ (a_tuple ts e) = ap tuple_tree (tys-back i K ts e)
  ty-back i K _ (a_result None None not_there not_there) = refl
  ty-back i K _ (a_result (Some t) None (is_there _ e) not_there) = ap (λ x. result_tree (Some x) None) (ty-back i K t e)
  ty-back i K _ (a_result None (Some u) not_there (is_there _ f)) = ap (λ x. result_tree None (Some x)) (ty-back i K u f)
  ty-back i K _ (a_result (Some t) (Some u) (is_there _ e) (is_there _ f)) =
      ap (λ x. result_tree (Some x) (Some (resolved i (ty_of u)))) (ty-back i K t e) ∙ ap (λ x. result_tree (Some t) (Some x)) (ty-back i K u f)

  pub tys-back : (i : List ℕ) (K : List ℕ → Type 0) (ts : List Tree) → AllExpressed i K ts → resolved_all i (tys_in (unlabelled ts)) ≡ ts
  tys-back i K _ no_more = refl
  tys-back i K _ (one_more t ts e es) = let x = ty-back i K t e in let y = tys-back i K ts es in cc

-- ---- definitions

abbrev pub FieldExpressed : List ℕ → (List ℕ → Type 0) → Labelled → Type 0
FieldExpressed i K f = Expressed i K f.tree

abbrev pub CaseExpressed : List ℕ → (List ℕ → Type 0) → Choice → Type 0
CaseExpressed i K c = MaybeExpressed i K c.payload

abbrev pub FieldsExpressed : List ℕ → (List ℕ → Type 0) → List Labelled → Type 0
FieldsExpressed i K fs = All (FieldExpressed i K) fs

abbrev pub CasesExpressed : List ℕ → (List ℕ → Type 0) → List Choice → Type 0
CasesExpressed i K cs = All (CaseExpressed i K) cs

-- the tree of a definition of the interface of this name, which names types of it that are known
pub data Defined (i : List ℕ) (K : List ℕ → Type 0) : Tree → Type 0 where
  an_alias : (t : Tree) → Expressed i K t → Defined i K t
  a_record : (fs : List Labelled) → FieldsExpressed i K fs → Defined i K (RecordTree Plain (fields_of_labelled fs))
  a_variant : (cs : List Choice) → CasesExpressed i K cs → Defined i K (VariantTree Plain (choices_of cs))
  an_enum : (ns : List (List ℕ)) → Defined i K (VariantTree AsEnum (read_enum ns))
  a_flags : (ns : List (List ℕ)) → Defined i K (FlagsTree ns)

pub alias-body : (i : List ℕ) (K : List ℕ → Type 0) (t : Tree) → Expressed i K t → body_of t ≡ Alias (ty_of t)
alias-body i K _ (a_primitive p) = refl
alias-body i K _ a_string = refl
alias-body i K _ (a_name n h) = refl
alias-body i K _ (a_list t e) = refl
alias-body i K _ (an_option t e) = refl
alias-body i K _ (a_tuple ts e) = refl
alias-body i K _ (a_result ok error e f) = refl

pub members-back : (i : List ℕ) (K : List ℕ → Type 0) (fs : List Labelled) → FieldsExpressed i K fs → map (member_meaning i) (members_in (fields_of_labelled fs)) ≡ fs
members-back i K [] h = refl
members-back i K (f ∷ fs) h =
    ap (λ t. record { name = f.name; tree = t } ∷ map (member_meaning i) (members_in (fields_of_labelled fs))) (ty-back i K f.tree (all-head (FieldExpressed i K) f fs h))
    ∙ ap (λ xs. f ∷ xs) (members-back i K fs (all-tail (FieldExpressed i K) f fs h))

pub maybe-back : (i : List ℕ) (K : List ℕ → Type 0) (t : Option Tree) → MaybeExpressed i K t → resolved_if i (option_map ty_of t) ≡ t
maybe-back i K _ not_there = refl
maybe-back i K _ (is_there t e) = ap Some (ty-back i K t e)

one-back : (i : List ℕ) (K : List ℕ → Type 0) (n : List ℕ) (p : Option Tree) (cs : Choices) → MaybeExpressed i K p
    → map (case_meaning i) (cases_in (choice n p cs)) ≡ record { name = n; payload = p } ∷ map (case_meaning i) (cases_in cs)
one-back i K n _ cs not_there = refl
one-back i K n _ cs (is_there t e) = let x = ty-back i K t e in cc

pub cases-back : (i : List ℕ) (K : List ℕ → Type 0) (cs : List Choice) → CasesExpressed i K cs → map (case_meaning i) (cases_in (choices_of cs)) ≡ cs
cases-back i K [] h = refl
cases-back i K (c ∷ cs) h =
    one-back i K c.name c.payload (choices_of cs) (all-head (CaseExpressed i K) c cs h) ∙ ap (λ xs. c ∷ xs) (cases-back i K cs (all-tail (CaseExpressed i K) c cs h))

pub labels-back : (ns : List (List ℕ)) → labels_in (read_enum ns) ≡ ns
labels-back [] = refl
labels-back (n ∷ ns) = ap (λ ms. n ∷ ms) (labels-back ns)

-- the definition of a defined tree means it
pub body-back : (i : List ℕ) (K : List ℕ → Type 0) (t : Tree) → Defined i K t → definition_meaning i (body_of t) ≡ t
body-back i K t (an_alias _ e) = ap (definition_meaning i) (alias-body i K t e) ∙ ty-back i K t e
body-back i K _ (a_record fs h) = ap (λ xs. RecordTree Plain (fields_of_labelled xs)) (members-back i K fs h)
body-back i K _ (a_variant cs h) = ap (λ xs. VariantTree Plain (choices_of xs)) (cases-back i K cs h)
body-back i K _ (an_enum ns) = ap (λ xs. VariantTree AsEnum (read_enum xs)) (labels-back ns)
body-back i K _ (a_flags ns) = refl
