-- Rows in postfix order: a row refers to earlier rows, so later ones change nothing.
use Rattle.std.proofs.Common.{◌≡◌, ℕ, Bool, true, nat_lt, List, [], ◌∷◌, ◌++◌, flat_map, length, Option, None, Some, refl, ap, ◌∙◌}
use Rattle.std.specs.List.{list_all}
use Rattle.std.proofs.lemmas.List.Folds.{list_all-append}
use Rattle.std.proofs.lemmas.Bool.{ltb-true}
use Rattle.tables.specs.Tables.{is_below, option_all, kind_all, definition_all, definition_below}
use Rattle.tables.specs.declared.tables.TypeId.{TypeId}
use Rattle.tables.specs.declared.tables.ValType.{ValType}
use Rattle.tables.specs.declared.tables.ValType.TheVariants as val
use Rattle.tables.specs.declared.tables.TypeDefKind.{TypeDefKind}
use Rattle.tables.specs.declared.tables.TypeDefKind.TheVariants as kind
use Rattle.tables.specs.declared.tables.Definition.{Definition}
use Rattle.tables.specs.declared.tables.Definition.TheVariants as row
use Rattle.package_form.specs.Postfix.{is_unnamed_row, one_if}
use Rattle.package_form.specs.References.{type_references, references_if, field_references, case_references, parameter_references, kind_references, row_references}
use Rattle.package_form.specs.Unused.{unnamed_at, inner_rows}
use Rattle.tables.proofs.ClosedTypesRowByRow.{split, both}
use Rattle.package_form.proofs.AllAndContains.{get-front}

abbrev pub stands_before : ℕ → TypeId → Bool
stands_before n t = nat_lt t.0 n

-- what holds of each type that a row names holds of each row that it is made of
module _ (p : ValType → Bool) (q : TypeId → Bool) (e : (t : TypeId) → p (val.Id t) ≡ true → q t ≡ true) where
  val-all : (v : ValType) → p v ≡ true → list_all q (type_references v) ≡ true
  val-all (val.Primitive x) h = refl
  val-all val.String h = refl
  val-all (val.Id t) h = both (q t) true (e t h) refl

  if-all : (v : Option ValType) → option_all p v ≡ true → list_all q (references_if v) ≡ true
  if-all None h = refl
  if-all (Some v) h = val-all v h

  join-all : (ts us : List TypeId) → list_all q ts ≡ true → list_all q us ≡ true → list_all q (ts ++ us) ≡ true
  join-all ts us h r = list_all-append q ts us ∙ both (list_all q ts) (list_all q us) h r

  each-all : {X : Type 0} (g : X → List TypeId) (o : X → Bool) → ((x : X) → o x ≡ true → list_all q (g x) ≡ true) → (xs : List X) → list_all o xs ≡ true
      → list_all q (flat_map g xs) ≡ true
  each-all g o f [] h = refl
  each-all g o f (x ∷ xs) h = let s = split (o x) (list_all o xs) h in join-all (g x) (flat_map g xs) (f x s.0) (each-all g o f xs s.1)

  kind-all : (k : TypeDefKind) → kind_all p k ≡ true → list_all q (kind_references k) ≡ true
  kind-all (kind.Use t) h = refl
  kind-all (kind.Alias v) h = val-all v h
  kind-all (kind.List v) h = val-all v h
  kind-all (kind.Option v) h = val-all v h
  kind-all (kind.Result v w) h =
      let s = split (option_all p v) (option_all p w) h in
      join-all (references_if v) (references_if w) (if-all v s.0) (if-all w s.1)
  kind-all (kind.Tuple vs) h = each-all type_references p val-all vs h
  kind-all (kind.Record fs) h = each-all field_references (λ f. p f.ty) (λ f r. val-all f.ty r) fs h
  kind-all (kind.Variant cs) h = each-all case_references (λ c. option_all p c.ty) (λ c r. if-all c.ty r) cs h
  kind-all (kind.Enum ns) h = refl
  kind-all (kind.Flags ns) h = refl

  pub row-all : (d : Definition) → definition_all p d ≡ true → list_all q (row_references d) ≡ true
  row-all (row.Type d) h = kind-all d.kind h
  row-all (row.Function f) h =
      let s = split (list_all (λ x. p x.ty) f.params) (option_all p f.result) h in
      join-all (flat_map parameter_references f.params) (references_if f.result)
      (each-all parameter_references (λ x. p x.ty) (λ x r. val-all x.ty r) f.params s.0)
      (if-all f.result s.1)

pub row-before : (n : ℕ) (d : Definition) → definition_below n d ≡ true → list_all (stands_before n) (row_references d) ≡ true
row-before n d h = row-all (is_below n) (stands_before n) (λ t q. q) d h

front-all : (pre rest : List Definition) (ts : List TypeId) → list_all (stands_before (length pre)) ts ≡ true → flat_map (unnamed_at (pre ++ rest)) ts ≡ flat_map (unnamed_at pre) ts
front-all pre rest [] h = refl
front-all pre rest (t ∷ ts) h =
    let s = split (stands_before (length pre) t) (list_all (stands_before (length pre)) ts) h in
    ap (λ (o : Option Definition). one_if (is_unnamed_row o) t.0 ++ flat_map (unnamed_at (pre ++ rest)) ts) (get-front pre rest t.0 (ltb-true t.0 (length pre) s.0))
    ∙ ap (λ ns. unnamed_at pre t ++ ns) (front-all pre rest ts s.1)

pub front-inner : (pre rest : List Definition) (d : Definition) → definition_below (length pre) d ≡ true → inner_rows (pre ++ rest) d ≡ inner_rows pre d
front-inner pre rest d h = front-all pre rest (row_references d) (row-before (length pre) d h)
