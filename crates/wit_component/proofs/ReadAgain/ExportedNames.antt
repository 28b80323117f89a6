-- The names of an instance type: what a name stands for when one more is exported.
use Rattle.std.proofs.Common.{◌≡◌, ℕ, Bool, true, false, cond, List, [], ◌∷◌, Option, None, Some, bytes_eq, refl, ap, sym, ◌∙◌}
use Rattle.std.proofs.lemmas.Slice.Eq.{bytes_eq-Decides}
use Rattle.package_form.specs.Scoped.{NameEntry}
use Rattle.tables.specs.declared.tables.TypeId.{TypeId}
use Rattle.component_reader.specs.Instance.{type_named, with_name}

pub named-found : (es : List NameEntry) (n : List ℕ) (t : TypeId) → type_named (with_name es n t) n ≡ Some t
named-found [] n t = ap (λ (b : Bool). cond b (Some t) None) ((bytes_eq-Decides n n).1 refl)
named-found (e ∷ es) n t = by (bytes_eq n e.name) refl (named-found es n t)
  where
    by : (b : Bool) → bytes_eq n e.name ≡ b → type_named (with_name es n t) n ≡ Some t
        → type_named (cond b (record { name = e.name; id = t } ∷ es) (e ∷ with_name es n t)) n ≡ Some t
    by true is again = ap (λ (b : Bool). cond b (Some t) (type_named es n)) is
    by false is again = ap (λ (b : Bool). cond b (Some e.id) (type_named (with_name es n t) n)) is ∙ again

pub named-other : (es : List NameEntry) (n : List ℕ) (t : TypeId) (m : List ℕ) → bytes_eq m n ≡ false → type_named (with_name es n t) m ≡ type_named es m
named-other [] n t m h = ap (λ (b : Bool). cond b (Some t) None) h
named-other (e ∷ es) n t m h = by (bytes_eq n e.name) refl (named-other es n t m h)
  where
    by : (b : Bool) → bytes_eq n e.name ≡ b → type_named (with_name es n t) m ≡ type_named es m
        → type_named (cond b (record { name = e.name; id = t } ∷ es) (e ∷ with_name es n t)) m ≡ type_named (e ∷ es) m
    by true is again =
        let apart : bytes_eq m e.name ≡ false = ap (λ (x : List ℕ). bytes_eq m x) (sym ((bytes_eq-Decides n e.name).0 is)) ∙ h in
        ap (λ (b : Bool). cond b (Some t) (type_named es m)) apart ∙ sym (ap (λ (b : Bool). cond b (Some e.id) (type_named es m)) apart)
    by false is again = ap (λ (o : Option TypeId). cond (bytes_eq m e.name) (Some e.id) o) again
