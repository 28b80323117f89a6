-- What a table's rows read as, when more rows come behind them.
use Rattle.std.proofs.Common.{◌≡◌, ℕ, zero, suc, ◌+◌, ◌<◌, true, List, [], ◌∷◌, ◌++◌, length, get_or, slice_get, Option, Some, refl, ap, sym, subst, ◌∙◌, arith, append_assoc, append-nil}
use Rattle.std.proofs.lemmas.List.{length-append, get_or_append_left}
use Rattle.std.proofs.lemmas.Bool.{ltb-true}
use Rattle.tables.specs.Tables.{is_type}
use Rattle.tables.specs.Package.{Tree, TextTree, references, reference, definitions_from, definition_of, read_val}
use Rattle.package_form.specs.Postfix.{Leaves, unnamed, is_unnamed_row, one_if}
use Rattle.package_form.specs.Entries.{Table}
use Rattle.tree_meaning.specs.Building.{table_trees, IsTableFront, Extends}
use Rattle.tables.specs.declared.tables.ValType.{ValType}
use Rattle.tables.specs.declared.tables.ValType.TheVariants as val
use Rattle.tables.specs.declared.tables.Definition.{Definition}
use Rattle.tables.proofs.HasStandardTypes.{type-below}
use Rattle.tree_meaning.proofs.TableRows.{references-append, references-length}
use Rattle.tree_meaning.proofs.TypesStayTypes.{type-later}
use Rattle.package_form.proofs.AllAndContains.{get-front}

references-front : (is : List (List ℕ)) (ts : List Tree) (ds : List Definition) (k : ℕ) (d : Tree) → k < length ts → get_or (references is ts ds) k d ≡ get_or ts k d
references-front is ts [] k d h = refl
references-front is ts (e ∷ ds) k d h =
    references-front is (ts ++ reference is ts e ∷ []) ds k d (omega (arith, length-append ts (reference is ts e ∷ [])))
    ∙ get_or_append_left ts (reference is ts e ∷ []) d k h

pub trees-length : (t : Table) → length (table_trees t) ≡ length t.rows
unfolding table_trees
trees-length t = references-length t.interfaces [] t.rows ∙ omega arith

pub trees-more : (old new : Table) (more : List Definition) → new.interfaces ≡ old.interfaces → new.rows ≡ old.rows ++ more
    → table_trees new ≡ references old.interfaces (table_trees old) more
unfolding table_trees
trees-more old new more is rows = rw (is, rows) (references-append old.interfaces [] old.rows more)

-- ---- rows that stood

pub typed-stays : (old new : Table) → IsTableFront old new → (v : ValType) → is_type old.rows v ≡ true → is_type new.rows v ≡ true
typed-stays old new x v h = subst (λ (ds : List Definition). is_type ds v ≡ true) (sym x.rows.1) (type-later old.rows x.rows.0 v h)

pub read_val-same : (old new : Table) → IsTableFront old new → (v : ValType) → is_type old.rows v ≡ true → read_val (table_trees new) v ≡ read_val (table_trees old) v
read_val-same old new x (val.Primitive p) h = refl
read_val-same old new x val.String h = refl
read_val-same old new x (val.Id t) h =
    let l : t.0 < length (table_trees old) = omega (arith, trees-length old, ltb-true t.0 (length old.rows) (type-below old.rows (val.Id t) h)) in
    rw (trees-more old new x.rows.0 x.interfaces x.rows.1) (references-front old.interfaces (table_trees old) x.rows.0 t.0 TextTree l)

pub get-end : {A : Type 0} (xs : List A) (y : A) (n : ℕ) → n ≡ length xs → slice_get (xs ++ y ∷ []) n ≡ Some y
get-end [] y n h = rw h refl
get-end (x ∷ xs) y zero h = absurd (omega arith)
get-end (x ∷ xs) y (suc n) h = get-end xs y n (omega arith)

pub unnamed-same : (old new : Table) → IsTableFront old new → (v : ValType) → is_type old.rows v ≡ true → unnamed new.rows v ≡ unnamed old.rows v
unnamed-same old new x (val.Primitive p) h = refl
unnamed-same old new x val.String h = refl
unnamed-same old new x (val.Id t) h =
    let l = ltb-true t.0 (length old.rows) (type-below old.rows (val.Id t) h) in
    ap (λ (o : Option Definition). one_if (is_unnamed_row o) t.0)
    (ap (λ (ds : List Definition). slice_get ds t.0) x.rows.1 ∙ get-front old.rows x.rows.0 t.0 l)

-- ---- growth after growth

pub front-none : (t : Table) → IsTableFront t t
front-none t = record { interfaces = refl; rows = ([], sym (append-nil t.rows)); earlier = λ h. h; typed = λ h. h }

pub front-trans : (a b c : Table) → IsTableFront a b → IsTableFront b c → IsTableFront a c
front-trans a b c x y = record {
  interfaces = y.interfaces ∙ x.interfaces;
  rows = (x.rows.0 ++ y.rows.0, y.rows.1 ∙ ap (λ ds. ds ++ y.rows.0) x.rows.1 ∙ append_assoc a.rows x.rows.0 y.rows.0);
  earlier = λ h. y.earlier (x.earlier h);
  typed = λ h. y.typed (x.typed h);
}

pub extends-none : (t : Table) → Extends t t []
extends-none t = record {
  front = front-none t;
  own = refl;
  same = refl;
  postfix = λ before h. subst (λ (us : List ℕ). Leaves t.rows us) (sym (append-nil before)) h;
}

pub extends-trans : (a b c : Table) (us vs : List ℕ) → Extends a b us → Extends b c vs → Extends a c (us ++ vs)
extends-trans a b c us vs x y = record {
  front = front-trans a b c x.front y.front;
  own = y.own ∙ x.own;
  same = y.same ∙ x.same;
  postfix = λ before h. subst (λ (ws : List ℕ). Leaves c.rows ws) (append_assoc before us vs) (y.postfix (before ++ us) (x.postfix before h));
}

pub definitions-append : (is : List (List ℕ)) (ts : List Tree) (ds es : List Definition)
    → definitions_from is ts (ds ++ es) ≡ definitions_from is ts ds ++ definitions_from is (references is ts ds) es
definitions-append is ts [] es = refl
definitions-append is ts (d ∷ ds) es =
    ap (λ zs. definition_of is ts d ++ zs) (definitions-append is (ts ++ reference is ts d ∷ []) ds es)
    ∙ sym (append_assoc (definition_of is ts d) (definitions_from is (ts ++ reference is ts d ∷ []) ds) (definitions_from is (references is (ts ++ reference is ts d ∷ []) ds) es))
