-- Types that stand in a table, when more rows come behind it.
use Rattle.std.proofs.Common.{◌≡◌, ℕ, zero, suc, ◌+◌, ◌<◌, List, [], ◌∷◌, ◌++◌, Option, Some, map, take, length, get_or, refl, ap, sym, ◌∙◌, subst, arith, All}
use Rattle.wit_tokens.specs.Syntax.{Ty, tys_of}
use Rattle.wit_tokens.specs.View.{ty_view}
use Rattle.wit_tokens.specs.declared.wit_syntax.ast.TypeExpression.{TypeExpression}
use Rattle.tables.specs.Tables.{is_type, option_all}
use Rattle.tables.specs.Package.{Tree, Reference, ListTree, IsType, read_val, read_kind, Choices, RecordTree, VariantTree, Plain, AsTuple, TreeFields}
use Rattle.package_form.specs.Postfix.{unnamed, unnamed_if, unnamed_field, unnamed_case}
use Rattle.tree_meaning.specs.Declarations.{named, named_all}
use Rattle.tree_meaning.specs.Resolved.{Labelled, Choice, resolved, resolved_all, option_tree, tuple_tree, result_tree, fields_of_labelled, unlabelled, choices_of}
use Rattle.package_form.specs.Entries.{Table}
use Rattle.tree_meaning.specs.Building.{table_trees, IsTableFront, Extends, TreeStands, LowersIf, LowersEach, LowersKind, LowersInner, read_field, read_case, field_typed, case_typed, LowersType}
use Rattle.tree_scopes.specs.KnownScopes.{IsScope, KnowsNames, scope_name}
use Rattle.tree_scopes.specs.declared.known.KnownTypes.{KnownTypes}
use Rattle.canonical_abi.specs.Labelled.{ok_label, error_label}
use Rattle.tables.specs.declared.tables.ValType.{ValType}
use Rattle.tables.specs.declared.tables.ValType.TheVariants as val
use Rattle.tables.specs.declared.tables.Field.{Field}
use Rattle.tables.specs.declared.tables.Case.{Case}
use Rattle.tables.specs.declared.tables.TypeDefKind.{TypeDefKind}
use Rattle.tables.specs.declared.tables.TypeDefKind.TheVariants as kind
use Rattle.tables.proofs.ClosedTypesRowByRow.{both}
use Rattle.package_form.proofs.AllAndContains.{all-left, all-right}
use Rattle.tree_rows.proofs.OneRowMore.{stands-later}
use Rattle.tree_meaning.proofs.MoreRowsReadTheSame.{extends-trans, unnamed-same}
use Rattle.tree_meaning.proofs.TypesReadStay.{option-stays, choice-reads, Stays, val-stays, tuple-reads, fields-read, cases-read}

-- ---- scopes

pub scope-later : (old new : Table) (s : KnownTypes) → IsTableFront old new → IsScope old s → IsScope new s
scope-later old new s x h = record {
  each = λ k d l.
      let e = get_or s.entries k d in
      let was = h.each k d l in
      record {
        stands = subst (λ (ns : List (List ℕ)). TreeStands new (val.Id e.id) (Reference (record { interface = get_or ns s.interface.0 []; name = e.name }))) (sym x.interfaces)
            (stands-later old new (val.Id e.id) (Reference (record { interface = scope_name old s; name = e.name })) x was.stands);
        named = unnamed-same old new x (val.Id e.id) was.stands.typed ∙ was.named;
      };
}

pub same_name : (old new : Table) (s : KnownTypes) → IsTableFront old new → scope_name new s ≡ scope_name old s
same_name old new s x = ap (λ (ns : List (List ℕ)). get_or ns s.interface.0 []) x.interfaces

-- ---- one type

pub lowers-list : (a b : Table) (v : ValType) (tree : Tree) → LowersType a b v tree → LowersInner a b (kind.List v) (ListTree tree)
lowers-list a b v tree l = record {
  lowers = record { extends = l.extends; typed = l.stands.typed; means = ap (λ (t : Tree). IsType (ListTree t)) l.stands.reads; names = refl };
  inner = refl;
}

pub lowers-option : (a b : Table) (v : ValType) (tree : Tree) → LowersType a b v tree → LowersInner a b (kind.Option v) (option_tree tree)
lowers-option a b v tree l = record {
  lowers = record { extends = l.extends; typed = l.stands.typed; means = ap (λ (t : Tree). IsType (option_tree t)) l.stands.reads; names = refl };
  inner = refl;
}

pub lowers-some : (a b : Table) (v : ValType) (tree : Tree) → LowersType a b v tree → LowersIf a b (Some v) (Some tree)
lowers-some a b v tree l = record { extends = l.extends; typed = l.stands.typed; reads = ap (λ (t : Tree). Some t) l.stands.reads }

pub lowers-result : (a b c : Table) (v w : Option ValType) (t u : Option Tree) → LowersIf a b v t → LowersIf b c w u
    → LowersInner a c (kind.Result v w) (result_tree t u)
lowers-result a b c v w t u l m =
    let s = option-stays b c m.extends.front v l.typed in
    let ts = table_trees c in
    let reads : read_kind ts (kind.Result v w) ≡ result_tree t u =
    rw (choice-reads ts error_label w, choice-reads ts ok_label v, s.1, l.reads, m.reads) refl in
    record {
      lowers = record {
        extends = subst (λ (us : List ℕ). Extends a c (us ++ unnamed_if c.rows w)) (sym s.2) (extends-trans a b c _ _ l.extends m.extends);
        typed = both (option_all (is_type c.rows) v) (option_all (is_type c.rows) w) s.0 m.typed;
        means = ap (λ (x : Tree). IsType x) reads;
        names = refl;
      };
      inner = refl;
    }

pub field-stays : Stays field_typed read_field unnamed_field
field-stays old new x f h =
    let p = val-stays old new x f.ty h in
    let g : Tree → Labelled = λ t. record { name = f.name; tree = t } in
    (p.0, ap g p.1, p.2)

pub case-stays : Stays case_typed read_case unnamed_case
case-stays old new x c h =
    let p = option-stays old new x c.ty h in
    let g : Option Tree → Choice = λ t. record { name = c.name; payload = t } in
    (p.0, ap g p.1, p.2)

pub lowers-tuple : (a b : Table) (vs : List ValType) (ts : List Tree) → LowersEach is_type read_val unnamed a b vs ts → LowersInner a b (kind.Tuple vs) (tuple_tree ts)
lowers-tuple a b vs ts l = record {
  lowers = record {
    extends = l.extends;
    typed = l.within;
    means = ap (λ (fs : TreeFields). IsType (RecordTree AsTuple fs)) (tuple-reads (table_trees b) vs ∙ ap unlabelled l.reads);
    names = refl;
  };
  inner = refl;
}

-- ---- expressions

resolved_all-suc : (i : List ℕ) (xs : List TypeExpression) (k : ℕ) (x : TypeExpression) → k < length xs → x ≡ get_or xs k x
    → resolved_all i (tys_of (map ty_view (take (suc k) xs))) ≡ resolved_all i (tys_of (map ty_view (take k xs))) ++ resolved i (ty_view x) ∷ []
resolved_all-suc i [] k x l e = absurd (omega arith)
resolved_all-suc i (y ∷ xs) zero x l e = ap (λ z. resolved i (ty_view z) ∷ []) (sym e)
resolved_all-suc i (y ∷ xs) (suc k) x l e = ap (λ zs. resolved i (ty_view y) ∷ zs) (resolved_all-suc i xs k x (omega arith) e)

pub resolved_all-more : (i : List ℕ) (xs : List TypeExpression) (k : ℕ) (x : TypeExpression) → k < length xs → x ≡ get_or xs k x
    → resolved_all i (tys_of (map ty_view (take (k + 1) xs))) ≡ resolved_all i (tys_of (map ty_view (take k xs))) ++ resolved i (ty_view x) ∷ []
resolved_all-more i xs k x l e = let same : k + 1 ≡ suc k = omega arith in rw same (resolved_all-suc i xs k x l e)

pub all_named-at : (P : List ℕ → Type 0) (xs : List TypeExpression) (k : ℕ) (x : TypeExpression) → All P (named_all (tys_of (map ty_view xs))) → k < length xs
    → x ≡ get_or xs k x → All P (named (ty_view x))
all_named-at P [] k x h l e = absurd (omega arith)
all_named-at P (y ∷ xs) zero x h l e = subst (λ z. All P (named (ty_view z))) (sym e) (all-left P (named (ty_view y)) (named_all (tys_of (map ty_view xs))) h)
all_named-at P (y ∷ xs) (suc k) x h l e = all_named-at P xs k x (all-right P (named (ty_view y)) (named_all (tys_of (map ty_view xs))) h) (omega arith) e

abbrev labelled : List ℕ → Tree → Labelled
labelled n t = record { name = n; tree = t }

abbrev chosen : List ℕ → Option Tree → Choice
chosen n t = record { name = n; payload = t }

pub labelled-same : (n m : List ℕ) (t u : Tree) → n ≡ m → t ≡ u → labelled n t ≡ labelled m u
labelled-same n m t u e h = rw (e, h) refl

pub choice-same : (n m : List ℕ) (t u : Option Tree) → n ≡ m → t ≡ u → chosen n t ≡ chosen m u
choice-same n m t u e h = rw (e, h) refl

-- ---- bodies of definitions

pub lowers-record : (a b : Table) (fs : List Field) (ls : List Labelled) → LowersEach field_typed read_field unnamed_field a b fs ls
    → LowersKind a b (kind.Record fs) (IsType (RecordTree Plain (fields_of_labelled ls)))
lowers-record a b fs ls l = record {
  extends = l.extends;
  typed = l.within;
  means = ap (λ (gs : TreeFields). IsType (RecordTree Plain gs)) (fields-read (table_trees b) fs ∙ ap fields_of_labelled l.reads);
  names = refl;
}

pub lowers-variant : (a b : Table) (cs : List Case) (ls : List Choice) → LowersEach case_typed read_case unnamed_case a b cs ls
    → LowersKind a b (kind.Variant cs) (IsType (VariantTree Plain (choices_of ls)))
lowers-variant a b cs ls l = record {
  extends = l.extends;
  typed = l.within;
  means = ap (λ (ds : Choices). IsType (VariantTree Plain ds)) (cases-read (table_trees b) cs ∙ ap choices_of l.reads);
  names = refl;
}

pub known-by : (s : KnownTypes) (t u : Ty) → t ≡ u → KnowsNames s (named t) → KnowsNames s (named u)
known-by s t u e h = subst (λ (x : Ty). KnowsNames s (named x)) e h

pub inner-by : (a b : Table) (k : TypeDefKind) (i : List ℕ) (t u : Ty) → t ≡ u → LowersInner a b k (resolved i u) → LowersInner a b k (resolved i t)
inner-by a b k i t u e l = subst (λ (x : Ty). LowersInner a b k (resolved i x)) (sym e) l

pub ruleset lowering = (scope-later)
