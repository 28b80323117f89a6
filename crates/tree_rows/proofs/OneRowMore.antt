-- A table with a row more.
use Rattle.std.proofs.Common.{◌≡◌, ℕ, suc, ◌+◌, Bool, true, false, cond, IsTrue, List, [], ◌∷◌, ◌++◌, length, slice_get, Option, Some, refl, ap, sym, subst, ◌∙◌, arith, append_assoc, append-nil}
use Rattle.std.proofs.lemmas.List.{get_or_at}
use Rattle.tables.specs.Tables.{is_type, is_there, type_of, definition_all, definition_below, are_earlier, name_types}
use Rattle.tables.specs.Package.{Tree, TextTree, NamedDefinition, Meaning, IsUse, IsType, IsFunction, references, reference, definitions_from, definition_of, read_kind, meaning_of}
use Rattle.package_form.specs.Postfix.{Leaves, inner, unnamed, is_inner, is_unnamed, is_unnamed_row, one_if, inner_row}
use Rattle.package_form.specs.Ids.{is_world_function, places_where}
use Rattle.package_form.specs.Entries.{Table}
use Rattle.tree_meaning.specs.Building.{world_functions, table_trees, table_definitions, IsTableFront, AddsDefinitions, TreeStands, LowersInner, is_expressed, LowersType}
use Rattle.tables.specs.declared.tables.ValType.{ValType}
use Rattle.tables.specs.declared.tables.ValType.TheVariants as val
use Rattle.tables.specs.declared.tables.TypeId.{TypeId}
use Rattle.tables.specs.declared.tables.TypeDefKind.{TypeDefKind}
use Rattle.tables.specs.declared.tables.TypeDefKind.TheVariants as kind
use Rattle.tables.specs.declared.tables.Definition.{Definition}
use Rattle.tables.proofs.ClosedTypesRowByRow.{split, both}
use Rattle.tables.proofs.HasStandardTypes.{type-below}
use Rattle.tree_meaning.proofs.TypesStayTypes.{definition-grows, names-later}
use Rattle.tree_rows.proofs.IdsAndTypeEntries.{places-end}
use Rattle.tree_meaning.proofs.MoreRowsReadTheSame.{trees-length, trees-more, typed-stays, read_val-same, get-end, front-none, front-trans, definitions-append}

pub stands-later : (old new : Table) (v : ValType) (tree : Tree) → IsTableFront old new → TreeStands old v tree → TreeStands new v tree
stands-later old new v tree x s = record {
  typed = typed-stays old new x v s.typed;
  reads = read_val-same old new x v s.typed ∙ s.reads;
}

pub adds-none : (t : Table) → AddsDefinitions t t []
adds-none t = record { front = front-none t; own = refl; definitions = sym (append-nil (table_definitions t)); postfix = λ h. h }

pub adds-trans : (a b c : Table) (ds es : List NamedDefinition) → AddsDefinitions a b ds → AddsDefinitions b c es → AddsDefinitions a c (ds ++ es)
adds-trans a b c ds es x y = record {
  front = front-trans a b c x.front y.front;
  own = y.own ∙ x.own;
  definitions = y.definitions ∙ ap (λ zs. zs ++ es) x.definitions ∙ append_assoc (table_definitions a) ds es;
  postfix = λ h. y.postfix (x.postfix h);
}

pub definitions-more : (old new : Table) (d : Definition) → new.interfaces ≡ old.interfaces → new.rows ≡ old.rows ++ d ∷ []
    → table_definitions new ≡ table_definitions old ++ definition_of old.interfaces (table_trees old) d
unfolding table_definitions table_trees
definitions-more old new d is rows =
    rw (is, rows) (definitions-append old.interfaces [] old.rows (d ∷ [])
    ∙ ap (λ zs. definitions_from old.interfaces [] old.rows ++ zs) (append-nil (definition_of old.interfaces (references old.interfaces [] old.rows) d)))

-- ---- one row more

-- the table with one more row
abbrev pub With : Table → Definition → Table → Type 0
With old d new = new ≡ record { interfaces = old.interfaces; worlds = old.worlds; rows = old.rows ++ d ∷ [] }

earlier-more : (n : ℕ) (ds : List Definition) (d : Definition) → IsTrue (are_earlier n ds) → definition_below (n + length ds) d ≡ true → IsTrue (are_earlier n (ds ++ d ∷ []))
earlier-more n [] d h b = let e : n + 0 ≡ n = omega arith in both (definition_below n d) true (rw e at b) refl
earlier-more n (e ∷ ds) d h b =
    let hs = split (definition_below n e) (are_earlier (n + 1) ds) h in
    let same : n + suc (length ds) ≡ n + 1 + length ds = omega arith in
    both (definition_below n e) (are_earlier (n + 1) (ds ++ d ∷ [])) hs.0 (earlier-more (n + 1) ds d hs.1 (rw same at b))

module _ (old new : Table) (d : Definition) (is : With old d new) where
  pub with-rows : new.rows ≡ old.rows ++ d ∷ []
  with-rows = ap (λ (t : Table). t.rows) is

  pub with-names : new.interfaces ≡ old.interfaces
  with-names = ap (λ (t : Table). t.interfaces) is

  pub with-front : definition_all (is_type old.rows) d ≡ true → IsTableFront old new
  with-front typed =
      let zero_plus : 0 + length old.rows ≡ length old.rows = omega arith in
      let below : definition_below (length old.rows) d ≡ true = definition-grows _ _ (type-below old.rows) d typed in
      record {
        interfaces = with-names;
        rows = (d ∷ [], with-rows);
        earlier = λ h. subst (λ (ds : List Definition). IsTrue (are_earlier 0 ds)) (sym with-rows) (earlier-more 0 old.rows d h (rw zero_plus below));
        typed = λ h. subst (λ (ds : List Definition). IsTrue (name_types ds)) (sym with-rows) (names-later old.rows d h typed);
      }

  pub with-functions : world_functions new ≡ world_functions old ++ cond (is_world_function d) (length old.rows ∷ []) []
  with-functions =
      let same : 0 + length old.rows ≡ length old.rows = omega arith in
      ap (places_where is_world_function 0) with-rows ∙ places-end is_world_function 0 old.rows d
      ∙ ap (λ (n : ℕ). places_where is_world_function 0 old.rows ++ cond (is_world_function d) (n ∷ []) []) same

  -- a row that is no function of a world
  pub with-own : is_world_function d ≡ false → world_functions new ≡ world_functions old
  with-own other =
      with-functions ∙ ap (λ (b : Bool). world_functions old ++ cond b (length old.rows ∷ []) []) other ∙ append-nil (world_functions old)

  pub with-definitions : table_definitions new ≡ table_definitions old ++ definition_of old.interfaces (table_trees old) d
  with-definitions = definitions-more old new d with-names with-rows

  pub with-stands : (id : TypeId) → id.0 ≡ length old.rows → is_there (type_of (Some d)) ≡ true → TreeStands new (val.Id id) (reference old.interfaces (table_trees old) d)
  with-stands id at type = record {
    typed = ap (λ (o : Option Definition). is_there (type_of o)) (ap (λ (ds : List Definition). slice_get ds id.0) with-rows ∙ get-end old.rows d id.0 at) ∙ type;
    reads = rw (trees-more old new (d ∷ []) with-names with-rows) (get_or_at (table_trees old) (reference old.interfaces (table_trees old) d) [] TextTree id.0 (omega (arith, trees-length old)));
  }

  pub with-unnamed : (id : TypeId) → id.0 ≡ length old.rows → unnamed new.rows (val.Id id) ≡ one_if (is_unnamed d) id.0
  with-unnamed id at = ap (λ (o : Option Definition). one_if (is_unnamed_row o) id.0) (ap (λ (ds : List Definition). slice_get ds id.0) with-rows ∙ get-end old.rows d id.0 at)

-- ---- types inside others

abbrev tree_of : Meaning → Tree
tree_of (IsUse t) = t
tree_of (IsType t) = t
tree_of (IsFunction fs result) = TextTree

inner-reads : (ts : List Tree) (k : TypeDefKind) (tree : Tree) → is_inner k ≡ true → meaning_of ts k ≡ IsType tree → read_kind ts k ≡ tree
inner-reads ts (kind.List v) tree h e = ap tree_of e
inner-reads ts (kind.Option v) tree h e = ap tree_of e
inner-reads ts (kind.Result v w) tree h e = ap tree_of e
inner-reads ts (kind.Tuple vs) tree h e = ap tree_of e
inner-reads ts (kind.Use t) tree h e = absurd (cc)
inner-reads ts (kind.Alias v) tree h e = absurd (cc)
inner-reads ts (kind.Record fs) tree h e = absurd (cc)
inner-reads ts (kind.Variant cs) tree h e = absurd (cc)
inner-reads ts (kind.Enum ns) tree h e = absurd (cc)
inner-reads ts (kind.Flags ns) tree h e = absurd (cc)

pub is-inner : (k : TypeDefKind) → ((v : ValType) → k ≡ kind.Alias v → ⊥) → IsTrue (is_expressed k) → is_inner k ≡ true
is-inner (kind.Alias v) n h = absurd (n v refl)
is-inner (kind.List v) n h = refl
is-inner (kind.Option v) n h = refl
is-inner (kind.Result v w) n h = refl
is-inner (kind.Tuple vs) n h = refl
is-inner (kind.Use t) n h = h
is-inner (kind.Record fs) n h = h
is-inner (kind.Variant cs) n h = h
is-inner (kind.Enum ns) n h = h
is-inner (kind.Flags ns) n h = h

pub inner-lowers : (first old new : Table) (k : TypeDefKind) (id : TypeId) (tree : Tree) → id.0 ≡ length old.rows → With old (inner_row k) new → is_inner k ≡ true
    → LowersInner first old k tree → LowersType first new (val.Id id) tree
inner-lowers first old new k id tree at is isinner li =
    let l = li.lowers in
    let front = with-front old new (inner_row k) is l.typed in
    let stands = with-stands old new (inner_row k) is id at refl in
    let own : unnamed new.rows (val.Id id) ≡ length old.rows ∷ [] = with-unnamed old new (inner_row k) is id at ∙ ap (λ (n : ℕ). n ∷ []) at in
    record {
      extends = record {
        front = front-trans first old new l.extends.front front;
        own = with-own old new (inner_row k) is refl ∙ l.extends.own;
        same = with-definitions old new (inner_row k) is ∙ append-nil (table_definitions old) ∙ l.extends.same;
        postfix = λ before h. subst (λ (us : List ℕ). Leaves new.rows (before ++ us)) (sym own)
            (subst (λ (ds : List Definition). Leaves ds (before ++ length old.rows ∷ [])) (sym (with-rows old new (inner_row k) is)) (inner old.rows before k isinner (l.extends.postfix before h)));
      };
      stands = record { typed = stands.typed; reads = stands.reads ∙ inner-reads (table_trees old) k tree isinner l.means };
    }
