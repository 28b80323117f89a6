-- The rows of a table whose definitions are those of its interfaces, one interface after the other.
use Rattle.std.proofs.Common.{◌≡◌, ℕ, ◌+◌, true, List, [], ◌∷◌, ◌++◌, refl, suc, ◌-◌, ◌<◌, Bool, false, cond, not, ◌==◌, nat_eq, take, length, slice_get, is_some, Option, None, Some, ap, sym, subst, ◌∙◌, arith, length-append}
use Rattle.std.specs.List.{list_all, ends_with}
use Rattle.tables.specs.declared.tables.Definition.{Definition}
use Rattle.package_form.specs.Postfix.{is_unnamed, one_if, is_unnamed_row, is_inner}
use Rattle.package_form.specs.Unused.{are_used, unnamed_at, inner_rows, can_use, closes, is_next}
use Rattle.tables.proofs.ClosedTypesRowByRow.{both, split}
use Rattle.std.specs.Prelude.{slice_index_or}
use Rattle.std.proofs.Math.Seq.{get_or-append_seam}
use Rattle.std.proofs.lemmas.List.{get_or_append_left}
use Rattle.tables.specs.Package.{Tree, TextTree, reference}
use Rattle.tables.specs.declared.tables.TypeId.{TypeId}
use Rattle.tables.specs.declared.tables.TypeDefKind.{TypeDefKind}
use Rattle.tables.specs.declared.tables.TypeName.{TypeName}
use Rattle.tables.specs.declared.tables.Definition.TheVariants as row
use Rattle.package_form.specs.References.{row_references, kind_references}
use Rattle.package_form.proofs.PostfixIsDecided.{ends, is-none}
use Rattle.tree_meaning.proofs.TableRows.{ends_named, RowsAre}
use Rattle.tree_meaning.proofs.ReferencesOfDefinitions.{Every, every-append, every-front, every-back, every-mono, every-flat, Refers, IdRefers, kind-ids}

-- a row without a name is a list, an option, a result or a tuple
abbrev pub is_inner_row : Definition → Bool
is_inner_row (row.Type d) = cond (is_some d.name) true (is_inner d.kind)
is_inner_row (row.Function f) = true

module _ (ns : List (List ℕ)) (rows : List Definition) (i : List ℕ) where
  -- what the row is made of refers to the interface of this name alone
  abbrev pub RowRefers : List Tree → Definition → Type 0
  RowRefers trees d = Every (IdRefers i trees) (row_references d)

  abbrev pub NamedRefers : List Tree → Definition → Type 0
  NamedRefers trees d = is_unnamed d ≡ false → RowRefers trees d

  abbrev PlaceRefers : List Tree → ℕ → Type 0
  PlaceRefers trees p = Refers i (slice_index_or trees p TextTree)

  abbrev IsBelow : ℕ → ℕ → Type 0
  IsBelow n p = p < n

  one-refers : (trees : List Tree) (b : Bool) (t : TypeId) → IdRefers i trees t → Every (PlaceRefers trees) (one_if b t.0)
  one-refers trees true t h = (h, tt)
  one-refers trees false t h = tt

  inner-refer : (trees : List Tree) (d : Definition) → RowRefers trees d → Every (PlaceRefers trees) (inner_rows rows d)
  inner-refer trees d h =
      every-flat (PlaceRefers trees) (unnamed_at rows) (row_references d)
      (every-mono (IdRefers i trees) (λ t. Every (PlaceRefers trees) (unnamed_at rows t)) (λ t q. one-refers trees (is_unnamed_row (slice_get rows t.0)) t q) (row_references d) h)

  kept : (trees : List Tree) (x : Tree) (ps : List ℕ) → Every (IsBelow (length trees)) ps → Every (PlaceRefers (trees ++ x ∷ [])) ps → Every (PlaceRefers trees) ps
  kept trees x [] b h = tt
  kept trees x (p ∷ ps) b h = (subst (Refers i) (get_or_append_left trees (x ∷ []) TextTree p b.0) h.0, kept trees x ps b.1 h.1)

  next-refers : (trees : List Tree) (x : Tree) (n : ℕ) → length trees ≡ n → PlaceRefers (trees ++ x ∷ []) n → Refers i x
  next-refers trees x n e h = subst (Refers i) (ap (λ (k : ℕ). slice_index_or (trees ++ x ∷ []) k TextTree) (sym e) ∙ get_or-append_seam trees x [] TextTree) h

  unnamed-row : (trees : List Tree) (o : Option TypeName) (k : TypeDefKind) → not (is_some o) ≡ true → Refers i (reference ns trees (row.Type (record { name = o; kind = k })))
      → Every (IdRefers i trees) (kind_references k)
  unnamed-row trees None k u h = kind-ids i trees k h
  unnamed-row trees (Some n) k u h = absurd (cc)

  unnamed-refers : (trees : List Tree) (d : Definition) → is_unnamed d ≡ true → Refers i (reference ns trees d) → RowRefers trees d
  unnamed-refers trees (row.Type d) u h = unnamed-row trees d.name d.kind u h
  unnamed-refers trees (row.Function f) u h = absurd (cc)

  -- a row with a name leaves none unused
  closes-all : (d : Definition) (left : ℕ) → is_unnamed d ≡ false → closes d left ≡ true → left ≡ 0
  closes-all (row.Type d) left u h = is-none left (sym (ap (λ (b : Bool). cond b (is_inner d.kind) (left == 0)) u) ∙ h)
  closes-all (row.Function f) left u h = is-none left h

  inner-closes : (d : Definition) (left : ℕ) → closes d left ≡ true → is_inner_row d ≡ true
  inner-closes (row.Type d) left h = by d.name h
    where
      by : (o : Option TypeName) → cond (not (is_some o)) (is_inner d.kind) (left == 0) ≡ true → cond (is_some o) true (is_inner d.kind) ≡ true
      by None h = h
      by (Some n) h = refl
  inner-closes (row.Function f) left h = refl

  pub record Step (n : ℕ) (unused : List ℕ) (d : Definition) (ds : List Definition) : Type 0 where
    pub rest : List ℕ
    pub parts : unused ≡ rest ++ inner_rows rows d
    pub named : is_unnamed d ≡ false → rest ≡ []
    pub inner : is_inner_row d ≡ true
    pub on : are_used rows (n + 1) (rest ++ one_if (is_unnamed d) n) ds ≡ true

  pub step : (n : ℕ) (unused : List ℕ) (d : Definition) (ds : List Definition) → are_used rows n unused (d ∷ ds) ≡ true → Step n unused d ds
  step n unused d ds h =
      let s = split (is_next unused (inner_rows rows d) d) _ h in
      let a = split (can_use d (inner_rows rows d)) _ s.0 in
      let b = split (ends_with nat_eq unused (inner_rows rows d)) _ a.1 in
      record {
        rest = take (length unused - length (inner_rows rows d)) unused;
        parts = ends unused (inner_rows rows d) b.0;
        named = λ u. ap (λ (k : ℕ). take k unused) (closes-all d (length unused - length (inner_rows rows d)) u b.1);
        inner = inner-closes d (length unused - length (inner_rows rows d)) b.1;
        on = s.1;
      }

  -- What rows behind unused ones say of them, up to a row with a name.
  pub record Walked (trees : List Tree) (n : ℕ) (unused : List ℕ) (S T : List Definition) : Type 0 where
    pub before : Every (PlaceRefers trees) unused
    pub each : RowsAre ns RowRefers trees S
    pub on : are_used rows (n + length S) [] T ≡ true

  below-more : (n : ℕ) (ps : List ℕ) → Every (IsBelow n) ps → Every (IsBelow (n + 1)) ps
  below-more n ps h = every-mono (IsBelow n) (IsBelow (n + 1)) (λ p q. omega (arith, q)) ps h

  no-unused : (n : ℕ) (d : Definition) (rest : List ℕ) → is_unnamed d ≡ false → rest ≡ [] → rest ++ one_if (is_unnamed d) n ≡ []
  no-unused n d rest u e = ap (λ (xs : List ℕ). xs ++ one_if (is_unnamed d) n) e ∙ ap (λ (b : Bool). one_if b n) u

  longer : (n k : ℕ) → n + 1 + k ≡ n + suc k
  longer n k = omega arith

  grown : (trees : List Tree) (x : Tree) (n : ℕ) → length trees ≡ n → length (trees ++ x ∷ []) ≡ n + 1
  grown trees x n e = length-append trees (x ∷ []) ∙ ap (λ (k : ℕ). k + 1) e

  -- a row with a name, in front of others
  named-walked : (trees : List Tree) (n : ℕ) (unused : List ℕ) (d : Definition) (S T : List Definition) → Step n unused d (S ++ T) → is_unnamed d ≡ false
      → NamedRefers trees d → Walked (trees ++ reference ns trees d ∷ []) (n + 1) [] S T → Walked trees n unused (d ∷ S) T
  named-walked trees n unused d S T s u h later =
      let refers = h u in
      let all : unused ≡ inner_rows rows d = s.parts ∙ ap (λ (xs : List ℕ). xs ++ inner_rows rows d) (s.named u) in
      record {
        before = subst (Every (PlaceRefers trees)) (sym all) (inner-refer trees d refers);
        each = (refers, later.each);
        on = subst (λ (k : ℕ). are_used rows k [] T ≡ true) (longer n (length S)) later.on;
      }

  -- a row without a name, in front of others
  unnamed-walked : (trees : List Tree) (n : ℕ) (unused : List ℕ) (d : Definition) (S T : List Definition) → length trees ≡ n → (s : Step n unused d (S ++ T)) → is_unnamed d ≡ true
      → Every (IsBelow n) s.rest → Walked (trees ++ reference ns trees d ∷ []) (n + 1) (s.rest ++ n ∷ []) S T → Walked trees n unused (d ∷ S) T
  unnamed-walked trees n unused d S T len s u early later =
      let x = reference ns trees d in
      let here = unnamed-refers trees d u (next-refers trees x n len (every-back (PlaceRefers (trees ++ x ∷ [])) s.rest (n ∷ []) later.before).0) in
      let first = kept trees x s.rest (subst (λ (k : ℕ). Every (IsBelow k) s.rest) (sym len) early) (every-front (PlaceRefers (trees ++ x ∷ [])) s.rest (n ∷ []) later.before) in
      record {
        before = subst (Every (PlaceRefers trees)) (sym s.parts) (every-append (PlaceRefers trees) s.rest (inner_rows rows d) first (inner-refer trees d here));
        each = (here, later.each);
        on = subst (λ (k : ℕ). are_used rows k [] T ≡ true) (longer n (length S)) later.on;
      }

  nothing-walked : (trees : List Tree) (n : ℕ) (T : List Definition) → are_used rows n [] T ≡ true → Walked trees n [] [] T
  nothing-walked trees n T used = record { before = tt; each = tt; on = subst (λ (k : ℕ). are_used rows k [] T ≡ true) (omega arith) used }

  named-on : (n : ℕ) (unused : List ℕ) (d : Definition) (ds : List Definition) → (s : Step n unused d ds) → is_unnamed d ≡ false → are_used rows (n + 1) [] ds ≡ true
  named-on n unused d ds s u = subst (λ (ps : List ℕ). are_used rows (n + 1) ps ds ≡ true) (no-unused n d s.rest u (s.named u)) s.on

  -- Walked up to its end, each row of S refers to the interface alone.
  pub walk : (trees : List Tree) (n : ℕ) (unused : List ℕ) (d : Definition) (S T : List Definition) → length trees ≡ n → Every (IsBelow n) unused
      → are_used rows n unused (d ∷ S ++ T) ≡ true → ends_named (d ∷ S) ≡ true → RowsAre ns NamedRefers trees (d ∷ S) → Walked trees n unused (d ∷ S) T
  walk trees n unused d [] T len below used end h = by (is_unnamed d) refl
    where
      by : (b : Bool) → is_unnamed d ≡ b → Walked trees n unused (d ∷ []) T
      by false u =
          let s = step n unused d T used in
          named-walked trees n unused d [] T s u h.0 (nothing-walked (trees ++ reference ns trees d ∷ []) (n + 1) T (named-on n unused d T s u))
      by true u = absurd (let q : not true ≡ true = sym (ap not u) ∙ end in cc)
  walk trees n unused d (e ∷ S) T len below used end h =
      by (λ unused' b q. walk (trees ++ reference ns trees d ∷ []) (n + 1) unused' e S T (grown trees (reference ns trees d) n len) b q end h.1) (is_unnamed d) refl
    where
      by : ((unused' : List ℕ) → Every (IsBelow (n + 1)) unused' → are_used rows (n + 1) unused' (e ∷ S ++ T) ≡ true
          → Walked (trees ++ reference ns trees d ∷ []) (n + 1) unused' (e ∷ S) T) → (b : Bool) → is_unnamed d ≡ b → Walked trees n unused (d ∷ e ∷ S) T
      by again false u =
          let s = step n unused d (e ∷ S ++ T) used in
          named-walked trees n unused d (e ∷ S) T s u h.0 (again [] tt (named-on n unused d (e ∷ S ++ T) s u))
      by again true u =
          let s = step n unused d (e ∷ S ++ T) used in
          let mine : s.rest ++ one_if (is_unnamed d) n ≡ s.rest ++ n ∷ [] = ap (λ (b : Bool). s.rest ++ one_if b n) u in
          let early = every-front (IsBelow n) s.rest (inner_rows rows d) (subst (Every (IsBelow n)) s.parts below) in
          unnamed-walked trees n unused d (e ∷ S) T len s u early
          (again (s.rest ++ n ∷ []) (every-append (IsBelow (n + 1)) s.rest (n ∷ []) (below-more n s.rest early) (omega arith, tt))
          (subst (λ (ps : List ℕ). are_used rows (n + 1) ps (e ∷ S ++ T) ≡ true) mine s.on))

  pub walk-none : (trees : List Tree) (n : ℕ) (S T : List Definition) → length trees ≡ n
      → are_used rows n [] (S ++ T) ≡ true → ends_named S ≡ true → RowsAre ns NamedRefers trees S → Walked trees n [] S T
  walk-none trees n [] T len used end h = nothing-walked trees n T used
  walk-none trees n (d ∷ S) T len used end h = walk trees n [] d S T len tt used end h

pub used-inner : (rows : List Definition) (n : ℕ) (unused : List ℕ) (ds : List Definition) → are_used rows n unused ds ≡ true → list_all is_inner_row ds ≡ true
used-inner rows n unused [] h = refl
used-inner rows n unused (d ∷ ds) h =
    let s = step [] rows [] n unused d ds h in
    both (is_inner_row d) (list_all is_inner_row ds) s.inner (used-inner rows (n + 1) (s.rest ++ one_if (is_unnamed d) n) ds s.on)
