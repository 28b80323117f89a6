-- What is written of an accepted type spells it: imports, exports, declarations and scopes.
use Rattle.std.proofs.Common.{◌≡◌, ℕ, zero, suc, ◌+◌, ◌<◌, ◌≤◌, Bool, true, false, List, [], ◌∷◌, ◌++◌, length, None, refl, sym, ap, subst, arith}
use Rattle.std.specs.Prelude.{◌||◌, ◌==◌, nat_le, if◌then◌else◌}
use Rattle.std.proofs.lemmas.Bool.{le-leb, lt-leb, ne_eqb}
use Rattle.atoms.specs.Production.{give, ◌>>=◌, when, run}
use Rattle.ctype_format.specs.declared.error.Fault.TheVariants.{UnknownOpcode, BadIndex}
use Rattle.ctype_format.specs.declared.raw.RawAlias.{RawAlias}
use Rattle.ctype_format.specs.declared.raw.RawAlias.TheVariants as aliases
use Rattle.ctype_format.specs.declared.raw.RawDescription.{RawDescription}
use Rattle.ctype_format.specs.declared.raw.RawDescription.TheVariants as descriptions
use Rattle.ctype_format.specs.declared.opcode.Opcode.{Opcode}
use Rattle.ctype_format.specs.declared.opcode.Opcode.TheVariants as op
use Rattle.ctype_format.specs.declared.scope.Scope.{Scope}
use Rattle.ctype_format.specs.Bytes.{byte, only_bytes, unless, u32}
use Rattle.ctype_format.specs.Grammar as g
use Rattle.ctype_format.specs.View.{decls_of}
use Rattle.ctype_format.specs.Raw.{Define, Func, Component, Instance, Decl, Entry, Alias, Import, Export, Decls, none, TypeEntry}
use Rattle.ctype_format.specs.Raw as raw
use Rattle.ctype_format.specs.Writing.{u32_bytes, name_bytes, extern_bytes, description_bytes, alias_bytes, decl_count, type_bytes, decl_bytes, decls_bytes}
use Rattle.ctype_format.specs.Formed.{FitsU32, FormedAlias, FormedDescription, FormedName, FormedType, FormedDecl, FormedDecls}
use Rattle.ctype_bin.specs.InRange.{DescriptionInRange, AliasInRange, described_types, instances_with, types_behind, instances_behind, TypeInRange, DeclInRange, DeclsInRange}
use Rattle.ctype_bin.specs.Accepted.{AllowedType, AllowedDecl, AllowedDecls, description_entries, entries_of_type, entries_of_decl, entries_of_decls}
use Rattle.ctype_bin.proofs.RewrittenIsSpelt.Types.{opcode_byte}
use Rattle.ctype_bin.proofs.RereadAsWritten.Declarations.{alias_back, alias_front, target}
use Rattle.ctype_bin.proofs.AcceptedIsSpelt.ValueTypes.{Spelt, spelt-next, spelt-give, spelt-gives, spelt-only, spelt-byte, spelt-u32, spelt-index, spelt-zero, spelt-label, spelt-extern}
use Rattle.ctype_bin.proofs.AcceptedIsSpelt.Types.{spelt-opcode, spelt-defined, spelt-function}

-- ---- the scope behind a declaration

abbrev scope_with : Scope → RawDescription → Scope
scope_with scope d = record { types = described_types scope.types d; instances = instances_with scope.instances d; entries = scope.entries + description_entries d }

abbrev scope_behind : Scope → Decl → Scope
scope_behind scope d = record { types = types_behind scope.types d; instances = instances_behind scope.instances d; entries = scope.entries + entries_of_decl d }

abbrev scopes_behind : Scope → Decls → Scope
scopes_behind scope none = scope
scopes_behind scope (raw.then d ds) = scopes_behind (scope_behind scope d) ds

entries_behind : (scope : Scope) (ds : Decls) → (scopes_behind scope ds).entries ≡ scope.entries + entries_of_decls ds
unfolding entries_of_decls
entries_behind scope none = omega arith
entries_behind scope (raw.then d ds) = let ih = entries_behind (scope_behind scope d) ds in omega (arith, ih)

abbrev list_of : Decls → List Decl
list_of none = []
list_of (raw.then d ds) = d ∷ list_of ds

list_back : (ds : Decls) → decls_of (list_of ds) ≡ ds
list_back none = refl
list_back (raw.then d ds) = ap (raw.then d) (list_back ds)

-- ---- aliases

aliased : (around : List ℕ) (scope : Scope) (t : ℕ) (back : List ℕ) (a : RawAlias) → (t == 0 || t == 2) ≡ true → Spelt (when (t == 0) (g.instance_alias scope) (g.outer_type around scope)) back a → Spelt (target around scope) (t ∷ back) (Alias a, g.with_type scope)
aliased around scope t back a is h = spelt-next (only_bytes byte (λ b. unless (b == 0 || b == 2) (UnknownOpcode b))) _ (t ∷ []) back t (Alias a, g.with_type scope)
    (spelt-only byte (λ b. unless (b == 0 || b == 2) (UnknownOpcode b)) (t ∷ []) t (spelt-byte t) (rw is refl))
    (spelt-gives (when (t == 0) (g.instance_alias scope) (g.outer_type around scope)) (λ a. (Alias a, g.with_type scope)) back a h)

targets : (around : List ℕ) (scope : Scope) (a : RawAlias) → FormedAlias a → AliasInRange around scope.types scope.instances a → Spelt (target around scope) (alias_back a) (Alias a, g.with_type scope)
unfolding g.instance_alias g.outer_type
targets around scope (aliases.InstanceExport i text) formed ranged = aliased around scope 0 (u32_bytes i ++ name_bytes text) (aliases.InstanceExport i text) refl
    (spelt-next (g.index scope.instances) _ (u32_bytes i) (name_bytes text) i (aliases.InstanceExport i text) (spelt-index scope.instances i formed.0 ranged)
    (spelt-gives g.label (λ text. aliases.InstanceExport i text) (name_bytes text) text (spelt-label text formed.1)))
targets around scope (aliases.Outer n i) formed ranged = aliased around scope 2 (u32_bytes n ++ u32_bytes i) (aliases.Outer n i) refl
    (spelt-next (only_bytes u32 (λ n. unless (nat_le n (length around)) BadIndex)) _ (u32_bytes n) (u32_bytes i) n (aliases.Outer n i)
    (spelt-only u32 (λ n. unless (nat_le n (length around)) BadIndex) (u32_bytes n) n (spelt-u32 n formed.0) (rw (le-leb n (length around) ranged.0) refl))
    (spelt-gives (g.index (g.types_at around scope.types n)) (λ i. aliases.Outer n i) (u32_bytes i) i (spelt-index (g.types_at around scope.types n) i formed.1 ranged.1)))

entry_passed : (entries : ℕ) → entries < g.max_entries → g.opcode_entry_fault entries true 3 ≡ None
entry_passed entries room = let full : g.is_full entries ≡ false = lt-leb g.max_entries entries room in rw full refl

spelt-alias : (around : List ℕ) (scope : Scope) (a : RawAlias) → FormedAlias a → AliasInRange around scope.types scope.instances a → scope.entries < g.max_entries → Spelt (g.alias_entry around scope) (alias_bytes a) (Alias a, g.with_type scope)
unfolding g.alias_entry
spelt-alias around scope a formed ranged room = subst (λ (l : List ℕ). Spelt (g.alias_entry around scope) l (Alias a, g.with_type scope)) (sym (alias_front a))
    (spelt-next (only_bytes byte (λ b. g.opcode_entry_fault scope.entries (b == 3) b)) _ (3 ∷ []) (alias_back a) 3 (Alias a, g.with_type scope)
    (spelt-only byte (λ b. g.opcode_entry_fault scope.entries (b == 3) b) (3 ∷ []) 3 (spelt-byte 3) (entry_passed scope.entries room))
    (targets around scope a formed ranged))

-- ---- descriptions

-- a description that brings no type entry
spelt-indexed : (scope after : Scope) (sort i : ℕ) (d : RawDescription) → g.described scope sort i ≡ (d, after) → g.description_fault scope.entries sort ≡ None → (sort == 3) ≡ false → FitsU32 i → i < scope.types
    → Spelt (g.description scope) (sort ∷ u32_bytes i) (d, record { types = after.types; instances = after.instances; entries = after.entries + 0 })
unfolding g.description
spelt-indexed scope after sort i d is passed other fits lt =
    let none : after.entries ≡ after.entries + 0 = omega arith in
    let s : Spelt (when (sort == 3) (g.equal_type scope) (g.indexed scope sort)) (u32_bytes i) (d, after) = rw other (subst (λ (y : RawDescription × Scope). Spelt (g.indexed scope sort) (u32_bytes i) y) is (spelt-gives (g.index scope.types) (λ i. g.described scope sort i) (u32_bytes i) i (spelt-index scope.types i fits lt))) in
    subst (λ (n : ℕ). Spelt (g.description scope) (sort ∷ u32_bytes i) (d, record { types = after.types; instances = after.instances; entries = n })) none
    (spelt-next (only_bytes byte (g.description_fault scope.entries)) _ (sort ∷ []) (u32_bytes i) sort (d, after) (spelt-only byte (g.description_fault scope.entries) (sort ∷ []) sort (spelt-byte sort) passed) s)

spelt-description : (scope : Scope) (d : RawDescription) → FormedDescription d → DescriptionInRange scope.types d → scope.entries + description_entries d ≤ g.max_entries → Spelt (g.description scope) (description_bytes d) (d, scope_with scope d)
unfolding g.description
spelt-description scope (descriptions.Function i) formed ranged room = spelt-indexed scope scope 1 i (descriptions.Function i) refl refl refl formed ranged
spelt-description scope (descriptions.TypeEqual i) formed ranged room = spelt-next (only_bytes byte (g.description_fault scope.entries)) _ (3 ∷ []) (0 ∷ u32_bytes i) 3 (descriptions.TypeEqual i, g.with_type scope)
    (spelt-only byte (g.description_fault scope.entries) (3 ∷ []) 3 (spelt-byte 3) (entry_passed scope.entries (omega (arith, room))))
    (spelt-next g.zero_byte _ (0 ∷ []) (u32_bytes i) 0 (descriptions.TypeEqual i, g.with_type scope) spelt-zero
    (spelt-gives (g.index scope.types) (λ i. (descriptions.TypeEqual i, g.with_type scope)) (u32_bytes i) i (spelt-index scope.types i formed ranged)))
spelt-description scope (descriptions.Component i) formed ranged room = spelt-indexed scope scope 4 i (descriptions.Component i) refl refl refl formed ranged
spelt-description scope (descriptions.Instance i) formed ranged room = spelt-indexed scope (g.with_instance scope) 5 i (descriptions.Instance i) refl refl refl formed ranged

spelt-external : (scope : Scope) (sort : ℕ) (text : List ℕ) (d : RawDescription) (whole : Decl) → (if sort == 3 then Import text d else Export text d) ≡ whole → FormedName text × FormedDescription d → DescriptionInRange scope.types d → scope.entries + description_entries d ≤ g.max_entries
    → Spelt (g.external scope sort) (extern_bytes text ++ description_bytes d) (whole, scope_with scope d)
unfolding g.external
spelt-external scope sort text d whole is formed ranged room = subst (λ (v : Decl). Spelt (g.external scope sort) (extern_bytes text ++ description_bytes d) (v, scope_with scope d)) is
    (spelt-next g.extern_name _ (extern_bytes text) (description_bytes d) text (if sort == 3 then Import text d else Export text d, scope_with scope d) (spelt-extern text formed.0)
    (spelt-gives (g.description scope) (λ e. (if sort == 3 then Import text e.0 else Export text e.0, e.1)) (description_bytes d) (d, scope_with scope d) (spelt-description scope d formed.1 ranged room)))

-- ---- declarations

sorted : (t : g.Reader) (component : Bool) (around : List ℕ) (scope : Scope) (sort : ℕ) (back : List ℕ) (y : Decl × Scope) → g.is_decl component sort ≡ true → Spelt (when (sort == 1) (g.definition_entry t around scope) (when (sort == 2) (g.alias_entry around scope) (g.external scope sort))) back y → Spelt (g.decl t component around scope) (sort ∷ back) y
unfolding g.decl
sorted t component around scope sort back y is h = spelt-next (only_bytes byte (λ b. unless (g.is_decl component b) (UnknownOpcode b))) _ (sort ∷ []) back sort y
    (spelt-only byte (λ b. unless (g.is_decl component b) (UnknownOpcode b)) (sort ∷ []) sort (spelt-byte sort) (rw is refl)) h

import_passed : (component : Bool) → component ≡ true → g.is_decl component 3 ≡ true
import_passed component is = rw is refl

-- ---- scopes

abbrev SpeltDecls : ℕ → Bool → Decls → List ℕ → Scope → Type 0
SpeltDecls depth component ds around scope = Spelt (run (g.decl (g.type depth) component around) (decl_count ds) scope) (decls_bytes ds) (list_of ds, scopes_behind scope ds)

-- a type with a scope of its own
spelt-nested : (depth : ℕ) (around : List ℕ) (scope : Scope) (o : Opcode) (ds : Decls) (d : TypeEntry) → g.is_nested o ≡ true → g.nested o (list_of ds) ≡ d → FitsU32 (decl_count ds) → scope.entries + (1 + entries_of_decls ds) ≤ g.max_entries → SpeltDecls depth (g.is_component o) ds (around ++ scope.types ∷ []) (g.new_scope (scope.entries + 1))
    → Spelt (g.type (suc depth) around scope) (opcode_byte o ∷ (u32_bytes (decl_count ds) ++ decls_bytes ds)) (d, scope.entries + (1 + entries_of_decls ds))
unfolding g.type g.scope_of
spelt-nested depth around scope o ds d nested same fits room all =
    let one : (suc depth == 0) ≡ false = ne_eqb (suc depth) 0 (λ e. omega (arith, e)) in
    let total : (scopes_behind (g.new_scope (scope.entries + 1)) ds).entries ≡ scope.entries + (1 + entries_of_decls ds) = let e = entries_behind (g.new_scope (scope.entries + 1)) ds in omega (arith, e) in
    let s : Spelt (g.scope_of (g.type depth) o (around ++ scope.types ∷ []) (scope.entries + 1)) (u32_bytes (decl_count ds) ++ decls_bytes ds) (g.nested o (list_of ds), (scopes_behind (g.new_scope (scope.entries + 1)) ds).entries) =
    spelt-next u32 _ (u32_bytes (decl_count ds)) (decls_bytes ds) (decl_count ds) (g.nested o (list_of ds), (scopes_behind (g.new_scope (scope.entries + 1)) ds).entries) (spelt-u32 (decl_count ds) fits)
    (spelt-gives (run (g.decl (g.type depth) (g.is_component o) (around ++ scope.types ∷ [])) (decl_count ds) (g.new_scope (scope.entries + 1))) (λ y. (g.nested o y.0, y.1.entries)) (decls_bytes ds) (list_of ds, scopes_behind (g.new_scope (scope.entries + 1)) ds) all) in
    spelt-next (g.opcode (suc depth) scope.entries) _ (opcode_byte o ∷ []) (u32_bytes (decl_count ds) ++ decls_bytes ds) o (d, scope.entries + (1 + entries_of_decls ds)) (spelt-opcode (suc depth) scope.entries o (omega (arith, room)) (rw (nested, one) refl))
    (subst (λ (b : Bool). Spelt (when b (g.scope_of (g.type depth) o (around ++ scope.types ∷ []) (scope.entries + 1)) (g.plain_type scope o)) (u32_bytes (decl_count ds) ++ decls_bytes ds) (d, scope.entries + (1 + entries_of_decls ds))) (sym nested)
    (rw (same, total) at s))

mutual
  unfolding type_bytes FormedType TypeInRange AllowedType entries_of_type run

  pub spelt-type : (d : TypeEntry) (depth : ℕ) (around : List ℕ) (scope : Scope) → FormedType d → TypeInRange around scope.types d → AllowedType depth d → scope.entries + entries_of_type d ≤ g.max_entries → Spelt (g.type depth around scope) (type_bytes d) (d, scope.entries + entries_of_type d)
  spelt-type (Define d) depth around scope formed ranged allowed room = spelt-defined depth around scope (omega (arith, room)) d formed ranged allowed
  spelt-type (Func f) depth around scope formed ranged allowed room = spelt-function depth around scope (omega (arith, room)) f formed ranged
  spelt-type (Component ds) zero around scope formed ranged allowed room = absurd allowed
  spelt-type (Component ds) (suc depth) around scope formed ranged allowed room = spelt-nested depth around scope op.Component ds (Component ds) refl (ap Component (list_back ds)) formed.0 room
      (spelt-decls ds depth true (around ++ scope.types ∷ []) (g.new_scope (scope.entries + 1)) formed.1 ranged allowed (omega (arith, room)))
  spelt-type (Instance ds) zero around scope formed ranged allowed room = absurd allowed
  spelt-type (Instance ds) (suc depth) around scope formed ranged allowed room = spelt-nested depth around scope op.Instance ds (Instance ds) refl (ap Instance (list_back ds)) formed.0 room
      (spelt-decls ds depth false (around ++ scope.types ∷ []) (g.new_scope (scope.entries + 1)) formed.1 ranged allowed (omega (arith, room)))

  spelt-decl : (d : Decl) (depth : ℕ) (component : Bool) (around : List ℕ) (scope : Scope) → FormedDecl d → DeclInRange around scope.types scope.instances d → AllowedDecl depth component d → scope.entries + entries_of_decl d ≤ g.max_entries
      → Spelt (g.decl (g.type depth) component around scope) (decl_bytes d) (d, scope_behind scope d)
  spelt-decl (Entry t) depth component around scope formed ranged allowed room = sorted (g.type depth) component around scope 1 (type_bytes t) (Entry t, scope_behind scope (Entry t)) refl
      (spelt-gives (g.type depth around scope) (λ x. (Entry x.0, g.with_entries scope x.1)) (type_bytes t) (t, scope.entries + entries_of_type t) (spelt-type t depth around scope formed ranged allowed room))
  spelt-decl (Alias a) depth component around scope formed ranged allowed room = sorted (g.type depth) component around scope 2 (alias_bytes a) (Alias a, scope_behind scope (Alias a)) refl (spelt-alias around scope a formed ranged (omega (arith, room)))
  spelt-decl (Import text d) depth component around scope formed ranged allowed room = sorted (g.type depth) component around scope 3 (extern_bytes text ++ description_bytes d) (Import text d, scope_behind scope (Import text d)) (import_passed component allowed) (spelt-external scope 3 text d (Import text d) refl formed ranged room)
  spelt-decl (Export text d) depth component around scope formed ranged allowed room = sorted (g.type depth) component around scope 4 (extern_bytes text ++ description_bytes d) (Export text d, scope_behind scope (Export text d)) refl (spelt-external scope 4 text d (Export text d) refl formed ranged room)

  spelt-decls : (ds : Decls) (depth : ℕ) (component : Bool) (around : List ℕ) (scope : Scope) → FormedDecls ds → DeclsInRange around scope.types scope.instances ds → AllowedDecls depth component ds → scope.entries + entries_of_decls ds ≤ g.max_entries → SpeltDecls depth component ds around scope
  spelt-decls none depth component around scope formed ranged allowed room = spelt-give ([], scope)
  spelt-decls (raw.then d ds) depth component around scope formed ranged allowed room = spelt-next (g.decl (g.type depth) component around scope) (λ first. run (g.decl (g.type depth) component around) (decl_count ds) first.1 >>= λ others. give (first.0 ∷ others.0, others.1)) (decl_bytes d) (decls_bytes ds) (d, scope_behind scope d) (d ∷ list_of ds, scopes_behind (scope_behind scope d) ds)
      (spelt-decl d depth component around scope formed.0 ranged.0 allowed.0 (omega (arith, room)))
      (spelt-gives (run (g.decl (g.type depth) component around) (decl_count ds) (scope_behind scope d)) (λ others. (d ∷ others.0, others.1)) (decls_bytes ds) (list_of ds, scopes_behind (scope_behind scope d) ds) (spelt-decls ds depth component around (scope_behind scope d) formed.1 ranged.1 allowed.1 (omega (arith, room))))
