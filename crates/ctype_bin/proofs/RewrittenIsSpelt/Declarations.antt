-- What is written of a type spells it: imports, exports, declarations and scopes.
use Rattle.std.proofs.Common.{◌≡◌, ℕ, zero, suc, ◌+◌, Bool, true, false, List, [], ◌∷◌, ◌++◌, length, drop, None, refl, sym, ap, ◌∙◌, arith}
use Rattle.std.specs.Prelude.{◌||◌, ◌&&◌, ◌==◌, if◌then◌else◌}
use Rattle.std.proofs.lemmas.Bool.{eqb-true}
use Rattle.std.proofs.lemmas.List.{length-append, append-nil}
use Rattle.atoms.specs.Production.{give, ◌>>=◌, when, run}
use Rattle.ctype_format.specs.declared.error.Fault.TheVariants.{UnknownOpcode}
use Rattle.ctype_format.specs.declared.raw.RawDescription.{RawDescription}
use Rattle.ctype_format.specs.declared.raw.RawDescription.TheVariants as descriptions
use Rattle.ctype_format.specs.declared.opcode.Opcode.{Opcode}
use Rattle.ctype_format.specs.declared.opcode.Opcode.TheVariants as op
use Rattle.ctype_format.specs.declared.scope.Scope.{Scope}
use Rattle.ctype_bin.specs.Exactness.{Written}
use Rattle.ctype_format.specs.Bytes.{Bytes, byte, only_bytes, unless, stuck_if, u32}
use Rattle.ctype_format.specs.Grammar as g
use Rattle.ctype_format.specs.Raw.{Decl, Entry, Import, Export, TypeEntry}
use Rattle.ctype_format.specs.Writing.{u32_bytes, each, counted, extern_bytes, description_bytes, type_bytes, decl_bytes}
use Rattle.ctype_format.proofs.WrittenDeclarationsAsLists.{decls_are}
use Rattle.ctype_bin.proofs.RewrittenIsSpelt.Combinators.{written-then, written-gives, written-only, written-when, written-byte, one_byte, written-run, run-length}
use Rattle.ctype_bin.proofs.RewrittenIsSpelt.ValueTypes.{written-u32, written-index, passes, zero_is, written-zero, written-extern}
use Rattle.ctype_bin.proofs.RewrittenIsSpelt.Types.{body, opcode_byte, written-opcode, written-plain_type, type_head, written-alias}

-- ---- descriptions

abbrev rest_of : RawDescription × Scope → List ℕ
rest_of y = drop 1 (description_bytes y.0)

abbrev chosen : Scope → ℕ → Bool → Bool → RawDescription × Scope
chosen scope i a b = if a then (descriptions.Function i, scope) else (if b then (descriptions.Component i, scope) else (descriptions.Instance i, g.with_instance scope))

described_rest : (scope : Scope) (i : ℕ) (a b : Bool) → rest_of (chosen scope i a b) ≡ u32_bytes i
described_rest scope i true b = refl
described_rest scope i false true = refl
described_rest scope i false false = refl

written-equal : (scope : Scope) → Written (g.equal_type scope) rest_of
written-equal scope = written-then g.zero_byte _ one_byte (λ m y. drop 2 (description_bytes y.0)) rest_of written-zero
    (λ m. written-gives (g.index scope.types) (λ i. (descriptions.TypeEqual i, g.with_type scope)) u32_bytes (λ y. drop 2 (description_bytes y.0)) (written-index scope.types) (λ i. refl))
    (λ m y front back sp sq. rw (sq.5.1, zero_is front m sp) refl)

written-indexed : (scope : Scope) (sort : ℕ) → Written (g.indexed scope sort) rest_of
written-indexed scope sort = written-gives (g.index scope.types) (λ i. g.described scope sort i) u32_bytes rest_of (written-index scope.types) (λ i. described_rest scope i (sort == 1) (sort == 4))

described_head : (scope : Scope) (sort i : ℕ) (a b : Bool) → (sort == 1) ≡ a → (sort == 4) ≡ b → (a || (b || sort == 5)) ≡ true
    → description_bytes (chosen scope i a b).0 ≡ sort ∷ u32_bytes i
described_head scope sort i true b is four h = rw (eqb-true sort 1 is) refl
described_head scope sort i false true is four h = rw (eqb-true sort 4 four) refl
described_head scope sort i false false is four h = let five : (sort == 5) ≡ true = h in rw (eqb-true sort 5 five) refl

other_passes : (entries sort : ℕ) → (sort == 3) ≡ false → stuck_if (g.description_fault entries sort) 0 ≡ None → (sort == 1 || (sort == 4 || sort == 5)) ≡ true
other_passes entries sort other h =
    let k : stuck_if (unless (sort == 1 || (sort == 4 || sort == 5)) (UnknownOpcode sort)) 0 ≡ None = rw other at h in
    passes (sort == 1 || (sort == 4 || sort == 5)) (UnknownOpcode sort) 0 k

description_head : (scope : Scope) (sort : ℕ) (back : List ℕ) (y : RawDescription × Scope) (t : Bool) → (sort == 3) ≡ t → stuck_if (g.description_fault scope.entries sort) 0 ≡ None → (when t (g.equal_type scope) (g.indexed scope sort)).spells back y → description_bytes y.0 ≡ sort ∷ rest_of y
description_head scope sort back y true is h s = rw (s.5.5.1, eqb-true sort 3 is) refl
description_head scope sort back y false is h s =
    let e : description_bytes y.0 ≡ sort ∷ u32_bytes s.2 = rw s.5.1 (described_head scope sort s.2 (sort == 1) (sort == 4) refl refl (other_passes scope.entries sort is h)) in
    e ∙ ap (λ (l : List ℕ). sort ∷ drop 1 l) (sym e)

written-description : (scope : Scope) → Written (g.description scope) (λ y. description_bytes y.0)
unfolding g.description
written-description scope = written-then (only_bytes byte (g.description_fault scope.entries)) _ one_byte (λ sort. rest_of) (λ y. description_bytes y.0) (written-only byte _ one_byte written-byte)
    (λ sort. written-when (sort == 3) (g.equal_type scope) (g.indexed scope sort) rest_of (written-equal scope) (written-indexed scope sort))
    (λ sort y front back sp sq. description_head scope sort back y (sort == 3) refl (sp.1 []) sq)

-- ---- imports and exports

description_of : Decl → RawDescription
description_of (Import text d) = d
description_of (Export text d) = d
description_of _ = descriptions.Function 0

external_description : (t : Bool) (text : List ℕ) (d : RawDescription) → description_of (if t then Import text d else Export text d) ≡ d
unfolding description_of
external_description true text d = refl
external_description false text d = refl

external_rest : (t : Bool) (text : List ℕ) (d : RawDescription) → drop 1 (decl_bytes (if t then Import text d else Export text d)) ≡ extern_bytes text ++ description_bytes d
unfolding decl_bytes
external_rest true text d = refl
external_rest false text d = refl

written-external : (scope : Scope) (sort : ℕ) → Written (g.external scope sort) (λ y. drop 1 (decl_bytes y.0))
unfolding g.external
written-external scope sort = written-then g.extern_name _ extern_bytes (λ text y. description_bytes (description_of y.0)) (λ y. drop 1 (decl_bytes y.0)) written-extern
    (λ text. written-gives (g.description scope) (λ d. (if sort == 3 then Import text d.0 else Export text d.0, d.1)) (λ d. description_bytes d.0) (λ y. description_bytes (description_of y.0)) (written-description scope)
    (λ d. ap description_bytes (external_description (sort == 3) text d.0)))
    (λ text y front back sp sq. rw (sq.5.1, external_description (sort == 3) text sq.2.0) (external_rest (sort == 3) text sq.2.0))

-- ---- declarations

abbrev WritesReader : g.Reader → Type 0
WritesReader t = (around : List ℕ) (scope : Scope) → Written (t around scope) (λ y. type_bytes y.0)

abbrev rest : Decl × Scope → List ℕ
rest y = drop 1 (decl_bytes y.0)

external_head : (component t : Bool) (sort : ℕ) (text : List ℕ) (d : RawDescription) → (sort == 3) ≡ t → (sort == 4 || (component && sort == 3)) ≡ true → decl_bytes (if t then Import text d else Export text d) ≡ sort ∷ (extern_bytes text ++ description_bytes d)
unfolding decl_bytes
external_head component true sort text d is h = rw (eqb-true sort 3 is) refl
external_head component false sort text d is h = rw (eqb-true sort 4 (four component (sort == 4) (rw is at h))) refl
  where
    four : (c b : Bool) → (b || (c && false)) ≡ true → b ≡ true
    four c true k = refl
    four true false k = k
    four false false k = k

decl_head : (t : g.Reader) (component : Bool) (around : List ℕ) (scope : Scope) (sort : ℕ) (back : List ℕ) (y : Decl × Scope) (a b : Bool) → (sort == 1) ≡ a → (sort == 2) ≡ b → (a || (b || (sort == 4 || (component && sort == 3)))) ≡ true
    → (when a (g.definition_entry t around scope) (when b (g.alias_entry around scope) (g.external scope sort))).spells back y → decl_bytes y.0 ≡ sort ∷ rest y
unfolding decl_bytes g.alias_entry g.external
decl_head t component around scope sort back y true b one two h s = rw (s.5.1, eqb-true sort 1 one) refl
decl_head t component around scope sort back y false true one two h s = rw (s.5.5.5.1, eqb-true sort 2 two) refl
decl_head t component around scope sort back y false false one two h s =
    let e : decl_bytes y.0 ≡ sort ∷ (extern_bytes s.2 ++ description_bytes s.5.2.0) = rw s.5.5.1 (external_head component (sort == 3) sort s.2 s.5.2.0 refl h) in
    e ∙ ap (λ (l : List ℕ). sort ∷ drop 1 l) (sym e)

written-definition : (t : g.Reader) → WritesReader t → (around : List ℕ) (scope : Scope) → Written (g.definition_entry t around scope) rest
unfolding decl_bytes
written-definition t wt around scope = written-gives (t around scope) (λ x. (Entry x.0, g.with_entries scope x.1)) (λ y. type_bytes y.0) rest (wt around scope) (λ x. refl)

written-decl : (t : g.Reader) → WritesReader t → (component : Bool) (around : List ℕ) (scope : Scope) → Written (g.decl t component around scope) (λ y. decl_bytes y.0)
unfolding g.decl
written-decl t wt component around scope = written-then (only_bytes byte (λ b. unless (g.is_decl component b) (UnknownOpcode b))) _ one_byte (λ sort. rest) (λ y. decl_bytes y.0) (written-only byte _ one_byte written-byte)
    (λ sort. written-when (sort == 1) (g.definition_entry t around scope) (when (sort == 2) (g.alias_entry around scope) (g.external scope sort)) rest (written-definition t wt around scope)
    (written-when (sort == 2) (g.alias_entry around scope) (g.external scope sort) rest (written-alias around scope) (written-external scope sort)))
    (λ sort y front back sp sq. decl_head t component around scope sort back y (sort == 1) (sort == 2) refl refl (passes (g.is_decl component sort) (UnknownOpcode sort) 0 (sp.1 [])) sq)

-- ---- scopes

pub written-running : {X S Y : Type 0} (p : S → Bytes (X × S)) (w : X → List ℕ) (state : S) (f : List X × S → Y) (wy : Y → List ℕ) → ((s : S) → Written (p s) (λ y. w y.0)) → ((r : List X × S) → wy (f r) ≡ counted w r.0) → Written (u32 >>= λ n. run p n state >>= λ r. give (f r)) wy
written-running {X = X} {S = S} {Y = Y} p w state f wy ep same = record {
  spelt = λ bytes y s. let n = s.2 in let r = s.5.2 in
      (u32_bytes n, each w r.0, n, joined (run-length p n state s.5.0 r s.5.4) s.5.5.1, written-u32.spelt s.0 n s.4, (each w r.0, [], r, sym (append-nil (each w r.0)), (written-run p w ep n state).spelt s.5.0 r s.5.4, (refl, s.5.5.1)));
  short = λ bytes y s. let n = s.2 in let r = s.5.2 in
      let whole : length (wy y) ≡ length (u32_bytes n) + length (each w r.0) = ap (λ (l : List ℕ). length l) (joined (run-length p n state s.5.0 r s.5.4) s.5.5.1) ∙ length-append (u32_bytes n) (each w r.0) in
      let parts : length bytes ≡ length s.0 + length s.1 = ap (λ (l : List ℕ). length l) s.3 ∙ length-append s.0 s.1 in
      let behind : length s.1 ≡ length s.5.0 + length s.5.1 = ap (λ (l : List ℕ). length l) s.5.3 ∙ length-append s.5.0 s.5.1 in
      let a = written-u32.short s.0 n s.4 in
      let b = (written-run p w ep n state).short s.5.0 r s.5.4 in
      omega (arith, whole, parts, behind, a, b);
}
  where
    joined : {n : ℕ} {r : List X × S} {y : Y} → length r.0 ≡ n → y ≡ f r → wy y ≡ u32_bytes n ++ each w r.0
    joined {n} {r} {y} long is = ap wy is ∙ same r ∙ ap (λ (m : ℕ). u32_bytes m ++ each w r.0) long

nested_body : (o : Opcode) (ds : List Decl) → body (g.nested o ds) ≡ counted decl_bytes ds
unfolding type_bytes
nested_body (op.Primitive p) ds = decls_are ds
nested_body op.Record ds = decls_are ds
nested_body op.Variant ds = decls_are ds
nested_body op.List ds = decls_are ds
nested_body op.Tuple ds = decls_are ds
nested_body op.Flags ds = decls_are ds
nested_body op.Enum ds = decls_are ds
nested_body op.Option ds = decls_are ds
nested_body op.Result ds = decls_are ds
nested_body op.Function ds = decls_are ds
nested_body op.Component ds = decls_are ds
nested_body op.Instance ds = decls_are ds

written-scope : (t : g.Reader) → WritesReader t → (o : Opcode) (around : List ℕ) (entries : ℕ) → Written (g.scope_of t o around entries) (λ y. body y.0)
unfolding g.scope_of
written-scope t wt o around entries = written-running (g.decl t (g.is_component o) around) decl_bytes (g.new_scope entries) (λ ds. (g.nested o ds.0, ds.1.entries)) (λ y. body y.0)
    (λ s. written-decl t wt (g.is_component o) around s) (λ r. nested_body o r.0)

plain_head : (scope : Scope) (o : Opcode) (back : List ℕ) (y : TypeEntry × ℕ) → (g.plain_type scope o).spells back y → type_bytes y.0 ≡ opcode_byte o ∷ body y.0
plain_head scope o back y s = rw s.5.1 (type_head scope.types o s.0 s.2 s.4)

scope_head : (t : g.Reader) (o : Opcode) (around : List ℕ) (entries : ℕ) (back : List ℕ) (y : TypeEntry × ℕ) → g.is_nested o ≡ true → (g.scope_of t o around entries).spells back y → type_bytes y.0 ≡ opcode_byte o ∷ body y.0
unfolding g.scope_of type_bytes
scope_head t op.Component around entries back y is s = rw s.5.5.1 refl
scope_head t op.Instance around entries back y is s = rw s.5.5.1 refl
scope_head t (op.Primitive p) around entries back y is s = absurd cc
scope_head t op.Record around entries back y is s = absurd cc
scope_head t op.Variant around entries back y is s = absurd cc
scope_head t op.List around entries back y is s = absurd cc
scope_head t op.Tuple around entries back y is s = absurd cc
scope_head t op.Flags around entries back y is s = absurd cc
scope_head t op.Enum around entries back y is s = absurd cc
scope_head t op.Option around entries back y is s = absurd cc
scope_head t op.Result around entries back y is s = absurd cc
scope_head t op.Function around entries back y is s = absurd cc

opened : (t : g.Reader) (scope : Scope) (o : Opcode) (around : List ℕ) (entries : ℕ) (back : List ℕ) (y : TypeEntry × ℕ) (b : Bool) → g.is_nested o ≡ b → (when b (g.scope_of t o around entries) (g.plain_type scope o)).spells back y → type_bytes y.0 ≡ opcode_byte o ∷ body y.0
opened t scope o around entries back y true is s = scope_head t o around entries back y is s
opened t scope o around entries back y false is s = plain_head scope o back y s

pub written-type : (depth : ℕ) → WritesReader (g.type depth)
unfolding g.type
written-type zero around scope = written-then (g.opcode 0 scope.entries) _ (λ o. opcode_byte o ∷ []) (λ o y. body y.0) (λ y. type_bytes y.0) (written-opcode 0 scope.entries) (λ o. written-plain_type scope o)
    (λ o y front back sp sq. plain_head scope o back y sq)
written-type (suc depth) around scope = written-then (g.opcode (suc depth) scope.entries) _ (λ o. opcode_byte o ∷ []) (λ o y. body y.0) (λ y. type_bytes y.0) (written-opcode (suc depth) scope.entries)
    (λ o. written-when (g.is_nested o) (g.scope_of (g.type depth) o (around ++ scope.types ∷ []) (scope.entries + 1)) (g.plain_type scope o) (λ y. body y.0)
    (written-scope (g.type depth) (written-type depth) o (around ++ scope.types ∷ []) (scope.entries + 1)) (written-plain_type scope o))
    (λ o y front back sp sq. opened (g.type depth) scope o (around ++ scope.types ∷ []) (scope.entries + 1) back y (g.is_nested o) refl sq)
