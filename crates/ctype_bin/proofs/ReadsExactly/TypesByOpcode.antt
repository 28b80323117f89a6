-- A type, by its opcode.
use Rattle.std.proofs.Common.{◌≡◌, ℕ, zero, suc, ◌+◌, ◌-◌, ◌<◌, true, false, List, [], ◌∷◌, ◌++◌, Ok, refl, arith}
use Rattle.ctype_format.specs.declared.error.ItemError.{ItemError}
use Rattle.ctype_format.specs.declared.error.ItemError.TheVariants as errors
use Rattle.ctype_format.specs.declared.opcode.Opcode.{Opcode}
use Rattle.ctype_format.specs.declared.scope.Scope.{Scope}
use Rattle.ctype_format.specs.Bytes.{Stops}
use Rattle.ctype_format.specs.Grammar.{opcode, plain_entry, plain_type, scope_of, is_nested, type}
use Rattle.ctype_format.specs.Raw.{TypeEntry}

pub type_stops : (depth : ℕ) (around : List ℕ) (scope : Scope) (bytes : List ℕ) (e : ItemError) → Stops e ((opcode depth scope.entries).read bytes) → Stops e ((type depth around scope).read bytes)
unfolding type
type_stops depth around scope bytes errors.Memory h = tt
type_stops zero around scope bytes (errors.Stuck f) h = rw h refl
type_stops (suc depth) around scope bytes (errors.Stuck f) h = rw h refl

pub type_plain : (depth : ℕ) (around : List ℕ) (scope : Scope) (bytes : List ℕ) (o : Opcode) (rest : List ℕ) → (opcode depth scope.entries).read bytes ≡ Ok (o, rest) → is_nested o ≡ false → (type depth around scope).read bytes ≡ (plain_type scope o).read rest
unfolding type
type_plain zero around scope bytes o rest h flat = rw h refl
type_plain (suc depth) around scope bytes o rest h flat = rw (h, flat) refl

pub type_nested : (depth : ℕ) (around : List ℕ) (scope : Scope) (bytes : List ℕ) (o : Opcode) (rest : List ℕ) → 0 < depth → (opcode depth scope.entries).read bytes ≡ Ok (o, rest) → is_nested o ≡ true
    → (type depth around scope).read bytes ≡ (scope_of (type (depth - 1)) o (around ++ scope.types ∷ []) (scope.entries + 1)).read rest
unfolding type
type_nested zero around scope bytes o rest lt h deep = absurd (omega arith)
type_nested (suc depth) around scope bytes o rest lt h deep =
    let k : suc depth - 1 ≡ depth = omega arith in
    rw (h, deep, k) refl

pub plain_ok : (scope : Scope) (o : Opcode) (bytes : List ℕ) (t : TypeEntry) (rest : List ℕ) → (plain_entry scope.types o).read bytes ≡ Ok (t, rest) → (plain_type scope o).read bytes ≡ Ok ((t, scope.entries + 1), rest)
plain_ok scope o bytes t rest h = rw h refl

pub plain_stops : (scope : Scope) (o : Opcode) (bytes : List ℕ) (e : ItemError) → Stops e ((plain_entry scope.types o).read bytes) → Stops e ((plain_type scope o).read bytes)
plain_stops scope o bytes errors.Memory h = tt
plain_stops scope o bytes (errors.Stuck f) h = rw h refl
