-- A type, by its opcode.
use Rattle.std.proofs.Common.{◌≡◌, ℕ, zero, suc, ◌-◌, ◌<◌, true, false, List, [], ◌∷◌, ◌++◌, Ok, refl, arith}
use Rattle.ctype_format.specs.declared.opcode.Opcode.{Opcode}
use Rattle.ctype_format.specs.Grammar.{is_nested}
use Rattle.component_structure.specs.declared.error.DecodeError.{DecodeError}
use Rattle.component_structure.specs.declared.error.DecodeError.TheVariants as errors
use Rattle.component_structure.specs.declared.structure.Entry.{Entry}
use Rattle.component_structure.specs.Bytes.{Refuses}
use Rattle.component_structure.specs.Parts.{ScopePart}
use Rattle.component_decoding.specs.Declarations.{Reading, opcode, plain_type, nested_type, type}

pub type_stops : (depth end : ℕ) (around : List (List Entry)) (own : ScopePart) (s : Reading) (bytes : List ℕ) (e : DecodeError) → Refuses e ((opcode depth end).read bytes) → Refuses e ((type depth end around own s).read bytes)
unfolding type
type_stops depth end around own s bytes errors.NoMemory h = tt
type_stops zero end around own s bytes (errors.At fault place) h = rw h refl
type_stops (suc depth) end around own s bytes (errors.At fault place) h = rw h refl

pub type_plain : (depth end : ℕ) (around : List (List Entry)) (own : ScopePart) (s : Reading) (bytes : List ℕ) (o : Opcode) (rest : List ℕ) → (opcode depth end).read bytes ≡ Ok (o, rest) → is_nested o ≡ false
    → (type depth end around own s).read bytes ≡ (plain_type end own s o).read rest
unfolding type
type_plain zero end around own s bytes o rest h flat = rw h refl
type_plain (suc depth) end around own s bytes o rest h flat = rw (h, flat) refl

pub type_nested : (depth end : ℕ) (around : List (List Entry)) (own : ScopePart) (s : Reading) (bytes : List ℕ) (o : Opcode) (rest : List ℕ) → 0 < depth → (opcode depth end).read bytes ≡ Ok (o, rest) → is_nested o ≡ true
    → (type depth end around own s).read bytes ≡ (nested_type (type (depth - 1)) o end (around ++ own.types ∷ []) s).read rest
unfolding type
type_nested zero end around own s bytes o rest lt h deep = absurd (omega arith)
type_nested (suc depth) end around own s bytes o rest lt h deep =
    let k : suc depth - 1 ≡ depth = omega arith in
    rw (h, deep, k) refl
