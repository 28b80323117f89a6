-- What is written of a file spells it, where anything does.
use Rattle.std.proofs.Common.{◌≡◌, ℕ, zero, suc, ◌<◌, ◌≤◌, ◌^◌, Bool, true, false, List, [], ◌∷◌, ◌++◌, length, Option, Some, None, refl, sym, ap, subst, ◌∙◌, append_assoc, arith}
use Rattle.std.specs.Prelude.{◌||◌, ◌==◌}
use Rattle.std.proofs.lemmas.Bool.{eqb-true, eq-eqb}
use Rattle.std.proofs.lemmas.List.{append-nil}
use Rattle.atoms.specs.Production.{give, times, run, when, by_option}
use Rattle.ctype_format.specs.declared.error.Fault.TheVariants.{UnknownOpcode, BadSection, NotComponent}
use Rattle.ctype_format.specs.declared.error.Stuck.{Stuck}
use Rattle.ctype_format.specs.declared.error.Stuck.TheVariants.{Past}
use Rattle.ctype_format.specs.declared.scope.Scope.{Scope}
use Rattle.ctype_bin.specs.Exactness.{Written}
use Rattle.ctype_format.specs.Bytes.{Bytes, byte, only_bytes, unless, stuck_if, u32, sized}
use Rattle.ctype_format.specs.Grammar.{index, extern_name, type, new_scope, with_entries}
use Rattle.ctype_format.specs.File as f
use Rattle.ctype_format.specs.Raw.{Exported, BinaryFile, TypeEntry}
use Rattle.ctype_format.specs.Writing.{u32_bytes, each, counted, extern_bytes, type_bytes, exported_bytes, section_bytes, file_bytes}
use Rattle.ctype_format.proofs.ShortestSpellings.{small, least_of}
use Rattle.ctype_bin.proofs.RewrittenIsSpelt.Combinators.{written-then, written-gives, written-only, written-byte, one_byte, written-times, times-length, written-run, run-length}
use Rattle.ctype_bin.proofs.RewrittenIsSpelt.ValueTypes.{written-u32, written-index, passes, written-closed, written-extern}
use Rattle.ctype_bin.proofs.RewrittenIsSpelt.Declarations.{written-type}

written-entry : (scope : Scope) → Written (f.entry_of_type scope) (λ y. type_bytes y.0)
unfolding f.entry_of_type
written-entry scope = written-gives (type f.max_scope_depth [] scope) (λ t. (t.0, with_entries scope t.1)) (λ y. type_bytes y.0) (λ y. type_bytes y.0) (written-type f.max_scope_depth [] scope) (λ t. refl)

written-types : Written f.type_section (λ y. counted type_bytes y.0)
unfolding f.type_section
written-types = written-then u32 (λ n. run f.entry_of_type n (new_scope 0)) u32_bytes (λ n y. each type_bytes y.0) (λ y. counted type_bytes y.0) written-u32 (λ n. written-run f.entry_of_type type_bytes written-entry n (new_scope 0))
    (λ n y front back sp sq. ap (λ (m : ℕ). u32_bytes m ++ each type_bytes y.0) (run-length f.entry_of_type n (new_scope 0) back y sq))

three_is : (front : List ℕ) (b : ℕ) → (only_bytes byte (λ b. unless (b == 3) (UnknownOpcode b))).spells front b → b ≡ 3
three_is front b s = eqb-true b 3 (passes (b == 3) (UnknownOpcode b) 0 (s.1 []))

written-exported : (types : ℕ) → Written (f.exported types) exported_bytes
unfolding f.exported
written-exported types = written-then extern_name _ extern_bytes (λ text e. 3 ∷ (u32_bytes e.type ++ 0 ∷ [])) exported_bytes written-extern
    (λ text. written-then (only_bytes byte (λ b. unless (b == 3) (UnknownOpcode b))) _ one_byte (λ b e. u32_bytes e.type ++ 0 ∷ []) (λ e. 3 ∷ (u32_bytes e.type ++ 0 ∷ [])) (written-only byte _ one_byte written-byte)
    (λ b. written-then (index types) _ u32_bytes (λ i e. 0 ∷ []) (λ e. u32_bytes e.type ++ 0 ∷ []) (written-index types) (λ i. written-closed (record { name = text; type = i }))
    (λ i e front back sp sq. rw sq.5.1 refl))
    (λ b e front back sp sq. ap (λ (c : ℕ). c ∷ (u32_bytes e.type ++ 0 ∷ [])) (sym (three_is front b sp))))
    (λ text e front back sp sq. rw sq.5.5.5.1 refl)

written-exports : (types : ℕ) → Written (f.export_section types) (counted exported_bytes)
unfolding f.export_section
written-exports types = written-then u32 (λ n. times n (f.exported types)) u32_bytes (λ n. each exported_bytes) (counted exported_bytes) written-u32 (λ n. written-times n (f.exported types) exported_bytes (written-exported types))
    (λ n xs front back sp sq. ap (λ (m : ℕ). u32_bytes m ++ each exported_bytes xs) (times-length n (f.exported types) back xs sq))

-- ---- sections

size_small : (id n : ℕ) (bytes : List ℕ) (size : ℕ) → (f.section id n).spells bytes size → size < 2 ^ 32
unfolding f.section f.head
size_small id zero bytes size s = absurd s
size_small id (suc n) bytes size s = by s.2 s.5 (whole (s.4.2 == 0) s.4.5) (size_small id n s.1 size)
  where
    whole : (b : Bool) → (when b f.skipped f.announced).spells s.4.1 s.2 → (m : ℕ) → s.2 ≡ Some m → m < 2 ^ 32
    whole true h m is = absurd (let k : None ≡ Some m = sym h.5.1 ∙ is in cc)
    whole false h m is = let same : Some h.2 ≡ Some m = sym h.5.1 ∙ is in let k : h.2 ≡ m = cc in subst (λ (v : ℕ). v < 2 ^ 32) k (small h.0 h.2 h.4)

    by : (o : Option ℕ) → (by_option o (f.section id n) give).spells s.1 size → ((m : ℕ) → o ≡ Some m → m < 2 ^ 32) → ((f.section id n).spells s.1 size → size < 2 ^ 32) → size < 2 ^ 32
    by None h some again = again h
    by (Some m) h some again = subst (λ (v : ℕ). v < 2 ^ 32) (sym h.1) (some m refl)

head_spelt : (id size : ℕ) → (id == 0) ≡ false → size < 2 ^ 32 → (f.head id).spells (id ∷ u32_bytes size) (Some size)
unfolding f.head
head_spelt id size other lt = (id ∷ [], u32_bytes size, id, refl, ((refl, refl), fits), chosen (id == 0) other)
  where
    fits : (all : List ℕ) → stuck_if (unless (id == 0 || id == id) (BadSection id)) (length all) ≡ None
    fits all = rw (other, eq-eqb id id refl) refl

    chosen : (b : Bool) → b ≡ false → (when b f.skipped f.announced).spells (u32_bytes size) (Some size)
    chosen true is = absurd cc
    chosen false is = (u32_bytes size, [], size, sym (append-nil (u32_bytes size)), least_of 128 size (omega arith) (omega arith) lt, (refl, refl))

section_spelt : (id n size : ℕ) → (id == 0) ≡ false → size < 2 ^ 32 → (f.section id (suc n)).spells (id ∷ u32_bytes size) size
unfolding f.section
section_spelt id n size other lt = (id ∷ u32_bytes size, [], Some size, sym (append-nil (id ∷ u32_bytes size)), head_spelt id size other lt, (refl, refl))

pub exactly_spelt : (bytes : List ℕ) → (f.exactly bytes).spells bytes 0
unfolding f.exactly
exactly_spelt [] = (refl, refl)
exactly_spelt (b ∷ bs) = (b ∷ [], bs, b, refl, ((refl, refl), λ all. fits (length all)), exactly_spelt bs)
  where
    fits : (left : ℕ) → stuck_if (unless (b == b) NotComponent) left ≡ None
    fits left = rw (eq-eqb b b refl) refl

nothing_trails : (n : ℕ) → (f.trailing (suc n)).spells [] 0
unfolding f.trailing
nothing_trails n = ([], [], None, refl, refl, (refl, refl))

pub sized_both : {X : Type 0} (short : ℕ → Stuck) (size : ℕ) (p : Bytes X) (bytes : List ℕ) (x : X) → (sized short size p).spells bytes x → (length bytes ≡ size) × p.spells bytes x
unfolding sized
sized_both short size p bytes x s = s

sized_spelt : {X : Type 0} (short : ℕ → Stuck) (p : Bytes X) (bytes : List ℕ) (x : X) → p.spells bytes x → (sized short (length bytes) p).spells bytes x
unfolding sized
sized_spelt short p bytes x s = (refl, s)

-- ---- the file

module _ (types : List TypeEntry × Scope) (exports : List Exported) where
  abbrev T : List ℕ
  T = counted type_bytes types.0

  abbrev E : List ℕ
  E = counted exported_bytes exports

  abbrev all : BinaryFile
  all = record { types = types.0; exports = exports }

  pub file_from : f.type_section.spells T types → (f.export_section types.1.types).spells E exports → length T < 2 ^ 32 → length E < 2 ^ 32 → f.component_file.spells (file_bytes all) all
  unfolding f.component_file file_bytes
  file_from st se lt le =
      let first : section_bytes 7 T ++ section_bytes 11 E ≡ (7 ∷ u32_bytes (length T)) ++ (T ++ section_bytes 11 E) = ap (λ (l : List ℕ). 7 ∷ l) (append_assoc (u32_bytes (length T)) T (section_bytes 11 E)) in
      let second : section_bytes 11 E ≡ (11 ∷ u32_bytes (length E)) ++ (E ++ []) = ap (λ (l : List ℕ). 11 ∷ (u32_bytes (length E) ++ l)) (sym (append-nil E)) in (
        f.preamble,
        section_bytes 7 T ++ section_bytes 11 E,
        0,
        refl,
        exactly_spelt f.preamble,
        (
          7 ∷ u32_bytes (length T),
          T ++ section_bytes 11 E,
          length T,
          first,
          section_spelt 7 1048575 (length T) refl lt,
          (
            T,
            section_bytes 11 E,
            types,
            refl,
            sized_spelt Past f.type_section T types st,
            (
              11 ∷ u32_bytes (length E),
              E ++ [],
              length E,
              second,
              section_spelt 11 1048575 (length E) refl le,
              (
                E,
                [],
                exports,
                refl,
                sized_spelt Past (f.export_section types.1.types) E exports se,
                ([], [], 0, refl, nothing_trails 1048575, (refl, refl)),
              ),
            ),
          ),
        ),
      )

pub file_rewritten : (bytes : List ℕ) (x : BinaryFile) → f.component_file.spells bytes x → f.component_file.spells (file_bytes x) x
unfolding f.component_file
file_rewritten bytes x s =
    let a = s.5 in
    let b = a.5 in
    let c = b.5 in
    let d = c.5 in
    let e = d.5 in
    let st = sized_both Past a.2 f.type_section b.0 b.2 b.4 in
    let se = sized_both Past c.2 (f.export_section b.2.1.types) d.0 d.2 d.4 in
    let shorter : length (counted type_bytes b.2.0) ≤ length b.0 = written-types.short b.0 b.2 st.1 in
    let briefer : length (counted exported_bytes d.2) ≤ length d.0 = (written-exports b.2.1.types).short d.0 d.2 se.1 in
    let lt = size_small 7 f.max_length a.0 a.2 a.4 in
    let le = size_small 11 f.max_length c.0 c.2 c.4 in
    subst (λ (z : BinaryFile). f.component_file.spells (file_bytes z) z) (sym e.5.1)
    (file_from b.2 d.2 (written-types.spelt b.0 b.2 st.1) ((written-exports b.2.1.types).spelt d.0 d.2 se.1) (omega (arith, shorter, st.0, lt)) (omega (arith, briefer, se.0, le)))
