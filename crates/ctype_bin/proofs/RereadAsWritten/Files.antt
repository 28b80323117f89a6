-- What is written of a file is read as that file, or a fault of it is met.
use Rattle.std.proofs.Common.{◌≡◌, ℕ, suc, ◌-◌, Bool, true, false, List, [], ◌∷◌, ◌++◌, length, Some, Result, Ok, Err, refl, sym, ap, subst, ◌∙◌, append_assoc, arith}
use Rattle.std.specs.Prelude.{◌||◌, ◌==◌, nat_le}
use Rattle.std.proofs.Math.Seq.{take-append_seam, drop-append_seam}
use Rattle.std.proofs.lemmas.Bool.{eq-eqb, le-leb}
use Rattle.std.proofs.lemmas.List.{append-nil, length-append}
use Rattle.atoms.specs.Production.{give, ◌>>=◌, when, times, run, by_option}
use Rattle.ctype_format.specs.declared.error.Fault.TheVariants.{UnknownOpcode, BadSection}
use Rattle.ctype_format.specs.declared.error.Stuck.{Stuck}
use Rattle.ctype_format.specs.declared.error.Stuck.TheVariants.{End, At, Past}
use Rattle.ctype_format.specs.declared.scope.Scope.{Scope}
use Rattle.ctype_format.specs.Bytes.{Bytes, byte, only_bytes, unless, u32, sized, section_from, in_section}
use Rattle.ctype_format.specs.Grammar.{index, zero_byte, extern_name, type, new_scope, with_entries}
use Rattle.ctype_format.specs.File as f
use Rattle.ctype_format.specs.Raw.{Exported, BinaryFile, TypeEntry}
use Rattle.ctype_format.specs.Writing.{u32_bytes, each, counted, extern_bytes, type_bytes, exported_bytes, section_bytes, file_bytes}
use Rattle.ctype_format.specs.Formed.{FitsU32, Counted, FormedType, FormedExport, FormedFile}
use Rattle.ctype_bin.proofs.ReadsExactly.Files.{exact-exactly}
use Rattle.ctype_bin.proofs.RewrittenIsSpelt.Files.{exactly_spelt}
use Rattle.ctype_bin.proofs.RereadAsWritten.Combinators.{OfFault, OfValue, Again, Rereads, then_at, reread-next, reread-gives, reread-tested, reread-byte, reread-spelt, reread-u32, reread-times, reread-run}
use Rattle.ctype_bin.proofs.RereadAsWritten.Types.{reread-index, reread-zero, reread-extern}
use Rattle.ctype_bin.proofs.RereadAsWritten.Declarations.{reread-type}

-- ---- what the sections have

reread-entry : {W : Type 0} (scope : Scope) (d : TypeEntry) → (W → FormedType d) → Rereads W (f.entry_of_type scope) (type_bytes d) (λ y. y.0 ≡ d)
unfolding f.entry_of_type
reread-entry scope d formed = reread-gives (type f.max_scope_depth [] scope) (λ t. (t.0, with_entries scope t.1)) (type_bytes d) (λ y. y.0 ≡ d) (λ y. y.0 ≡ d) (reread-type d f.max_scope_depth [] scope formed) (λ y e. e)

reread-types : {W : Type 0} (ds : List TypeEntry) → (W → Counted FormedType ds) → Rereads W f.type_section (counted type_bytes ds) (λ y. y.0 ≡ ds)
unfolding f.type_section
reread-types ds formed = reread-next u32 (λ n. run f.entry_of_type n (new_scope 0)) (u32_bytes (length ds)) (each type_bytes ds) (length ds) (λ y. y.0 ≡ ds) (reread-u32 (length ds) (λ w. (formed w).0))
    (reread-run f.entry_of_type type_bytes FormedType reread-entry ds (new_scope 0) (λ w. (formed w).1))

reread-exported : {W : Type 0} (types : ℕ) (e : Exported) → (W → FormedExport e) → Rereads W (f.exported types) (exported_bytes e) (λ y. y ≡ e)
unfolding f.exported
reread-exported types e formed = reread-next extern_name _ (extern_bytes e.name) (3 ∷ (u32_bytes e.type ++ 0 ∷ [])) e.name (λ y. y ≡ e) (reread-extern e.name (λ w. (formed w).0))
    (reread-next (only_bytes byte (λ b. unless (b == 3) (UnknownOpcode b))) _ (3 ∷ []) (u32_bytes e.type ++ 0 ∷ []) 3 (λ y. y ≡ e) (reread-tested byte (λ b. unless (b == 3) (UnknownOpcode b)) (3 ∷ []) 3 (reread-byte 3) tt)
    (reread-next (index types) _ (u32_bytes e.type) (0 ∷ []) e.type (λ y. y ≡ e) (reread-index types e.type (λ w. (formed w).1))
    (reread-gives zero_byte (λ b. record { name = e.name; type = e.type }) (0 ∷ []) (λ y. y ≡ 0) (λ y. y ≡ e) reread-zero (λ b h. refl))))

reread-exports : {W : Type 0} (types : ℕ) (es : List Exported) → (W → Counted FormedExport es) → Rereads W (f.export_section types) (counted exported_bytes es) (λ y. y ≡ es)
unfolding f.export_section
reread-exports types es formed = reread-next u32 (λ n. times n (f.exported types)) (u32_bytes (length es)) (each exported_bytes es) (length es) (λ y. y ≡ es) (reread-u32 (length es) (λ w. (formed w).0))
    (reread-times (f.exported types) exported_bytes FormedExport (reread-exported types) es (λ w. (formed w).1))

-- ---- the frame of a section

reread-section : {W : Type 0} (id n size : ℕ) → (id == 0) ≡ false → (W → FitsU32 size) → Rereads W (f.section id (suc n)) (id ∷ u32_bytes size) (λ y. y ≡ size)
unfolding f.section f.head
reread-section {W = W} id n size other fits =
    let tested : OfFault W (unless (id == 0 || id == id) (BadSection id)) = rw (other, eq-eqb id id refl) tt in
    let head : Rereads W (f.head id) (id ∷ u32_bytes size) (λ y. y ≡ Some size) =
    reread-next (only_bytes byte (λ b. unless (b == 0 || b == id) (BadSection b))) _ (id ∷ []) (u32_bytes size) id (λ y. y ≡ Some size) (reread-tested byte (λ b. unless (b == 0 || b == id) (BadSection b)) (id ∷ []) id (reread-byte id) tested)
    (subst (λ (b : Bool). Rereads W (when b f.skipped f.announced) (u32_bytes size) (λ y. y ≡ Some size)) (sym other)
    (reread-gives u32 (λ size. Some size) (u32_bytes size) (λ y. y ≡ size) (λ y. y ≡ Some size) (reread-u32 size fits) (λ y e. ap (λ (v : ℕ). Some v) e))) in
    subst (λ (l : List ℕ). Rereads W (f.section id (suc n)) l (λ y. y ≡ size)) (append-nil (id ∷ u32_bytes size))
    (reread-next (f.head id) (λ size. by_option size (f.section id n) give) (id ∷ u32_bytes size) [] (Some size) (λ y. y ≡ size) head (record { again = λ rest. (refl, refl) }))

-- within a section it is a fault that values have too
within : (W : Type 0) (left : ℕ) (s : Stuck) → OfValue W s → OfValue W (in_section left s)
within W left End h = absurd h
within W left (At fault n) h = h
within W left (Past n) h = absurd h

reread-sized : {X W : Type 0} (short : ℕ → Stuck) (p : Bytes X) (bytes : List ℕ) (P : X → Type 0) → Rereads W p bytes P → Rereads W (sized short (length bytes) p) bytes P
unfolding sized
reread-sized {X = X} {W = W} short p bytes P hp = record {
  again = λ rest.
      let left = length (bytes ++ rest) in
      let long : nat_le (length bytes) (length (bytes ++ rest)) ≡ true = le-leb (length bytes) (length (bytes ++ rest)) (omega (arith, length-append bytes rest)) in
      rw (long, take-append_seam bytes rest, drop-append_seam bytes rest)
      (on (length (bytes ++ rest) - length bytes) rest (p.read bytes) (subst (λ (l : List ℕ). Again W P [] (p.read l)) (append-nil bytes) (hp.again [])));
}
  where
    on : (left : ℕ) (rest : List ℕ) (r : Result (X × List ℕ) Stuck) → Again W P [] r → Again W P rest (section_from left rest r)
    on left rest (Ok x) h = rw h.1 (h.0, refl)
    on left rest (Err e) h = within W left e h

-- ---- the file

trailing_read : (n : ℕ) → (f.trailing (suc n)).read [] ≡ Ok (0, [])
unfolding f.trailing
trailing_read n = refl

-- the file from its last part on, its second section, that section's head, its first section, and that one's head
abbrev last : List TypeEntry × Scope → List Exported → Bytes BinaryFile
last types exports = f.trailing f.max_length >>= λ rest. give (record { types = types.0; exports = exports })

abbrev exports_on : List TypeEntry × Scope → ℕ → Bytes BinaryFile
exports_on types more = sized Past more (f.export_section types.1.types) >>= last types

abbrev head_on : List TypeEntry × Scope → Bytes BinaryFile
head_on types = f.section 11 f.max_length >>= exports_on types

abbrev types_on : ℕ → Bytes BinaryFile
types_on size = sized Past size f.type_section >>= head_on

abbrev start_on : ℕ → Bytes BinaryFile
start_on mark = f.section 7 f.max_length >>= types_on

module _ (W : Type 0) (x : BinaryFile) (formed : W → FormedFile x) where
  abbrev T : List ℕ
  T = counted type_bytes x.types

  abbrev E : List ℕ
  E = counted exported_bytes x.exports

  abbrev second : List ℕ
  second = (11 ∷ u32_bytes (length E)) ++ (E ++ [])

  abbrev first : List ℕ
  first = (7 ∷ u32_bytes (length T)) ++ (T ++ second)

  layout : section_bytes 7 T ++ section_bytes 11 E ≡ first
  layout = ap (λ (l : List ℕ). 7 ∷ l) (append_assoc (u32_bytes (length T)) T (section_bytes 11 E)) ∙ ap (λ (l : List ℕ). (7 ∷ u32_bytes (length T)) ++ (T ++ (11 ∷ (u32_bytes (length E) ++ l)))) (sym (append-nil E))

  reread-last : (types : List TypeEntry × Scope) (exports : List Exported) → types.0 ≡ x.types → exports ≡ x.exports → Again W (λ y. y ≡ x) [] ((last types exports).read [])
  reread-last types exports is are = rw (trailing_read 1048575, is, are) (refl, refl)

  reread-exports_on : (types : List TypeEntry × Scope) → types.0 ≡ x.types → (more : ℕ) → more ≡ length E → Again W (λ y. y ≡ x) [] ((exports_on types more).read ((E ++ []) ++ []))
  reread-exports_on types is more size = subst (λ (n : ℕ). Again W (λ y. y ≡ x) [] ((exports_on types n).read ((E ++ []) ++ []))) (sym size)
      (then_at W (sized Past (length E) (f.export_section types.1.types)) (last types) E [] [] (λ y. y ≡ x.exports) (λ y. y ≡ x)
      ((reread-sized Past (f.export_section types.1.types) E (λ y. y ≡ x.exports) (reread-exports types.1.types x.exports (λ w. (formed w).exports))).again [])
      (λ exports are. reread-last types exports is are))

  reread-head_on : (types : List TypeEntry × Scope) → types.0 ≡ x.types → Again W (λ y. y ≡ x) [] ((head_on types).read (second ++ []))
  reread-head_on types is = then_at W (f.section 11 f.max_length) (exports_on types) (11 ∷ u32_bytes (length E)) (E ++ []) [] (λ y. y ≡ length E) (λ y. y ≡ x)
      ((reread-section 11 1048575 (length E) refl (λ w. (formed w).export_size)).again ((E ++ []) ++ [])) (λ more size. reread-exports_on types is more size)

  reread-types_on : (n : ℕ) → n ≡ length T → Again W (λ y. y ≡ x) [] ((types_on n).read ((T ++ second) ++ []))
  reread-types_on n size = subst (λ (n : ℕ). Again W (λ y. y ≡ x) [] ((types_on n).read ((T ++ second) ++ []))) (sym size)
      (then_at W (sized Past (length T) f.type_section) head_on T second [] (λ y. y.0 ≡ x.types) (λ y. y ≡ x)
      ((reread-sized Past f.type_section T (λ y. y.0 ≡ x.types) (reread-types x.types (λ w. (formed w).types))).again (second ++ []))
      (λ types is. reread-head_on types is))

  pub reread-file : Again W (λ y. y ≡ x) [] (f.component_file.read (file_bytes x))
  unfolding f.component_file file_bytes
  reread-file = subst (λ (l : List ℕ). Again W (λ y. y ≡ x) [] (f.component_file.read l)) (append-nil (f.preamble ++ first) ∙ ap (λ (l : List ℕ). f.preamble ++ l) (sym layout))
      (then_at W (f.exactly f.preamble) start_on f.preamble first [] (λ y. y ≡ 0) (λ y. y ≡ x)
      ((reread-spelt (f.exactly f.preamble) (exact-exactly f.preamble) f.preamble 0 (exactly_spelt f.preamble)).again (first ++ []))
      (λ mark h. then_at W (f.section 7 f.max_length) types_on (7 ∷ u32_bytes (length T)) (T ++ second) [] (λ y. y ≡ length T) (λ y. y ≡ x)
      ((reread-section 7 1048575 (length T) refl (λ w. (formed w).type_size)).again ((T ++ second) ++ [])) reread-types_on))
