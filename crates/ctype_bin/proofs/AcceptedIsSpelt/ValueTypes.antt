-- What is written of accepted parts spells them: combinators, numbers, names and value types.
use Rattle.std.proofs.Common.{◌≡◌, ℕ, zero, suc, ◌<◌, Bool, true, false, List, [], ◌∷◌, ◌++◌, length, Option, Some, None, refl, sym, arith}
use Rattle.std.specs.Prelude.{◌||◌, ◌==◌, nat_lt}
use Rattle.std.proofs.lemmas.Bool.{lt-ltb}
use Rattle.std.proofs.lemmas.List.{append-nil}
use Rattle.atoms.specs.Production.{give, ◌>>=◌, times}
use Rattle.atoms.specs.Label.{is_label}
use Rattle.ctype_format.specs.declared.error.Fault.{Fault}
use Rattle.ctype_format.specs.declared.error.Fault.TheVariants.{UnknownOpcode, BadIndex, EmptyType, BadName}
use Rattle.ctype_format.specs.declared.raw.RawValType.{RawValType}
use Rattle.ctype_format.specs.declared.raw.RawValType.TheVariants as valtypes
use Rattle.ctype_format.specs.declared.raw.RawField.{RawField}
use Rattle.ctype_format.specs.declared.raw.RawCase.{RawCase}
use Rattle.ctype_format.specs.Names.{is_extern_name}
use Rattle.ctype_format.specs.Bytes.{Bytes, byte, several, only_bytes, unless, u32, s33, choose}
use Rattle.ctype_format.specs.Grammar as g
use Rattle.ctype_format.specs.Writing.{u32_bytes, s33_bytes, each, counted, name_bytes, extern_bytes, primitive_byte, valtype_bytes, optional_bytes, outcome_bytes, field_bytes, case_bytes}
use Rattle.ctype_format.specs.Formed.{FitsU32, All, Counted, FormedLabel, FormedName, FormedValType, FormedOption, FormedField, FormedCase}
use Rattle.ctype_bin.specs.InRange.{ValTypeInRange, OptionInRange, FieldInRange, CaseInRange}
use Rattle.ctype_bin.specs.Accepted.{Among}
use Rattle.ctype_format.proofs.ShortestSpellings.{least_of}
use Rattle.ctype_bin.proofs.RewrittenIsSpelt.ValueTypes.{index_begins, primitive_opens, primitive_spelt, placed_none}

-- these bytes spell this value
pub record Spelt {X : Type 0} (p : Bytes X) (bytes : List ℕ) (x : X) : Type 0 where
  pub spells : p.spells bytes x

pub spelt-next : {X Y : Type 0} (p : Bytes X) (q : X → Bytes Y) (a b : List ℕ) (x : X) (y : Y) → Spelt p a x → Spelt (q x) b y → Spelt (p >>= q) (a ++ b) y
spelt-next p q a b x y sp sq = record { spells = (a, b, x, refl, sp.spells, sq.spells) }

pub spelt-give : {X : Type 0} (x : X) → Spelt (give x) [] x
spelt-give x = record { spells = (refl, refl) }

pub spelt-gives : {X Y : Type 0} (p : Bytes X) (f : X → Y) (a : List ℕ) (x : X) → Spelt p a x → Spelt (p >>= λ x. give (f x)) a (f x)
spelt-gives p f a x sp = record { spells = (a, [], x, sym (append-nil a), sp.spells, (refl, refl)) }

pub spelt-only : {X : Type 0} (p : Bytes X) (fault : X → Option Fault) (a : List ℕ) (x : X) → Spelt p a x → fault x ≡ None → Spelt (only_bytes p fault) a x
spelt-only p fault a x sp passed = record { spells = (sp.spells, λ all. placed_none (fault x) (length all) passed) }

pub spelt-byte : (b : ℕ) → Spelt byte (b ∷ []) b
spelt-byte b = record { spells = (refl, refl) }

-- ---- numbers and names

pub spelt-u32 : (n : ℕ) → FitsU32 n → Spelt u32 (u32_bytes n) n
spelt-u32 n fits = record { spells = least_of 128 n (omega arith) (omega arith) fits }

spelt-s33 : (n : ℕ) → FitsU32 n → Spelt s33 (s33_bytes n) n
spelt-s33 n fits = record { spells = least_of 64 n (omega arith) (omega arith) fits }

pub spelt-index : (count i : ℕ) → FitsU32 i → i < count → Spelt (g.index count) (u32_bytes i) i
spelt-index count i fits lt = spelt-only u32 (λ i. unless (nat_lt i count) BadIndex) (u32_bytes i) i (spelt-u32 i fits) (rw (lt-ltb i count lt) refl)

pub spelt-some : (n : ℕ) → FitsU32 n → 0 < n → Spelt g.some (u32_bytes n) n
spelt-some n fits lt = spelt-only u32 (λ n. unless (nat_lt 0 n) EmptyType) (u32_bytes n) n (spelt-u32 n fits) (rw (lt-ltb 0 n lt) refl)

no_count_fault : (limit n : ℕ) → Among limit n → g.count_fault limit n ≡ None
no_count_fault limit zero h = absurd (omega (arith, h.0))
no_count_fault limit (suc n) h = rw (lt-ltb n limit (omega (arith, h.1))) refl

pub spelt-upto : (limit n : ℕ) → FitsU32 n → Among limit n → Spelt (g.some_upto limit) (u32_bytes n) n
spelt-upto limit n fits h = spelt-only u32 (g.count_fault limit) (u32_bytes n) n (spelt-u32 n fits) (no_count_fault limit n h)

pub spelt-zero : Spelt g.zero_byte (0 ∷ []) 0
spelt-zero = spelt-only byte (λ b. unless (b == 0) (UnknownOpcode b)) (0 ∷ []) 0 (spelt-byte 0) refl

spelt-name : (text : List ℕ) → FitsU32 (length text) → Spelt g.name (name_bytes text) text
spelt-name text fits = spelt-next u32 (λ n. several n) (u32_bytes (length text)) text (length text) text (spelt-u32 (length text) fits) (record { spells = (refl, refl) })

pub spelt-label : (text : List ℕ) → FormedLabel text → Spelt g.label (name_bytes text) text
unfolding g.label
spelt-label text formed = spelt-only g.name (λ text. unless (is_label text) BadName) (name_bytes text) text (spelt-name text formed.0) (rw formed.1 refl)

pub spelt-extern : (text : List ℕ) → FormedName text → Spelt g.extern_name (extern_bytes text) text
unfolding g.extern_name
spelt-extern text formed = spelt-next g.zero_byte _ (0 ∷ []) (name_bytes text) 0 text spelt-zero
    (spelt-only g.name (λ text. unless (is_extern_name text) BadName) (name_bytes text) text (spelt-name text formed.0) (rw formed.1 refl))

-- ---- value types

spelt-first : {X : Type 0} (test : ℕ → Bool) (p q : Bytes X) (c : ℕ) (cs : List ℕ) (x : X) → test c ≡ true → Spelt p (c ∷ cs) x → Spelt (choose test p q) (c ∷ cs) x
spelt-first test p q c cs x is sp = record { spells = rw is sp.spells }

spelt-second : {X : Type 0} (test : ℕ → Bool) (p q : Bytes X) (c : ℕ) (cs : List ℕ) (x : X) → test c ≡ false → Spelt q (c ∷ cs) x → Spelt (choose test p q) (c ∷ cs) x
spelt-second test p q c cs x is sq = record { spells = rw is sq.spells }

pub spelt-valtype : (types : ℕ) (t : RawValType) → FormedValType t → ValTypeInRange types t → Spelt (g.valtype types) (valtype_bytes t) t
unfolding g.valtype g.type_index
spelt-valtype types (valtypes.Primitive p) formed lt = spelt-first g.is_opcode g.primitive (g.type_index types) (primitive_byte p) [] (valtypes.Primitive p) (primitive_opens p) (record { spells = primitive_spelt p })
spelt-valtype types (valtypes.Index i) formed lt =
    let h = index_begins i in
    let s : Spelt (g.type_index types) (s33_bytes i) (valtypes.Index i) = spelt-gives (only_bytes s33 (λ i. unless (nat_lt i types) BadIndex)) (λ i. valtypes.Index i) (s33_bytes i) i
    (spelt-only s33 (λ i. unless (nat_lt i types) BadIndex) (s33_bytes i) i (spelt-s33 i formed) (rw (lt-ltb i types lt) refl)) in
    rw h.2 (spelt-second g.is_opcode g.primitive (g.type_index types) h.0 h.1 (valtypes.Index i) h.3 (rw h.2 at s))

spelt-flag : (b : ℕ) → (b == 0 || b == 1) ≡ true → Spelt g.flag_byte (b ∷ []) b
spelt-flag b is = spelt-only byte (λ b. unless (b == 0 || b == 1) (UnknownOpcode b)) (b ∷ []) b (spelt-byte b) (rw is refl)

spelt-present : (types : ℕ) (t : RawValType) → FormedValType t → ValTypeInRange types t → Spelt (g.present types) (valtype_bytes t) (Some t)
spelt-present types t formed lt = spelt-gives (g.valtype types) (λ t. Some t) (valtype_bytes t) t (spelt-valtype types t formed lt)

pub spelt-optional : (types : ℕ) (o : Option RawValType) → FormedOption o → OptionInRange types o → Spelt (g.optional_valtype types) (optional_bytes o) o
unfolding g.optional_valtype
spelt-optional types None formed lt = spelt-next g.flag_byte _ (0 ∷ []) [] 0 None (spelt-flag 0 refl) (spelt-give None)
spelt-optional types (Some t) formed lt = spelt-next g.flag_byte _ (1 ∷ []) (valtype_bytes t) 1 (Some t) (spelt-flag 1 refl) (spelt-present types t formed lt)

pub spelt-outcome : (types : ℕ) (o : Option RawValType) → FormedOption o → OptionInRange types o → Spelt (g.outcome types) (outcome_bytes o) o
unfolding g.outcome
spelt-outcome types (Some t) formed lt = spelt-next g.flag_byte _ (0 ∷ []) (valtype_bytes t) 0 (Some t) (spelt-flag 0 refl) (spelt-present types t formed lt)
spelt-outcome types None formed lt = spelt-next g.flag_byte _ (1 ∷ []) (0 ∷ []) 1 None (spelt-flag 1 refl)
    (spelt-gives g.zero_byte (λ b. None) (0 ∷ []) 0 spelt-zero)

pub spelt-field : (types : ℕ) (f : RawField) → FormedField f → FieldInRange types f → Spelt (g.field types) (field_bytes f) f
unfolding g.field
spelt-field types f formed lt = spelt-next g.label _ (name_bytes f.label) (valtype_bytes f.ty) f.label f (spelt-label f.label formed.0)
    (spelt-gives (g.valtype types) (λ t. record { label = f.label; ty = t }) (valtype_bytes f.ty) f.ty (spelt-valtype types f.ty formed.1 lt))

pub spelt-case : (types : ℕ) (c : RawCase) → FormedCase c → CaseInRange types c → Spelt (g.case types) (case_bytes c) c
unfolding g.case
spelt-case types c formed lt = spelt-next g.label _ (name_bytes c.label) (optional_bytes c.payload ++ 0 ∷ []) c.label c (spelt-label c.label formed.0)
    (spelt-next (g.optional_valtype types) _ (optional_bytes c.payload) (0 ∷ []) c.payload c (spelt-optional types c.payload formed.1 lt)
    (spelt-gives g.zero_byte (λ b. record { label = c.label; payload = c.payload }) (0 ∷ []) 0 spelt-zero))

-- ---- lists

pub spelt-times : {X : Type 0} (p : Bytes X) (w : X → List ℕ) (F R : X → Type 0) → ((x : X) → F x → R x → Spelt p (w x) x) → (xs : List X) → All F xs → All R xs → Spelt (times (length xs) p) (each w xs) xs
unfolding times
spelt-times p w F R ep [] formed ranged = spelt-give []
spelt-times p w F R ep (x ∷ xs) formed ranged = spelt-next p (λ y. times (length xs) p >>= λ ys. give (y ∷ ys)) (w x) (each w xs) x (x ∷ xs) (ep x formed.0 ranged.0)
    (spelt-gives (times (length xs) p) (λ ys. x ∷ ys) (each w xs) xs (spelt-times p w F R ep xs formed.1 ranged.1))

-- a count and as many
pub spelt-counted : {X Y : Type 0} (c : Bytes ℕ) (p : Bytes X) (w : X → List ℕ) (F R : X → Type 0) (f : List X → Y) (xs : List X) → Spelt c (u32_bytes (length xs)) (length xs) → ((x : X) → F x → R x → Spelt p (w x) x) → Counted F xs → All R xs
    → Spelt (c >>= λ n. times n p >>= λ ys. give (f ys)) (counted w xs) (f xs)
spelt-counted c p w F R f xs sc ep formed ranged = spelt-next c _ (u32_bytes (length xs)) (each w xs) (length xs) (f xs) sc
    (spelt-gives (times (length xs) p) f (each w xs) xs (spelt-times p w F R ep xs formed.1 ranged))
