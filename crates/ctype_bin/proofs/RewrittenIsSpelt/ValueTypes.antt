-- What is written of a type spells it, where anything does.
use Rattle.std.proofs.Common.{◌≡◌, ℕ, ◌+◌, ◌%◌, ◌/◌, ◌≤◌, Bool, true, false, List, [], ◌∷◌, ◌++◌, length, drop, Option, Some, None, refl, sym, ap, subst, ◌∙◌, arith, inl, inr}
use Rattle.std.specs.Prelude.{MatchBool, ◌||◌, ◌==◌, nat_le, nat_lt}
use Rattle.std.proofs.lemmas.Bool.{cases_lt, lt-leb, le-leb, le-ltb, eqb-true}
use Rattle.std.proofs.lemmas.List.{length-append}
use Rattle.atoms.specs.Production.{give, ◌>>=◌, when}
use Rattle.ctype_format.specs.declared.error.Fault.{Fault}
use Rattle.ctype_format.specs.declared.error.Fault.TheVariants.{UnknownOpcode, BadIndex}
use Rattle.ctype_format.specs.declared.raw.Primitive.{Primitive}
use Rattle.ctype_format.specs.declared.raw.Primitive.TheVariants as prim
use Rattle.ctype_format.specs.declared.raw.RawValType.{RawValType}
use Rattle.ctype_format.specs.declared.raw.RawValType.TheVariants as valtypes
use Rattle.ctype_format.specs.Opcodes.{primitive_of}
use Rattle.ctype_bin.specs.Exactness.{Written}
use Rattle.ctype_format.specs.Bytes.{Bytes, byte, several, only_bytes, unless, stuck_if, u32, s33, choose, spells_by}
use Rattle.ctype_format.specs.Grammar as g
use Rattle.ctype_format.specs.Shortest.{groups}
use Rattle.ctype_format.specs.Writing.{u32_bytes, s33_bytes, name_bytes, extern_bytes, primitive_byte, valtype_bytes, optional_bytes, outcome_bytes, field_bytes, case_bytes}
use Rattle.ctype_format.proofs.ShortestSpellings.{least_spells, one_group, more_groups}
use Rattle.ctype_bin.proofs.RewrittenIsSpelt.Combinators.{written-then, written-give, written-gives, written-only, written-when, written-byte, one_byte, itself, written-several}

-- ---- numbers and names

pub written-u32 : Written u32 u32_bytes
written-u32 = record {
  spelt = λ bytes n s. (least_spells 128 bytes n (omega arith) (omega arith) s).0;
  short = λ bytes n s. (least_spells 128 bytes n (omega arith) (omega arith) s).1;
}

written-s33 : Written s33 s33_bytes
written-s33 = record {
  spelt = λ bytes n s. (least_spells 64 bytes n (omega arith) (omega arith) s).0;
  short = λ bytes n s. (least_spells 64 bytes n (omega arith) (omega arith) s).1;
}

pub written-index : (count : ℕ) → Written (g.index count) u32_bytes
written-index count = written-only u32 _ u32_bytes written-u32

-- a test that found no fault passes
pub passes : (b : Bool) (fault : Fault) (left : ℕ) → stuck_if (unless b fault) left ≡ None → b ≡ true
passes true fault left e = refl
passes false fault left e = absurd cc

pub zero_is : (front : List ℕ) (b : ℕ) → g.zero_byte.spells front b → b ≡ 0
zero_is front b s = eqb-true b 0 (passes (b == 0) (UnknownOpcode b) 0 (s.1 []))

pub flag_is : (front : List ℕ) (b : ℕ) → g.flag_byte.spells front b → (b == 0 || b == 1) ≡ true
flag_is front b s = passes (b == 0 || b == 1) (UnknownOpcode b) 0 (s.1 [])

pub written-zero : Written g.zero_byte one_byte
written-zero = written-only byte _ one_byte written-byte

pub written-flag : Written g.flag_byte one_byte
written-flag = written-only byte _ one_byte written-byte

written-name : Written g.name name_bytes
written-name = written-then u32 (λ n. several n) u32_bytes (λ n. itself) name_bytes written-u32 written-several
    (λ n text front back sp sq. ap (λ (m : ℕ). u32_bytes m ++ text) (ap (λ (l : List ℕ). length l) sq.1 ∙ sq.0))

pub written-label : Written g.label name_bytes
unfolding g.label
written-label = written-only g.name _ name_bytes written-name

pub written-extern : Written g.extern_name extern_bytes
unfolding g.extern_name
written-extern = written-then g.zero_byte _ one_byte (λ b. name_bytes) extern_bytes written-zero (λ b. written-only g.name _ name_bytes written-name)
    (λ b text front back sp sq. ap (λ (c : ℕ). c ∷ name_bytes text) (sym (zero_is front b sp)))

-- 0 behind a value
pub written-closed : {Y : Type 0} (y : Y) → Written (g.zero_byte >>= λ b. give y) (λ y. 0 ∷ [])
written-closed y = written-then g.zero_byte (λ b. give y) one_byte (λ b z. []) (λ z. 0 ∷ []) written-zero (λ b. written-give y (λ z. []) refl)
    (λ b z front back sp sq. ap (λ (c : ℕ). c ∷ []) (sym (zero_is front b sp)))

-- ---- value types

pub primitive_back : (p : Primitive) → primitive_of (primitive_byte p) ≡ Some p
unfolding primitive_of
primitive_back prim.Bool = refl
primitive_back prim.S8 = refl
primitive_back prim.U8 = refl
primitive_back prim.S16 = refl
primitive_back prim.U16 = refl
primitive_back prim.S32 = refl
primitive_back prim.U32 = refl
primitive_back prim.S64 = refl
primitive_back prim.U64 = refl
primitive_back prim.Char = refl
primitive_back prim.String = refl

pub primitive_opens : (p : Primitive) → g.is_opcode (primitive_byte p) ≡ true
primitive_opens prim.Bool = refl
primitive_opens prim.S8 = refl
primitive_opens prim.U8 = refl
primitive_opens prim.S16 = refl
primitive_opens prim.U16 = refl
primitive_opens prim.S32 = refl
primitive_opens prim.U32 = refl
primitive_opens prim.S64 = refl
primitive_opens prim.U64 = refl
primitive_opens prim.Char = refl
primitive_opens prim.String = refl

pub no_fault : (p : Primitive) → g.valtype_fault (primitive_byte p) ≡ None
no_fault p = rw (primitive_back p) refl

pub placed_none : (o : Option Fault) (left : ℕ) → o ≡ None → stuck_if o left ≡ None
placed_none o left e = rw e refl

pub primitive_spelt : (p : Primitive) → g.primitive.spells (primitive_byte p ∷ []) (valtypes.Primitive p)
unfolding g.primitive
primitive_spelt p =
    let same : valtypes.Primitive p ≡ valtypes.Primitive (g.primitive_at (primitive_byte p)) = rw (primitive_back p) refl in
    (primitive_byte p ∷ [], [], primitive_byte p, refl, ((refl, refl), λ all. placed_none (g.valtype_fault (primitive_byte p)) (length all) (no_fault p)), (refl, same))

-- the primitive that is spelled
spelt_primitive : (bytes : List ℕ) (t : RawValType) → g.primitive.spells bytes t → (p : Primitive) × (t ≡ valtypes.Primitive p) × (1 ≤ length bytes)
unfolding g.primitive
spelt_primitive bytes t s =
    let one : s.0 ≡ s.2 ∷ [] = s.4.0.0 in
    let parts : length bytes ≡ length s.0 + length s.1 = ap (λ (l : List ℕ). length l) s.3 ∙ length-append s.0 s.1 in
    let long : length s.0 ≡ 1 = ap (λ (l : List ℕ). length l) one in
    (g.primitive_at s.2, s.5.1, omega (arith, parts, long))

written-primitive : Written g.primitive valtype_bytes
written-primitive = record {
  spelt = λ bytes t s. let h = spelt_primitive bytes t s in rw h.1 (primitive_spelt h.0);
  short = λ bytes t s. let h = spelt_primitive bytes t s in rw h.1 (omega (arith, h.2));
}

written-type_index : (types : ℕ) → Written (g.type_index types) valtype_bytes
unfolding g.type_index
written-type_index types = written-gives (only_bytes s33 (λ i. unless (nat_lt i types) BadIndex)) (λ i. valtypes.Index i) s33_bytes valtype_bytes (written-only s33 _ s33_bytes written-s33) (λ i. refl)

-- what is written begins with a byte that passes or not
abbrev pub Begins : (ℕ → Bool) → Bool → List ℕ → Type 0
Begins test b bytes = (c : ℕ) × (cs : List ℕ) × (bytes ≡ c ∷ cs) × (test c ≡ b)

pub index_begins : (i : ℕ) → Begins g.is_opcode false (s33_bytes i)
index_begins i =
    elim (cases_lt i 64) [
      | inl small ↦ (i, [], one_group 64 3 i small, let low : nat_le 64 i ≡ false = lt-leb 64 i small in rw low refl)
      | inr large ↦ (
        i % 128 + 128,
        groups 64 3 (i / 128),
        more_groups 64 3 i large,
        let low : nat_le 64 (i % 128 + 128) ≡ true = le-leb 64 (i % 128 + 128) (omega arith) in
            let high : nat_lt (i % 128 + 128) 128 ≡ false = le-ltb (i % 128 + 128) 128 (omega arith) in
            rw (low, high) refl,
      )
    ]

module _ {X : Type 0} (test : ℕ → Bool) (p q : Bytes X) (w : X → List ℕ) (ep : Written p w) (eq : Written q w) (bp : (bytes : List ℕ) (x : X) → p.spells bytes x → Begins test true (w x)) (bq : (bytes : List ℕ) (x : X) → q.spells bytes x → Begins test false (w x)) where
  spelt_so : (c : ℕ) (cs bytes : List ℕ) (x : X) (b : Bool) → bytes ≡ c ∷ cs → test c ≡ b → MatchBool b (p.spells bytes x) (q.spells bytes x) → spells_by test p q bytes x
  spelt_so c cs bytes x b e is s =
      let t : MatchBool b (p.spells (c ∷ cs) x) (q.spells (c ∷ cs) x) = subst (λ (l : List ℕ). MatchBool b (p.spells l x) (q.spells l x)) e s in
      let u : MatchBool (test c) (p.spells (c ∷ cs) x) (q.spells (c ∷ cs) x) = subst (λ (v : Bool). MatchBool v (p.spells (c ∷ cs) x) (q.spells (c ∷ cs) x)) (sym is) t in
      subst (λ (l : List ℕ). spells_by test p q l x) (sym e) u

  choose_spelt : (b : Bool) (bytes : List ℕ) (x : X) → MatchBool b (p.spells bytes x) (q.spells bytes x) → spells_by test p q (w x) x
  choose_spelt true bytes x s = let h = bp bytes x s in spelt_so h.0 h.1 (w x) x true h.2 h.3 (ep.spelt bytes x s)
  choose_spelt false bytes x s = let h = bq bytes x s in spelt_so h.0 h.1 (w x) x false h.2 h.3 (eq.spelt bytes x s)

  choose_short : (b : Bool) (bytes : List ℕ) (x : X) → MatchBool b (p.spells bytes x) (q.spells bytes x) → length (w x) ≤ length bytes
  choose_short true bytes x s = ep.short bytes x s
  choose_short false bytes x s = eq.short bytes x s

  all_spelt : (bytes : List ℕ) (x : X) → spells_by test p q bytes x → spells_by test p q (w x) x
  all_spelt [] x s = absurd s
  all_spelt (b ∷ bs) x s = choose_spelt (test b) (b ∷ bs) x s

  all_short : (bytes : List ℕ) (x : X) → spells_by test p q bytes x → length (w x) ≤ length bytes
  all_short [] x s = absurd s
  all_short (b ∷ bs) x s = choose_short (test b) (b ∷ bs) x s

  written-choose : Written (choose test p q) w
  written-choose = record { spelt = all_spelt; short = all_short }

primitive_begins : (bytes : List ℕ) (t : RawValType) → g.primitive.spells bytes t → Begins g.is_opcode true (valtype_bytes t)
primitive_begins bytes t s = let h = spelt_primitive bytes t s in (primitive_byte h.0, [], ap valtype_bytes h.1, primitive_opens h.0)

spelt_index : (types : ℕ) (bytes : List ℕ) (t : RawValType) → (g.type_index types).spells bytes t → (i : ℕ) × (t ≡ valtypes.Index i)
unfolding g.type_index
spelt_index types bytes t s = (s.2, s.5.1)

type_index_begins : (types : ℕ) (bytes : List ℕ) (t : RawValType) → (g.type_index types).spells bytes t → Begins g.is_opcode false (valtype_bytes t)
type_index_begins types bytes t s = let h = spelt_index types bytes t s in subst (λ (u : RawValType). Begins g.is_opcode false (valtype_bytes u)) (sym h.1) (index_begins h.0)

pub written-valtype : (types : ℕ) → Written (g.valtype types) valtype_bytes
unfolding g.valtype
written-valtype types = written-choose g.is_opcode g.primitive (g.type_index types) valtype_bytes written-primitive (written-type_index types) primitive_begins (type_index_begins types)

written-present : (types : ℕ) (w : Option RawValType → List ℕ) → ((t : RawValType) → w (Some t) ≡ valtype_bytes t) → Written (g.present types) w
written-present types w same = written-gives (g.valtype types) (λ t. Some t) valtype_bytes w (written-valtype types) same

-- a byte that is 0 or 1, and 1 where it isn't 0
is_one : (b : ℕ) → (b == 0) ≡ false → (b == 0 || b == 1) ≡ true → b ≡ 1
is_one b other flag = let h : (false || b == 1) ≡ true = rw other at flag in eqb-true b 1 h

optional_join : (types b : ℕ) (y : Option RawValType) (back : List ℕ) (t : Bool) → (b == 0) ≡ t → (b == 0 || b == 1) ≡ true → (when t (give None) (g.present types)).spells back y → optional_bytes y ≡ b ∷ drop 1 (optional_bytes y)
optional_join types b y back true is flag s = rw (s.1, eqb-true b 0 is) refl
optional_join types b y back false is flag s = rw (s.5.1, is_one b is flag) refl

pub written-optional : (types : ℕ) → Written (g.optional_valtype types) optional_bytes
unfolding g.optional_valtype
written-optional types = written-then g.flag_byte _ one_byte (λ b y. drop 1 (optional_bytes y)) optional_bytes written-flag
    (λ b. written-when (b == 0) (give None) (g.present types) (λ y. drop 1 (optional_bytes y)) (written-give None (λ y. drop 1 (optional_bytes y)) refl) (written-present types (λ y. drop 1 (optional_bytes y)) (λ t. refl)))
    (λ b y front back sp sq. optional_join types b y back (b == 0) refl (flag_is front b sp) sq)

outcome_join : (types b : ℕ) (y : Option RawValType) (back : List ℕ) (t : Bool) → (b == 0) ≡ t → (b == 0 || b == 1) ≡ true → (when t (g.present types) g.absent).spells back y → outcome_bytes y ≡ b ∷ drop 1 (outcome_bytes y)
outcome_join types b y back true is flag s = rw (s.5.1, eqb-true b 0 is) refl
outcome_join types b y back false is flag s = rw (s.5.1, is_one b is flag) refl

written-absent : Written g.absent (λ y. drop 1 (outcome_bytes y))
written-absent = written-then g.zero_byte (λ b. give None) one_byte (λ b z. []) (λ y. drop 1 (outcome_bytes y)) written-zero (λ b. written-give None (λ z. []) refl)
    (λ b z front back sp sq. rw (sq.1, zero_is front b sp) refl)

pub written-outcome : (types : ℕ) → Written (g.outcome types) outcome_bytes
unfolding g.outcome
written-outcome types = written-then g.flag_byte _ one_byte (λ b y. drop 1 (outcome_bytes y)) outcome_bytes written-flag
    (λ b. written-when (b == 0) (g.present types) g.absent (λ y. drop 1 (outcome_bytes y)) (written-present types (λ y. drop 1 (outcome_bytes y)) (λ t. refl)) written-absent)
    (λ b y front back sp sq. outcome_join types b y back (b == 0) refl (flag_is front b sp) sq)

pub written-field : (types : ℕ) → Written (g.field types) field_bytes
unfolding g.field
written-field types = written-then g.label _ name_bytes (λ text f. valtype_bytes f.ty) field_bytes written-label
    (λ text. written-gives (g.valtype types) (λ t. record { label = text; ty = t }) valtype_bytes (λ f. valtype_bytes f.ty) (written-valtype types) (λ t. refl))
    (λ text f front back sp sq. rw sq.5.1 refl)

pub written-case : (types : ℕ) → Written (g.case types) case_bytes
unfolding g.case
written-case types = written-then g.label _ name_bytes (λ text c. optional_bytes c.payload ++ 0 ∷ []) case_bytes written-label
    (λ text. written-then (g.optional_valtype types) _ optional_bytes (λ o c. 0 ∷ []) (λ c. optional_bytes c.payload ++ 0 ∷ []) (written-optional types)
    (λ o. written-closed (record { label = text; payload = o }))
    (λ o c front back sp sq. rw sq.5.1 refl))
    (λ text c front back sp sq. rw sq.5.5.1 refl)
