-- Productions over bytes.
use Rattle.std.specs.Prelude.{◌≡◌, ℕ, zero, suc, ◌+◌, ◌-◌, ◌^◌, ◌<◌, ◌≤◌, ◌⊎◌, List, [], ◌∷◌, ◌++◌, length, take, drop, Option, Some, None, Result, Ok, Err, Bool, true, false, ◌&&◌, MatchBool, slice_index, nat_le, nat_lt, ◌==◌, if◌then◌else◌}
use Rattle.ctype_format.specs.declared.error.Fault.{Fault}
use Rattle.ctype_format.specs.declared.error.Fault.TheVariants.{SizeMismatch, Overlong, UnknownOpcode}
use Rattle.ctype_format.specs.declared.error.Stuck.{Stuck}
use Rattle.ctype_format.specs.declared.error.Stuck.TheVariants.{End, At, Past}
use Rattle.ctype_format.specs.declared.error.ItemError.{ItemError}
use Rattle.ctype_format.specs.declared.error.ItemError.TheVariants as errors
use Rattle.atoms.specs.Production.{Production, next, one}
use Rattle.atoms.specs.Production as general
use Rattle.atoms.specs.declared.error.AtomError.{AtomError}
use Rattle.atoms.specs.declared.error.AtomError.TheVariants as atoms
use Rattle.atoms.specs.Leb128.{SpellsU32, SpellsS33, EndsEarly, groups_at}

-- a production over bytes, whose faults have their place from the end of the bytes
abbrev pub Bytes : Type 0 → Type 1
Bytes X = Production ℕ Stuck X

-- the fault of bytes that end too early
abbrev pub ended : List ℕ → Stuck
ended bytes = End

-- one byte
abbrev pub byte : Bytes ℕ
byte = one (λ b. true) ended

-- the fault with so many bytes from its place on, if there is one
abbrev pub stuck_if : Option Fault → ℕ → Option Stuck
stuck_if None left = None
stuck_if (Some fault) left = Some (At fault left)

-- the fault of a value that was read from the first of these bytes, if it has one
abbrev pub at : {X : Type 0} → (X → Option Fault) → X → List ℕ → Option Stuck
at fault x bytes = stuck_if (fault x) (length bytes)

-- p, unless the test finds a fault in what p spells: it stands at the first byte of that
abbrev pub only_bytes : {X : Type 0} → Bytes X → (X → Option Fault) → Bytes X
only_bytes p fault = general.only p (at fault)

-- a fault unless the test passes
abbrev pub unless : Bool → Fault → Option Fault
unless true fault = None
unless false fault = Some fault

-- n bytes
abbrev pub several : ℕ → Bytes (List ℕ)
several n = record {
  spells = λ bytes x. (length bytes ≡ n) × (x ≡ bytes);
  stops = λ bytes x after. (length bytes ≡ n) × (x ≡ bytes);
  fails = λ bytes f. (length bytes < n) × (f ≡ End);
  read = λ bytes. if nat_le n (length bytes) then Ok (take n bytes, drop n bytes) else Err End;
}

-- all that is left
abbrev pub remaining : Bytes ℕ
remaining = record {
  spells = λ bytes x. x ≡ 0;
  stops = λ bytes x after. (x ≡ 0) × (after ≡ None);
  fails = λ bytes f. ⊥;
  read = λ bytes. Ok (0, []);
}

-- ---- numbers

-- no front of these bytes is a number, and no number begins with them
abbrev pub NoNumber : (List ℕ → ℕ → Type 0) → List ℕ → Type 0
NoNumber spells bytes = ((n k : ℕ) → spells (take k bytes) n → ⊥) × (EndsEarly spells bytes → ⊥)

-- the number and the bytes after it, or the fault of a number that the bytes do not hold whole or in range
abbrev pub number_from : (List ℕ → Fault) → List ℕ → Result (ℕ × ℕ) AtomError → Result (ℕ × List ℕ) Stuck
number_from fault bytes (Ok x) = Ok (x.0, drop x.1 bytes)
number_from fault bytes (Err atoms.Truncated) = Err End
number_from fault bytes (Err atoms.Overlong) = Err (At (fault bytes) (length bytes))
number_from fault bytes (Err atoms.BadLabel) = Err End
number_from fault bytes (Err atoms.BadName) = Err End
number_from fault bytes (Err atoms.NoMemory) = Err End

-- a number in LEB128 whose last byte is below limit
abbrev pub number : (List ℕ → ℕ → Type 0) → ℕ → (List ℕ → Fault) → Bytes ℕ
number spells limit fault = record {
  spells = spells;
  stops = λ bytes x after. spells bytes x;
  fails = λ bytes f. (EndsEarly spells bytes × (f ≡ End)) ⊎ (NoNumber spells bytes × (f ≡ At (fault bytes) (length bytes)));
  read = λ bytes. number_from fault bytes (groups_at limit 4 bytes);
}

-- `u32` of Binary.md in unsigned LEB128: at most five bytes, the last below 16 if there are five
abbrev pub u32 : Bytes ℕ
u32 = number SpellsU32 128 (λ bytes. Overlong)

-- the last of at most room + 1 bytes has the sign, bit 6, of a negative number
abbrev pub is_negative : ℕ → List ℕ → Bool
is_negative room [] = false
is_negative zero (b ∷ bs) = nat_le 112 b && nat_lt b 128
is_negative (suc room) (b ∷ bs) = if nat_lt b 128 then nat_le 64 b else is_negative room bs

-- the fault in place of an index of a value type: a negative number is an opcode, any other too long
abbrev pub signed_fault : List ℕ → Fault
signed_fault bytes = if is_negative 4 bytes then UnknownOpcode (slice_index bytes 0) else Overlong

-- a signed number that isn't negative
abbrev pub s33 : Bytes ℕ
s33 = number SpellsS33 64 signed_fault

-- ---- sections

-- a fault within a section, its place from the end of the input, which has so many bytes after the section
abbrev pub in_section : ℕ → Stuck → Stuck
in_section left End = At SizeMismatch left
in_section left (At fault n) = At fault (n + left)
in_section left (Past n) = At SizeMismatch left

-- What reading the bytes of a section gives, where so many bytes follow the section.
abbrev pub section_from : {X : Type 0} → ℕ → List ℕ → Result (X × List ℕ) Stuck → Result (X × List ℕ) Stuck
section_from left rest (Ok x) = if length x.1 == 0 then Ok (x.0, rest) else Err (At SizeMismatch left)
section_from left rest (Err f) = Err (in_section left f)

-- what reading a section gives if the input ends before the section does, with the fault of that
abbrev pub cut_section_from : {X : Type 0} → Stuck → Result (X × List ℕ) Stuck → Result (X × List ℕ) Stuck
cut_section_from short (Ok x) = Err short
cut_section_from short (Err f) = Err f

-- the place of a fault in a section, from the end of the input, is a number of 64 bits
abbrev pub StaysSmall : Stuck → ℕ → Type 0
StaysSmall End left = Unit {0}
StaysSmall (At fault n) left = n + left < 2 ^ 64
StaysSmall (Past n) left = Unit {0}

-- p takes a front of these bytes, and so many are left
abbrev pub HasFront : {X : Type 0} → Bytes X → List ℕ → ℕ → Type 0
HasFront p bytes left = (front back : List ℕ) × (x : _) × (bytes ≡ front ++ back) × (length back ≡ left) × p.stops front x (next back)

-- the section is whole, and a fault is in it, or bytes are left; or the input ends before the section does
abbrev pub FailsInSection : {X : Type 0} → (ℕ → Stuck) → ℕ → Bytes X → List ℕ → Stuck → Type 0
FailsInSection short size p bytes f =
    ((size ≤ length bytes) × ((inner : Stuck) × p.fails (take size bytes) inner × (f ≡ in_section (length bytes - size) inner)))
    ⊎ (((size ≤ length bytes) × ((left : ℕ) × (0 < left) × HasFront p (take size bytes) left × (f ≡ At SizeMismatch (length bytes - size))))
    ⊎ (((length bytes < size) × p.fails bytes f)
    ⊎ ((length bytes < size) × ((left : ℕ) × HasFront p bytes left × (f ≡ short (size - length bytes))))))

-- p, in exactly so many bytes; short is the fault where p is there and the input ends so many bytes before the section
unfoldable pub sized : {X : Type 0} → (ℕ → Stuck) → ℕ → Bytes X → Bytes X
sized short size p = record {
  spells = λ bytes x. (length bytes ≡ size) × p.spells bytes x;
  stops = λ bytes x after. (length bytes ≡ size) × p.stops bytes x None;
  fails = FailsInSection short size p;
  read = λ bytes. if nat_le size (length bytes) then section_from (length bytes - size) (drop size bytes) (p.read (take size bytes)) else cut_section_from (short (size - length bytes)) (p.read bytes);
}

-- ---- a choice by the first byte, p or q

-- what the choice of p and q spells: never nothing
abbrev pub spells_by : {X : Type 0} → (ℕ → Bool) → Bytes X → Bytes X → List ℕ → X → Type 0
spells_by test p q [] x = ⊥
spells_by test p q (b ∷ bs) x = MatchBool (test b) (p.spells (b ∷ bs) x) (q.spells (b ∷ bs) x)

-- what the choice of p and q spells if this byte comes next
abbrev pub stops_by : {X : Type 0} → (ℕ → Bool) → Bytes X → Bytes X → List ℕ → X → Option ℕ → Type 0
stops_by test p q [] x after = ⊥
stops_by test p q (b ∷ bs) x after = MatchBool (test b) (p.stops (b ∷ bs) x after) (q.stops (b ∷ bs) x after)

-- the first fault of the choice of p and q: no byte, or that of the one chosen
abbrev pub fails_by : {X : Type 0} → (ℕ → Bool) → Bytes X → Bytes X → List ℕ → Stuck → Type 0
fails_by test p q [] f = f ≡ End
fails_by test p q (b ∷ bs) f = MatchBool (test b) (p.fails (b ∷ bs) f) (q.fails (b ∷ bs) f)

-- how the choice of p and q reads: the first byte is not taken by the choice itself
abbrev pub read_by : {X : Type 0} → (ℕ → Bool) → Bytes X → Bytes X → List ℕ → Result (X × List ℕ) Stuck
read_by test p q [] = Err End
read_by test p q (b ∷ bs) = if test b then p.read (b ∷ bs) else q.read (b ∷ bs)

-- p if the first byte passes the test, else q; the one chosen reads that byte too
abbrev pub choose : {X : Type 0} → (ℕ → Bool) → Bytes X → Bytes X → Bytes X
choose test p q = record { spells = spells_by test p q; stops = stops_by test p q; fails = fails_by test p q; read = read_by test p q }

-- ---- what the code answers

-- a reader's error is the fault that reading gives, unless memory ran out
abbrev pub Stops : {Y : Type 0} → ItemError → Result Y Stuck → Type 0
Stops errors.Memory read = Unit {0}
Stops (errors.Stuck f) read = read ≡ Err f

-- What a function returned, seen by view, is what reading gives, unless memory ran out.
abbrev pub AnswersBytes : {X Y : Type 0} → (X → Y) → Result X ItemError → Result Y Stuck → Type 0
AnswersBytes view (Ok x) read = read ≡ Ok (view x)
AnswersBytes view (Err e) read = Stops e read
