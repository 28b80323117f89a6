-- Binary.md: numbers, names and sized parts, in bytes that end at an offset of the file, which places their faults.
use Rattle.std.specs.Prelude.{◌≡◌, ℕ, zero, suc, ◌-◌, ◌<◌, ◌⊎◌, List, [], ◌∷◌, ◌++◌, length, take, drop, Result, Ok, Err, Bool, true, false, MatchBool, nat_le, ◌==◌, ◌||◌, if◌then◌else◌}
use Rattle.std.specs.Str.{is_utf8}
use Rattle.atoms.specs.Label.{is_label}
use Rattle.atoms.specs.Leb128.{SpellsU32, SpellsS33, EndsEarly, groups_at}
use Rattle.atoms.specs.FullName.{full_name_text}
use Rattle.atoms.specs.FullNameView.{name_parts_of}
use Rattle.atoms.specs.Production.{Production, after, next, passes, one, give, never, ◌>>=◌, at_end}
use Rattle.atoms.specs.declared.error.AtomError.{AtomError}
use Rattle.atoms.specs.declared.error.AtomError.TheVariants as atoms
use Rattle.ctype_format.specs.Bytes.{NoNumber}
use Rattle.ctype_format.specs.Names.{is_full_name}
use Rattle.ctype_format.specs.declared.name.ExternName.{ExternName}
use Rattle.ctype_format.specs.declared.name.ExternName.TheVariants as ext
use Rattle.component_structure.specs.declared.error.Feature.TheVariants.{Resource, VersionSuffix}
use Rattle.component_structure.specs.declared.error.Fault.{Fault}
use Rattle.component_structure.specs.declared.error.Fault.TheVariants.{Truncated, Overlong, UnknownByte, Outside, NotUtf8, NotLabel, BadName, SizeMismatch}
use Rattle.component_structure.specs.declared.error.DecodeError.{DecodeError}
use Rattle.component_structure.specs.declared.error.DecodeError.TheVariants as errors

-- a production over bytes, whose faults have their offset in the file
abbrev pub Bytes : Type 0 → Type 1
Bytes X = Production ℕ DecodeError X

-- a fault at the first of these bytes, which end at this offset
abbrev pub at : ℕ → Fault → List ℕ → DecodeError
at end fault bytes = errors.At fault (end - length bytes)

-- the fault of bytes that end too early, at their end
abbrev pub ended : ℕ → DecodeError
ended end = errors.At Truncated end

-- ---- values that are judged

-- what was read of these bytes is seen as y, or there is a fault at the first of them
abbrev pub judged_from : {Y : Type 0} → ℕ → List ℕ → List ℕ → Result Y Fault → Result (Y × List ℕ) DecodeError
judged_from end bytes rest (Ok y) = Ok (y, rest)
judged_from end bytes rest (Err fault) = Err (at end fault bytes)

-- p, and what f sees in its value; a fault that f finds in it stands at the first byte
abbrev pub judged : {X Y : Type 0} → ℕ → Bytes X → (X → Result Y Fault) → Bytes Y
judged end p f = record {
  spells = λ bytes y. (x : _) × p.spells bytes x × (f x ≡ Ok y);
  stops = λ bytes y n. (x : _) × p.stops bytes x n × (f x ≡ Ok y);
  fails = λ bytes e. p.fails bytes e ⊎ ((front back : List ℕ) × (x : _) × (fault : Fault) × (bytes ≡ front ++ back) × p.stops front x (next back) × (f x ≡ Err fault) × (e ≡ at end fault bytes));
  read = λ bytes. after (p.read bytes) (λ x. judged_from end bytes x.1 (f x.0));
}

-- p if the next byte is there and passes the test, else q
abbrev pub by_next : {X : Type 0} → (ℕ → Bool) → Bytes X → Bytes X → Bytes X
by_next test p q = record {
  spells = λ bytes x. MatchBool (passes test (next bytes)) (p.spells bytes x) (q.spells bytes x);
  stops = λ bytes x n. MatchBool (passes test (next bytes)) (p.stops bytes x n) (q.stops bytes x n);
  fails = λ bytes e. MatchBool (passes test (next bytes)) (p.fails bytes e) (q.fails bytes e);
  read = λ bytes. if passes test (next bytes) then p.read bytes else q.read bytes;
}

-- ---- bytes

-- one byte
abbrev pub byte : ℕ → Bytes ℕ
byte end = one (λ b. true) (at end Truncated)

-- n bytes
abbrev pub several : ℕ → ℕ → Bytes (List ℕ)
several end n = record {
  spells = λ bytes x. (length bytes ≡ n) × (x ≡ bytes);
  stops = λ bytes x after. (length bytes ≡ n) × (x ≡ bytes);
  fails = λ bytes e. (length bytes < n) × (e ≡ ended end);
  read = λ bytes. if nat_le n (length bytes) then Ok (take n bytes, drop n bytes) else Err (ended end);
}

-- what a byte that has to be 0 says
abbrev pub zero_of : ℕ → Result ℕ Fault
zero_of b = if b == 0 then Ok 0 else Err (UnknownByte b)

-- a byte that is 0
abbrev pub zero_byte : ℕ → Bytes ℕ
zero_byte end = judged end (byte end) zero_of

-- what a byte that has to be 0 or 1 says: whether it is 1
abbrev pub flag_of : ℕ → Result Bool Fault
flag_of b = if b == 0 then Ok false else (if b == 1 then Ok true else Err (UnknownByte b))

-- a byte that is 0 or 1: whether it is 1
abbrev pub flag : ℕ → Bytes Bool
flag end = judged end (byte end) flag_of

-- ---- numbers

-- the number and the bytes after it, or the fault of a number that the bytes do not hold whole or in range
abbrev pub number_from : ℕ → List ℕ → Result (ℕ × ℕ) AtomError → Result (ℕ × List ℕ) DecodeError
number_from end bytes (Ok x) = Ok (x.0, drop x.1 bytes)
number_from end bytes (Err atoms.Overlong) = Err (at end Overlong bytes)
number_from end bytes (Err atoms.Truncated) = Err (ended end)
number_from end bytes (Err atoms.BadLabel) = Err (ended end)
number_from end bytes (Err atoms.BadName) = Err (ended end)
number_from end bytes (Err atoms.NoMemory) = Err (ended end)

-- a number in LEB128 whose last byte is below limit
abbrev pub number : (List ℕ → ℕ → Type 0) → ℕ → ℕ → Bytes ℕ
number spells limit end = record {
  spells = spells;
  stops = λ bytes x after. spells bytes x;
  fails = λ bytes e. (EndsEarly spells bytes × (e ≡ ended end)) ⊎ (NoNumber spells bytes × (e ≡ at end Overlong bytes));
  read = λ bytes. number_from end bytes (groups_at limit 4 bytes);
}

-- `u32` of Binary.md: a count, a size, or an index
abbrev pub u32 : ℕ → Bytes ℕ
u32 = number SpellsU32 128

-- `s33` of Binary.md, of numbers from 0 on: an index in the place of a type of values
abbrev pub s33 : ℕ → Bytes ℕ
s33 = number SpellsS33 64

-- ---- names

-- a size, and a part of this size
abbrev pub sized : ℕ → Bytes (List ℕ)
sized end = do
  n ← u32 end
  several end n

-- a text that is UTF-8
abbrev pub utf8_of : List ℕ → Result (List ℕ) Fault
utf8_of text = if is_utf8 text then Ok text else Err NotUtf8

-- a name: its size, and so many bytes of UTF-8
abbrev pub name : ℕ → Bytes (List ℕ)
name end = judged end (sized end) utf8_of

-- a text that is a label
abbrev pub label_of : List ℕ → Result (List ℕ) Fault
label_of text = if is_label text then Ok text else Err NotLabel

-- a name that is a label
abbrev pub label : ℕ → Bytes (List ℕ)
label end = judged end (name end) label_of

-- the mark before the name of an import or an export: 0, or 1 as older tools write it
abbrev pub mark_of : ℕ → Result ℕ Fault
mark_of b = if b == 0 || b == 1 then Ok b else (if b == 2 then Err (Outside VersionSuffix) else Err (UnknownByte b))

-- what is wrong with a text that is neither a label nor a full name
abbrev pub name_fault : List ℕ → Fault
name_fault [] = BadName
name_fault (c ∷ cs) = if c == 91 then Outside Resource else BadName

-- the name of an import or an export: a label, or the text of a full name
pub data Name : Type 0 where
  Plain : List ℕ → Name
  Full : List ℕ → Name

-- a text that is a label or a full name
abbrev pub extern_of : List ℕ → Result Name Fault
extern_of text = if is_label text then Ok (Plain text) else (if is_full_name text then Ok (Full text) else Err (name_fault text))

-- the name of an import or an export
abbrev pub extern_name : ℕ → Bytes Name
extern_name end = do
  mark ← judged end (byte end) mark_of
  judged end (name end) extern_of

-- the text of a name
abbrev pub name_text : Name → List ℕ
name_text (Plain text) = text
name_text (Full text) = text

-- the name that a value of the code is
abbrev pub extern_view : ExternName → Name
extern_view (ext.Label l) = Plain l
extern_view (ext.FullName n) = Full (full_name_text (name_parts_of n.value))

-- ---- places

-- the offset of the next byte, which is not taken
abbrev pub here : ℕ → Bytes ℕ
here end = record {
  spells = λ bytes x. bytes ≡ [];
  stops = λ bytes x after. bytes ≡ [];
  fails = λ bytes e. ⊥;
  read = λ bytes. Ok (end - length bytes, bytes);
}

-- what was made without reading, or why it was not
abbrev pub granted : {X : Type 0} → Result X DecodeError → Bytes X
granted (Ok x) = give x
granted (Err e) = never (λ bytes. e)

-- ---- parts and repeats

-- p, and the end of the section
abbrev pub to_end : {X : Type 0} → ℕ → Bytes X → Bytes X
to_end end p = do
  x ← p
  e ← at_end (at end SizeMismatch)
  give x

-- what was read, without the bytes behind
abbrev pub front : {X : Type 0} → Result (X × List ℕ) DecodeError → Result X DecodeError
front r = after r (λ x. Ok x.0)

-- what p makes of the front of these bytes; what stands behind is not read
abbrev pub front_of : {X : Type 0} → Bytes X → List ℕ → Result X DecodeError
front_of p bytes = front (p.read bytes)

-- p, n times, each in the state that the one before it left
unfoldable pub repeat : {S : Type 0} → ℕ → (S → Bytes S) → S → Bytes S
repeat zero p state = give state
repeat (suc n) p state = p state >>= repeat n p

-- p, if bytes are left
abbrev pub if_left : {S : Type 0} → (S → Bytes S) → S → Bytes S
if_left p s = by_next (λ b. true) (p s) (give s)

-- what p reads as long as bytes are left, of which it takes one at least each time
abbrev pub while_left : {S : Type 0} → (S → Bytes S) → S → List ℕ → Result (S × List ℕ) DecodeError
while_left p state bytes = (repeat (length bytes) (if_left p) state).read bytes

-- ---- what the code answers

-- a reader's error is the one that reading gives, unless memory ran out
abbrev pub Refuses : {Y : Type 0} → DecodeError → Result Y DecodeError → Type 0
Refuses (errors.At fault place) read = read ≡ Err (errors.At fault place)
Refuses errors.NoMemory read = Unit {0}

-- what a reader answered, seen by view, is what reading gives, unless memory ran out
abbrev pub Answers : {X Y : Type 0} → (X → Y) → Result X DecodeError → Result Y DecodeError → Type 0
Answers view (Ok x) read = read ≡ Ok (view x)
Answers view (Err e) read = Refuses e read
