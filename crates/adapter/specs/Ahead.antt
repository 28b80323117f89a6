-- CanonicalABI.md, "Loading", "Flat Lifting" and "Storing" (the calls of `realloc`): the blocks that a copy of a value will ask for, as far as its
-- bytes can be read. After the first fault nothing is asked for; a text's block has the bytes that its length states, and comes before them.
use Rattle.std.specs.Prelude.{ℕ, zero, suc, ◌+◌, ◌*◌, ◌<◌, ◌≤◌, List, [], ◌∷◌, ◌++◌, length, map, drop, if◌then◌else◌, Result, Ok, Err, MatchResult}
use Rattle.std.specs.Int.{w32, next_multiple_of}
use Rattle.canonical_abi.specs.Call.{argument_flats}
use Rattle.canonical_abi.specs.Layout.{align, size, payload_place, flat_kinds, fits_flat, max_flat_params, max_flat_results}
use Rattle.canonical_abi.specs.Reading.{reading, lifting, block_at, number_at, number_of, low_bits, case_number}
use Rattle.canonical_abi.specs.Requests.{request}
use Rattle.canonical_abi.specs.Trace
use Rattle.canonical_abi.specs.Types.{ClosedType, prim_type, string_type, list_type, record_type, variant_type, flags_type, Fields, no_field, field, Cases, no_case, plain_case, case_with, FunctionType}
use Rattle.canonical_abi.specs.Values.{Value}
use Rattle.canonical_abi.specs.declared.flat.Flat.{Flat}
use Rattle.canonical_abi.specs.declared.trap.TrapKind.{TrapKind}
use Rattle.adapter.specs.Asking.{total}
use Rattle.adapter.specs.declared.asking.request.Untold.{Untold}
use Rattle.adapter.specs.declared.asking.request.Untold.TheVariants as untold
use Rattle.adapter.specs.declared.requests.Unasked.{Unasked}
use Rattle.adapter.specs.declared.requests.Unasked.TheVariants as unasked

-- these requests, if what comes before them can be read
abbrev pub then_asked : {A : Type 0} → Result A TrapKind → List Trace.Request → List Trace.Request
then_asked (Ok v) rs = rs
then_asked (Err k) rs = []

-- what n values from address a on ask for, each a step after the one before: `read` reads one, and `ask` says what it asks for
abbrev pub each_asked : (ℕ → Result Value TrapKind) → (ℕ → List Trace.Request) → ℕ → ℕ → ℕ → List Trace.Request
each_asked read ask step a zero = []
each_asked read ask step a (suc n) = ask a ++ then_asked (read a) (each_asked read ask step (a + step) n)

-- what a list of n values at an address asks for: its block, if that is one of the memory, and then its elements
abbrev pub list_asked : (ℕ → Result Value TrapKind) → (ℕ → List Trace.Request) → List ℕ → ℕ → ℕ → ℕ → ℕ → List Trace.Request
list_asked read ask m alignment step at n = then_asked (block_at m at alignment (n * step)) (request alignment (n * step) ∷ each_asked read ask step at n)

abbrev mutual
  -- what the value of this type at address a of the memory m asks for
  pub asked_at : ClosedType → List ℕ → ℕ → List Trace.Request
  asked_at (prim_type p) m a = []
  asked_at string_type m a = request 1 (number_at m (a + 4) w32) ∷ []
  asked_at (list_type t) m a = list_asked (reading t m) (asked_at t m) m (align t) (size t) (number_at m a w32) (number_at m (a + 4) w32)
  asked_at (record_type fs) m a = fields_asked fs m a 0
  asked_at (variant_type cs) m a = case_asked cs m (a + payload_place cs) (case_number cs m a)
  asked_at (flags_type n) m a = []

  -- what these fields of the record at a ask for, in order; the field before them ends at offset `from`
  pub fields_asked : Fields → List ℕ → ℕ → ℕ → List Trace.Request
  fields_asked no_field m a from = []
  fields_asked (field t fs) m a from =
      asked_at t m (a + next_multiple_of from (align t))
      ++ then_asked (reading t m (a + next_multiple_of from (align t))) (fields_asked fs m a (next_multiple_of from (align t) + size t))

  -- what case n of these asks for, with its payload at a
  pub case_asked : Cases → List ℕ → ℕ → ℕ → List Trace.Request
  case_asked no_case m a n = []
  case_asked (plain_case cs) m a zero = []
  case_asked (plain_case cs) m a (suc n) = case_asked cs m a n
  case_asked (case_with t cs) m a zero = asked_at t m a
  case_asked (case_with t cs) m a (suc n) = case_asked cs m a n

abbrev mutual
  -- what the value in the first of these flat values asks for; texts and lists stand in memory
  pub asked_in : ClosedType → List ℕ → List ℕ → List Trace.Request
  asked_in (prim_type p) m fs = []
  asked_in string_type m fs = request 1 (low_bits fs 1 32) ∷ []
  asked_in (list_type t) m fs = list_asked (reading t m) (asked_at t m) m (align t) (size t) (low_bits fs 0 32) (low_bits fs 1 32)
  asked_in (record_type ts) m fs = flat_fields_asked ts m fs
  asked_in (variant_type cs) m fs = flat_case_asked cs m (drop 1 fs) (low_bits fs 0 32)
  asked_in (flags_type n) m fs = []

  -- what the fields ask for in turn; each takes as many flat values as its type has core value types
  pub flat_fields_asked : Fields → List ℕ → List ℕ → List Trace.Request
  flat_fields_asked no_field m fs = []
  flat_fields_asked (field t ts) m fs = asked_in t m fs ++ then_asked (lifting t m fs) (flat_fields_asked ts m (drop (length (flat_kinds t)) fs))

  -- what case n of these asks for
  pub flat_case_asked : Cases → List ℕ → List ℕ → ℕ → List Trace.Request
  flat_case_asked no_case m fs n = []
  flat_case_asked (plain_case cs) m fs zero = []
  flat_case_asked (plain_case cs) m fs (suc n) = flat_case_asked cs m fs n
  flat_case_asked (case_with t cs) m fs zero = asked_in t m fs
  flat_case_asked (case_with t cs) m fs (suc n) = flat_case_asked cs m fs n

-- what values of these types ask for: they are carried by flat values, or by a record at the address in the first one, whose own request is `own`
abbrev pub values_asked : ℕ → Fields → List ℕ → List Flat → List Trace.Request → List Trace.Request
values_asked limit ts m flats own =
    if fits_flat limit ts
    then flat_fields_asked ts m (map number_of flats)
    else then_asked (block_at m (low_bits (map number_of flats) 0 32) (align (record_type ts)) (size (record_type ts))) (own ++ fields_asked ts m (low_bits (map number_of flats) 0 32) 0)

-- what the parameters in these flat values ask for: a record of them is copied, too
abbrev pub params_asked : Fields → List ℕ → List Flat → List Trace.Request
params_asked ts m flats = values_asked max_flat_params ts m flats (request (align (record_type ts)) (size (record_type ts)) ∷ [])

-- what the arguments of a call ask for, in the caller's memory
abbrev pub arguments_asked : FunctionType → List Flat → List ℕ → List Trace.Request
arguments_asked f flats m = params_asked f.params m (argument_flats f flats)

-- what the result in these flat values asks for: the return area is there already
abbrev pub result_asked : Fields → List ℕ → List Flat → List Trace.Request
result_asked ts m flats = values_asked max_flat_results ts m flats []

-- the limit is told exactly if these requests have more bytes
abbrev pub MeetsLimit : List Trace.Request → ℕ → Untold → Type 0
MeetsLimit rs limit (untold.Fault k) = total rs ≤ limit
MeetsLimit rs limit untold.AboveLimit = limit < total rs

-- the same of what a walk answers, whose requests are within the limit if it ends
abbrev pub TellsLimit : List Trace.Request → ℕ → {X : Type 0} → Result X Untold → Type 0
TellsLimit rs limit result = MatchResult result (λ _. total rs ≤ limit) (MeetsLimit rs limit)

-- the same of a half
abbrev pub HalfMeetsLimit : List Trace.Request → ℕ → Unasked → Type 0
HalfMeetsLimit rs limit (unasked.Fault fault) = total rs ≤ limit
HalfMeetsLimit rs limit unasked.AboveLimit = limit < total rs

-- the same of what a half answers
abbrev pub HalfTellsLimit : List Trace.Request → ℕ → {X : Type 0} → Result X Unasked → Type 0
HalfTellsLimit rs limit result = MatchResult result (λ _. total rs ≤ limit) (HalfMeetsLimit rs limit)
