-- What whole ways ask for.
use Rattle.std.proofs.Common.{◌≡◌, inl, inr, ℕ, ◌+◌, true, false, List, [], ◌∷◌, ◌++◌, map, Ok, Err, refl, sym, ap, ◌∙◌, arith}
use Rattle.canonical_abi.specs.Flat.{Denotes, DenotesFault}
use Rattle.canonical_abi.specs.Layout.{align, size, fits_flat, passed_kinds}
use Rattle.canonical_abi.specs.Memory.{BlockHolds}
use Rattle.canonical_abi.specs.Reading.{kind_of, number_of, low_bits, block_at, lifting_fields, reading_fields}
use Rattle.canonical_abi.specs.Requests.{request, fields_requests, params_requests}
use Rattle.canonical_abi.specs.Trace
use Rattle.canonical_abi.specs.Types.{Fields, record_type}
use Rattle.canonical_abi.specs.Values.{Value}
use Rattle.canonical_abi.specs.declared.flat.Flat.{Flat}
use Rattle.canonical_abi.specs.declared.trap.TrapKind.{TrapKind}
use Rattle.canonical_abi.proofs.ReadValues.ReadsExactly.{fields-lift, fields-tell}
use Rattle.adapter.specs.Ahead.{values_asked, flat_fields_asked, fields_asked, MeetsLimit}
use Rattle.adapter.specs.Asking.{total, IsTold, IsToldAhead, Stops, IsUntold}
use Rattle.adapter.specs.declared.asking.request.Request.{Request}
use Rattle.adapter.specs.declared.asking.request.Untold.{Untold}
use Rattle.adapter.specs.declared.asking.request.Untold.TheVariants as untold

module _ (limit : ℕ) (ts : Fields) (m : List ℕ) (flats : List Flat) (kinds : map kind_of flats ≡ passed_kinds limit ts) where
  pub flat-denotes : fits_flat limit ts ≡ true → (vs : List Value) → lifting_fields ts m (map number_of flats) ≡ Ok vs → Denotes limit ts m flats vs
  flat-denotes fits vs e = (kinds, inl (fits, (fields-lift ts m (map number_of flats)).ok vs e))

  pub flat-fault : fits_flat limit ts ≡ true → (k : TrapKind) → lifting_fields ts m (map number_of flats) ≡ Err k → DenotesFault limit ts m flats k
  flat-fault fits k e = inr (kinds, inl (fits, (fields-lift ts m (map number_of flats)).err k e))

  flat-read : fits_flat limit ts ≡ true → (vs : List Value) → Denotes limit ts m flats vs → lifting_fields ts m (map number_of flats) ≡ Ok vs
  flat-read fits vs d = elim d.1 [ inl x ↦ (fields-lift ts m (map number_of flats)).ok_only vs x.1 | inr y ↦ absurd (let e : true ≡ false = sym fits ∙ y.0 in cc) ]

  pub flat-untold : fits_flat limit ts ≡ true → (f : List Value → List Trace.Request) (l : ℕ) → ((vs : List Value) → fields_requests ts vs ≡ f vs)
      → (e : Untold) → Stops (lifting_fields ts m (map number_of flats)) (fields_requests ts) l e → IsUntold (Denotes limit ts m flats) (DenotesFault limit ts m flats) f l e
  flat-untold fits f l same (untold.Fault k) h = flat-fault fits k h
  flat-untold fits f l same untold.AboveLimit h = λ vs d. omega (arith, h vs (flat-read fits vs d), ap total (same vs))

  module _ (fits : fits_flat limit ts ≡ false) (from : ℕ) (is : from ≡ low_bits (map number_of flats) 0 32) (stands : BlockHolds m from (align (record_type ts)) (size (record_type ts))) where
    pub spilled-denotes : (vs : List Value) → reading_fields ts m from 0 ≡ Ok vs → Denotes limit ts m flats vs
    spilled-denotes vs e = (kinds, inr (fits, rw (← is) (stands, (fields-tell ts m from 0).ok vs e)))

    pub spilled-fault : (k : TrapKind) → reading_fields ts m from 0 ≡ Err k → DenotesFault limit ts m flats k
    spilled-fault k e = inr (kinds, inr (fits, rw (← is) (inr (stands, (fields-tell ts m from 0).err k e))))

    spilled-read : (vs : List Value) → Denotes limit ts m flats vs → reading_fields ts m from 0 ≡ Ok vs
    spilled-read vs d = elim d.1 [
      | inl x ↦ absurd (let e : true ≡ false = sym x.0 ∙ fits in cc)
      | inr y ↦ rw is ((fields-tell ts m (low_bits (map number_of flats) 0 32) 0).ok_only vs y.1.1)
    ]

    pub spilled-untold : (f : List Value → List Trace.Request) (before k l : ℕ) → ((vs : List Value) → before + total (fields_requests ts vs) ≡ total (f vs)) → l ≡ k + before
        → (e : Untold) → Stops (reading_fields ts m from 0) (fields_requests ts) k e → IsUntold (Denotes limit ts m flats) (DenotesFault limit ts m flats) f l e
    spilled-untold f before k l same sum (untold.Fault j) h = spilled-fault j h
    spilled-untold f before k l same sum untold.AboveLimit h = λ vs d. omega (arith, h vs (spilled-read vs d), same vs, sum)

pub flat-asks : (limit : ℕ) (ts : Fields) (vs : List Value) → fits_flat limit ts ≡ true → fields_requests ts vs ≡ params_requests limit ts vs
flat-asks limit ts vs fits = rw fits refl

pub spilled-asks : (limit : ℕ) (ts : Fields) (vs : List Value) → fits_flat limit ts ≡ false
    → (request (align (record_type ts)) (size (record_type ts)) ∷ []) ++ fields_requests ts vs ≡ params_requests limit ts vs
spilled-asks limit ts vs fits = rw fits refl

pub told-ahead : (P : List Value → Type 0) (f : List Value → List Trace.Request) (l : ℕ) (old new : List Request) (c l2 : ℕ) (vs : List Value) → P vs → IsTold old 0 l (f vs) new c l2 → IsToldAhead P f l old new c
told-ahead P f l old new c l2 vs p t = (vs, p, t.told, omega (arith, t.counted), omega (arith, t.spent))

-- ---- the limit

module _ (limit : ℕ) (ts : Fields) (m : List ℕ) (flats : List Flat) (own : List Trace.Request) where
  pub flat-asked : fits_flat limit ts ≡ true → values_asked limit ts m flats own ≡ flat_fields_asked ts m (map number_of flats)
  flat-asked fits = rw fits refl

  module _ (fits : fits_flat limit ts ≡ false) (from : ℕ) (is : from ≡ low_bits (map number_of flats) 0 32) where
    pub spilled-open : block_at m from (align (record_type ts)) (size (record_type ts)) ≡ Ok from → values_asked limit ts m flats own ≡ own ++ fields_asked ts m from 0
    spilled-open h = rw (fits, ← is, h) refl

    pub spilled-shut : (k : TrapKind) → block_at m from (align (record_type ts)) (size (record_type ts)) ≡ Err k → values_asked limit ts m flats own ≡ []
    spilled-shut k h = rw (fits, ← is, h) refl

-- a walk that stops behind requests of so many bytes
pub limit-behind : (before : ℕ) (ps ws : List Trace.Request) (k l : ℕ) → total ws ≡ before + total ps → l ≡ k + before
    → (e : Untold) → MeetsLimit ps k e → MeetsLimit ws l e
limit-behind before ps ws k l sum left (untold.Fault j) h = omega (arith, sum, left, h)
limit-behind before ps ws k l sum left untold.AboveLimit h = omega (arith, sum, left, h)
