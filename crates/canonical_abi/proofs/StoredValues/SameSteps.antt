-- A value, its place and the blocks that were granted tell all the events, and the bytes that they leave.
use Rattle.std.proofs.Common.{◌≡◌, ◌⊎◌, inl, inr, ℕ, zero, suc, ◌+◌, ◌-◌, ◌<◌, List, [], ◌∷◌, ◌++◌, length, Option, Some, None, get_or, refl, sym, ap, ◌∙◌, subst, arith, append_assoc, append-nil}
use Rattle.std.specs.Prelude.{slice_get}
use Rattle.std.specs.Int.{next_multiple_of, to_le_bytes}
use Rattle.std.proofs.lemmas.Bool.{cases_lt}
use Rattle.std.proofs.lemmas.Option.{slice_get-get_or}
use Rattle.canonical_abi.specs.Types.{ClosedType, prim_type, string_type, list_type, record_type, variant_type, flags_type, Fields, no_field, field, Cases, no_case, plain_case, case_with, case_count}
use Rattle.canonical_abi.specs.Values.{Value, values_of}
use Rattle.canonical_abi.specs.Layout.{align, size, prim_width, flags_size, discriminant_size, payload_place}
use Rattle.canonical_abi.specs.Reading.{byte_width}
use Rattle.canonical_abi.specs.Trace.{Grant, Event, node, write, grant, grants_of, byte_over, byte_after}
use Rattle.canonical_abi.specs.Storing.{number_in, pointer_pair, EachStores, Stores, FieldsStore, CaseStores}
use Rattle.canonical_abi.specs.Laws.{SameSteps, SameImage}
use Rattle.canonical_abi.proofs.Traces.TracesLeaveImages.{byte_over-before, byte_over-within, byte_over-after, byte_after-refines}
use Rattle.canonical_abi.specs.Requests.{case_of_plain}

pub values-inj : (vs ws : List Value) → values_of vs ≡ values_of ws → vs ≡ ws
values-inj [] [] e = refl
values-inj [] (w ∷ ws) e = cc
values-inj (v ∷ vs) [] e = cc
values-inj (v ∷ vs) (w ∷ ws) e =
    let head : v ≡ w = cc in
    let tail : values_of vs ≡ values_of ws = cc in
    let rest = values-inj vs ws tail in cc

-- the first by P, and what follows by Q
abbrev pub Then : (List Event → Type 0) → (List Event → Type 0) → List Event → Type 0
Then P Q es = (first rest : List Event) × (es ≡ first ++ rest) × P first × Q rest

-- the steps are the same, and so are the grants of what follows them
abbrev pub Same : List Event → List Event → List Event → List Event → Type 0
Same es fs more others = (es ≡ fs) × (grants_of more ≡ grants_of others)

-- what P stores is told by the grants, whatever follows
abbrev pub Told : (List Event → Type 0) → Type 0
Told P = (es fs more others : List Event) → P es → P fs → grants_of (es ++ more) ≡ grants_of (fs ++ others) → Same es fs more others

pub told-then : (P Q : List Event → Type 0) → Told P → Told Q → Told (Then P Q)
told-then P Q p q es fs more others s r e =
    let e1 : grants_of (s.0 ++ (s.1 ++ more)) ≡ grants_of (r.0 ++ (r.1 ++ others)) =
    ap grants_of (sym (append_assoc s.0 s.1 more)) ∙ ap (λ l. grants_of (l ++ more)) (sym s.2) ∙ e ∙ ap (λ l. grants_of (l ++ others)) r.2 ∙ ap grants_of (append_assoc r.0 r.1 others) in
    let first = p s.0 r.0 (s.1 ++ more) (r.1 ++ others) s.3 r.3 e1 in
    let second = q s.1 r.1 more others s.4 r.4 first.1 in
    (let a = s.2 in let b = r.2 in let c = first.0 in let d = second.0 in cc, second.1)

pub told-one : (x : List Event) → Told (λ es. es ≡ x)
told-one x es fs more others s r e = (s ∙ sym r, by x (ap (λ l. grants_of (l ++ more)) (sym s) ∙ e ∙ ap (λ l. grants_of (l ++ others)) r))
  where
    by : (x : List Event) → grants_of (x ++ more) ≡ grants_of (x ++ others) → grants_of more ≡ grants_of others
    by [] e = e
    by (node ∷ x) e = by x e
    by (write a bs ∷ x) e = by x e
    by (grant g ∷ x) e = by x (let f : ◌≡◌ {A = List Grant} (g ∷ grants_of (x ++ more)) (g ∷ grants_of (x ++ others)) = e in cc)

pub told-each : (P : ℕ → Value → List Event → Type 0) → ((a : ℕ) (v : Value) → Told (P a v)) → (step a : ℕ) (vs : List Value) → Told (EachStores P step a vs)
told-each P h step a [] = told-one []
told-each P h step a (v ∷ vs) = told-then (P a v) (EachStores P step (a + step) vs) (h a v) (told-each P h step (a + step) vs)

pub tag-of : (cs : Cases) (a i n : ℕ) (v : Value) (es : List Event) → CaseStores cs a i n v es → case_of_plain v ≡ i
tag-of no_case a i n v es s = elim s [ ]
tag-of (plain_case cs) a i zero v es s = ap case_of_plain s.0
tag-of (plain_case cs) a i (suc n) v es s = tag-of cs a i n v es s
tag-of (case_with t cs) a i zero v es s = ap case_of_plain s.1
tag-of (case_with t cs) a i (suc n) v es s = tag-of cs a i n v es s

-- a block and what follows its grant
pub told-grant : (P : Grant → List Event → Type 0) → ((g : Grant) → Told (P g)) → Told (λ es. (g : Grant) × (rest : List Event) × (es ≡ grant g ∷ rest) × P g rest)
told-grant P h es fs more others s r e =
    let f : ◌≡◌ {A = List Grant} (s.0 ∷ grants_of (s.1 ++ more)) (r.0 ∷ grants_of (r.1 ++ others)) =
    ap (λ l. grants_of (l ++ more)) (sym s.2) ∙ e ∙ ap (λ l. grants_of (l ++ others)) r.2 in
    let same_block : s.0 ≡ r.0 = cc in
    let tail : grants_of (s.1 ++ more) ≡ grants_of (r.1 ++ others) = cc in
    let rest = h r.0 s.1 r.1 more others (subst (λ g. P g s.1) same_block s.3) r.3 tail in
    (let a = s.2 in let b = r.2 in let c = rest.0 in cc, rest.1)

-- a node and what follows it
pub told-node : (P : List Event → Type 0) → Told P → Told (λ es. (rest : List Event) × (es ≡ node ∷ rest) × P rest)
told-node P h es fs more others s r e =
    let rest = h s.0 r.0 more others s.2 r.2 (ap (λ l. grants_of (l ++ more)) (sym s.1) ∙ e ∙ ap (λ l. grants_of (l ++ others)) r.1) in
    (let a = s.1 in let b = r.1 in let c = rest.0 in cc, rest.1)

-- a write and what follows it
pub told-write : (a : ℕ) (bs : List ℕ) (P : List Event → Type 0) → Told P → Told (λ es. (rest : List Event) × (es ≡ write a bs ∷ rest) × P rest)
told-write a bs P h es fs more others s r e =
    let rest = h s.0 r.0 more others s.2 r.2 (ap (λ l. grants_of (l ++ more)) (sym s.1) ∙ e ∙ ap (λ l. grants_of (l ++ others)) r.1) in
    (let a = s.1 in let b = r.1 in let c = rest.0 in cc, rest.1)

mutual
  pub told-stores : (t : ClosedType) (a : ℕ) (v : Value) → Told (Stores t a v)
  told-stores (prim_type p) a v es fs more others s r e =
      told-one (node ∷ write a (to_le_bytes (prim_width p) (number_in (prim_width p) v)) ∷ []) es fs more others s.1 r.1 e
  told-stores string_type a v es fs more others s r e =
      let text : r.0 ≡ s.0 = let p = s.2 in let q = r.2 in cc in
      told-node (λ es. (g : Grant) × (rest : List Event) × (es ≡ grant g ∷ rest) × (rest ≡ write g.at s.0 ∷ write a (pointer_pair g.at (length s.0)) ∷ []))
      (told-grant (λ g es. es ≡ write g.at s.0 ∷ write a (pointer_pair g.at (length s.0)) ∷ []) (λ g. told-one (write g.at s.0 ∷ write a (pointer_pair g.at (length s.0)) ∷ []))) es fs more others
      (_, s.5, (s.1, write s.1.at s.0 ∷ write a (pointer_pair s.1.at (length s.0)) ∷ [], refl, refl))
      (_, r.5 ∙ ap (λ x. node ∷ grant r.1 ∷ write r.1.at x ∷ write a (pointer_pair r.1.at (length x)) ∷ []) text, (r.1, write r.1.at s.0 ∷ write a (pointer_pair r.1.at (length s.0)) ∷ [], refl, refl)) e
  told-stores (list_type t) a v es fs more others s r e =
      let members : r.0 ≡ s.0 = values-inj r.0 s.0 (let p = s.3 in let q = r.3 in cc) in
      told-node (λ es. (g : Grant) × (rest : List Event) × (es ≡ grant g ∷ rest) × ((later : List Event) × (rest ≡ write a (pointer_pair g.at (length s.0)) ∷ later) × EachStores (Stores t) (size t) g.at s.0 later))
      (told-grant (λ g es. (rest : List Event) × (es ≡ write a (pointer_pair g.at (length s.0)) ∷ rest) × EachStores (Stores t) (size t) g.at s.0 rest)
      (λ g. told-write a (pointer_pair g.at (length s.0)) (EachStores (Stores t) (size t) g.at s.0) (told-each (Stores t) (λ c w. told-stores t c w) (size t) g.at s.0))) es fs more others
      (_, s.5, (s.1, write a (pointer_pair s.1.at (length s.0)) ∷ s.2, refl, (s.2, refl, s.6))) (
        _,
        r.5 ∙ ap (λ vs. node ∷ grant r.1 ∷ write a (pointer_pair r.1.at (length vs)) ∷ r.2) members,
        (r.1, write a (pointer_pair r.1.at (length s.0)) ∷ r.2, refl, (r.2, refl, subst (λ vs. EachStores (Stores t) (size t) r.1.at vs r.2) members r.6)),
      ) e
  told-stores (record_type gs) a v es fs more others s r e =
      let members : r.0 ≡ s.0 = values-inj r.0 s.0 (let p = s.2 in let q = r.2 in cc) in
      told-node (FieldsStore gs a 0 s.0) (told-fields gs a 0 s.0) es fs more others (s.1, s.3, s.4) (r.1, r.3, subst (λ vs. FieldsStore gs a 0 vs r.1) members r.4) e
  told-stores (variant_type cs) a v es fs more others s r e =
      let w = byte_width (discriminant_size (case_count cs)) in
      let number : r.0 ≡ s.0 = sym (tag-of cs (a + payload_place cs) r.0 r.0 v r.1 r.3) ∙ tag-of cs (a + payload_place cs) s.0 s.0 v s.1 s.3 in
      told-node (λ es. (rest : List Event) × (es ≡ write a (to_le_bytes w s.0) ∷ rest) × CaseStores cs (a + payload_place cs) s.0 s.0 v rest)
      (told-write a (to_le_bytes w s.0) (CaseStores cs (a + payload_place cs) s.0 s.0 v) (told-case cs (a + payload_place cs) s.0 s.0 v)) es fs more others
      (_, s.2, (s.1, refl, s.3)) (_, r.2 ∙ ap (λ i. node ∷ write a (to_le_bytes w i) ∷ r.1) number, (r.1, refl, subst (λ i. CaseStores cs (a + payload_place cs) i i v r.1) number r.3)) e
  told-stores (flags_type n) a v es fs more others s r e =
      let w = byte_width (flags_size n) in
      let flags : r.0 ≡ s.0 = let p = s.1 in let q = r.1 in cc in
      told-one (node ∷ write a (to_le_bytes w s.0) ∷ []) es fs more others s.3 (r.3 ∙ ap (λ k. node ∷ write a (to_le_bytes w k) ∷ []) flags) e

  pub told-fields : (gs : Fields) (a from : ℕ) (vs : List Value) → Told (FieldsStore gs a from vs)
  told-fields no_field a from vs es fs more others s r e = told-one [] es fs more others s.1 r.1 e
  told-fields (field t gs) a from vs es fs more others s r e =
      let place = next_multiple_of from (align t) in
      let head : r.0 ≡ s.0 = let p = s.4 in let q = r.4 in cc in
      let tail : r.1 ≡ s.1 = let p = s.4 in let q = r.4 in cc in
      told-then (Stores t (a + place) s.0) (FieldsStore gs a (place + size t) s.1) (told-stores t (a + place) s.0) (told-fields gs a (place + size t) s.1) es fs more others
      (s.2, s.3, s.5, s.6, s.7)
      (r.2, r.3, r.5, subst (λ w. Stores t (a + place) w r.2) head r.6, subst (λ ws. FieldsStore gs a (place + size t) ws r.3) tail r.7) e

  told-case : (cs : Cases) (a i n : ℕ) (v : Value) → Told (CaseStores cs a i n v)
  told-case no_case a i n v es fs more others s r e = elim s [ ]
  told-case (plain_case cs) a i zero v es fs more others s r e = told-one [] es fs more others s.1 r.1 e
  told-case (plain_case cs) a i (suc n) v es fs more others s r e = told-case cs a i n v es fs more others s r e
  told-case (case_with t cs) a i zero v es fs more others s r e =
      let payload : r.0 ≡ s.0 = let p = s.1 in let q = r.1 in cc in
      told-stores t a s.0 es fs more others s.2 (subst (λ w. Stores t a w fs) payload r.2) e
  told-case (case_with t cs) a i (suc n) v es fs more others s r e = told-case cs a i n v es fs more others s r e

pub same-steps : SameSteps
same-steps t a v es fs s r e = (told-stores t a v es fs [] [] s r (ap grants_of (append-nil es) ∙ e ∙ ap grants_of (sym (append-nil fs)))).0

-- ---- the bytes

-- a byte that was there is told
over-some : (at : ℕ) (part : List ℕ) (a b : ℕ) → (c : ℕ) × (byte_over at part a (Some b) ≡ Some c)
over-some at part a b = elim (cases_lt a at) [
  | inl l ↦ (b, byte_over-before at part a (Some b) l)
  | inr g ↦ elim (cases_lt a (at + length part)) [
    | inl l ↦ (get_or part (a - at) 0, byte_over-within at part a (Some b) g l ∙ slice_get-get_or part (a - at) 0 (omega (arith, l, g)))
    | inr q ↦ (b, byte_over-after at part a (Some b) g q)
  ]
]

after-some : (es : List Event) (a b : ℕ) → (c : ℕ) × (byte_after es a (Some b) ≡ Some c)
after-some [] a b = (b, refl)
after-some (node ∷ es) a b = after-some es a b
after-some (grant g ∷ es) a b =
    let here = over-some g.at g.contents a b in
    let rest = after-some es a here.0 in (rest.0, ap (byte_after es a) here.1 ∙ rest.1)
after-some (write at part ∷ es) a b =
    let here = over-some at part a b in
    let rest = after-some es a here.0 in (rest.0, ap (byte_after es a) here.1 ∙ rest.1)

no-byte : (o : Option ℕ) (b : ℕ) → None ≡ Some b → o ≡ Some b
no-byte o b e = cc

pub same-image : SameImage
same-image t a v es fs m m' n n' s r grants i j x known = by (same-steps t a v es fs s r grants) known
  where
    by : es ≡ fs → ((x < length m) × (slice_get m x ≡ slice_get n x)) ⊎ ((b : ℕ) × (byte_after es x None ≡ Some b)) → slice_get m' x ≡ slice_get n' x
    by e (inl k) =
        let was : slice_get m x ≡ Some (get_or m x 0) = slice_get-get_or m x 0 k.0 in
        let told = after-some es x (get_or m x 0) in
        let one : byte_after es x (slice_get m x) ≡ Some told.0 = ap (byte_after es x) was ∙ told.1 in
        let two : byte_after fs x (slice_get n x) ≡ Some told.0 = ap (byte_after fs x) (sym k.1) ∙ ap (λ l. byte_after l x (slice_get m x)) (sym e) ∙ one in
        i x told.0 one ∙ sym (j x told.0 two)
    by e (inr k) =
        let one = byte_after-refines es x None (slice_get m x) (no-byte (slice_get m x)) k.0 k.1 in
        let two = byte_after-refines fs x None (slice_get n x) (no-byte (slice_get n x)) k.0 (ap (λ l. byte_after l x None) (sym e) ∙ k.1) in
        i x k.0 one ∙ sym (j x k.0 two)
