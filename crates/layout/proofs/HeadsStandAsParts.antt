-- A head that is put at the end leaves what stands in the definitions before it, and adds what stands in its own.
use Rattle.std.proofs.Common.{◌≡◌, ℕ, ◌+◌, ◌≤◌, List, [], ◌∷◌, ◌++◌, Option, length, map, take, drop, get_or, refl, ap, sym, subst, ◌∙◌, All, arith}
use Rattle.std.proofs.Math.Seq.{drop-append_seam, take-length}
use Rattle.std.proofs.lemmas.List.{map-append, length-append, length-map, drop-append-le, take-append-le, length-drop, append-nil}
use Rattle.std.proofs.lemmas.List.Elements.{All-nil, All-cons, All-head, All-tail, All-append}
use Rattle.tables.specs.declared.tables.ValType.{ValType}
use Rattle.layout.specs.Heads.{part_of, field_types, field_offsets, parts_by, LiesWithin, AreAdded}
use Rattle.layout.specs.Standing.{Parts}
use Rattle.layout.specs.Standing as parts
use Rattle.layout.specs.declared.parts.Head.{Head}
use Rattle.layout.specs.declared.parts.Head.TheVariants as head
use Rattle.layout.specs.declared.queries.FieldInfo.{FieldInfo}

-- a part of a list is the same where the list goes on
part-stays : {A : Type 0} (first count : ℕ) (xs ys : List A) → first + count ≤ length xs → part_of first count (xs ++ ys) ≡ part_of first count xs
part-stays first count xs ys h =
    ap (take count) (drop-append-le first xs ys (omega arith)) ∙ take-append-le count (drop first xs) ys (omega (arith, length-drop first xs))

-- what was put behind a list is its part from there on
pub part-added : {A : Type 0} (xs ys : List A) → part_of (length xs) (length ys) (xs ++ ys) ≡ ys
part-added xs ys = ap (take (length ys)) (drop-append_seam xs ys) ∙ take-length ys

module _ (fs more_fields : List FieldInfo) (os more_payloads : List (Option ValType)) where
  head-stays : (h : Head) → LiesWithin (length fs) (length os) h → parts_by (fs ++ more_fields) (os ++ more_payloads) h ≡ parts_by fs os h
  head-stays (head.Same v) w = refl
  head-stays (head.List v) w = refl
  head-stays (head.Record first count) w =
      ap (λ (xs : List FieldInfo). parts.Record (field_types xs) (field_offsets xs)) (part-stays first count fs more_fields w)
  head-stays (head.Variant place first count) w = ap (λ (xs : List (Option ValType)). parts.Variant place xs) (part-stays first count os more_payloads w)
  head-stays (head.Flags n) w = refl

  pub heads-stay : (hs : List Head) → All (LiesWithin (length fs) (length os)) hs → map (parts_by (fs ++ more_fields) (os ++ more_payloads)) hs ≡ map (parts_by fs os) hs
  heads-stay [] w = refl
  heads-stay (h ∷ hs) w =
      ap (λ (p : Parts). p ∷ map (parts_by (fs ++ more_fields) (os ++ more_payloads)) hs) (head-stays h (All-head (LiesWithin (length fs) (length os)) h hs w))
      ∙ ap (λ (ps : List Parts). parts_by fs os h ∷ ps) (heads-stay hs (All-tail (LiesWithin (length fs) (length os)) h hs w))

lies-later : (m n i j : ℕ) (h : Head) → m ≤ i → n ≤ j → LiesWithin m n h → LiesWithin i j h
lies-later m n i j (head.Same v) f o w = tt
lies-later m n i j (head.List v) f o w = tt
lies-later m n i j (head.Record first count) f o w = omega (arith, w)
lies-later m n i j (head.Variant place first count) f o w = omega (arith, w)
lies-later m n i j (head.Flags k) f o w = tt

-- heads lie within longer lists
pub all-later : (m n i j : ℕ) (hs : List Head) → m ≤ i → n ≤ j → All (LiesWithin m n) hs → All (LiesWithin i j) hs
all-later m n i j hs f o w = λ k d l. lies-later m n i j (get_or hs k d) f o (w k d l)

-- one more head
pub all-more : (m n : ℕ) (hs hs' : List Head) (h : Head) → hs' ≡ hs ++ h ∷ [] → All (LiesWithin m n) hs → LiesWithin m n h → All (LiesWithin m n) hs'
all-more m n hs hs' h e w l =
    subst (All (LiesWithin m n)) (sym e) (All-append (LiesWithin m n) hs (h ∷ []) w (All-cons (LiesWithin m n) h [] l (All-nil (LiesWithin m n))))

-- a head alone
pub head-put : (fs : List FieldInfo) (os : List (Option ValType)) (hs hs' : List Head) (h : Head) → hs' ≡ hs ++ h ∷ [] → map (parts_by fs os) hs' ≡ map (parts_by fs os) hs ++ parts_by fs os h ∷ []
head-put fs os hs hs' h e = ap (map (parts_by fs os)) e ∙ map-append (parts_by fs os) hs (h ∷ [])

module _ (fs : List FieldInfo) (os : List (Option ValType)) (hs hs' : List Head) (within : All (LiesWithin (length fs) (length os)) hs) where
  -- a record, whose fields were put at the end
  module _ (fs' : List FieldInfo) (vs : List ValType) (ps : List ℕ) (count : ℕ) (counted : count ≡ length vs) (added : AreAdded fs fs' vs ps) (e : hs' ≡ hs ++ head.Record (length fs) count ∷ []) where
    record-count : length (drop (length fs) fs') ≡ count
    record-count = sym (length-map (drop (length fs) fs') (λ f. f.ty)) ∙ ap length added.types_are ∙ sym counted

    record-part : part_of (length fs) count fs' ≡ drop (length fs) fs'
    record-part = ap (λ (n : ℕ). take n (drop (length fs) fs')) (sym record-count) ∙ take-length (drop (length fs) fs')

    pub record-put : map (parts_by fs' os) hs' ≡ map (parts_by fs os) hs ++ parts.Record vs ps ∷ []
    record-put =
        let stay : map (parts_by fs' os) hs ≡ map (parts_by fs os) hs = subst (λ (xs : List FieldInfo). map (parts_by xs os) hs ≡ map (parts_by fs os) hs) (sym added.kept) (stay-fields (drop (length fs) fs')) in
        let here : parts_by fs' os (head.Record (length fs) count) ≡ parts.Record vs ps =
        ap (λ (xs : List FieldInfo). parts.Record (field_types xs) (field_offsets xs)) record-part
        ∙ ap (λ (us : List ValType). parts.Record us (field_offsets (drop (length fs) fs'))) added.types_are
        ∙ ap (λ (qs : List ℕ). parts.Record vs qs) added.offsets_are in
        head-put fs' os hs hs' (head.Record (length fs) count) e
        ∙ ap (λ (xs : List Parts). xs ++ parts_by fs' os (head.Record (length fs) count) ∷ []) stay
        ∙ ap (λ (p : Parts). map (parts_by fs os) hs ++ p ∷ []) here
      where
        stay-fields : (more : List FieldInfo) → map (parts_by (fs ++ more) os) hs ≡ map (parts_by fs os) hs
        stay-fields more = ap (λ (xs : List (Option ValType)). map (parts_by (fs ++ more) xs) hs) (sym (append-nil os)) ∙ heads-stay fs more os [] hs within

    pub record-within : All (LiesWithin (length fs') (length os)) hs'
    record-within =
        let long : length fs' ≡ length fs + count = ap length added.kept ∙ length-append fs (drop (length fs) fs') ∙ ap (λ (n : ℕ). length fs + n) record-count in
        all-more (length fs') (length os) hs hs' (head.Record (length fs) count) e
        (all-later (length fs) (length os) (length fs') (length os) hs (omega (arith, long)) (omega arith) within) (omega (arith, long))

  -- a variant, whose payloads were put at the end
  module _ (os' added : List (Option ValType)) (place count : ℕ) (counted : count ≡ length added) (is : os' ≡ os ++ added) (e : hs' ≡ hs ++ head.Variant place (length os) count ∷ []) where
    pub variant-put : map (parts_by fs os') hs' ≡ map (parts_by fs os) hs ++ parts.Variant place added ∷ []
    variant-put =
        let same : map (parts_by fs os') hs ≡ map (parts_by fs (os ++ added)) hs = ap (λ (xs : List (Option ValType)). map (parts_by fs xs) hs) is in
        let stay : map (parts_by fs (os ++ added)) hs ≡ map (parts_by fs os) hs =
        ap (λ (xs : List FieldInfo). map (parts_by xs (os ++ added)) hs) (sym (append-nil fs)) ∙ heads-stay fs [] os added hs within in
        let part : part_of (length os) count os' ≡ added =
        ap (λ (n : ℕ). part_of (length os) n os') counted ∙ ap (part_of (length os) (length added)) is ∙ part-added os added in
        head-put fs os' hs hs' (head.Variant place (length os) count) e
        ∙ ap (λ (xs : List Parts). xs ++ parts_by fs os' (head.Variant place (length os) count) ∷ []) (same ∙ stay)
        ∙ ap (λ (xs : List (Option ValType)). map (parts_by fs os) hs ++ parts.Variant place xs ∷ []) part

    pub variant-within : All (LiesWithin (length fs) (length os')) hs'
    variant-within =
        let long : length os' ≡ length os + count = ap length is ∙ length-append os added ∙ ap (λ (n : ℕ). length os + n) (sym counted) in
        all-more (length fs) (length os') hs hs' (head.Variant place (length os) count) e
        (all-later (length fs) (length os) (length fs) (length os') hs (omega arith) (omega (arith, long)) within) (omega (arith, long))
