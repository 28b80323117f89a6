-- The labels of flags, put one by one.
use Rattle.std.proofs.Common.{◌≡◌, ℕ, zero, suc, ◌+◌, ◌/◌, ◌%◌, ◌<◌, ◌≤◌, ◌==◌, List, [], ◌∷◌, ◌++◌, length, drop, get_or, Result, Ok, Err, refl, sym, ap, ◌∙◌, subst, append_assoc, append-nil, drop-cons, arith, length-append}
use Rattle.std.proofs.lemmas.List.{drop_all}
use Rattle.std.specs.Prelude.{if◌then◌else◌}
use Rattle.canonical_abi.specs.Labelled.{Label}
use Rattle.json.specs.Print.{quoted}
use Rattle.serde_json.specs.Data.{Data, string, array}
use Rattle.serde_json.specs.View.{items_of}
use Rattle.serde_json.specs.Written.{compact_text}
use Rattle.value_text.specs.Function.{flags_json}
use Rattle.value_text.specs.Puts.{Puts, PutsWithin}
use Rattle.value_text.specs.Texts.{comma_at, items_front}
use Rattle.value_text.proofs.PutsInTurn.{within-then}
use Rattle.value_text.proofs.ItemsInTurn.{items-next, items-long, items-end}

-- the labels of the flags from label i on
flags-from : (ls : List Label) (i rest : ℕ) (l : Label) → i < length ls → l ≡ get_or ls i l
    → flags_json (drop i ls) rest ≡ (if rest % 2 == 1 then string l ∷ flags_json (drop (i + 1) ls) (rest / 2) else flags_json (drop (i + 1) ls) (rest / 2))
flags-from ls i rest l h is =
    let one : suc i ≡ i + 1 = omega arith in
    let split : drop i ls ≡ l ∷ drop (i + 1) ls =
    drop-cons ls i l h ∙ ap (λ n. get_or ls i l ∷ drop n ls) one ∙ ap (λ x. x ∷ drop (i + 1) ls) (sym is) in
    ap (λ xs. flags_json xs rest) split

module _ (ls : List Label) (bits : ℕ) (limit : ℕ) (old : List ℕ) (at : ℕ) where
  -- the labels of the flags that are set were put, up to label i
  abbrev pub FlagsPut : ℕ → ℕ → ℕ → List ℕ → ℕ → Type 0
  FlagsPut i rest count room end =
      (js : List Data) × (length js ≡ count) × (count ≤ i) × (flags_json ls bits ≡ js ++ flags_json (drop i ls) rest) × Puts (91 ∷ items_front 0 js) old at room end × (end ≤ limit)

  module _ (i rest count : ℕ) (l : Label) (room : List ℕ) (end : ℕ) (new : List ℕ) (h : i < length ls) (is : l ≡ get_or ls i l) where
    pub flag-next : (end2 : ℕ) → FlagsPut i rest count room end → Puts (if rest % 2 == 1 then comma_at count ++ quoted l else []) room end new end2 → end2 ≤ limit
        → FlagsPut (i + 1) (rest / 2) (count + rest % 2) new end2
    flag-next end2 (js, many, few, whole, front, fits) puts fits2 = by (rest % 2) refl puts (flags-from ls i rest l h is)
      where
        by : (b : ℕ) → rest % 2 ≡ b → Puts (if b == 1 then comma_at count ++ quoted l else []) room end new end2
            → flags_json (drop i ls) rest ≡ (if b == 1 then string l ∷ flags_json (drop (i + 1) ls) (rest / 2) else flags_json (drop (i + 1) ls) (rest / 2))
            → FlagsPut (i + 1) (rest / 2) (count + rest % 2) new end2
        by zero none puts2 from =
            let many2 : length js ≡ count + rest % 2 = omega (arith, none, many) in
            let few2 : count + rest % 2 ≤ i + 1 = omega (arith, none, few) in
            let two = within-then {E = Unit {0}} limit old at (91 ∷ items_front 0 js) room end [] new (Ok end2) front (puts2, fits2) in
            (js, many2, few2, whole ∙ ap (λ xs. js ++ xs) from, subst (λ xs. Puts (91 ∷ xs) old at new end2) (append-nil (items_front 0 js)) two.0, fits2)
        by (suc zero) one puts2 from =
            let many2 : length (js ++ string l ∷ []) ≡ count + rest % 2 = omega (arith, one, many, length-append js (string l ∷ [])) in
            let few2 : count + rest % 2 ≤ i + 1 = omega (arith, one, few) in
            let two = items-next limit old at {E = Unit {0}} js (string l) count room end new (Ok end2) many front (puts2, fits2) in
            (js ++ string l ∷ [], many2, few2, whole ∙ ap (λ xs. js ++ xs) from ∙ sym (append_assoc js (string l ∷ []) (flags_json (drop (i + 1) ls) (rest / 2))), two.0, fits2)
        by (suc (suc b)) two puts2 from = absurd (omega (arith, two))

    pub flag-long : FlagsPut i rest count room end → limit < end + length (if rest % 2 == 1 then comma_at count ++ quoted l else [])
        → limit < at + length (compact_text (array (items_of (flags_json ls bits))))
    flag-long (js, many, few, whole, front, fits) long = by (rest % 2) refl long (flags-from ls i rest l h is)
      where
        by : (b : ℕ) → rest % 2 ≡ b → limit < end + length (if b == 1 then comma_at count ++ quoted l else [])
            → flags_json (drop i ls) rest ≡ (if b == 1 then string l ∷ flags_json (drop (i + 1) ls) (rest / 2) else flags_json (drop (i + 1) ls) (rest / 2))
            → limit < at + length (compact_text (array (items_of (flags_json ls bits))))
        by zero none long2 from = absurd (omega (arith, long2, fits))
        by (suc zero) one long2 from =
            let more = flags_json (drop (i + 1) ls) (rest / 2) in
            let all : (js ++ string l ∷ []) ++ more ≡ flags_json ls bits = append_assoc js (string l ∷ []) more ∙ sym (whole ∙ ap (λ xs. js ++ xs) from) in
            let passed = items-next limit old at {E = Unit {0}} js (string l) count room end new (Err tt) many front long2 in
            subst (λ xs. limit < at + length (compact_text (array (items_of xs)))) all (items-long limit old at (js ++ string l ∷ []) more passed)
        by (suc (suc b)) two long2 from = absurd (omega (arith, two))

  pub flags-end : {E : Type 0} → (i rest count : ℕ) (room : List ℕ) (end : ℕ) (new : List ℕ) (done : Result ℕ E) → length ls ≤ i → FlagsPut i rest count room end
      → PutsWithin limit (93 ∷ []) room end done new → PutsWithin limit (compact_text (array (items_of (flags_json ls bits)))) old at done new
  flags-end i rest count room end new done h (js, many, few, whole, front, fits) last =
      let none : flags_json (drop i ls) rest ≡ [] = ap (λ xs. flags_json xs rest) (drop_all i ls h) in
      let all : js ≡ flags_json ls bits = sym (whole ∙ ap (λ xs. js ++ xs) none ∙ append-nil js) in
      subst (λ xs. PutsWithin limit (compact_text (array (items_of xs))) old at done new) all (items-end limit old at js room end new done front last)
