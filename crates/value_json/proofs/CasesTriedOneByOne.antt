-- Cases, tried one by one.
use Rattle.std.proofs.Common.{◌≡◌, ◌⊎◌, inl, inr, ℕ, zero, suc, ◌+◌, ◌<◌, ◌≤◌, List, [], ◌∷◌, length, drop, get_or, slice_get, Some, refl, sym, ap, ◌∙◌, subst, drop-cons, arith}
use Rattle.std.proofs.lemmas.List.{drop_all}
use Rattle.std.proofs.Common.{Bool, true, false, nat_lt}
use Rattle.std.proofs.lemmas.Bool.{ltb-true, ltb-false}
use Rattle.std.proofs.lemmas.Option.{get_or_from_slice_get}
use Rattle.canonical_abi.specs.Values.{Value}
use Rattle.canonical_abi.specs.Labelled.{Label, LabelledType}
use Rattle.serde_json.specs.Data.{Data, string}
use Rattle.tables.specs.declared.tables.Case.{Case}
use Rattle.tables.specs.Labelled.{labelled_payload, labelled_cases}
use Rattle.value_json.specs.Json.{PayloadJson, CasesJson}

module _ (rows : List LabelledType) where
  -- a value of the first cases that is of none of these is of those behind
  abbrev pub LeavesRest : List Case → ℕ → Data → Type 0
  LeavesRest cs i j = (v : Value) → CasesJson (labelled_cases rows cs) 0 v j → CasesJson (labelled_cases rows (drop i cs)) i v j

  pub no-more : (cs : List Case) (i : ℕ) (c : Case) (j : Data) → i < length cs → c ≡ get_or cs i c
      → ((v : Value) → PayloadJson (labelled_payload rows c.ty) c.name i v j → ⊥) → LeavesRest cs i j → LeavesRest cs (i + 1) j
  no-more cs i c j h is none before = λ v stands.
      let one : suc i ≡ i + 1 = omega arith in
      let split : drop i cs ≡ c ∷ drop (i + 1) cs =
      drop-cons cs i c h ∙ ap (λ n. get_or cs i c ∷ drop n cs) one ∙ ap (λ x. x ∷ drop (i + 1) cs) (sym is) in
      let here = subst (λ xs. CasesJson (labelled_cases rows xs) i v j) split (before v stands) in
      subst (λ n. CasesJson (labelled_cases rows (drop (i + 1) cs)) n v j) one (by v here)
    where
      by : (v : Value) → PayloadJson (labelled_payload rows c.ty) c.name i v j ⊎ CasesJson (labelled_cases rows (drop (i + 1) cs)) (suc i) v j → CasesJson (labelled_cases rows (drop (i + 1) cs)) (suc i) v j
      by v (inl p) = absurd (none v p)
      by v (inr q) = q

  pub no-case : (cs : List Case) (i : ℕ) (j : Data) → length cs ≤ i → LeavesRest cs i j → (v : Value) → CasesJson (labelled_cases rows cs) 0 v j → ⊥
  no-case cs i j h before v stands = subst (λ xs. CasesJson (labelled_cases rows xs) i v j) (drop_all i cs h) (before v stands)

  found-from : (cs : List Case) (i n : ℕ) (c : Case) (v : Value) (j : Data) → i < length cs
      → PayloadJson (labelled_payload rows (get_or cs i c).ty) (get_or cs i c).name (n + i) v j → CasesJson (labelled_cases rows cs) n v j
  found-from [] i n c v j h p = absurd (omega arith)
  found-from (d ∷ cs) zero n c v j h p = let e : n + 0 ≡ n = omega arith in inl (subst (λ k. PayloadJson (labelled_payload rows d.ty) d.name k v j) e p)
  found-from (d ∷ cs) (suc i) n c v j h p =
      let e : n + suc i ≡ suc n + i = omega arith in
      inr (found-from cs i (suc n) c v j (omega arith) (subst (λ k. PayloadJson (labelled_payload rows (get_or cs i c).ty) (get_or cs i c).name k v j) e p))

  pub found : (cs : List Case) (i : ℕ) (c : Case) (v : Value) (j : Data) → i < length cs → c ≡ get_or cs i c
      → PayloadJson (labelled_payload rows c.ty) c.name i v j → CasesJson (labelled_cases rows cs) 0 v j
  found cs i c v j h is p =
      let e : i ≡ 0 + i = omega arith in
      found-from cs i 0 c v j h (subst (λ x. PayloadJson (labelled_payload rows x.ty) x.name (0 + i) v j) is (subst (λ k. PayloadJson (labelled_payload rows c.ty) c.name k v j) e p))

-- ---- labels

abbrev pub NotAmong : List Label → ℕ → Data → Type 0
NotAmong ls i j = (k : ℕ) (l : Label) → k < i → slice_get ls k ≡ Some l → j ≡ string l → ⊥

pub among-next : (ls : List Label) (i : ℕ) (x : Label) (j : Data) → i < length ls → x ≡ get_or ls i x → (j ≡ string x → ⊥) → NotAmong ls i j → NotAmong ls (i + 1) j
among-next ls i x j h is other before = λ k l below at is_j. by k l below at is_j (nat_lt k i) refl
  where
    by : (k : ℕ) (l : Label) → k < i + 1 → slice_get ls k ≡ Some l → j ≡ string l → (b : Bool) → nat_lt k i ≡ b → ⊥
    by k l below at is_j true e = before k l (ltb-true k i e) at is_j
    by k l below at is_j false e =
        let same : k ≡ i = omega (arith, ltb-false k i e, below) in
        let there : get_or ls k x ≡ l = get_or_from_slice_get ls k l x at in
        let here : x ≡ l = is ∙ ap (λ n. get_or ls n x) (sym same) ∙ there in
        other (is_j ∙ ap string (sym here))
