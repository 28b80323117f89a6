-- Lists of values, each of its own type, told value by value.
use Rattle.std.proofs.Common.{◌≡◌, ℕ, zero, suc, ◌+◌, ◌<◌, List, [], ◌∷◌, length, drop, map, get_or, sym, ap, ◌∙◌, subst, drop-cons, arith}
use Rattle.canonical_abi.specs.Types.{ClosedType, fields_of}
use Rattle.canonical_abi.specs.Values.{Value, HasType, HaveTypes}
use Rattle.tables.specs.Closed.{closed_val}
use Rattle.tables.specs.declared.tables.ValType.{ValType}

module _ (rows : List ClosedType) where
  abbrev pub Have : List ValType → List Value → Type 0
  Have ts vs = HaveTypes vs (fields_of (map (closed_val rows) ts))

  -- if the rest are of their types, all are
  abbrev pub Rests : List ValType → List Value → ℕ → Type 0
  Rests ts vs i = Have (drop i ts) (drop i vs) → Have ts vs

  pub rests_more : (ts : List ValType) (vs : List Value) (i : ℕ) (t : ValType) (v : Value)
      → i < length ts → i < length vs → v ≡ get_or vs i v → HasType v (closed_val rows (get_or ts i t)) → Rests ts vs i → Rests ts vs (i + 1)
  rests_more ts vs i t v in_ts in_vs is_v typed before rest =
      let one : suc i ≡ i + 1 = omega arith in
      let ts_split : drop i ts ≡ get_or ts i t ∷ drop (i + 1) ts = drop-cons ts i t in_ts ∙ ap (λ n. get_or ts i t ∷ drop n ts) one in
      let vs_split : drop i vs ≡ v ∷ drop (i + 1) vs =
      drop-cons vs i v in_vs ∙ ap (λ n. get_or vs i v ∷ drop n vs) one ∙ ap (λ x. x ∷ drop (i + 1) vs) (sym is_v) in
      before (subst (λ us. Have us (drop i vs)) (sym ts_split) (v, drop (i + 1) vs, vs_split, typed, rest))

  pub rests_end : (ts : List ValType) (vs : List Value) (i : ℕ) → drop i ts ≡ [] → drop i vs ≡ [] → Rests ts vs i → Have ts vs
  rests_end ts vs i ts_end vs_end before = before (rw ts_end vs_end)

  pub have_length : (ts : List ValType) (vs : List Value) → Have ts vs → length vs ≡ length ts
  have_length [] vs h = ap length h
  have_length (t ∷ ts) vs (v, rest, is, typed, have) = ap length is ∙ ap suc (have_length ts rest have)

  pub have_at : (ts : List ValType) (vs : List Value) (i : ℕ) (t : ValType) (v : Value)
      → Have ts vs → i < length ts → HasType (get_or vs i v) (closed_val rows (get_or ts i t))
  have_at [] vs i t v h below = absurd (omega arith)
  have_at (u ∷ ts) vs zero t v (w, rest, is, typed, have) below =
      subst (λ x. HasType x (closed_val rows u)) (sym (ap (λ xs. get_or xs 0 v) is)) typed
  have_at (u ∷ ts) vs (suc i) t v (w, rest, is, typed, have) below =
      subst (λ x. HasType x (closed_val rows (get_or ts i t))) (sym (ap (λ xs. get_or xs (suc i) v) is)) (have_at ts rest i t v have (omega arith))
