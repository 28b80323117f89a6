-- Reading and writing numbers against their spellings.
use Rattle.std.proofs.Common.{◌≡◌, ℕ, zero, suc, ◌+◌, ◌-◌, ◌*◌, ◌^◌, ◌<◌, ◌≤◌, true, false, cond, ltb, List, [], ◌∷◌, ◌++◌, length, get_or, take, drop, Result, Ok, Err, refl, sym, ap, subst, ◌∙◌, arith, inl, inr}
use Rattle.std.specs.Prelude.{◌⊎◌, ◌↔◌, IfOk, IfErr, IsErrOf}
use Rattle.std.proofs.Math.Nat.{pow-suc}
use Rattle.std.proofs.lemmas.Bool.{cases_lt, le-ltb, lt-ltb}
use Rattle.std.proofs.lemmas.List.{take-append-drop, length-take, length-append}
use Rattle.atoms.specs.declared.error.AtomError.{AtomError}
use Rattle.atoms.specs.declared.error.AtomError.TheVariants.{Truncated, Overlong}
use Rattle.atoms.specs.Leb128.{Spells, EndsEarly, AppendsLeast, carried, groups_at, IsLeast}
use Rattle.atoms.proofs.GroupsOfSevenBits.{Groups, spells-groups, spells-of_groups, found}

abbrev pub IsBytes : List ℕ → Type 0
IsBytes bytes = (i : ℕ) → get_or bytes i 0 < 256

IsBytes-tail : (b : ℕ) (bytes : List ℕ) → IsBytes (b ∷ bytes) → IsBytes bytes
IsBytes-tail b bytes h i = h (suc i)

abbrev pub failed : AtomError → Result (ℕ × ℕ) AtomError
failed d = Err d

carried_ok : (b : ℕ) (r : Result (ℕ × ℕ) AtomError) (x : ℕ × ℕ) → carried b r ≡ Ok x → (y : ℕ × ℕ) × (r ≡ Ok y) × ((b - 128 + 128 * y.0, 1 + y.1) ≡ x)
carried_ok b (Ok y) x e = (y, refl, cc)
carried_ok b (Err d) x e = absurd cc

groups-cons : (limit room b : ℕ) (tail : List ℕ) (n high : ℕ) → 128 ≤ b → b < 256 → n + 128 ≡ b + 128 * high → Groups limit room tail high → Groups limit (suc room) (b ∷ tail) n
groups-cons limit room b [] n high le lt e h = absurd h
groups-cons limit room b (c ∷ bs) n high le lt e h = (le, lt, high, e, h)

groups-tail : (limit room b : ℕ) (tail : List ℕ) (n : ℕ) → 0 < length tail → Groups limit room (b ∷ tail) n → (r : ℕ) × (room ≡ suc r) × (128 ≤ b) × (high : ℕ) × Groups limit r tail high
groups-tail limit room b [] n lt h = absurd (omega arith)
groups-tail limit zero b (c ∷ bs) n lt h = absurd h
groups-tail limit (suc room) b (c ∷ bs) n lt h = (room, refl, h.0, h.2, h.4)

pub found_groups : (limit room : ℕ) (bytes : List ℕ) (x : ℕ × ℕ) → 16 ≤ limit → IsBytes bytes → groups_at limit room bytes ≡ Ok x → (x.1 ≤ length bytes) × Groups limit room (take x.1 bytes) x.0
unfolding groups_at
found_groups limit room [] x le fits e = absurd cc
found_groups limit zero (b ∷ bs) x le fits e =
    elim (cases_lt b 16) [
      | inl lt ↦ let is : (b, 1) ≡ x = (let f : cond (ltb b 16) (found (b, 1)) (Err Overlong) ≡ Ok x = e in let g : found (b, 1) ≡ Ok x = rw (lt-ltb b 16 lt) at f in cc) in
          subst (λ (y : ℕ × ℕ). (y.1 ≤ length (b ∷ bs)) × Groups limit zero (take y.1 (b ∷ bs)) y.0) is (omega arith, (omega arith, lt, refl))
      | inr ge ↦ absurd (let f : cond (ltb b 16) (found (b, 1)) (Err Overlong) ≡ Ok x = e in let g : Err Overlong ≡ found x = rw (le-ltb b 16 ge) at f in cc)
    ]
found_groups limit (suc room) (b ∷ bs) x le fits e =
    let f : cond (ltb b 128) (cond (ltb b limit) (found (b, 1)) (Err Overlong)) (carried b (groups_at limit room bs)) ≡ Ok x = e in
    elim (cases_lt b 128) [
      | inl lt ↦ let g : cond (ltb b limit) (found (b, 1)) (Err Overlong) ≡ Ok x = rw (lt-ltb b 128 lt) at f in
          elim (cases_lt b limit) [
            | inl small ↦ let is : (b, 1) ≡ x = (let k : found (b, 1) ≡ Ok x = rw (lt-ltb b limit small) at g in cc) in
                subst (λ (y : ℕ × ℕ). (y.1 ≤ length (b ∷ bs)) × Groups limit (suc room) (take y.1 (b ∷ bs)) y.0) is (omega arith, (small, refl))
            | inr large ↦ absurd (let k : Err Overlong ≡ found x = rw (le-ltb b limit large) at g in cc)
          ]
      | inr ge ↦
          let g : carried b (groups_at limit room bs) ≡ Ok x = rw (le-ltb b 128 ge) at f in
          let y = carried_ok b (groups_at limit room bs) x g in
          let ih = found_groups limit room bs y.0 le (IsBytes-tail b bs fits) y.1 in
          let value : b - 128 + 128 * y.0.0 + 128 ≡ b + 128 * y.0.0 = omega arith in
          let here : Groups limit (suc room) (b ∷ take y.0.1 bs) (b - 128 + 128 * y.0.0) = groups-cons limit room b (take y.0.1 bs) _ y.0.0 ge (fits 0) value ih.1 in
          let count : 1 + y.0.1 ≡ suc y.0.1 = omega arith in
          let both : (1 + y.0.1 ≤ length (b ∷ bs)) × Groups limit (suc room) (take (1 + y.0.1) (b ∷ bs)) (b - 128 + 128 * y.0.0) = rw count (omega (arith, ih.0), here) in
          subst (λ (z : ℕ × ℕ). (z.1 ≤ length (b ∷ bs)) × Groups limit (suc room) (take z.1 (b ∷ bs)) z.0) y.2 both
    ]

pub groups_again : (limit room : ℕ) (bytes rest : List ℕ) (n : ℕ) → limit ≤ 128 → Groups limit room bytes n → groups_at limit room (bytes ++ rest) ≡ Ok (n, length bytes)
unfolding groups_at
groups_again limit room [] rest n le h = absurd h
groups_again limit zero (b ∷ []) rest n le h = rw (lt-ltb b 16 h.1, h.2) refl
groups_again limit (suc room) (b ∷ []) rest n le h =
    let lt : b < 128 = omega (arith, h.0) in
    rw (lt-ltb b 128 lt, lt-ltb b limit h.0, h.1) refl
groups_again limit zero (b ∷ c ∷ bs) rest n le h = absurd h
groups_again limit (suc room) (b ∷ c ∷ bs) rest n le h =
    let ih = groups_again limit room (c ∷ bs) rest h.2 le h.4 in
    let value : b - 128 + 128 * h.2 ≡ n = omega (arith, h.0, h.3) in
    let count : 1 + length (c ∷ bs) ≡ length (b ∷ c ∷ bs) = omega arith in
    rw (le-ltb b 128 h.0, ih, value, count) refl

pub early_groups : (limit room : ℕ) (bytes : List ℕ) → 16 ≤ limit → IsBytes bytes → groups_at limit room bytes ≡ Err Truncated → (n : ℕ) × Groups limit room (bytes ++ (0 ∷ [])) n
unfolding groups_at
early_groups limit zero [] le fits e = (0, (omega arith, omega arith, refl))
early_groups limit (suc room) [] le fits e = (0, (omega arith, refl))
early_groups limit zero (b ∷ bs) le fits e =
    elim (cases_lt b 16) [
      | inl lt ↦ absurd (let f : cond (ltb b 16) (found (b, 1)) (Err Overlong) ≡ Err Truncated = e in let g : found (b, 1) ≡ failed Truncated = rw (lt-ltb b 16 lt) at f in cc)
      | inr ge ↦ absurd (let f : cond (ltb b 16) (found (b, 1)) (Err Overlong) ≡ Err Truncated = e in let g : failed Overlong ≡ Err Truncated = rw (le-ltb b 16 ge) at f in cc)
    ]
early_groups limit (suc room) (b ∷ bs) le fits e =
    let f : cond (ltb b 128) (cond (ltb b limit) (found (b, 1)) (Err Overlong)) (carried b (groups_at limit room bs)) ≡ Err Truncated = e in
    elim (cases_lt b 128) [
      | inl lt ↦ let g : cond (ltb b limit) (found (b, 1)) (Err Overlong) ≡ Err Truncated = rw (lt-ltb b 128 lt) at f in
          elim (cases_lt b limit) [
            | inl small ↦ absurd (let k : found (b, 1) ≡ failed Truncated = rw (lt-ltb b limit small) at g in cc)
            | inr large ↦ absurd (let k : failed Overlong ≡ Err Truncated = rw (le-ltb b limit large) at g in cc)
          ]
      | inr ge ↦
          let g : carried b (groups_at limit room bs) ≡ Err Truncated = rw (le-ltb b 128 ge) at f in
          let ih = early_groups limit room bs le (IsBytes-tail b bs fits) (carried_err b (groups_at limit room bs) Truncated g) in
          (b - 128 + 128 * ih.0, groups-cons limit room b (bs ++ (0 ∷ [])) _ ih.0 ge (fits 0) (omega arith) ih.1)
    ]
  where
    carried_err : (b : ℕ) (r : Result (ℕ × ℕ) AtomError) (d : AtomError) → carried b r ≡ Err d → r ≡ Err d
    carried_err b (Ok y) d e = absurd cc
    carried_err b (Err c) d e = e

pub groups_early : (limit room : ℕ) (bytes more : List ℕ) (n : ℕ) → 0 < length more → Groups limit room (bytes ++ more) n → groups_at limit room bytes ≡ Err Truncated
unfolding groups_at
groups_early limit room [] more n lt h = refl
groups_early limit zero (b ∷ bs) more n lt h =
    let t = groups-tail limit zero b (bs ++ more) n (simp length-append (omega arith)) h in
    absurd (let z : 0 ≡ suc t.0 = t.1 in omega (arith, z))
groups_early limit (suc room) (b ∷ bs) more n lt h =
    let t = groups-tail limit (suc room) b (bs ++ more) n (simp length-append (omega arith)) h in
    let same : t.0 ≡ room = (let z : suc room ≡ suc t.0 = t.1 in omega (arith, z)) in
    let ih = groups_early limit room bs more t.3 lt (subst (λ (r : ℕ). Groups limit r (bs ++ more) t.3) same t.4) in
    rw (le-ltb b 128 t.2, ih) refl

pub only_errors : (limit room : ℕ) (bytes : List ℕ) → IfErr (groups_at limit room bytes) (λ e. (e ≡ Truncated) ⊎ (e ≡ Overlong))
unfolding groups_at
only_errors limit room [] = inl refl
only_errors limit zero (b ∷ bs) =
    elim (ltb b 16) as (λ t. IfErr (cond t (found (b, 1)) (Err Overlong)) (λ e. (e ≡ Truncated) ⊎ (e ≡ Overlong))) [ true ↦ tt | false ↦ inr refl ]
only_errors limit (suc room) (b ∷ bs) =
    elim (ltb b 128) as (λ t. IfErr (cond t (cond (ltb b limit) (found (b, 1)) (Err Overlong)) (carried b (groups_at limit room bs))) (λ e. (e ≡ Truncated) ⊎ (e ≡ Overlong))) [
      | true ↦ elim (ltb b limit) as (λ t. IfErr (cond t (found (b, 1)) (Err Overlong)) (λ e. (e ≡ Truncated) ⊎ (e ≡ Overlong))) [ true ↦ tt | false ↦ inr refl ]
      | false ↦ behind (groups_at limit room bs) (only_errors limit room bs)
    ]
  where
    behind : (r : Result (ℕ × ℕ) AtomError) → IfErr r (λ e. (e ≡ Truncated) ⊎ (e ≡ Overlong)) → IfErr (carried b r) (λ e. (e ≡ Truncated) ⊎ (e ≡ Overlong))
    behind (Ok x) h = tt
    behind (Err d) h = h

-- ---- the clauses of the readers, for what is groups_at of the bytes

module _ (limit : ℕ) (low : 16 ≤ limit) (high : limit ≤ 128) (bytes : List ℕ) (fits : IsBytes bytes) where
  pub is_found : (r : Result (ℕ × ℕ) AtomError) → r ≡ groups_at limit 4 bytes → IfOk r (λ x. (x.1 ≤ length bytes) × Spells limit (take x.1 bytes) x.0)
  is_found (Ok x) e =
      let g = found_groups limit 4 bytes x low fits (sym e) in
      (g.0, spells-of_groups limit (take x.1 bytes) x.0 high g.1)
  is_found (Err d) e = tt

  pub is_only : (r : Result (ℕ × ℕ) AtomError) → r ≡ groups_at limit 4 bytes → (n k : ℕ) → k ≤ length bytes → Spells limit (take k bytes) n → r ≡ Ok (n, k)
  is_only r e n k le s =
      let g = spells-groups limit 4 (take k bytes) n high s.ends s.short s.fifth s.value in
      let again = groups_again limit 4 (take k bytes) (drop k bytes) n high g in
      let count : length (take k bytes) ≡ k = omega (arith, length-take k bytes) in
      e ∙ ap (groups_at limit 4) (sym (take-append-drop k bytes)) ∙ again ∙ ap (λ (m : ℕ). found (n, m)) count

  pub is_truncated : (r : Result (ℕ × ℕ) AtomError) → r ≡ groups_at limit 4 bytes → IsErrOf r Truncated ↔ EndsEarly (Spells limit) bytes
  is_truncated r e = (
    λ t. let g = early_groups limit 4 bytes low fits (sym e ∙ t) in (0 ∷ [], g.0, omega arith, spells-of_groups limit (bytes ++ (0 ∷ [])) g.0 high g.1),
    λ w. e ∙ groups_early limit 4 bytes w.0 w.1 w.2 (spells-groups limit 4 (bytes ++ w.0) w.1 high w.3.ends w.3.short w.3.fifth w.3.value),
  )

  pub is_error : (r : Result (ℕ × ℕ) AtomError) → r ≡ groups_at limit 4 bytes → IfErr r (λ e. (e ≡ Truncated) ⊎ (e ≡ Overlong))
  is_error r e = subst (λ (q : Result (ℕ × ℕ) AtomError). IfErr q (λ e. (e ≡ Truncated) ⊎ (e ≡ Overlong))) (sym e) (only_errors limit 4 bytes)

-- ---- writing

least-groups : (limit room : ℕ) (bytes : List ℕ) (n : ℕ) → 64 ≤ limit → n < 16 * 128 ^ room → IsLeast limit bytes n → Groups limit room bytes n
least-groups limit room [] n low lt h = absurd h
least-groups limit zero (b ∷ []) n low lt h = (h.0, omega (arith, h.1), h.1)
least-groups limit (suc room) (b ∷ []) n low lt h = h
least-groups limit zero (b ∷ c ∷ bs) n low lt h = absurd (omega (arith, h.0))
least-groups limit (suc room) (b ∷ c ∷ bs) n low lt h =
    let power : 128 ^ suc room ≡ 128 ^ room * 128 = pow-suc 128 room in
    let below : h.3 < 16 * 128 ^ room = omega (arith, power, h.1, h.4) in
    (h.1, h.2, h.3, h.4, least-groups limit room (c ∷ bs) h.3 low below h.5)

shortest : (limit room : ℕ) (bytes other : List ℕ) (n : ℕ) → IsLeast limit bytes n → Groups limit room other n → length bytes ≤ length other
shortest limit room [] other n h g = absurd h
shortest limit room (b ∷ bs) [] n h g = absurd g
shortest limit room (b ∷ []) (o ∷ os) n h g = omega arith
shortest limit zero (b ∷ c ∷ bs) (o ∷ []) n h g = absurd (omega (arith, h.0, g.0, g.2))
shortest limit (suc room) (b ∷ c ∷ bs) (o ∷ []) n h g = absurd (omega (arith, h.0, g.0, g.1))
shortest limit zero (b ∷ c ∷ bs) (o ∷ p ∷ os) n h g = absurd g
shortest limit (suc room) (b ∷ c ∷ bs) (o ∷ p ∷ os) n h g =
    let same : h.3 ≡ g.2 = omega (arith, h.1, h.2, h.4, g.0, g.1, g.3) in
    let ih = shortest limit room (c ∷ bs) (p ∷ os) g.2 (subst (λ (m : ℕ). IsLeast limit (c ∷ bs) m) same h.5) g.4 in
    omega (arith, ih)

pub appends_least : (limit : ℕ) (old new : List ℕ) (n : ℕ) → 64 ≤ limit → limit ≤ 128 → n < 2 ^ 32 → (bytes : List ℕ) × (new ≡ old ++ bytes) × IsLeast limit bytes n → AppendsLeast (Spells limit) old new n
appends_least limit old new n low high lt h =
    let g = least-groups limit 4 h.0 n low (omega arith) h.2 in
    (h.0, h.1, spells-of_groups limit h.0 n high g, λ other s. shortest limit 4 h.0 other n h.2 (spells-groups limit 4 other n high s.ends s.short s.fifth s.value))
