-- Whether definitions name earlier types alone, one after the other.
use Rattle.std.proofs.Common.{◌≡◌, ℕ, zero, suc, ◌+◌, ◌<◌, Bool, true, false, IsTrue, Option, None, Some, ◌&&◌, nat_le, nat_lt, List, [], ◌∷◌, ◌++◌, length, take, get_or, refl, ap, sym, subst, ◌∙◌, true≢false, arith}
use Rattle.std.proofs.lemmas.Grind.{take_at_read}
use Rattle.std.proofs.lemmas.List.{length-take}
use Rattle.std.proofs.lemmas.Bool.{ltb-true}
use Rattle.std.specs.List.{list_all}
use Rattle.std.proofs.lemmas.List.Folds.{list_all_more, list_all_at}
use Rattle.tables.specs.Tables.{option_all, kind_all, definition_all, is_below, definition_below, are_earlier, is_type, name_types, is_type_before, are_standard, are_placed, are_grouped, are_worlds_grouped, are_placed_worlds}
use Rattle.tables.specs.Parts.{are_worlds, is_package}
use Rattle.tables.specs.declared.tables.Interface.{Interface}
use Rattle.tables.specs.declared.tables.World.{World}
use Rattle.tables.specs.declared.tables.Resolve.{Resolve}
use Rattle.tables.specs.declared.tables.ValType.{ValType}
use Rattle.tables.specs.declared.tables.Case.{Case}
use Rattle.tables.specs.declared.tables.Parameter.{Parameter}
use Rattle.tables.specs.declared.tables.TypeDefKind.{TypeDefKind}
use Rattle.tables.specs.declared.tables.TypeDefKind.TheVariants as kind
use Rattle.tables.specs.declared.tables.Definition.{Definition}
use Rattle.tables.specs.declared.tables.Definition.TheVariants as row
use Rattle.tables.proofs.ClosedTypesRowByRow.{earlier-at, split, both}

earlier-append : (n : ℕ) (ds : List Definition) (d : Definition) → are_earlier n (ds ++ d ∷ []) ≡ (are_earlier n ds && definition_below (n + length ds) d)
earlier-append n [] d = let e : n + 0 ≡ n = omega arith in rw e (by (definition_below n d))
  where
    by : (b : Bool) → (b && true) ≡ b
    by true = refl
    by false = refl
earlier-append n (e ∷ ds) d =
    let same : n + suc (length ds) ≡ n + 1 + length ds = omega arith in
    rw same (ap (λ (b : Bool). definition_below n e && b) (earlier-append (n + 1) ds d) ∙ by (definition_below n e) (are_earlier (n + 1) ds) (definition_below (n + 1 + length ds) d))
  where
    by : (a b c : Bool) → (a && (b && c)) ≡ ((a && b) && c)
    by true b c = refl
    by false b c = refl

pub earlier-more : (ds : List Definition) (i : ℕ) (d : Definition) → i < length ds → d ≡ get_or ds i d → are_earlier 0 (take i ds) ≡ true → definition_below i d ≡ true
    → are_earlier 0 (take (i + 1) ds) ≡ true
earlier-more ds i d h is so_far here =
    let count : 0 + length (take i ds) ≡ i = omega (arith, length-take i ds) in
    let at : definition_below (0 + length (take i ds)) (get_or ds i d) ≡ true = subst (λ (e : Definition). definition_below (0 + length (take i ds)) e ≡ true) is (rw count here) in
    rw ((take_at_read ds i d h).1, earlier-append 0 (take i ds) (get_or ds i d), so_far, at) refl

pub earlier-never : (ds : List Definition) (i : ℕ) (d : Definition) → i < length ds → d ≡ get_or ds i d → definition_below i d ≡ false → are_earlier 0 ds ≡ false
earlier-never ds i d h is here = by (are_earlier 0 ds) refl
  where
    by : (b : Bool) → are_earlier 0 ds ≡ b → b ≡ false
    by false e = refl
    by true e =
        let same : 0 + i ≡ i = omega arith in
        let at = earlier-at 0 ds i d e h in
        let below : definition_below i (get_or ds i d) ≡ true = rw same at at in
        let back : definition_below i d ≡ true = subst (λ (x : Definition). definition_below i x ≡ true) (sym is) below in
        absurd (true≢false (sym back ∙ here))

-- ---- two properties of all that is named

swap-and : (a b c d : Bool) → ((a && b) && (c && d)) ≡ ((a && c) && (b && d))
swap-and true b true d = refl
swap-and true true false d = refl
swap-and true false false d = refl
swap-and false b c d = refl

module _ (p q : ValType → Bool) where
  list-both : {A : Type 0} (f g : A → Bool) (xs : List A) → list_all (λ x. f x && g x) xs ≡ (list_all f xs && list_all g xs)
  list-both f g [] = refl
  list-both f g (x ∷ xs) = ap (λ (b : Bool). (f x && g x) && b) (list-both f g xs) ∙ swap-and (f x) (g x) (list_all f xs) (list_all g xs)

  option-both : (v : Option ValType) → option_all (λ u. p u && q u) v ≡ (option_all p v && option_all q v)
  option-both None = refl
  option-both (Some v) = refl

  cases-both : (cs : List Case) → list_all (λ c. option_all (λ u. p u && q u) c.ty) cs ≡ (list_all (λ c. option_all p c.ty) cs && list_all (λ c. option_all q c.ty) cs)
  cases-both [] = refl
  cases-both (c ∷ cs) =
      rw (option-both c.ty, cases-both cs)
      (swap-and (option_all p c.ty) (option_all q c.ty) (list_all (λ x. option_all p x.ty) cs) (list_all (λ x. option_all q x.ty) cs))

  kind-both : (k : TypeDefKind) → kind_all (λ u. p u && q u) k ≡ (kind_all p k && kind_all q k)
  kind-both (kind.Use t) = refl
  kind-both (kind.Alias v) = refl
  kind-both (kind.List v) = refl
  kind-both (kind.Option v) = refl
  kind-both (kind.Result v w) = rw (option-both v, option-both w) (swap-and (option_all p v) (option_all q v) (option_all p w) (option_all q w))
  kind-both (kind.Tuple vs) = list-both p q vs
  kind-both (kind.Record fs) = list-both (λ f. p f.ty) (λ f. q f.ty) fs
  kind-both (kind.Variant cs) = cases-both cs
  kind-both (kind.Enum ns) = refl
  kind-both (kind.Flags ns) = refl

  pub definition-both : (d : Definition) → definition_all (λ u. p u && q u) d ≡ (definition_all p d && definition_all q d)
  definition-both (row.Type d) = kind-both d.kind
  definition-both (row.Function f) =
      rw (list-both (λ (x : Parameter). p x.ty) (λ x. q x.ty) f.params, option-both f.result)
      (swap-and (list_all (λ x. p x.ty) f.params) (list_all (λ x. q x.ty) f.params) (option_all p f.result) (option_all q f.result))

-- ---- types that stand before

pub names-more : (ds : List Definition) (i : ℕ) (d : Definition) → i < length ds → d ≡ get_or ds i d
    → (are_earlier 0 (take i ds) ≡ true) × (list_all (definition_all (is_type ds)) (take i ds) ≡ true)
    → definition_all (is_type_before ds i) d ≡ true
    → (are_earlier 0 (take (i + 1) ds) ≡ true) × (list_all (definition_all (is_type ds)) (take (i + 1) ds) ≡ true)
names-more ds i d h is so_far here =
    let parts = split (definition_below i d) (definition_all (is_type ds) d) (sym (definition-both (is_below i) (is_type ds) d) ∙ here) in
    let at : definition_all (is_type ds) (get_or ds i d) ≡ true = subst (λ (e : Definition). definition_all (is_type ds) e ≡ true) is parts.1 in (
      earlier-more ds i d h is so_far.0 parts.0,
      list_all_more (definition_all (is_type ds)) ds i d h ∙ both _ _ so_far.1 at,
    )

pub names-never : (ds : List Definition) (i : ℕ) (d : Definition) → i < length ds → d ≡ get_or ds i d → definition_all (is_type_before ds i) d ≡ false
    → (are_earlier 0 ds && name_types ds) ≡ false
names-never ds i d h is here = by (definition_below i d) (definition_all (is_type ds) d) refl refl
  where
    sides : (definition_below i d && definition_all (is_type ds) d) ≡ false
    sides = sym (definition-both (is_below i) (is_type ds) d) ∙ here

    last : (a : Bool) → (a && false) ≡ false
    last true = refl
    last false = refl

    by : (a b : Bool) → definition_below i d ≡ a → definition_all (is_type ds) d ≡ b → (are_earlier 0 ds && name_types ds) ≡ false
    by false b e g = rw (earlier-never ds i d h is e) refl
    by true false e g =
        let at : definition_all (is_type ds) (get_or ds i d) ≡ false = subst (λ (x : Definition). definition_all (is_type ds) x ≡ false) is g in
        rw (list_all_at (definition_all (is_type ds)) ds i d h at) (last (are_earlier 0 ds))
    by true true e g = absurd (true≢false (sym (both _ _ e g) ∙ sides))

-- ---- parts of a package

pub record HasTests (count : ℕ) (ds : List Definition) (is : List Interface) (ws : List World) : Type 0 where
  pub earlier : IsTrue (are_earlier 0 ds)
  pub typed : IsTrue (name_types ds)
  pub standard : IsTrue (are_standard ds)
  pub placed : IsTrue (are_placed ds is)
  pub grouped : IsTrue (are_grouped count 0 is)
  pub worlds_grouped : IsTrue (are_worlds_grouped count 0 ws)
  pub worlds_placed : IsTrue (are_placed_worlds ds (length is) 0 ws)

pub package-parts : (count : ℕ) (ds : List Definition) (is : List Interface) (ws : List World) → is_package count ds is ws ≡ true → HasTests count ds is ws
package-parts count ds is ws h =
    let worlds = are_worlds count ds (length is) ws in
    let halves = split (are_earlier 0 ds && name_types ds) (are_standard ds && (are_placed ds is && (are_grouped count 0 is && worlds))) h in
    let named = split (are_earlier 0 ds) (name_types ds) halves.0 in
    let rest = split (are_standard ds) (are_placed ds is && (are_grouped count 0 is && worlds)) halves.1 in
    let placed = split (are_placed ds is) (are_grouped count 0 is && worlds) rest.1 in
    let grouped = split (are_grouped count 0 is) worlds placed.1 in
    let last = split (are_worlds_grouped count 0 ws) (are_placed_worlds ds (length is) 0 ws) grouped.1 in
    record {
      earlier = named.0;
      typed = named.1;
      standard = rest.0;
      placed = placed.0;
      grouped = grouped.0;
      worlds_grouped = last.0;
      worlds_placed = last.1;
    }

-- .. and the other way round
pub package-whole : (count : ℕ) (ds : List Definition) (is : List Interface) (ws : List World) → HasTests count ds is ws → is_package count ds is ws ≡ true
package-whole count ds is ws h = both _ _ (both _ _ h.earlier h.typed) (both _ _ h.standard (both _ _ h.placed (both _ _ h.grouped (both _ _ h.worlds_grouped h.worlds_placed))))

pub tests-of : (r : Resolve) → HasTests (length r.packages) r.definitions r.interfaces r.worlds
tests-of r = record {
  earlier = r.earlier;
  typed = r.typed;
  standard = r.standard;
  placed = r.placed;
  grouped = r.grouped;
  worlds_grouped = r.worlds_grouped;
  worlds_placed = r.worlds_placed;
}

-- an interface of a table is of one of its packages
pub grouped-at : (count first : ℕ) (is : List Interface) (k : ℕ) (i : Interface) → IsTrue (are_grouped count first is) → k < length is → get_or is k i ≡ i → i.«package».0 < count
grouped-at count first [] k i h q e = absurd (omega arith)
grouped-at count first (j ∷ is) zero i h q e =
    let here = split (nat_le first j.«package».0) (nat_lt j.«package».0 count) (split (nat_le first j.«package».0 && nat_lt j.«package».0 count) _ h).0 in
    subst (λ (x : Interface). x.«package».0 < count) e (ltb-true j.«package».0 count here.1)
grouped-at count first (j ∷ is) (suc k) i h q e =
    grouped-at count j.«package».0 is k i (split (nat_le first j.«package».0 && nat_lt j.«package».0 count) _ h).1 (omega (arith, q)) e
