-- Where names differ, a name of an interface stands for one row.
use Rattle.std.proofs.Common.{◌≡◌, ℕ, zero, suc, ◌+◌, ◌-◌, ◌<◌, ◌≤◌, Bool, true, false, ◌&&◌, ◌==◌, nat_lt, nat_le, List, [], ◌∷◌, ◌++◌, map, flat_map, take, drop, length, get_or, slice_get, None, Some, refl, ap, sym, subst, ◌∙◌, arith, length-append, All, Contains, inl, inr}
use Rattle.std.specs.List.{list_all}
use Rattle.std.proofs.lemmas.Bool.Decides.{nat_tests}
use Rattle.std.proofs.lemmas.List.{get_or_append_left, take-append-le, get_or-append-add, map-append, length-take, get_or-take, get_or_default}
use Rattle.std.proofs.lemmas.Option.{slice_get_past}
use Rattle.std.proofs.Math.Seq.{take-append-add}
use Rattle.tables.specs.declared.tables.TypeDefKind.{TypeDefKind}
use Rattle.tables.specs.declared.tables.TypeName.{TypeName}
use Rattle.tables.specs.declared.tables.Definition.{Definition}
use Rattle.tables.specs.declared.tables.Definition.TheVariants as row
use Rattle.tables.specs.declared.tables.Interface.{Interface}
use Rattle.tables.specs.declared.tables.World.{World}
use Rattle.package_form.specs.Scope.{lowered, AreDistinct}
use Rattle.package_form.proofs.AllAndContains.{all-head, all-left, all-right, contains-left, contains-right, contains-map, contains-flat, contains-here, compared, all-get}
use Rattle.package_form.specs.Ends.{end_of, rows_of, interfaces_end, world_end, world_rows, are_worlds_parted, is_parted}
use Rattle.package_form.specs.Form.{uses_earlier, is_owned, is_own, is_local, has_ids, are_interfaces, is_world_row, has_items, have_items}
use Rattle.package_form.specs.References.{row_references}
use Rattle.package_form.specs.Naming.{row_names, rows_scopes, interfaces_scopes}
use Rattle.tables.proofs.ClosedTypesRowByRow.{split}

-- ---- names that differ

pub distinct-back : (xs ys : List (List ℕ)) → AreDistinct (xs ++ ys) → AreDistinct ys
distinct-back xs ys h = record {
  each = λ k l met.
      let at : get_or (xs ++ ys) (length xs + k) [] ≡ get_or ys k [] = get_or-append-add xs ys k [] in
      let front : take (length xs + k) (xs ++ ys) ≡ xs ++ take k ys = take-append-add xs ys k in
      let before : Contains (map lowered (xs ++ take k ys)) (lowered (get_or ys k [])) =
      subst (λ ns. Contains ns (lowered (get_or ys k []))) (sym (map-append lowered xs (take k ys))) (contains-right (map lowered xs) (map lowered (take k ys)) _ met) in
      h.each (length xs + k) (omega (arith, l, length-append xs ys))
      (subst (λ ns. Contains (map lowered ns) (lowered (get_or (xs ++ ys) (length xs + k) []))) (sym front) (subst (λ n. Contains (map lowered (xs ++ take k ys)) (lowered n)) (sym at) before));
}

pub distinct-front : (xs ys : List (List ℕ)) → AreDistinct (xs ++ ys) → AreDistinct xs
distinct-front xs ys h = record {
  each = λ k l met.
      let at : get_or (xs ++ ys) k [] ≡ get_or xs k [] = get_or_append_left xs ys [] k l in
      let front : take k (xs ++ ys) ≡ take k xs = take-append-le k xs ys (omega (arith, l)) in
      h.each k (omega (arith, l, length-append xs ys))
      (subst (λ ns. Contains (map lowered ns) (lowered (get_or (xs ++ ys) k []))) (sym front) (subst (λ n. Contains (map lowered (take k xs)) (lowered n)) (sym at) met));
}

pub distinct-apart : (xs ys : List (List ℕ)) (n : List ℕ) → AreDistinct (xs ++ ys) → Contains xs n → Contains ys n → ⊥
distinct-apart xs ys n h c d =
    let k = d.0 in
    let at : get_or (xs ++ ys) (length xs + k) [] ≡ n = get_or-append-add xs ys k [] ∙ is-at ys k n d.1 d.2 in
    let front : take (length xs + k) (xs ++ ys) ≡ xs ++ take k ys = take-append-add xs ys k in
    let before : Contains (map lowered (xs ++ take k ys)) (lowered n) = contains-map lowered (xs ++ take k ys) n (contains-left xs (take k ys) n c) in
    h.each (length xs + k) (omega (arith, d.1, length-append xs ys))
    (subst (λ ns. Contains (map lowered ns) (lowered (get_or (xs ++ ys) (length xs + k) []))) (sym front) (subst (λ m. Contains (map lowered (xs ++ take k ys)) (lowered m)) (sym at) before))
  where
    is-at : (ys : List (List ℕ)) (k : ℕ) (n : List ℕ) → k < length ys → get_or ys k n ≡ n → get_or ys k [] ≡ n
    is-at [] k n l e = absurd (omega (arith, l))
    is-at (y ∷ ys) zero n l e = e
    is-at (y ∷ ys) (suc k) n l e = is-at ys k n (omega (arith, l)) e

-- two places of one name are one
differ : (ns : List (List ℕ)) (a b : ℕ) → AreDistinct ns → a < b → b < length ns → get_or ns a [] ≡ get_or ns b [] → ⊥
differ ns a b d l m e =
    let long : length (take b ns) ≡ b = length-take b ns ∙ omega (arith, m) in
    let at : get_or (take b ns) a (get_or ns b []) ≡ get_or ns b [] = get_or-take b ns a (get_or ns b []) l ∙ get_or_default ns a (get_or ns b []) [] (omega (arith, l, m)) ∙ e in
    d.each b m (contains-map lowered (take b ns) (get_or ns b []) (a, omega (arith, l, long), at))

pub same-place : (ns : List (List ℕ)) (a b : ℕ) → AreDistinct ns → a < length ns → b < length ns → get_or ns a [] ≡ get_or ns b [] → a ≡ b
same-place ns a b d l m e = elim (compared a b) [
  | inl q ↦ absurd (differ ns a b d q m e)
  | inr q ↦ elim q [
    | inl r ↦ absurd (differ ns b a d r l (sym e))
    | inr r ↦ r
  ]
]

contains-get : {A : Type 0} (xs : List A) (k : ℕ) (x : A) → slice_get xs k ≡ Some x → Contains xs x
contains-get [] k x e = absurd (cc)
contains-get (y ∷ xs) zero x e = let is : y ≡ x = cc in subst (Contains (y ∷ xs)) is (contains-here y xs)
contains-get (y ∷ xs) (suc k) x e = let h = contains-get xs k x e in (suc h.0, omega (arith, h.1), h.2)

-- two things of a scope have one name
pub twice-of : {A : Type 0} (f : A → List (List ℕ)) (xs : List A) (a b : ℕ) (x y : A) (n : List ℕ) → a < b → slice_get xs a ≡ Some x → slice_get xs b ≡ Some y → Contains (f x) n → Contains (f y) n
    → AreDistinct (flat_map f xs) → ⊥
twice-of f [] a b x y n l e g cx cy h = absurd (cc)
twice-of f (z ∷ xs) zero zero x y n l e g cx cy h = absurd (omega (arith, l))
twice-of f (z ∷ xs) zero (suc b) x y n l e g cx cy h =
    let is : z ≡ x = cc in
    distinct-apart (f z) (flat_map f xs) n h (subst (λ w. Contains (f w) n) (sym is) cx) (contains-flat f xs y n (contains-get xs b y g) cy)
twice-of f (z ∷ xs) (suc a) zero x y n l e g cx cy h = absurd (omega (arith, l))
twice-of f (z ∷ xs) (suc a) (suc b) x y n l e g cx cy h = twice-of f xs a b x y n (omega (arith, l)) e g cx cy (distinct-back (f z) (flat_map f xs) h)

-- two rows of a scope have one name
pub twice : (ds : List Definition) (a b : ℕ) (c d : Definition) (n : List ℕ) → a < b → slice_get ds a ≡ Some c → slice_get ds b ≡ Some d → Contains (row_names c) n → Contains (row_names d) n
    → AreDistinct (flat_map row_names ds) → ⊥
twice = twice-of row_names

-- ---- rows of an interface

get-drop : (xs : List Definition) (n m : ℕ) → slice_get (drop n xs) m ≡ slice_get xs (n + m)
get-drop xs zero m = ap (slice_get xs) (omega arith)
get-drop [] (suc n) m = refl
get-drop (x ∷ xs) (suc n) m = get-drop xs n m ∙ ap (slice_get (x ∷ xs)) (let e : suc (n + m) ≡ suc n + m = omega arith in e)

get-take : (xs : List Definition) (n m : ℕ) → m < n → slice_get (take n xs) m ≡ slice_get xs m
get-take xs zero m l = absurd (omega (arith, l))
get-take [] (suc n) m l = refl
get-take (x ∷ xs) (suc n) zero l = refl
get-take (x ∷ xs) (suc n) (suc m) l = get-take xs n m (omega (arith, l))

-- a type of this name
unfoldable pub named : TypeName → TypeDefKind → Definition
named y k = row.Type (record { name = Some y; kind = k })

-- the row at this place has this name
abbrev pub IsNamedAt : List Definition → ℕ → TypeName → Type 0
IsNamedAt rows a y = (k : TypeDefKind) × (slice_get rows a ≡ Some (named y k))

module _ (rows : List Definition) where
  pub in-rows : (start : ℕ) (i : Interface) (a : ℕ) → start ≤ a → a < end_of start i → slice_get (rows_of rows start i) (a - start) ≡ slice_get rows a
  in-rows start i a l m =
      get-take (drop start rows) (end_of start i - start) (a - start) (omega (arith, l, m)) ∙ get-drop rows start (a - start) ∙ ap (slice_get rows) (omega (arith, l))

  local-name : (k : ℕ) (y : TypeName) (c : TypeDefKind) → is_local rows k (named y c) ≡ true → y.interface.0 ≡ k
  unfolding named
  local-name k y c h =
      let owned = split (is_owned rows k (row.Type (record { name = Some y; kind = c }))) (list_all (is_own rows k) (row_references (row.Type (record { name = Some y; kind = c })))) h in
      let own = split (y.interface.0 == k) (uses_earlier rows k c) owned.0 in
      grind (arith, nat_tests)

  names-of : (y : TypeName) (k : TypeDefKind) → Contains (row_names (named y k)) y.name
  unfolding named
  names-of y k = contains-here y.name []

  pub parted-on : (start : ℕ) (i : Interface) (is : List Interface) (ws : List World) → is_parted (length rows) start (i ∷ is) ws ≡ true → is_parted (length rows) (end_of start i) is ws ≡ true
  parted-on start i is ws p = (split (nat_le (end_of start i) (length rows)) (is_parted (length rows) (end_of start i) is ws) (split (nat_le start (end_of start i)) _ p).1).1

  pub forms-on : (k start : ℕ) (i : Interface) (is : List Interface) → are_interfaces rows k start (i ∷ is) ≡ true → are_interfaces rows (k + 1) (end_of start i) is ≡ true
  forms-on k start i is f = (split (has_ids rows start i && list_all (is_local rows k) (rows_of rows start i)) (are_interfaces rows (k + 1) (end_of start i) is) f).1

  pub locals-in : (k start : ℕ) (i : Interface) (is : List Interface) → are_interfaces rows k start (i ∷ is) ≡ true → list_all (is_local rows k) (rows_of rows start i) ≡ true
  locals-in k start i is f =
      (split (has_ids rows start i) (list_all (is_local rows k) (rows_of rows start i)) (split (has_ids rows start i && list_all (is_local rows k) (rows_of rows start i)) _ f).0).1

  pub is-own : (k start : ℕ) (i : Interface) → list_all (is_local rows k) (rows_of rows start i) ≡ true → (a : ℕ) (y : TypeName) → start ≤ a → a < end_of start i → IsNamedAt rows a y → y.interface.0 ≡ k
  is-own k start i all a y l m h = local-name k y h.0 (all-get (is_local rows k) (rows_of rows start i) (a - start) (named y h.0) all (in-rows start i a l m ∙ h.1))

  -- no row from this place on is a type with a name
  abbrev pub NoneFrom : ℕ → Type 0
  NoneFrom n = (a : ℕ) (y : TypeName) → n ≤ a → IsNamedAt rows a y → ⊥

  in-world : (start : ℕ) (w : World) (a : ℕ) → start ≤ a → a < world_end start w → slice_get (world_rows rows start w) (a - start) ≡ slice_get rows a
  in-world start w a l m =
      get-take (drop start rows) (world_end start w - start) (a - start) (omega (arith, l, m)) ∙ get-drop rows start (a - start) ∙ ap (slice_get rows) (omega (arith, l))

  not-named : (k : ℕ) (y : TypeName) (c : TypeDefKind) → is_world_row rows k (named y c) ≡ true → ⊥
  unfolding named
  not-named k y c q = absurd (cc)

  -- the rows of worlds have no types with names
  pub none-named : (k start : ℕ) (ws : List World) → are_worlds_parted (length rows) start ws ≡ true → have_items rows k start ws ≡ true → NoneFrom start
  none-named k start [] p f a y l h =
      let e : slice_get rows a ≡ None = slice_get_past rows a (let q : start ≡ length rows = grind (arith, nat_tests) in omega (arith, q, l)) in let x = h.1 in cc
  none-named k start (w ∷ ws) p f a y l h =
      by (nat_lt a (world_end start w)) refl (λ q g m. none-named (k + 1) (world_end start w) ws q g a y m h)
    where
      end : ℕ
      end = world_end start w

      parted : are_worlds_parted (length rows) end ws ≡ true
      parted = (split (nat_le end (length rows)) (are_worlds_parted (length rows) end ws) (split (nat_le start end) _ p).1).1

      parts : (((has_items rows start w && list_all (is_world_row rows k) (world_rows rows start w)) ≡ true) × (have_items rows (k + 1) end ws ≡ true))
      parts = split (has_items rows start w && list_all (is_world_row rows k) (world_rows rows start w)) (have_items rows (k + 1) end ws) f

      by : (b : Bool) → nat_lt a end ≡ b → (are_worlds_parted (length rows) end ws ≡ true → have_items rows (k + 1) end ws ≡ true → end ≤ a → ⊥) → ⊥
      by true e later =
          let m : a < end = grind (arith, nat_tests) in
          not-named k y h.0 (all-get (is_world_row rows k) (world_rows rows start w) (a - start) (named y h.0) ((split (has_items rows start w) _ parts.0).1) (in-world start w a l m ∙ h.1))
      by false e later =
          let m : end ≤ a = grind (arith, nat_tests) in
          later parted parts.1 m

  -- behind the interfaces stand the rows of worlds
  pub worlds-parted : (start : ℕ) (is : List Interface) (ws : List World) → is_parted (length rows) start is ws ≡ true → are_worlds_parted (length rows) (interfaces_end start is) ws ≡ true
  worlds-parted start [] ws p = p
  worlds-parted start (i ∷ is) ws p = worlds-parted (end_of start i) is ws (parted-on start i is ws p)

  -- a row from here on is of this interface or of a later one
  home : (k start : ℕ) (is : List Interface) → NoneFrom (interfaces_end start is) → are_interfaces rows k start is ≡ true → (a : ℕ) (y : TypeName) → start ≤ a → IsNamedAt rows a y → k ≤ y.interface.0
  home k start [] p f a y l h = absurd (p a y l h)
  home k start (i ∷ is) p f a y l h = by (nat_lt a (end_of start i)) refl (λ m. home (k + 1) (end_of start i) is p (forms-on k start i is f) a y m h)
    where
      by : (b : Bool) → nat_lt a (end_of start i) ≡ b → (end_of start i ≤ a → k + 1 ≤ y.interface.0) → k ≤ y.interface.0
      by true e later =
          let m : a < end_of start i = grind (arith, nat_tests) in
          omega (arith, is-own k start i (locals-in k start i is f) a y l m h)
      by false e later = let m : end_of start i ≤ a = grind (arith, nat_tests) in omega (arith, later m)

  -- two rows of one interface with one name are one row
  one-row : (ds : List Definition) (a b : ℕ) (y : TypeName) → AreDistinct (flat_map row_names ds) → IsNamedAt ds a y → IsNamedAt ds b y → a ≡ b
  one-row ds a b y h x z = elim (compared a b) [
    | inl q ↦ absurd (twice ds a b (named y x.0) (named y z.0) y.name q x.1 z.1 (names-of y x.0) (names-of y z.0) h)
    | inr q ↦ elim q [
      | inl r ↦ absurd (twice ds b a (named y z.0) (named y x.0) y.name r z.1 x.1 (names-of y z.0) (names-of y x.0) h)
      | inr r ↦ r
    ]
  ]

  pub unique : (k start : ℕ) (is : List Interface) → NoneFrom (interfaces_end start is) → are_interfaces rows k start is ≡ true → All AreDistinct (interfaces_scopes rows start is)
      → (a b : ℕ) (y : TypeName) → start ≤ a → start ≤ b → IsNamedAt rows a y → IsNamedAt rows b y → a ≡ b
  unique k start [] p f d a b y l m x z = absurd (p a y l x)
  unique k start (i ∷ is) p f d a b y l m x z =
      by (nat_lt a (end_of start i)) refl (nat_lt b (end_of start i)) refl
      (λ u v. unique (k + 1) (end_of start i) is p (forms-on k start i is f) (all-right AreDistinct (rows_scopes (rows_of rows start i)) (interfaces_scopes rows (end_of start i) is) d) a b y u v x z)
    where
      by : (c : Bool) → nat_lt a (end_of start i) ≡ c → (e : Bool) → nat_lt b (end_of start i) ≡ e → (end_of start i ≤ a → end_of start i ≤ b → a ≡ b) → a ≡ b
      by true q true r later =
          let u : a < end_of start i = grind (arith, nat_tests) in
          let v : b < end_of start i = grind (arith, nat_tests) in
          let scope = all-head AreDistinct _ _ (all-left AreDistinct (rows_scopes (rows_of rows start i)) (interfaces_scopes rows (end_of start i) is) d) in
          let same = one-row (rows_of rows start i) (a - start) (b - start) y scope (x.0, in-rows start i a l u ∙ x.1) (z.0, in-rows start i b m v ∙ z.1) in
          omega (arith, l, m, same)
      by true q false r later =
          let u : a < end_of start i = grind (arith, nat_tests) in
          let v : end_of start i ≤ b = grind (arith, nat_tests) in
          absurd (omega (arith, is-own k start i (locals-in k start i is f) a y l u x, home (k + 1) (end_of start i) is p (forms-on k start i is f) b y v z))
      by false q true r later =
          let u : end_of start i ≤ a = grind (arith, nat_tests) in
          let v : b < end_of start i = grind (arith, nat_tests) in
          absurd (omega (arith, is-own k start i (locals-in k start i is f) b y m v z, home (k + 1) (end_of start i) is p (forms-on k start i is f) a y u x))
      by false q false r later =
          let u : end_of start i ≤ a = grind (arith, nat_tests) in
          let v : end_of start i ≤ b = grind (arith, nat_tests) in
          later u v
