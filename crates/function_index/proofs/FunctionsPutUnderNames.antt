-- Functions, put one after the other under the full names of their interfaces and their own.
use Rattle.std.proofs.Common.{◌≡◌, ℕ, Bool, true, false, cond, ◌&&◌, List, [], ◌∷◌, ◌++◌, map, Option, None, Some, Result, Ok, Err, OnOk, is_some, refl, ap, sym, ◌∙◌}
use Rattle.std.specs.declared.alloc.Global.{Global}
use Rattle.std.specs.declared.string.String.{String}
use Rattle.std.specs.Map.{lookup, set_value}
use Rattle.std.specs.Option.{option_or}
use Rattle.std.specs.Str.{bytes_eq}
use Rattle.std.specs.String.{string_bytes}
use Rattle.std.proofs.lemmas.Slice.Eq.{bytes_eq-Decides}
use Rattle.tables.specs.declared.tables.FunctionId.{FunctionId}
use Rattle.function_index.specs.Index.{named, function_among, function_in}

pub on-ok : {T E : Type 0} {P Q : Type 0} (r : Result T E) → (P → Q) → OnOk r P → OnOk r Q
on-ok (Ok x) f h = f h
on-ok (Err e) f h = tt

pub or-none : {A : Type 0} (o : Option A) → option_or o None ≡ o
or-none None = refl
or-none (Some x) = refl

-- ---- values by names

module _ {V : Type 0} where
  pub looked-up : (n : List ℕ) (es : List (String Global × V)) → lookup (bytes_eq n) (map named es) ≡ lookup (λ s. bytes_eq n (string_bytes s)) es
  looked-up n [] = refl
  looked-up n (e ∷ es) = ap (λ (o : Option V). cond (bytes_eq n (string_bytes e.0)) (Some e.1) o) (looked-up n es)

  pub lookup-end : (n : List ℕ) (es : List (List ℕ × V)) (m : List ℕ) (v : V) → lookup (bytes_eq n) (es ++ (m, v) ∷ []) ≡ option_or (lookup (bytes_eq n) es) (cond (bytes_eq n m) (Some v) None)
  lookup-end n [] m v = refl
  lookup-end n (e ∷ es) m v = by (bytes_eq n e.0) (lookup-end n es m v)
    where
      by : (b : Bool) → lookup (bytes_eq n) (es ++ (m, v) ∷ []) ≡ option_or (lookup (bytes_eq n) es) (cond (bytes_eq n m) (Some v) None)
          → cond b (Some e.1) (lookup (bytes_eq n) (es ++ (m, v) ∷ [])) ≡ option_or (cond b (Some e.1) (lookup (bytes_eq n) es)) (cond (bytes_eq n m) (Some v) None)
      by true h = refl
      by false h = h

  -- a name that is there keeps its value
  pub kept : (es : List (List ℕ × V)) (m : List ℕ) (v : V) → is_some (lookup (bytes_eq m) es) ≡ true → (n : List ℕ) → lookup (bytes_eq n) es ≡ option_or (lookup (bytes_eq n) es) (cond (bytes_eq n m) (Some v) None)
  kept es m v there n = by (bytes_eq n m) refl
    where
      first : (o : Option V) → is_some o ≡ true → o ≡ option_or o (Some v)
      first None e = absurd (cc)
      first (Some j) e = refl

      by : (b : Bool) → bytes_eq n m ≡ b → lookup (bytes_eq n) es ≡ option_or (lookup (bytes_eq n) es) (cond b (Some v) None)
      by true e = first (lookup (bytes_eq n) es) (ap (λ (s : List ℕ). is_some (lookup (bytes_eq s) es)) ((bytes_eq-Decides n m).0 e) ∙ there)
      by false e = sym (or-none (lookup (bytes_eq n) es))

  pub none-there : (o : Option V) → is_some o ≡ false → o ≡ None
  none-there None e = refl
  none-there (Some x) e = absurd (cc)

  -- another value in the place of the one that is there
  pub changed : (m : List ℕ) (w : V) (es : List (String Global × V)) → is_some (lookup (λ s. bytes_eq m (string_bytes s)) es) ≡ true
      → (n : List ℕ) → lookup (bytes_eq n) (map named (set_value (λ s. bytes_eq m (string_bytes s)) es w)) ≡ cond (bytes_eq n m) (Some w) (lookup (bytes_eq n) (map named es))
  changed m w [] there n = absurd (cc)
  changed m w (e ∷ es) there n = by (λ t. changed m w es t n) (bytes_eq m (string_bytes e.0)) refl there
    where
      same : m ≡ string_bytes e.0 → (b : Bool) → bytes_eq n m ≡ b → cond (bytes_eq n (string_bytes e.0)) (Some w) (lookup (bytes_eq n) (map named es))
          ≡ cond b (Some w) (cond (bytes_eq n (string_bytes e.0)) (Some e.1) (lookup (bytes_eq n) (map named es)))
      same s true q = ap (λ (b : Bool). cond b (Some w) (lookup (bytes_eq n) (map named es))) (ap (bytes_eq n) (sym s) ∙ q)
      same s false q =
          ap (λ (b : Bool). cond b (Some w) (lookup (bytes_eq n) (map named es))) (ap (bytes_eq n) (sym s) ∙ q)
          ∙ sym (ap (λ (b : Bool). cond b (Some e.1) (lookup (bytes_eq n) (map named es))) (ap (bytes_eq n) (sym s) ∙ q))

      other : bytes_eq m (string_bytes e.0) ≡ false → (b : Bool) → bytes_eq n (string_bytes e.0) ≡ b → (d : Bool) → bytes_eq n m ≡ d
          → cond b (Some e.1) (cond d (Some w) (lookup (bytes_eq n) (map named es))) ≡ cond d (Some w) (cond b (Some e.1) (lookup (bytes_eq n) (map named es)))
      other differ true p true q =
          let one : n ≡ string_bytes e.0 = (bytes_eq-Decides n (string_bytes e.0)).0 p in
          let two : n ≡ m = (bytes_eq-Decides n m).0 q in
          let yes : bytes_eq m (string_bytes e.0) ≡ true = ap (λ (s : List ℕ). bytes_eq s (string_bytes e.0)) (sym two) ∙ p in
          absurd (cc)
      other differ true p false q = refl
      other differ false p d q = refl

      by : (is_some (lookup (λ s. bytes_eq m (string_bytes s)) es) ≡ true
          → lookup (bytes_eq n) (map named (set_value (λ s. bytes_eq m (string_bytes s)) es w)) ≡ cond (bytes_eq n m) (Some w) (lookup (bytes_eq n) (map named es)))
          → (b : Bool) → bytes_eq m (string_bytes e.0) ≡ b → is_some (cond b (Some e.1) (lookup (λ s. bytes_eq m (string_bytes s)) es)) ≡ true
          → lookup (bytes_eq n) (map named (cond b ((e.0, w) ∷ es) (e ∷ set_value (λ s. bytes_eq m (string_bytes s)) es w)))
          ≡ cond (bytes_eq n m) (Some w) (cond (bytes_eq n (string_bytes e.0)) (Some e.1) (lookup (bytes_eq n) (map named es)))
      by rest true q t = same ((bytes_eq-Decides m (string_bytes e.0)).0 q) (bytes_eq n m) refl
      by rest false q t =
          ap (λ (o : Option V). cond (bytes_eq n (string_bytes e.0)) (Some e.1) o) (rest t)
          ∙ other q (bytes_eq n (string_bytes e.0)) refl (bytes_eq n m) refl

-- ---- one more function

module _ (old new : List (List ℕ × List (List ℕ × FunctionId))) (iface name : List ℕ) (w : List (List ℕ × FunctionId)) (f : FunctionId) where
  -- behind those of an interface that is there ..
  pub put-there : (v : List (List ℕ × FunctionId)) → lookup (bytes_eq iface) old ≡ Some v
      → ((i : List ℕ) → lookup (bytes_eq i) new ≡ cond (bytes_eq i iface) (Some w) (lookup (bytes_eq i) old))
      → ((n : List ℕ) → lookup (bytes_eq n) w ≡ option_or (lookup (bytes_eq n) v) (cond (bytes_eq n name) (Some f) None))
      → (i n : List ℕ) → function_in new i n ≡ option_or (function_in old i n) (cond (bytes_eq i iface && bytes_eq n name) (Some f) None)
  put-there v there puts more i n = ap (λ (o : Option (List (List ℕ × FunctionId))). function_among o n) (puts i) ∙ by (bytes_eq i iface) refl
    where
      by : (b : Bool) → bytes_eq i iface ≡ b → function_among (cond b (Some w) (lookup (bytes_eq i) old)) n ≡ option_or (function_in old i n) (cond (b && bytes_eq n name) (Some f) None)
      by true e =
          let at : lookup (bytes_eq i) old ≡ Some v = ap (λ (s : List ℕ). lookup (bytes_eq s) old) ((bytes_eq-Decides i iface).0 e) ∙ there in
          more n ∙ ap (λ (o : Option (List (List ℕ × FunctionId))). option_or (function_among o n) (cond (bytes_eq n name) (Some f) None)) (sym at)
      by false e = sym (or-none (function_in old i n))

  -- .. and of a new one
  pub put-new : lookup (bytes_eq iface) old ≡ None
      → ((i : List ℕ) → lookup (bytes_eq i) new ≡ option_or (lookup (bytes_eq i) old) (cond (bytes_eq i iface) (Some w) None))
      → ((n : List ℕ) → lookup (bytes_eq n) w ≡ cond (bytes_eq n name) (Some f) None)
      → (i n : List ℕ) → function_in new i n ≡ option_or (function_in old i n) (cond (bytes_eq i iface && bytes_eq n name) (Some f) None)
  put-new none puts only i n = ap (λ (o : Option (List (List ℕ × FunctionId))). function_among o n) (puts i) ∙ by (bytes_eq i iface) refl
    where
      by : (b : Bool) → bytes_eq i iface ≡ b → function_among (option_or (lookup (bytes_eq i) old) (cond b (Some w) None)) n ≡ option_or (function_in old i n) (cond (b && bytes_eq n name) (Some f) None)
      by true e =
          let at : lookup (bytes_eq i) old ≡ None = ap (λ (s : List ℕ). lookup (bytes_eq s) old) ((bytes_eq-Decides i iface).0 e) ∙ none in
          ap (λ (o : Option (List (List ℕ × FunctionId))). function_among (option_or o (Some w)) n) at
          ∙ only n
          ∙ ap (λ (o : Option (List (List ℕ × FunctionId))). option_or (function_among o n) (cond (bytes_eq n name) (Some f) None)) (sym at)
      by false e = ap (λ (o : Option (List (List ℕ × FunctionId))). function_among o n) (or-none (lookup (bytes_eq i) old)) ∙ sym (or-none (function_in old i n))
