-- Behind the rows of an interface in package form no row without a name is unused.
use Rattle.std.proofs.Common.{◌≡◌, ◌≤◌, ℕ, suc, ◌+◌, ◌-◌, Bool, true, false, cond, ◌==◌, List, [], ◌∷◌, ◌++◌, map, take, length, refl, ap, sym, subst, ◌∙◌, arith, append_assoc}
use Rattle.std.proofs.lemmas.Bool.Decides.{nat_tests}
use Rattle.package_form.specs.Postfix.{is_unnamed, one_if, is_inner}
use Rattle.package_form.specs.Ids.{places_where}
use Rattle.tables.specs.declared.tables.TypeId.{TypeId}
use Rattle.tables.specs.declared.tables.FunctionId.{FunctionId}
use Rattle.tables.specs.declared.tables.Definition.{Definition}
use Rattle.tables.specs.declared.tables.Definition.TheVariants as row
use Rattle.tables.specs.declared.tables.Interface.{Interface}
use Rattle.package_form.specs.Ends.{behind_types, behind_functions, end_of}
use Rattle.package_form.specs.Form.{is_named, ids_of}
use Rattle.package_form.specs.Unused.{inner_rows, closes, unused_after, are_used}
use Rattle.wit_component.proofs.InterfaceRows.FactsOfRows.{HasFacts, facts-more}
use Rattle.wit_component.proofs.InterfaceRows.UsesFirst.{yes-named, head-closes}

-- the place behind the last of these places, or base
abbrev pub behind : ℕ → List ℕ → ℕ
behind base [] = base
behind base (n ∷ ns) = behind (n + 1) ns

behind-append : (base : ℕ) (ms ns : List ℕ) → behind base (ms ++ ns) ≡ behind (behind base ms) ns
behind-append base [] ns = refl
behind-append base (m ∷ ms) ns = behind-append (m + 1) ms ns

types-behind : (base : ℕ) (ts : List TypeId) → behind_types base ts ≡ behind base (map (λ t. t.0) ts)
types-behind base [] = refl
types-behind base (t ∷ ts) = types-behind (t.0 + 1) ts

functions-behind : (base : ℕ) (fs : List FunctionId) → behind_functions base fs ≡ behind base (map (λ f. f.0) fs)
functions-behind base [] = refl
functions-behind base (f ∷ fs) = functions-behind (f.0 + 1) fs

pub end-behind : (start : ℕ) (i : Interface) → end_of start i ≡ behind start (ids_of i)
end-behind start i =
    functions-behind (behind_types (behind_types start i.uses) i.types) i.functions
    ∙ ap (λ b. behind b (map (λ f. f.0) i.functions))
    (types-behind (behind_types start i.uses) i.types ∙ ap (λ b. behind b (map (λ t. t.0) i.types)) (types-behind start i.uses)
    ∙ sym (behind-append start (map (λ t. t.0) i.uses) (map (λ t. t.0) i.types)))
    ∙ sym (behind-append start (map (λ t. t.0) i.uses ++ map (λ t. t.0) i.types) (map (λ f. f.0) i.functions))
    ∙ ap (behind start) (append_assoc (map (λ t. t.0) i.uses) (map (λ t. t.0) i.types) (map (λ f. f.0) i.functions))

-- a row with a name leaves none
closes-none : (d : Definition) (left : ℕ) → is_unnamed d ≡ false → closes d left ≡ true → left ≡ 0
closes-none (row.Function f) left un h = grind (arith, nat_tests)
closes-none (row.Type d) left un h = by (sym (ap (λ b. cond b (is_inner d.kind) (left == 0)) un) ∙ h)
  where
    by : (left == 0) ≡ true → left ≡ 0
    by h = grind (arith, nat_tests)

module _ (table : List Definition) (start k : ℕ) where
  none-left : (n : ℕ) (unused : List ℕ) (d : Definition) (ds rest : List Definition) → HasFacts table start k n unused (d ∷ ds) rest → is_named d ≡ true
      → unused_after n unused (inner_rows table d) d ≡ []
  none-left n unused d ds rest f named =
      let un = yes-named d named in
      let left : length unused - length (inner_rows table d) ≡ 0 = closes-none d _ un (head-closes table start k n unused d ds rest f) in
      ap (λ m. take m unused ++ one_if (is_unnamed d) n) left ∙ ap (λ b. one_if b n) un

  -- base is the place behind the last row with a name
  pub used-rest : (n base : ℕ) (unused : List ℕ) (ds rest : List Definition) → HasFacts table start k n unused ds rest → base ≤ n → (base ≡ n → unused ≡ [])
      → behind base (places_where is_named n ds) ≡ n + length ds → are_used table (n + length ds) [] rest ≡ true
  used-rest n base unused [] rest f low none e =
      let same : base ≡ n = omega (arith, e) in
      let len : n ≡ n + 0 = omega arith in
      subst (λ m. are_used table m [] rest ≡ true) len (subst (λ ns. are_used table n ns rest ≡ true) (none same) f.used)
  used-rest n base unused (d ∷ ds) rest f low none e =
      let len : n + 1 + length ds ≡ n + suc (length ds) = omega arith in
      subst (λ m. are_used table m [] rest ≡ true) len
      (by (is_named d) refl (e ∙ sym len) (λ base low none e. used-rest (n + 1) base (unused_after n unused (inner_rows table d) d) ds rest (facts-more table start k n unused d ds rest f) low none e))
    where
      by : (b : Bool) → is_named d ≡ b → behind base (cond b (n ∷ places_where is_named (n + 1) ds) (places_where is_named (n + 1) ds)) ≡ n + 1 + length ds
          → ((base : ℕ) → base ≤ n + 1 → (base ≡ n + 1 → unused_after n unused (inner_rows table d) d ≡ []) → behind base (places_where is_named (n + 1) ds) ≡ n + 1 + length ds
          → are_used table (n + 1 + length ds) [] rest ≡ true)
          → are_used table (n + 1 + length ds) [] rest ≡ true
      by true named e again = again (n + 1) (omega arith) (λ h. none-left n unused d ds rest f named) e
      by false un e again = again base (omega (arith, low)) (λ h. absurd (omega (arith, low, h))) e
