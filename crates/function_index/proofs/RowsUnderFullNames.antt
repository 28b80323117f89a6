-- Rows of a table under the full names of their interfaces, and an index over those that are functions.
use Rattle.std.proofs.Common.{◌≡◌, ◌<◌, ◌≤◌, ℕ, ◌+◌, Bool, true, false, cond, ◌&&◌, List, [], ◌∷◌, ◌++◌, Option, None, Some, IfSome, IfNone, MatchOption, length, take, get_or, Contains, refl, ap, sym, subst, ◌∙◌, append_assoc, append-nil, arith, inl, inr}
use Rattle.std.specs.Option.{option_map, option_or}
use Rattle.std.specs.Str.{bytes_eq}
use Rattle.std.proofs.lemmas.List.{take_all, take_more}
use Rattle.std.proofs.lemmas.List.Elements.{Contains-append_left, Contains-append_right, Contains-append_cases, Contains-push, Contains-push_cases}
use Rattle.std.proofs.lemmas.Slice.Eq.{bytes_eq-Decides}
use Rattle.tables.specs.Closed.{IsFunction, function_at}
use Rattle.tables.specs.Names.{IsNamed, function_name, full_name}
use Rattle.tables.specs.Tables.{is_there}
use Rattle.tables.specs.declared.tables.Function.{Function}
use Rattle.tables.specs.declared.tables.FunctionId.{FunctionId}
use Rattle.tables.specs.declared.tables.Interface.{Interface}
use Rattle.tables.specs.declared.tables.Resolve.{Resolve}
use Rattle.function_index.specs.Index.{Candidate, IsIndexOf, IsIndexOver, candidates, first_named, function_in, is_name, under}
use Rattle.function_index.proofs.FunctionsPutUnderNames.{or-none}

-- ---- rows of one interface

only-one : {A : Type 0} (x y : A) → Contains (x ∷ []) y → x ≡ y
only-one x y h = elim (Contains-push_cases [] x y h) [
  | inl none ↦ absurd (omega (arith, none.1))
  | inr same ↦ same
]

under-has : (iface : List ℕ) (fs : List FunctionId) (i : List ℕ) (f : FunctionId) → Contains (under iface fs) (record { interface = i; row = f }) → (i ≡ iface) × Contains fs f
under-has iface [] i f h = absurd (omega (arith, h.1))
under-has iface (g ∷ fs) i f h = elim (Contains-append_cases ((record { interface = iface; row = g }) ∷ []) (under iface fs) (record { interface = i; row = f }) h) [
  | inl one ↦
      let same = only-one (record { interface = iface; row = g }) (record { interface = i; row = f }) one in
      (sym (ap (λ (c : Candidate). c.interface) same), subst (Contains (g ∷ fs)) (ap (λ (c : Candidate). c.row) same) (Contains-append_left (g ∷ []) fs g (Contains-push [] g)))
  | inr rest ↦ let (s, more) = under-has iface fs i f rest in (s, Contains-append_right (g ∷ []) fs f more)
]

has-under : (iface : List ℕ) (fs : List FunctionId) (f : FunctionId) → Contains fs f → Contains (under iface fs) (record { interface = iface; row = f })
has-under iface [] f h = absurd (omega (arith, h.1))
has-under iface (g ∷ fs) f h = elim (Contains-append_cases (g ∷ []) fs f h) [
  | inl one ↦ subst (λ (r : FunctionId). Contains (under iface (g ∷ fs)) (record { interface = iface; row = r })) (only-one g f one)
      (Contains-append_left ((record { interface = iface; row = g }) ∷ []) (under iface fs) (record { interface = iface; row = g }) (Contains-push [] (record { interface = iface; row = g })))
  | inr rest ↦ Contains-append_right ((record { interface = iface; row = g }) ∷ []) (under iface fs) (record { interface = iface; row = f }) (has-under iface fs f rest)
]

under-end : (iface : List ℕ) (fs : List FunctionId) (f : FunctionId) → under iface (fs ++ f ∷ []) ≡ under iface fs ++ (record { interface = iface; row = f }) ∷ []
under-end iface [] f = refl
under-end iface (g ∷ fs) f = ap (λ (cs : List Candidate). (record { interface = iface; row = g }) ∷ cs) (under-end iface fs f)

pub under-more : (cs : List Candidate) (iface : List ℕ) (fs : List FunctionId) (k : ℕ) (f : FunctionId) → k < length fs → f ≡ get_or fs k f
    → cs ++ under iface (take (k + 1) fs) ≡ (cs ++ under iface (take k fs)) ++ (record { interface = iface; row = f }) ∷ []
under-more cs iface fs k f l e =
    ap (λ (gs : List FunctionId). cs ++ under iface gs) (take_more fs k f l ∙ ap (λ (g : FunctionId). take k fs ++ g ∷ []) (sym e))
    ∙ ap (λ (ds : List Candidate). cs ++ ds) (under-end iface (take k fs) f)
    ∙ sym (append_assoc cs (under iface (take k fs)) ((record { interface = iface; row = f }) ∷ []))

pub all-under : (iface : List ℕ) (fs : List FunctionId) (k : ℕ) → length fs ≤ k → under iface (take k fs) ≡ under iface fs
all-under iface fs k l = ap (under iface) (take_all k fs l)

-- ---- one more row

pub first-end : (r : Resolve) (cs : List Candidate) (c : Candidate) (i n : List ℕ)
    → first_named r (cs ++ c ∷ []) i n ≡ option_or (first_named r cs i n) (cond (bytes_eq i c.interface && is_name n (function_name r c.row)) (Some c.row) None)
first-end r [] c i n = refl
first-end r (d ∷ cs) c i n = by (bytes_eq i d.interface && is_name n (function_name r d.row)) (first-end r cs c i n)
  where
    by : (b : Bool) → first_named r (cs ++ c ∷ []) i n ≡ option_or (first_named r cs i n) (cond (bytes_eq i c.interface && is_name n (function_name r c.row)) (Some c.row) None)
        → cond b (Some d.row) (first_named r (cs ++ c ∷ []) i n) ≡ option_or (cond b (Some d.row) (first_named r cs i n)) (cond (bytes_eq i c.interface && is_name n (function_name r c.row)) (Some c.row) None)
    by true h = refl
    by false h = h

module _ (r : Resolve) (cs : List Candidate) (x : List (List ℕ × List (List ℕ × FunctionId))) (iface : List ℕ) (f : FunctionId) (over : IsIndexOver r cs x) where
  -- a function of this name
  pub one-more : (name : List ℕ) (new : List (List ℕ × List (List ℕ × FunctionId))) → function_name r f ≡ Some name
      → ((i n : List ℕ) → function_in new i n ≡ option_or (function_in x i n) (cond (bytes_eq i iface && bytes_eq n name) (Some f) None)) → IsIndexOver r (cs ++ (record { interface = iface; row = f }) ∷ []) new
  one-more name new is put i n =
      put i n
      ∙ ap (λ (o : Option FunctionId). option_or o (cond (bytes_eq i iface && bytes_eq n name) (Some f) None)) (over i n)
      ∙ ap (λ (o : Option (List ℕ)). option_or (first_named r cs i n) (cond (bytes_eq i iface && is_name n o) (Some f) None)) (sym is)
      ∙ sym (first-end r cs (record { interface = iface; row = f }) i n)

  -- no function
  pub none-more : function_name r f ≡ None → IsIndexOver r (cs ++ (record { interface = iface; row = f }) ∷ []) x
  none-more without i n =
      over i n
      ∙ sym (or-none (first_named r cs i n))
      ∙ ap (λ (b : Bool). option_or (first_named r cs i n) (cond b (Some f) None)) (sym (and-false (bytes_eq i iface)))
      ∙ ap (λ (o : Option (List ℕ)). option_or (first_named r cs i n) (cond (bytes_eq i iface && is_name n o) (Some f) None)) (sym without)
      ∙ sym (first-end r cs (record { interface = iface; row = f }) i n)
    where
      and-false : (b : Bool) → (b && false) ≡ false
      and-false true = refl
      and-false false = refl

-- ---- rows of all interfaces

candidates-end : (r : Resolve) (is : List Interface) (i : Interface) → candidates r (is ++ i ∷ []) ≡ candidates r is ++ under (full_name r i) i.functions
candidates-end r [] i = append-nil (under (full_name r i) i.functions)
candidates-end r (j ∷ is) i =
    ap (λ (cs : List Candidate). under (full_name r j) j.functions ++ cs) (candidates-end r is i)
    ∙ sym (append_assoc (under (full_name r j) j.functions) (candidates r is) (under (full_name r i) i.functions))

pub candidates-more : (r : Resolve) (is : List Interface) (k : ℕ) (i : Interface) → k < length is → i ≡ get_or is k i
    → candidates r (take (k + 1) is) ≡ candidates r (take k is) ++ under (full_name r i) i.functions
candidates-more r is k i l e =
    ap (candidates r) (take_more is k i l ∙ ap (λ (j : Interface). take k is ++ j ∷ []) (sym e)) ∙ candidates-end r (take k is) i

pub none-yet : (r : Resolve) → IsIndexOver r [] []
none-yet r i n = refl

-- ---- the index of a table

from-candidates : (r : Resolve) (is : List Interface) (iface : List ℕ) (f : FunctionId) → Contains (candidates r is) (record { interface = iface; row = f })
    → (i : Interface) × Contains is i × (iface ≡ full_name r i) × Contains i.functions f
from-candidates r [] iface f h = absurd (omega (arith, h.1))
from-candidates r (i ∷ is) iface f h = elim (Contains-append_cases (under (full_name r i) i.functions) (candidates r is) (record { interface = iface; row = f }) h) [
  | inl here ↦ let (s, there) = under-has (full_name r i) i.functions iface f here in (i, Contains-append_left (i ∷ []) is i (Contains-push [] i), s, there)
  | inr rest ↦ let (j, there, s, has) = from-candidates r is iface f rest in (j, Contains-append_right (i ∷ []) is j there, s, has)
]

to-candidates : (r : Resolve) (is : List Interface) (i : Interface) (f : FunctionId) → Contains is i → Contains i.functions f → Contains (candidates r is) (record { interface = full_name r i; row = f })
to-candidates r [] i f h has = absurd (omega (arith, h.1))
to-candidates r (j ∷ is) i f h has = elim (Contains-append_cases (j ∷ []) is i h) [
  | inl one ↦
      let same : j ≡ i = only-one j i one in
      Contains-append_left (under (full_name r j) j.functions) (candidates r is) (record { interface = full_name r i; row = f })
      (subst (λ (k : Interface). Contains (under (full_name r k) k.functions) (record { interface = full_name r i; row = f })) (sym same) (has-under (full_name r i) i.functions f has))
  | inr rest ↦ Contains-append_right (under (full_name r j) j.functions) (candidates r is) (record { interface = full_name r i; row = f }) (to-candidates r is i f rest has)
]

is-function : (r : Resolve) (f : FunctionId) (name : List ℕ) → function_name r f ≡ Some name → IsFunction r f
is-function r f name e = by (function_at r f) refl e
  where
    by : (o : Option Function) → function_at r f ≡ o → option_map (λ (g : Function). g.name) o ≡ Some name → IsFunction r f
    by None p q = absurd (cc)
    by (Some g) p q = ap is_there p

-- a row that is no function has no name
pub nameless : (r : Resolve) (f : FunctionId) → ¬ IsFunction r f → function_name r f ≡ None
nameless r f none = by (function_at r f) refl
  where
    by : (o : Option Function) → function_at r f ≡ o → option_map (λ (g : Function). g.name) o ≡ None
    by None p = refl
    by (Some g) p = absurd (none (ap is_there p))

module _ (r : Resolve) (iface name : List ℕ) where
  -- a row that has these names
  HasNames : Candidate → Type 0
  HasNames c = (iface ≡ c.interface) × (function_name r c.row ≡ Some name)

  has-names : (c : Candidate) → (bytes_eq iface c.interface && is_name name (function_name r c.row)) ≡ true → HasNames c
  unfolding HasNames
  has-names c = by (bytes_eq iface c.interface) refl (function_name r c.row)
    where
      by : (b : Bool) → bytes_eq iface c.interface ≡ b → (o : Option (List ℕ)) → (b && is_name name o) ≡ true → (iface ≡ c.interface) × (o ≡ Some name)
      by true p None e = absurd (cc)
      by true p (Some m) e = ((bytes_eq-Decides iface c.interface).0 p, ap (λ (s : List ℕ). Some s) (sym ((bytes_eq-Decides name m).0 e)))
      by false p o e = absurd (cc)

  names-had : (c : Candidate) → HasNames c → (bytes_eq iface c.interface && is_name name (function_name r c.row)) ≡ true
  unfolding HasNames
  names-had c h =
      ap (λ (o : Option (List ℕ)). bytes_eq iface c.interface && is_name name o) h.1
      ∙ ap (λ (b : Bool). b && bytes_eq name name) ((bytes_eq-Decides iface c.interface).1 h.0)
      ∙ (bytes_eq-Decides name name).1 refl

  Finds : List Candidate → Option FunctionId → Type 0
  Finds cs o = MatchOption o ((c : Candidate) → Contains cs c → ¬ HasNames c) (λ f. (c : Candidate) × Contains cs c × HasNames c × (c.row ≡ f))

  finds : (cs : List Candidate) → Finds cs (first_named r cs iface name)
  unfolding Finds
  finds [] = λ c h. absurd (omega (arith, h.1))
  finds (c ∷ cs) = by (bytes_eq iface c.interface && is_name name (function_name r c.row)) refl (first_named r cs iface name) (finds cs)
    where
      by : (b : Bool) → (bytes_eq iface c.interface && is_name name (function_name r c.row)) ≡ b → (o : Option FunctionId) → Finds cs o → Finds (c ∷ cs) (cond b (Some c.row) o)
      by true p o h = (c, Contains-append_left (c ∷ []) cs c (Contains-push [] c), has-names c p, refl)
      by false p (Some f) h = let (d, there, names, is) = h in (d, Contains-append_right (c ∷ []) cs d there, names, is)
      by false p None h = λ d w names. elim (Contains-append_cases (c ∷ []) cs d w) [
        | inl one ↦
            let yes = subst (λ (e : Candidate). (bytes_eq iface e.interface && is_name name (function_name r e.row)) ≡ true) (sym (only-one c d one)) (names-had d names) in
            absurd (cc)
        | inr rest ↦ h d rest names
      ]

  -- what stands in an index of a table is one of its functions of these names, where there is one
  module _ (x : List (List ℕ × List (List ℕ × FunctionId))) (index : IsIndexOf r x) where
    there : Finds (candidates r r.interfaces) (function_in x iface name)
    there = subst (Finds (candidates r r.interfaces)) (sym (index iface name)) (finds (candidates r r.interfaces))

    pub found : IfSome (function_in x iface name) (IsNamed r iface name)
    unfolding Finds HasNames
    found = by (function_in x iface name) there
      where
        by : (o : Option FunctionId) → Finds (candidates r r.interfaces) o → IfSome o (IsNamed r iface name)
        by None h = tt
        by (Some f) (c, within, names, is) =
            let (i, has, s, row) = from-candidates r r.interfaces c.interface c.row within in
            (i, has, names.0 ∙ s, (subst (Contains i.functions) is row, ap (function_name r) (sym is) ∙ names.1))

    pub function : IfSome (function_in x iface name) (IsFunction r)
    unfolding Finds HasNames
    function = by (function_in x iface name) there
      where
        by : (o : Option FunctionId) → Finds (candidates r r.interfaces) o → IfSome o (IsFunction r)
        by None h = tt
        by (Some f) (c, within, names, is) = is-function r f name (ap (function_name r) (sym is) ∙ names.1)

    pub none : IfNone (function_in x iface name) ((f : FunctionId) → ¬ IsNamed r iface name f)
    unfolding Finds HasNames
    none = by (function_in x iface name) there
      where
        by : (o : Option FunctionId) → Finds (candidates r r.interfaces) o → IfNone o ((f : FunctionId) → ¬ IsNamed r iface name f)
        by (Some f) h = tt
        by None h = λ f w. h (record { interface = full_name r w.0; row = f }) (to-candidates r r.interfaces w.0 f w.1 w.3.0) (w.2, w.3.1)
