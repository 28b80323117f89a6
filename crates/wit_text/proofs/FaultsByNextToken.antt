-- What is answered where a token isn't allowed depends on that token alone, and stands there.
use Rattle.std.proofs.Common.{◌≡◌, ℕ, Bool, false, List, [], ◌∷◌, ◌++◌, Option, Some, None, Err, refl, sym, ap, subst, ◌∙◌}
use Rattle.std.proofs.lemmas.List.{append-nil}
use Rattle.atoms.specs.Production.{next, passes, one_of, never, one, read_end}
use Rattle.atoms.specs.Exactness.{Exact}
use Rattle.atoms.proofs.productions.ProductionsReadExactly.{Owed, no_ok, stopped, exact-one, exact-never}
use Rattle.wit_tokens.specs.declared.error.Expected.{Expected}
use Rattle.wit_tokens.specs.declared.error.Feature.{Feature}
use Rattle.wit_tokens.specs.declared.error.TextError.{TextError}
use Rattle.wit_tokens.specs.Tokens.{Lexeme}
use Rattle.wit_grammar.specs.Faults.{met, wanted, feature_or, unless_feature, StandsAt}
use Rattle.wit_grammar.specs.Lookahead.{lookahead, Looks, Phrase, NoneBegins}

pub record ByNext (end : ℕ) (fault : List Lexeme → TextError) : Type 0 where
  pub same : (ts other : List Lexeme) → next other ≡ next ts → fault other ≡ fault ts
  pub place : (ts : List Lexeme) → StandsAt end ts (fault ts)

module _ (end : ℕ) (fault : List Lexeme → TextError) (by : ByNext end fault) where
  here : {X : Type 0} → (ts : List Lexeme) → Looks end (λ other g. stopped (X × List Lexeme) (fault other) ≡ Err g) ts (fault ts)
  here {X} ts = record { front = []; met = ts; whole = refl; place = by.place ts; same = λ other n. ap (stopped (X × List Lexeme)) (by.same ts other n) }

  not_one : (test : Lexeme → Bool) (ts : List Lexeme) → passes test (next ts) ≡ false → one_of test fault ts ≡ Err (fault ts)
  not_one test [] no' = refl
  not_one test (t ∷ ts) no' = rw no' refl

  pub owed : (test : Lexeme → Bool) → Owed (lookahead end) test fault
  owed test ts no' = record { front = []; met = ts; whole = refl; place = by.place ts; same = λ other n. not_one test other (ap (passes test) n ∙ no') ∙ ap (stopped _) (by.same ts other n) }

  pub exact-token : {stops : Lexeme → Option Lexeme → Type 0} (test : Lexeme → Bool) → Exact (lookahead end) stops (one test fault)
  exact-token test = exact-one (lookahead end) test fault (owed test)

  pub exact-fault : {X : Type 0} {stops : X → Option Lexeme → Type 0} → Exact (lookahead end) stops (never fault)
  exact-fault {X} = exact-never (lookahead end) {X = X} fault (here {X = X})

  not_end : (ts : List Lexeme) (t : Lexeme) (us : List Lexeme) → next ts ≡ next (t ∷ us) → read_end fault ts ≡ Err (fault ts)
  not_end [] t us n = absurd cc
  not_end (u ∷ ts) t us n = refl

  pub owed-end : (ts : List Lexeme) → (ts ≡ [] → ⊥) → Looks end (λ other g. read_end fault other ≡ Err g) ts (fault ts)
  owed-end [] some = absurd (some refl)
  owed-end (t ∷ ts) some = record { front = []; met = t ∷ ts; whole = refl; place = by.place (t ∷ ts); same = λ other n. not_end other t ts n ∙ ap (stopped _) (by.same (t ∷ ts) other n) }

module _ (end : ℕ) (fault : List Lexeme → TextError) (alike : (t : Lexeme) (ts us : List Lexeme) → fault (t ∷ us) ≡ fault (t ∷ ts)) where
  by_first : (ts other : List Lexeme) → next other ≡ next ts → fault other ≡ fault ts
  by_first [] [] n = refl
  by_first [] (u ∷ us) n = absurd cc
  by_first (t ∷ ts) [] n = absurd cc
  by_first (t ∷ ts) (u ∷ us) n = let same : u ≡ t = cc in rw same (alike t ts us)

  pub next-first : ((ts : List Lexeme) → StandsAt end ts (fault ts)) → ByNext end fault
  next-first placed = record { same = by_first; place = placed }

pub next-wanted : (end : ℕ) (e : Expected) → ByNext end (wanted end e)
next-wanted end e = next-first end (wanted end e) (λ t ts us. refl) (λ ts. refl)

pub feature_place : (end : ℕ) (o : Option Feature) (e : Expected) (ts : List Lexeme) → StandsAt end ts (feature_or o e (met end ts))
feature_place end None e ts = refl
feature_place end (Some f) e ts = refl

pub next-feature : (end : ℕ) (f : Lexeme → Option Feature) (e : Expected) → ByNext end (unless_feature end f e)
next-feature end f e = next-first end (unless_feature end f e) (λ t ts us. refl) (λ ts. feature_place end _ e ts)

-- a fault that is met says that nothing spelled begins so
pub none-begins : {X : Type 0} {stops : X → Option Lexeme → Type 0} (end : ℕ) (p : Phrase X) → Exact (lookahead end) stops p → ((x : X) → stops x None) → (ts : List Lexeme) (e : TextError) → p.read ts ≡ Err e → NoneBegins end p.spells ts e
none-begins end p ep ends ts e h =
    let l = ep.stays ts e tt h in
    record { front = l.front; met = l.met; whole = l.whole; place = l.place; none = λ other n x s. let r = ep.complete (l.front ++ other) [] x s (ends x) in no_ok (x, []) e (sym (subst (λ (t : List Lexeme). p.read t ≡ Err e) (sym (append-nil (l.front ++ other))) (l.same other n)) ∙ r) }
