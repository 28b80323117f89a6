-- What settling and placing of nodes keep.
use Rattle.std.proofs.Common.{◌≡◌, ◌≢◌, ℕ, zero, suc, ◌≤◌, ◌<◌, ◌⊎◌, inl, inr, Bool, true, false, not, ◌&&◌, List, [], ◌∷◌, ◌++◌, length, get_or, set, refl, sym, ◌∙◌, arith, Contains, All, replicate, ◌+◌}
use Rattle.std.specs.List.{list_all}
use Rattle.std.specs.Ordering.{nat_cmp, match_ordering}
use Rattle.std.specs.declared.cmp.Ordering.{Ordering}
use Rattle.std.specs.declared.cmp.Ordering.TheVariants as ordering
use Rattle.std.specs.BTreeSet.{insert_key}
use Rattle.std.specs.BTreeMap.Range.{IsLtBy}
use Rattle.std.proofs.lemmas.Map.Lookups.{exact_unsigned}
use Rattle.std.proofs.lemmas.Map.Views.{All-insert_key}
use Rattle.std.proofs.lemmas.List.{length-append, length-set, get_or-set_same, get_or-set_other, get_or_append_left, get_or_at, get_or_past, get_or_default, length-replicate}
use Rattle.std.proofs.lemmas.List.Elements.{All-contains, All-contains_itself, Contains-get_or, Contains-push, Contains-push_cases, Contains-append_left}
use Rattle.std.proofs.lemmas.Bool.{false≢true, cases_eq, cases_lt}
use Rattle.std.proofs.lemmas.Bool.Decides.{nat_tests}
use Rattle.placement.specs.Order.{is_ready, IsNext}
use Rattle.placement.specs.Waiting.{Waits, is_settled, uses_of, waiting_for, IsFree, IsWaiting, IsSettled}

-- ---- elements

less_from : (x y : ℕ) → IsLtBy nat_cmp x y → x < y
less_from x y h = elim (cases_lt x y) [
  | inl l ↦ l
  | inr g ↦ absurd (grind (arith, nat_tests, h, g))
]

Contains-head : {X : Type 0} (x : X) (xs : List X) → Contains (x ∷ xs) x
Contains-head x xs = (0, omega arith, refl)

Contains-tail : {X : Type 0} (x y : X) (xs : List X) → Contains xs y → Contains (x ∷ xs) y
Contains-tail x y xs c = (suc c.0, omega (arith, c.1), c.2)

Contains-cases : {X : Type 0} (x y : X) (xs : List X) → Contains (x ∷ xs) y → (x ≡ y) ⊎ Contains xs y
Contains-cases x y xs (zero, l, e) = inl e
Contains-cases x y xs (suc k, l, e) = inr (k, omega (arith, l), e)

inserted_here : (ks : List ℕ) (k : ℕ) → Contains (insert_key nat_cmp ks k) k
inserted_here [] k = Contains-head k []
inserted_here (x ∷ xs) k = go (nat_cmp k x) refl (inserted_here xs k)
  where
    go : (o : Ordering) → nat_cmp k x ≡ o → Contains (insert_key nat_cmp xs k) k
        → Contains (match_ordering o (k ∷ x ∷ xs) (x ∷ xs) (x ∷ insert_key nat_cmp xs k)) k
    go ordering.Less e later = Contains-head k (x ∷ xs)
    go ordering.Equal e later = rw (exact_unsigned k x e) (Contains-head x xs)
    go ordering.Greater e later = Contains-tail x k (insert_key nat_cmp xs k) later

inserted_others : (ks : List ℕ) (k q : ℕ) → Contains ks q → Contains (insert_key nat_cmp ks k) q
inserted_others [] k q c = Contains-tail k q [] c
inserted_others (x ∷ xs) k q c = go (nat_cmp k x) (inserted_others xs k q)
  where
    go : (o : Ordering) → (Contains xs q → Contains (insert_key nat_cmp xs k) q)
        → Contains (match_ordering o (k ∷ x ∷ xs) (x ∷ xs) (x ∷ insert_key nat_cmp xs k)) q
    go ordering.Less later = Contains-tail k q (x ∷ xs) c
    go ordering.Equal later = c
    go ordering.Greater later = elim (Contains-cases x q xs c) [
      | inl e ↦ rw (sym e) (Contains-head x (insert_key nat_cmp xs k))
      | inr r ↦ Contains-tail x q (insert_key nat_cmp xs k) (later r)
    ]

inserted_cases : (ks : List ℕ) (k q : ℕ) → Contains (insert_key nat_cmp ks k) q → (q ≡ k) ⊎ Contains ks q
inserted_cases ks k q c =
    All-contains (λ x. (x ≡ k) ⊎ Contains ks x) (insert_key nat_cmp ks k) q
    (All-insert_key nat_cmp k (λ x. (x ≡ k) ⊎ Contains ks x) ks (λ i d l. inr (All-contains_itself ks i d l)) (inl refl)) c

-- ---- what is ready

all_from : (p : ℕ → Bool) (xs : List ℕ) → ((k : ℕ) → k < length xs → p (get_or xs k 0) ≡ true) → list_all p xs ≡ true
all_from p [] h = refl
all_from p (x ∷ xs) h = rw (h 0 (omega arith)) (all_from p xs (λ k l. h (suc k) (omega (arith, l))))

all_at : (p : ℕ → Bool) (xs : List ℕ) (x : ℕ) → list_all p xs ≡ true → Contains xs x → p x ≡ true
all_at p [] x h c = absurd (omega (arith, c.1))
all_at p (y ∷ ys) x h c = go (p y) refl h (all_at p ys x)
  where
    go : (b : Bool) → p y ≡ b → (b && list_all p ys) ≡ true → (list_all p ys ≡ true → Contains ys x → p x ≡ true) → p x ≡ true
    go true e g later = elim (Contains-cases y x ys c) [
      | inl s ↦ rw (sym s) e
      | inr r ↦ later g r
    ]
    go false e g later = absurd (cc)

ready_free : (uses : List (List ℕ)) (p : ℕ → Bool) (i : ℕ) → is_ready uses p i ≡ true → p i ≡ false
ready_free uses p i h = go (p i) h
  where
    go : (b : Bool) → (not b && list_all p (get_or uses i [])) ≡ true → b ≡ false
    go true e = absurd (cc)
    go false e = refl

ready_used : (uses : List (List ℕ)) (p : ℕ → Bool) (i u : ℕ) → is_ready uses p i ≡ true → Contains (get_or uses i []) u → p u ≡ true
ready_used uses p i u h c = all_at p (get_or uses i []) u (go (p i) h) c
  where
    go : (b : Bool) → (not b && list_all p (get_or uses i [])) ≡ true → list_all p (get_or uses i []) ≡ true
    go true e = absurd (cc)
    go false e = e

ready_from : (uses : List (List ℕ)) (p : ℕ → Bool) (i : ℕ) → p i ≡ false → list_all p (get_or uses i []) ≡ true → is_ready uses p i ≡ true
ready_from uses p i free all = rw (free, all) refl

-- ---- settling

pub pending_in_range : (w : Waits) (node : ℕ) (rest : List ℕ) → IsSettled w (node ∷ rest) → node < length w.uses
pending_in_range w node rest s = (s.pending_free node (Contains-head node rest)).0

pub use_in_range : (w : Waits) (pending : List ℕ) (node k : ℕ) → IsSettled w pending → node < length w.uses → k < length (uses_of w node)
    → get_or (uses_of w node) k 0 < length w.uses
use_in_range w pending node k s n l = s.within node [] n k 0 l

-- a node whose uses are all placed is ready
pub settled_ready : (w : Waits) (node : ℕ) (rest : List ℕ) → IsSettled w (node ∷ rest)
    → ((j : ℕ) → get_or w.met node 0 ≤ j → j < length (uses_of w node) → is_settled w (get_or (uses_of w node) j 0) ≡ true)
    → IsSettled (record { uses = w.uses; placed = w.placed; met = w.met; waiting = w.waiting; ready = insert_key nat_cmp w.ready node }) rest
settled_ready w node rest s behind = record {
  placed_count = s.placed_count;
  met_count = s.met_count;
  waiting_count = s.waiting_count;
  within = s.within;
  met = s.met;
  pending_free = λ i c. s.pending_free i (Contains-tail node i rest c);
  waiting_free = s.waiting_free;
  ready = λ i c. elim (inserted_cases w.ready node i c) [
    | inl e ↦ rw e here
    | inr r ↦ s.ready i r
  ];
  complete = λ i l free. elim (s.complete i l free) [
    | inl r ↦ inl (inserted_others w.ready node i r)
    | inr (inl c) ↦ elim (Contains-cases node i rest c) [
      | inl e ↦ inl (rw (sym e) (inserted_here w.ready node))
      | inr r ↦ inr (inl r)
    ]
    | inr (inr waits) ↦ inr (inr waits)
  ];
}
  where
    each : (j : ℕ) → j < length (uses_of w node) → is_settled w (get_or (uses_of w node) j 0) ≡ true
    each j l = elim (cases_lt j (get_or w.met node 0)) [
      | inl below ↦ s.met node j below
      | inr from ↦ behind j (omega (arith, from)) l
    ]

    here : (node < length w.uses) × (is_ready w.uses (is_settled w) node ≡ true)
    here =
        let free = s.pending_free node (Contains-head node rest) in
        (free.0, ready_from w.uses (is_settled w) node free.1 (all_from (is_settled w) (uses_of w node) each))

-- a node that uses one that isn't placed waits for it
pub settled_waiting : (w : Waits) (node k : ℕ) (rest : List ℕ) → IsSettled w (node ∷ rest) → k < length (uses_of w node)
    → is_settled w (get_or (uses_of w node) k 0) ≡ false
    → ((j : ℕ) → get_or w.met node 0 ≤ j → j < k → is_settled w (get_or (uses_of w node) j 0) ≡ true)
    → IsSettled (record {
      uses = w.uses;
      placed = w.placed;
      met = set w.met node k;
      waiting = set w.waiting (get_or (uses_of w node) k 0) (waiting_for w (get_or (uses_of w node) k 0) ++ node ∷ []);
      ready = w.ready;
    }) rest
settled_waiting w node k rest s l missing behind = record {
  placed_count = s.placed_count;
  met_count = length-set w.met node k ∙ s.met_count;
  waiting_count = length-set w.waiting u longer ∙ s.waiting_count;
  within = s.within;
  met = λ i j h. elim (cases_eq i node) [
    | inl e ↦ rw e (met_here j (rw (e, get_or-set_same w.met node k 0 met_at) at h))
    | inr ne ↦ s.met i j (rw (get_or-set_other w.met node i k 0 ne) at h)
  ];
  pending_free = λ i c. s.pending_free i (Contains-tail node i rest c);
  waiting_free = λ v i free c. elim (cases_eq v u) [
    | inl e ↦ rw e (waits_here i (rw (e, get_or-set_same w.waiting u longer [] waiting_at) at c))
    | inr ne ↦ s.waiting_free v i free (rw (get_or-set_other w.waiting u v longer [] ne) at c)
  ];
  ready = s.ready;
  complete = λ i h free. elim (s.complete i h free) [
    | inl r ↦ inl r
    | inr (inl c) ↦ elim (Contains-cases node i rest c) [
      | inl e ↦ inr (inr (u, rw (sym e) used, missing, rw (get_or-set_same w.waiting u longer [] waiting_at, sym e) (Contains-push (waiting_for w u) node)))
      | inr r ↦ inr (inl r)
    ]
    | inr (inr waits) ↦ inr (inr (still i waits))
  ];
}
  where
    u : ℕ
    u = get_or (uses_of w node) k 0

    longer : List ℕ
    longer = waiting_for w u ++ node ∷ []

    in_range : node < length w.uses
    in_range = pending_in_range w node rest s

    met_at : node < length w.met
    met_at = omega (arith, in_range, s.met_count)

    waiting_at : u < length w.waiting
    waiting_at = omega (arith, use_in_range w (node ∷ rest) node k s in_range l, s.waiting_count)

    used : Contains (uses_of w node) u
    used = Contains-get_or (uses_of w node) k 0 l

    met_here : (j : ℕ) → j < k → is_settled w (get_or (uses_of w node) j 0) ≡ true
    met_here j h = elim (cases_lt j (get_or w.met node 0)) [
      | inl below ↦ s.met node j below
      | inr from ↦ behind j (omega (arith, from)) h
    ]

    waits_here : (i : ℕ) → Contains longer i → IsFree w i × Contains (uses_of w i) u
    waits_here i c = elim (Contains-push_cases (waiting_for w u) node i c) [
      | inl r ↦ s.waiting_free u i missing r
      | inr e ↦ rw (sym e) (s.pending_free node (Contains-head node rest), used)
    ]

    still : (i : ℕ) → IsWaiting w i → (v : ℕ) × Contains (uses_of w i) v × (is_settled w v ≡ false) × Contains (get_or (set w.waiting u longer) v []) i
    still i waits = elim (cases_eq waits.0 u) [
      | inl e ↦ (
        u,
        rw e at waits.1,
        missing,
        rw (get_or-set_same w.waiting u longer [] waiting_at) (Contains-append_left (waiting_for w u) (node ∷ []) i (rw e at waits.3)),
      )
      | inr ne ↦ (waits.0, waits.1, waits.2, rw (get_or-set_other w.waiting u waits.0 longer [] ne) waits.3)
    ]

-- ---- placing

waits_not : (w : Waits) (i : ℕ) → IsWaiting w i → ¬ (is_ready w.uses (is_settled w) i ≡ true)
waits_not w i waits h =
    let placed : is_settled w waits.0 ≡ true = ready_used w.uses (is_settled w) i waits.0 h waits.1 in
    false≢true (sym waits.2 ∙ placed)

-- what is ready stands there, where nothing is to be settled
ready_found : (w : Waits) (i : ℕ) → IsSettled w [] → i < length w.uses → is_ready w.uses (is_settled w) i ≡ true → Contains w.ready i
ready_found w i s l h = elim (s.complete i l (ready_free w.uses (is_settled w) i h)) [
  | inl r ↦ r
  | inr (inl c) ↦ absurd (omega (arith, c.1))
  | inr (inr waits) ↦ absurd (waits_not w i waits h)
]

pub least_is_next : (w : Waits) (node : ℕ) (others : List ℕ) → IsSettled w [] → w.ready ≡ node ∷ others → All (IsLtBy nat_cmp node) others
    → IsNext w.uses (is_settled w) node
least_is_next w node others s e above =
    let first = s.ready node (rw e (Contains-head node others)) in
    record {
      in_range = first.0;
      ready = first.1;
      first = λ j l. go j l (is_ready w.uses (is_settled w) j) refl;
    }
  where
    go : (j : ℕ) → j < node → (b : Bool) → is_ready w.uses (is_settled w) j ≡ b → b ≡ false
    go j l false h = refl
    go j l true h =
        let first = s.ready node (rw e (Contains-head node others)) in
        elim (Contains-cases node j others (rw e at (ready_found w j s (omega (arith, l, first.0)) h))) [
          | inl same ↦ absurd (omega (arith, l, same))
          | inr r ↦ absurd (omega (arith, l, less_from node j (All-contains (IsLtBy nat_cmp node) others j above r)))
        ]

-- the first that is ready is placed; those that waited for it are to be settled
pub placed_first : (w : Waits) (node : ℕ) (others : List ℕ) → IsSettled w [] → w.ready ≡ node ∷ others → All (IsLtBy nat_cmp node) others
    → IsSettled (record {
      uses = w.uses;
      placed = set w.placed node true;
      met = w.met;
      waiting = set w.waiting node [];
      ready = others;
    }) (waiting_for w node)
placed_first w node others s e above = record {
  placed_count = length-set w.placed node true ∙ s.placed_count;
  met_count = s.met_count;
  waiting_count = length-set w.waiting node [] ∙ s.waiting_count;
  within = s.within;
  met = λ i k l. more (get_or (uses_of w i) k 0) (s.met i k l);
  pending_free = λ i c. still_free i node free (s.waiting_free node i free c);
  waiting_free = λ u i h c. elim (cases_eq u node) [
    | inl same ↦ absurd (nothing (rw (same, get_or-set_same w.waiting node [] [] waiting_at) at c))
    | inr ne ↦
        let missing = rw (get_or-set_other w.placed node u true false ne) at h in
        let before = s.waiting_free u i missing (rw (get_or-set_other w.waiting node u [] [] ne) at c) in
        (still_free i u missing before, before.1)
  ];
  ready = λ i c.
      let before = s.ready i (rw e (Contains-tail node i others c)) in
      let ne : i ≢ node = λ same. absurd (omega (arith, same, less_from node i (All-contains (IsLtBy nat_cmp node) others i above c))) in
      let used : list_all (is_settled w) (uses_of w i) ≡ true = all_from (is_settled w) (uses_of w i) (λ k l. ready_used w.uses (is_settled w) i (get_or (uses_of w i) k 0) before.1 (Contains-get_or (uses_of w i) k 0 l)) in (
        before.0,
        ready_from w.uses (λ j. get_or (set w.placed node true) j false) i
            (get_or-set_other w.placed node i true false ne ∙ ready_free w.uses (is_settled w) i before.1)
            (all_from (λ j. get_or (set w.placed node true) j false) (uses_of w i) (λ k l. more (get_or (uses_of w i) k 0) (all_at (is_settled w) (uses_of w i) (get_or (uses_of w i) k 0) used (Contains-get_or (uses_of w i) k 0 l)))),
      );
  complete = λ i l h. elim (cases_eq i node) [
    | inl same ↦ absurd (false≢true (sym (rw same at h) ∙ get_or-set_same w.placed node true false placed_at))
    | inr ne ↦ elim (s.complete i l (rw (get_or-set_other w.placed node i true false ne) at h)) [
      | inl r ↦ elim (Contains-cases node i others (rw e at r)) [
        | inl same ↦ absurd (ne (sym same))
        | inr c ↦ inl c
      ]
      | inr (inl c) ↦ absurd (nothing c)
      | inr (inr waits) ↦ inr (moved i waits)
    ]
  ];
}
  where
    first : (node < length w.uses) × (is_ready w.uses (is_settled w) node ≡ true)
    first = s.ready node (rw e (Contains-head node others))

    free : is_settled w node ≡ false
    free = ready_free w.uses (is_settled w) node first.1

    placed_at : node < length w.placed
    placed_at = omega (arith, first.0, s.placed_count)

    waiting_at : node < length w.waiting
    waiting_at = omega (arith, first.0, s.waiting_count)

    nothing : {i : ℕ} → Contains [] i → ⊥
    nothing c = absurd (omega (arith, c.1))

    more : (j : ℕ) → is_settled w j ≡ true → get_or (set w.placed node true) j false ≡ true
    more j h = elim (cases_eq j node) [
      | inl same ↦ rw same (get_or-set_same w.placed node true false placed_at)
      | inr ne ↦ get_or-set_other w.placed node j true false ne ∙ h
    ]

    -- one that uses what isn't placed isn't node, all of whose uses are placed
    still_free : (i u : ℕ) → is_settled w u ≡ false → IsFree w i × Contains (uses_of w i) u
        → (i < length w.uses) × (get_or (set w.placed node true) i false ≡ false)
    still_free i u missing before =
        let ne : i ≢ node = λ same. false≢true (sym missing ∙ ready_used w.uses (is_settled w) node u first.1 (rw same at before.1)) in
        (before.0.0, get_or-set_other w.placed node i true false ne ∙ before.0.1)

    moved : (i : ℕ) → IsWaiting w i → Contains (waiting_for w node) i
        ⊎ ((u : ℕ) × Contains (uses_of w i) u × (get_or (set w.placed node true) u false ≡ false) × Contains (get_or (set w.waiting node []) u []) i)
    moved i waits = elim (cases_eq waits.0 node) [
      | inl same ↦ inl (rw same at waits.3)
      | inr ne ↦ inr (
        waits.0,
        waits.1,
        get_or-set_other w.placed node waits.0 true false ne ∙ waits.2,
        rw (get_or-set_other w.waiting node waits.0 [] [] ne) waits.3,
      )
    ]

-- ---- the start

-- these are the first n nodes, and none waits for one of them
pub record AllPending (n : ℕ) (nodes : List ℕ) (waiting : List (List ℕ)) : Type 0 where
  pub nodes_count : length nodes ≡ n
  pub waiting_count : length waiting ≡ n
  pub nodes_are : (k : ℕ) → k < n → get_or nodes k 0 ≡ k
  pub none_waits : (u : ℕ) → get_or waiting u [] ≡ []

pub none_pending : AllPending 0 [] []
none_pending = record {
  nodes_count = refl;
  waiting_count = refl;
  nodes_are = λ k l. absurd (omega arith);
  none_waits = λ u. refl;
}

pub one_more_pending : (n : ℕ) (nodes : List ℕ) (waiting : List (List ℕ)) → AllPending n nodes waiting
    → AllPending (n + 1) (nodes ++ n ∷ []) (waiting ++ [] ∷ [])
one_more_pending n nodes waiting p = record {
  nodes_count = omega (arith, length-append nodes (n ∷ []), p.nodes_count);
  waiting_count = omega (arith, length-append waiting ([] ∷ []), p.waiting_count);
  nodes_are = λ k l. elim (cases_lt k n) [
    | inl below ↦ get_or_append_left nodes (n ∷ []) 0 k (omega (arith, below, p.nodes_count)) ∙ p.nodes_are k below
    | inr from ↦ get_or_at nodes n [] 0 k (omega (arith, from, l, p.nodes_count)) ∙ omega (arith, from, l)
  ];
  none_waits = λ u. elim (cases_lt u n) [
    | inl below ↦ get_or_append_left waiting ([] ∷ []) [] u (omega (arith, below, p.waiting_count)) ∙ p.none_waits u
    | inr from ↦ elim (cases_eq u n) [
      | inl same ↦ get_or_at waiting [] [] [] u (p.waiting_count ∙ sym same)
      | inr ne ↦ get_or_past (waiting ++ [] ∷ []) u [] (omega (arith, length-append waiting ([] ∷ []), p.waiting_count, from, ne))
    ]
  ];
}

replicate_at : {X : Type 0} (n i : ℕ) (x : X) → get_or (replicate n x) i x ≡ x
replicate_at zero i x = refl
replicate_at (suc n) zero x = refl
replicate_at (suc n) (suc i) x = replicate_at n i x

pub all_pending : (uses : List (List ℕ)) (nodes : List ℕ) (waiting : List (List ℕ)) → All (λ used. All (λ u. u < length uses) used) uses
    → AllPending (length uses) nodes waiting
    → IsSettled (record {
      uses = uses;
      placed = replicate (length uses) false;
      met = replicate (length uses) 0;
      waiting = waiting;
      ready = [];
    }) nodes
all_pending uses nodes waiting within p = record {
  placed_count = length-replicate (length uses) false;
  met_count = length-replicate (length uses) 0;
  waiting_count = p.waiting_count;
  within = within;
  met = λ i k l. absurd (omega (arith, rw (replicate_at {X = ℕ} (length uses) i 0) at l));
  pending_free = λ i c.
      let at : get_or nodes c.0 0 ≡ i = get_or_default nodes c.0 0 i c.1 ∙ c.2 in
      let here : c.0 < length uses = omega (arith, c.1, p.nodes_count) in
      (omega (arith, here, at, p.nodes_are c.0 here), replicate_at (length uses) i false);
  waiting_free = λ u i h c. absurd (omega (arith, (rw (p.none_waits u) at c).1));
  ready = λ i c. absurd (omega (arith, c.1));
  complete = λ i l h. inr (inl (i, omega (arith, l, p.nodes_count), get_or_default nodes i i 0 (omega (arith, l, p.nodes_count)) ∙ p.nodes_are i l));
}
