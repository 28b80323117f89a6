-- Printing by the grammar: which words a production spells a value by, wherever they stand in a text.
use Rattle.std.proofs.Common.{append-nil, ◌≡◌, ℕ, zero, suc, subst, sym, List, [], ◌∷◌, ◌++◌, map, refl, ap, ◌∙◌}
use Rattle.std.specs.Prelude.{◌||◌, Bool, true, false, MatchBool, Option, Some, None}
use Rattle.std.proofs.lemmas.Bool.{or_left}
use Rattle.atoms.specs.Production.{give, optional, unless_some, by_option, separator, comma_or, entries, listed, many, all, at_end}
use Rattle.wit_tokens.specs.declared.token.TokenKind.{TokenKind}
use Rattle.wit_tokens.specs.declared.error.TextError.{TextError}
use Rattle.wit_tokens.specs.Tokens.{Lexeme, word_of}
use Rattle.wit_grammar.specs.Lookahead.{Phrase}
use Rattle.wit_print.specs.Words.{Word}

-- a token without its place
pub record Plain : Type 0 where
  pub kind : TokenKind
  pub text : List ℕ

abbrev pub plain_of : Lexeme → Plain
plain_of l = record { kind = l.token.kind; text = l.text }

-- what the grammar sees of a word
abbrev pub read_of : Word → Plain
read_of w = record { kind = w.kind; text = word_of w.bytes }

abbrev pub Spells : Type 0 → Type 1
Spells X = List Lexeme → X → Type 0

-- wherever these words stand, they spell a value of this kind
pub record Writes {X : Type 0} (spells : Spells X) (ws : List Word) (Q : X → Type 0) : Type 0 where
  pub each : (ls : List Lexeme) → map plain_of ls ≡ map read_of ws → (x : X) × spells ls x × Q x

-- what a production spells that calls for another
abbrev pub Bound : {X Y : Type 0} → Spells X → (X → Spells Y) → Spells Y
Bound p q ts y = (front back : List Lexeme) × (x : _) × (ts ≡ front ++ back) × p front x × q x back y

-- a token that passes wherever this word stands
abbrev pub Passes : (Lexeme → Bool) → Word → Type 0
Passes test w = (l : Lexeme) → plain_of l ≡ read_of w → test l ≡ true

abbrev pub Misses : (Lexeme → Bool) → Word → Type 0
Misses test w = (l : Lexeme) → plain_of l ≡ read_of w → test l ≡ false

abbrev pub IsThe : Word → Lexeme → Type 0
IsThe w l = plain_of l ≡ read_of w

none_left : (ls : List Lexeme) → map plain_of ls ≡ [] → ls ≡ []
none_left [] e = refl
none_left (l ∷ ls) e = absurd cc

-- the words of two parts are parted alike
abbrev Parted : List Lexeme → List Word → List Word → Type 0
Parted ls ws vs = (front back : List Lexeme) × (ls ≡ front ++ back) × (map plain_of front ≡ map read_of ws) × (map plain_of back ≡ map read_of vs)

parted : (ls : List Lexeme) (ws vs : List Word) → map plain_of ls ≡ map read_of (ws ++ vs) → Parted ls ws vs
parted ls [] vs e = ([], ls, refl, refl, e)
parted [] (w ∷ ws) vs e = absurd cc
parted (l ∷ ls) (w ∷ ws) vs e =
    let first : plain_of l ≡ read_of w = cc in
    let others : map plain_of ls ≡ map read_of (ws ++ vs) = cc in
    let s = parted ls ws vs others in
    (l ∷ s.0, s.1, ap (λ xs. l ∷ xs) s.2, ap (λ xs. plain_of l ∷ xs) s.3 ∙ ap (λ x. x ∷ map read_of ws) first, s.4)

pub give_writes : {X : Type 0} (x : X) (Q : X → Type 0) → Q x → Writes (λ ts y. (ts ≡ []) × (y ≡ x)) [] Q
give_writes x Q q = record { each = λ ls e. (x, (none_left ls e, refl), q) }

pub bind_writes : {X Y : Type 0} {p : Spells X} {q : X → Spells Y} (ws vs : List Word) (P : X → Type 0) (Q : Y → Type 0)
    → Writes p ws P → ((x : X) → P x → Writes (q x) vs Q) → Writes (Bound p q) (ws ++ vs) Q
bind_writes ws vs P Q first then = record {
  each = λ ls e.
      let s = parted ls ws vs e in
      let a = first.each s.0 s.3 in
      let b = (then a.0 a.2).each s.1 s.4 in
      (b.0, (s.0, s.1, a.0, s.2, a.1, b.1), b.2);
}

-- nothing more behind
pub add_nil : {X : Type 0} {s : Spells X} (vs : List Word) (Q : X → Type 0) → Writes s (vs ++ []) Q → Writes s vs Q
add_nil {s = s} vs Q h = subst (λ us. Writes s us Q) (append-nil vs) h

-- a value of one kind is one of a kind that follows from it
pub loosen : {X : Type 0} {s : Spells X} {ws : List Word} {P Q : X → Type 0} → ((x : X) → P x → Q x) → Writes s ws P → Writes s ws Q
loosen h w = record { each = λ ls e. let a = w.each ls e in (a.0, a.1, h a.0 a.2) }

-- the last part, of which something is made
pub made_writes : {X Y : Type 0} {p : Spells X} (f : X → Y) (ws : List Word) (P : X → Type 0) (Q : Y → Type 0)
    → Writes p ws P → ((x : X) → P x → Q (f x)) → Writes (Bound p (λ x ts y. (ts ≡ []) × (y ≡ f x))) ws Q
made_writes f ws P Q w h = add_nil ws Q (bind_writes ws [] P Q w (λ x px. give_writes (f x) Q (h x px)))

one_each : (test : Lexeme → Bool) (w : Word) → Passes test w → (ls : List Lexeme) → map plain_of ls ≡ read_of w ∷ []
    → (l : Lexeme) × ((ls ≡ l ∷ []) × (test l ≡ true)) × IsThe w l
one_each test w passes [] e = absurd cc
one_each test w passes (l ∷ []) e = let first : plain_of l ≡ read_of w = cc in (l, (refl, passes l first), first)
one_each test w passes (l ∷ m ∷ ls) e = absurd cc

pub one_writes : (test : Lexeme → Bool) (w : Word) → Passes test w → Writes (λ ts t. (ts ≡ t ∷ []) × (test t ≡ true)) (w ∷ []) (IsThe w)
one_writes test w passes = record { each = one_each test w passes }

-- a token, and then these
pub then_writes : {Y : Type 0} {q : Lexeme → Spells Y} (test : Lexeme → Bool) (w : Word) (vs : List Word) (Q : Y → Type 0)
    → Passes test w → ((l : Lexeme) → IsThe w l → Writes (q l) vs Q) → Writes (Bound (λ ts t. (ts ≡ t ∷ []) × (test t ≡ true)) q) (w ∷ vs) Q
then_writes test w vs Q passes then = bind_writes (w ∷ []) vs (IsThe w) Q (one_writes test w passes) then

pub none_writes : {X : Type 0} (test : Lexeme → Bool) (p : Lexeme → Phrase X) → Writes (optional test p).spells [] (λ o. o ≡ None)
none_writes test p = record { each = λ ls e. (None, none_left ls e, refl) }

some_each : {X : Type 0} (test : Lexeme → Bool) (p : Lexeme → Phrase X) (w : Word) (ws : List Word) (Q : X → Type 0)
    → Passes test w → ((l : Lexeme) → IsThe w l → Writes (p l).spells ws Q) → (ls : List Lexeme) → map plain_of ls ≡ map read_of (w ∷ ws)
    → (o : Option X) × (optional test p).spells ls o × ((x : X) × (o ≡ Some x) × Q x)
some_each test p w ws Q passes behind [] e = absurd cc
some_each test p w ws Q passes behind (l ∷ ls) e =
    let first : plain_of l ≡ read_of w = cc in
    let others : map plain_of ls ≡ map read_of ws = cc in
    let s = (behind l first).each ls others in
    (Some s.0, (l, ls, refl, passes l first, s.1), (s.0, refl, s.2))

-- something, of this kind
abbrev pub IsSome : {X : Type 0} → (X → Type 0) → Option X → Type 0
IsSome Q o = (x : _) × (o ≡ Some x) × Q x

pub some_writes : {X : Type 0} (test : Lexeme → Bool) (p : Lexeme → Phrase X) (w : Word) (ws : List Word) (Q : X → Type 0)
    → Passes test w → ((l : Lexeme) → IsThe w l → Writes (p l).spells ws Q) → Writes (optional test p).spells (w ∷ ws) (IsSome Q)
some_writes test p w ws Q passes behind = record { each = some_each test p w ws Q passes behind }

pub when_writes : {X : Type 0} (p q : Spells X) (test : Bool) (ws : List Word) (Q : X → Type 0) → test ≡ true → Writes p ws Q → Writes (λ ts x. MatchBool test (p ts x) (q ts x)) ws Q
when_writes p q true ws Q h w = record { each = w.each }
when_writes p q false ws Q h w = absurd cc

pub else_writes : {X : Type 0} (p q : Spells X) (test : Bool) (ws : List Word) (Q : X → Type 0) → test ≡ false → Writes q ws Q → Writes (λ ts x. MatchBool test (p ts x) (q ts x)) ws Q
else_writes p q true ws Q h w = absurd cc
else_writes p q false ws Q h w = record { each = w.each }

pub unless_writes : {X A : Type 0} (o : Option A) (p q : Phrase X) (ws : List Word) (Q : X → Type 0) → o ≡ None → Writes q.spells ws Q → Writes (unless_some o p q).spells ws Q
unless_writes None p q ws Q h w = record { each = w.each }
unless_writes (Some a) p q ws Q h w = absurd cc

pub stop_writes : {X A : Type 0} (o : Option A) (p q : Phrase X) (ws : List Word) (Q : X → Type 0) (a : A) → o ≡ Some a → Writes p.spells ws Q → Writes (unless_some o p q).spells ws Q
stop_writes None p q ws Q a h w = absurd cc
stop_writes (Some b) p q ws Q a h w = record { each = w.each }

-- ---- lists with commas

-- behind an entry: a comma, where more entries follow
comma_writes : (comma close : Lexeme → Bool) (fault : List Lexeme → TextError) (w : Word) → Passes (λ s. close s || comma s) w → Misses close w
    → Writes (separator comma close fault).spells (w ∷ []) (λ b. b ≡ true)
unfolding separator
comma_writes comma close fault w passes opens =
    then_writes (λ s. close s || comma s) w [] (λ b. b ≡ true) passes
    (λ l e. else_writes _ _ (close l) [] (λ b. b ≡ true) (opens l e)
    (bind_writes [] [] (λ o. o ≡ None) (λ b. b ≡ true)
    (none_writes close give)
    (λ o h. unless_writes o (give false) (give true) [] (λ b. b ≡ true) h (give_writes true (λ b. b ≡ true) refl))))

-- the close behind the last entry
close_writes : (comma close : Lexeme → Bool) (fault : List Lexeme → TextError) (w : Word) → Passes close w
    → Writes (separator comma close fault).spells (w ∷ []) (λ b. b ≡ false)
unfolding separator
close_writes comma close fault w passes =
    then_writes (λ s. close s || comma s) w [] (λ b. b ≡ false) (λ l e. or_left (close l) (comma l) (passes l e))
    (λ l e. when_writes _ _ (close l) [] (λ b. b ≡ false) (passes l e) (give_writes false (λ b. b ≡ false) refl))

-- a comma and the close behind the last entry
both_writes : (comma close : Lexeme → Bool) (fault : List Lexeme → TextError) (w v : Word) → Passes (λ s. close s || comma s) w → Misses close w → Passes close v
    → Writes (separator comma close fault).spells (w ∷ v ∷ []) (λ b. b ≡ false)
unfolding separator
both_writes comma close fault w v passes opens closes =
    then_writes (λ s. close s || comma s) w (v ∷ []) (λ b. b ≡ false) passes
    (λ l e. else_writes _ _ (close l) (v ∷ []) (λ b. b ≡ false) (opens l e)
    (bind_writes (v ∷ []) [] (IsSome (IsThe v)) (λ b. b ≡ false)
    (some_writes close give v [] (IsThe v) closes (λ m f. give_writes m (IsThe v) f))
    (λ o h. stop_writes o (give false) (give true) [] (λ b. b ≡ false) h.0 h.1 (give_writes false (λ b. b ≡ false) refl))))

-- an entry that others follow, the last one, and the last one with a comma
pub more_writes : {X : Type 0} (comma close : Lexeme → Bool) (fault : X → List Lexeme → TextError) (p : Phrase X) (n : ℕ) (ws : List Word) (w : Word) (vs : List Word) (x : X) (Q : List X → Type 0)
    → Passes (λ s. close s || comma s) w → Misses close w
    → Writes p.spells ws (λ y. y ≡ x) → Writes (listed comma close fault p n).spells vs (λ ys. Q (x ∷ ys)) → Writes (listed comma close fault p (suc n)).spells (ws ++ w ∷ vs) Q
unfolding listed
more_writes comma close fault p n ws w vs x Q passes opens first rest =
    bind_writes ws (w ∷ vs) (λ y. y ≡ x) Q first
    (λ y ey. bind_writes (w ∷ []) vs (λ b. b ≡ true) Q (comma_writes comma close (fault y) w passes opens)
    (λ b eb. when_writes _ _ b vs Q eb
    (made_writes (λ ys. y ∷ ys) vs (λ ys. Q (x ∷ ys)) Q rest (λ ys q. subst (λ z. Q (z ∷ ys)) (sym ey) q))))

pub last_writes : {X : Type 0} (comma close : Lexeme → Bool) (fault : X → List Lexeme → TextError) (p : Phrase X) (n : ℕ) (ws : List Word) (w : Word) (x : X)
    → Passes close w → Writes p.spells ws (λ y. y ≡ x) → Writes (listed comma close fault p (suc n)).spells (ws ++ w ∷ []) (λ ys. ys ≡ x ∷ [])
unfolding listed
last_writes comma close fault p n ws w x passes first =
    bind_writes ws (w ∷ []) (λ y. y ≡ x) (λ ys. ys ≡ x ∷ []) first
    (λ y ey. bind_writes (w ∷ []) [] (λ b. b ≡ false) (λ ys. ys ≡ x ∷ []) (close_writes comma close (fault y) w passes)
    (λ b eb. else_writes _ _ b [] (λ ys. ys ≡ x ∷ []) eb (give_writes (y ∷ []) (λ ys. ys ≡ x ∷ []) (ap (λ z. z ∷ []) ey))))

pub last_comma_writes : {X : Type 0} (comma close : Lexeme → Bool) (fault : X → List Lexeme → TextError) (p : Phrase X) (n : ℕ) (ws : List Word) (w v : Word) (x : X)
    → Passes (λ s. close s || comma s) w → Misses close w → Passes close v
    → Writes p.spells ws (λ y. y ≡ x) → Writes (listed comma close fault p (suc n)).spells (ws ++ w ∷ v ∷ []) (λ ys. ys ≡ x ∷ [])
unfolding listed
last_comma_writes comma close fault p n ws w v x passes opens closes first =
    bind_writes ws (w ∷ v ∷ []) (λ y. y ≡ x) (λ ys. ys ≡ x ∷ []) first
    (λ y ey. bind_writes (w ∷ v ∷ []) [] (λ b. b ≡ false) (λ ys. ys ≡ x ∷ []) (both_writes comma close (fault y) w v passes opens closes)
    (λ b eb. else_writes _ _ b [] (λ ys. ys ≡ x ∷ []) eb (give_writes (y ∷ []) (λ ys. ys ≡ x ∷ []) (ap (λ z. z ∷ []) ey))))

-- ---- parameters: no comma behind the last

more_comma_writes : (comma close : Lexeme → Bool) (fault : List Lexeme → TextError) (w : Word) → Passes (λ s. close s || comma s) w → Misses close w
    → Writes (comma_or comma close fault).spells (w ∷ []) (λ b. b ≡ true)
unfolding comma_or
more_comma_writes comma close fault w passes opens =
    then_writes (λ s. close s || comma s) w [] (λ b. b ≡ true) passes
    (λ l e. else_writes _ _ (close l) [] (λ b. b ≡ true) (opens l e) (give_writes true (λ b. b ≡ true) refl))

end_comma_writes : (comma close : Lexeme → Bool) (fault : List Lexeme → TextError) (w : Word) → Passes close w
    → Writes (comma_or comma close fault).spells (w ∷ []) (λ b. b ≡ false)
unfolding comma_or
end_comma_writes comma close fault w passes =
    then_writes (λ s. close s || comma s) w [] (λ b. b ≡ false) (λ l e. or_left (close l) (comma l) (passes l e))
    (λ l e. when_writes _ _ (close l) [] (λ b. b ≡ false) (passes l e) (give_writes false (λ b. b ≡ false) refl))

pub entry_writes : {X : Type 0} (comma close : Lexeme → Bool) (fault : X → List Lexeme → TextError) (p : Phrase X) (end : Phrase (List X)) (n : ℕ) (ws : List Word) (w : Word) (vs : List Word) (x : X) (Q : List X → Type 0)
    → Passes (λ s. close s || comma s) w → Misses close w
    → Writes p.spells ws (λ y. y ≡ x) → Writes (entries (λ y. comma_or comma close (fault y)) p end n).spells vs (λ ys. Q (x ∷ ys))
    → Writes (entries (λ y. comma_or comma close (fault y)) p end (suc n)).spells (ws ++ w ∷ vs) Q
unfolding entries
entry_writes comma close fault p end n ws w vs x Q passes opens first rest =
    bind_writes ws (w ∷ vs) (λ y. y ≡ x) Q first
    (λ y ey. bind_writes (w ∷ []) vs (λ b. b ≡ true) Q (more_comma_writes comma close (fault y) w passes opens)
    (λ b eb. when_writes _ _ b vs Q eb
    (made_writes (λ ys. y ∷ ys) vs (λ ys. Q (x ∷ ys)) Q rest (λ ys q. subst (λ z. Q (z ∷ ys)) (sym ey) q))))

pub last_entry_writes : {X : Type 0} (comma close : Lexeme → Bool) (fault : X → List Lexeme → TextError) (p : Phrase X) (end : Phrase (List X)) (n : ℕ) (ws : List Word) (w : Word) (x : X)
    → Passes close w → Writes p.spells ws (λ y. y ≡ x) → Writes (entries (λ y. comma_or comma close (fault y)) p end (suc n)).spells (ws ++ w ∷ []) (λ ys. ys ≡ x ∷ [])
unfolding entries
last_entry_writes comma close fault p end n ws w x passes first =
    bind_writes ws (w ∷ []) (λ y. y ≡ x) (λ ys. ys ≡ x ∷ []) first
    (λ y ey. bind_writes (w ∷ []) [] (λ b. b ≡ false) (λ ys. ys ≡ x ∷ []) (end_comma_writes comma close (fault y) w passes)
    (λ b eb. else_writes _ _ b [] (λ ys. ys ≡ x ∷ []) eb (give_writes (y ∷ []) (λ ys. ys ≡ x ∷ []) (ap (λ z. z ∷ []) ey))))

-- ---- items between braces, and items to the end

pub ended_writes : {X : Type 0} (close : Lexeme → Bool) (fault : List Lexeme → TextError) (p : Phrase X) (n : ℕ) (w : Word) → Passes close w
    → Writes (many close fault p (suc n)).spells (w ∷ []) (λ xs. xs ≡ [])
unfolding many
ended_writes close fault p n w passes =
    bind_writes (w ∷ []) [] (IsSome (IsThe w)) (λ xs. xs ≡ [])
    (some_writes close give w [] (IsThe w) passes (λ l e. give_writes l (IsThe w) e))
    (λ o h. stop_writes o _ _ [] (λ xs. xs ≡ []) h.0 h.1 (give_writes [] (λ xs. xs ≡ []) refl))

-- with no room for an item left
pub full_writes : {X : Type 0} (close : Lexeme → Bool) (fault : List Lexeme → TextError) (p : Phrase X) (w : Word) → Passes close w
    → Writes (many close fault p 0).spells (w ∷ []) (λ xs. xs ≡ [])
unfolding many
full_writes close fault p w passes = then_writes close w [] (λ xs. xs ≡ []) passes (λ l e. give_writes [] (λ xs. xs ≡ []) refl)

-- a list whose first is of one kind, and whose others are of another
abbrev pub IsListOf : {X : Type 0} → (X → Type 0) → (List X → Type 0) → List X → Type 0
IsListOf P R xs = (y : _) × (ys : List _) × (xs ≡ y ∷ ys) × P y × R ys

pub item_writes : {X : Type 0} (close : Lexeme → Bool) (fault : List Lexeme → TextError) (p : Phrase X) (n : ℕ) (ws vs : List Word) (P : X → Type 0) (R : List X → Type 0)
    → Writes p.spells ws P → Writes (many close fault p n).spells vs R → Writes (many close fault p (suc n)).spells (ws ++ vs) (IsListOf P R)
unfolding many
item_writes close fault p n ws vs P R first rest =
    bind_writes [] (ws ++ vs) (λ o. o ≡ None) (IsListOf P R) (none_writes close give)
    (λ o h. unless_writes o _ _ (ws ++ vs) (IsListOf P R) h
    (bind_writes ws vs P (IsListOf P R) first
    (λ y py. made_writes (λ ys. y ∷ ys) vs R (IsListOf P R) rest (λ ys rs. (y, ys, refl, py, rs)))))

-- the end of the items
end_writes : (fault : List Lexeme → TextError) → Writes (at_end fault).spells [] (λ n. n ≡ 0)
end_writes fault = record { each = λ ls e. (0, (none_left ls e, refl), refl) }

none_more : {X A : Type 0} (o : Option A) (p : Phrase X) (q : A → Phrase X) (ws : List Word) (Q : X → Type 0) → o ≡ None → Writes p.spells ws Q → Writes (by_option o p q).spells ws Q
none_more None p q ws Q h w = record { each = w.each }
none_more (Some a) p q ws Q h w = absurd cc

one_more : {X A : Type 0} (o : Option A) (p : Phrase X) (q : A → Phrase X) (ws : List Word) (P : A → Type 0) (Q : X → Type 0) → IsSome P o → ((a : A) → P a → Writes (q a).spells ws Q) → Writes (by_option o p q).spells ws Q
one_more None p q ws P Q h w = absurd cc
one_more (Some a) p q ws P Q h w = record { each = (w a (some_is h)).each }
  where
    some_is : IsSome P (Some a) → P a
    some_is h = let e : h.0 ≡ a = cc in subst P e h.2

pub none_left_writes : {X : Type 0} (start : Lexeme → Bool) (fault : List Lexeme → TextError) (p : Lexeme → Phrase X) (n : ℕ)
    → Writes (all start fault p n).spells [] (λ xs. xs ≡ [])
unfolding all
none_left_writes start fault p zero = bind_writes [] [] (λ n. n ≡ 0) (λ xs. xs ≡ []) (end_writes fault) (λ n e. give_writes [] (λ xs. xs ≡ []) refl)
none_left_writes start fault p (suc n) =
    bind_writes [] [] (λ o. o ≡ None) (λ xs. xs ≡ []) (none_writes start p)
    (λ o h. none_more o _ _ [] (λ xs. xs ≡ []) h
    (bind_writes [] [] (λ n. n ≡ 0) (λ xs. xs ≡ []) (end_writes fault) (λ n e. give_writes [] (λ xs. xs ≡ []) refl)))

pub next_writes : {X : Type 0} (start : Lexeme → Bool) (fault : List Lexeme → TextError) (p : Lexeme → Phrase X) (n : ℕ) (w : Word) (ws vs : List Word) (P : X → Type 0) (R : List X → Type 0)
    → Passes start w → ((l : Lexeme) → IsThe w l → Writes (p l).spells ws P) → Writes (all start fault p n).spells vs R
    → Writes (all start fault p (suc n)).spells ((w ∷ ws) ++ vs) (IsListOf P R)
unfolding all
next_writes start fault p n w ws vs P R passes behind rest =
    bind_writes (w ∷ ws) vs (IsSome P) (IsListOf P R) (some_writes start p w ws P passes behind)
    (λ o h. one_more o _ _ vs P (IsListOf P R) h
    (λ y py. made_writes (λ ys. y ∷ ys) vs R (IsListOf P R) rest (λ ys rs. (y, ys, refl, py, rs))))
