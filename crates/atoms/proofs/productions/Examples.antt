-- Worked examples: productions over numbers. A fault is the items from the one that is not allowed.
use Rattle.std.proofs.Common.{◌≡◌, ℕ, Bool, true, false, List, [], ◌∷◌, length, Option, Some, None, Ok, Err, refl, ap, inr, arith}
use Rattle.std.specs.Prelude.{◌==◌, ◌+◌, ⊤, if◌then◌else◌}
use Rattle.atoms.specs.Production.{Production, give, never, ◌>>=◌, one, only, when, times, run, optional, unless_some, many, separator, listed, comma_or, entries, at_end, by_option, all}

-- what an example unfolds to compute what a production reads
unfoldable pub productions_on_literals : ⊤
unfolding times run many separator listed comma_or entries all
productions_on_literals = tt

-- ---- one number: 8 is a comma, and 9 closes a list

abbrev is : ℕ → ℕ → Bool
is n t = t == n

abbrev from : List ℕ → List ℕ
from ts = ts

abbrev item : ℕ → Production ℕ (List ℕ) ℕ
item n = one (is n) from

one-read : (item 1).read (1 ∷ 2 ∷ []) ≡ Ok (1, 2 ∷ [])
one-read = refl

one-other : (item 1).read (2 ∷ 1 ∷ []) ≡ Err (2 ∷ 1 ∷ [])
one-other = refl

one-end : (item 1).read [] ≡ Err []
one-end = refl

one-spelled : (item 1).spells (1 ∷ []) 1
one-spelled = (refl, refl)

-- all of the items spell it
one-more : (item 1).spells (1 ∷ 2 ∷ []) 1 → ⊥
one-more h = let e : length {A = ℕ} (1 ∷ 2 ∷ []) ≡ length {A = ℕ} (1 ∷ []) = ap (λ (ts : List ℕ). length ts) h.0 in omega (arith, e)

one-fault : (item 1).fails (2 ∷ 3 ∷ []) (2 ∷ 3 ∷ [])
one-fault = (refl, refl)

one-no-fault : (f : List ℕ) → (item 1).fails (1 ∷ 3 ∷ []) f → ⊥
one-no-fault f h = let e : true ≡ false = h.0 in cc

give-read : (give {I = ℕ} {F = List ℕ} {X = ℕ} 5).read (1 ∷ []) ≡ Ok (5, 1 ∷ [])
give-read = refl

give-no-fault : (ts f : List ℕ) → (give {I = ℕ} {F = List ℕ} {X = ℕ} 5).fails ts f → ⊥
give-no-fault ts f h = h

never-read : (never {X = ℕ} from).read (1 ∷ []) ≡ Err (1 ∷ [])
never-read = refl

never-spelled : (ts : List ℕ) (x : ℕ) → (never from).spells ts x → ⊥
never-spelled ts x h = h

-- ---- one after the other, choices

abbrev two : Production ℕ (List ℕ) ℕ
two = item 1 >>= λ x. item 2

two-read : two.read (1 ∷ 2 ∷ 3 ∷ []) ≡ Ok (2, 3 ∷ [])
two-read = refl

two-other : two.read (1 ∷ 3 ∷ []) ≡ Err (3 ∷ [])
two-other = refl

two-spelled : two.spells (1 ∷ 2 ∷ []) 2
two-spelled = (1 ∷ [], 2 ∷ [], 1, refl, (refl, refl), (refl, refl))

two-fault : two.fails (1 ∷ 3 ∷ []) (3 ∷ [])
two-fault = inr (1 ∷ [], 3 ∷ [], 1, refl, (refl, refl), (refl, refl))

abbrev small : Production ℕ (List ℕ) ℕ
small = only (one (λ t. true) from) (λ x ts. if x == 3 then Some ts else None)

only-read : small.read (2 ∷ 3 ∷ []) ≡ Ok (2, 3 ∷ [])
only-read = refl

only-other : small.read (3 ∷ 2 ∷ []) ≡ Err (3 ∷ 2 ∷ [])
only-other = refl

when-read : ((when true (item 1) (item 2)).read (1 ∷ []) ≡ Ok (1, [])) × ((when false (item 1) (item 2)).read (1 ∷ []) ≡ Err (1 ∷ []))
when-read = (refl, refl)

abbrev maybe : Production ℕ (List ℕ) (Option ℕ)
maybe = optional (is 1) (λ t. item 2)

optional-read : (maybe.read (1 ∷ 2 ∷ 3 ∷ []) ≡ Ok (Some 2, 3 ∷ [])) × (maybe.read (3 ∷ []) ≡ Ok (None, 3 ∷ [])) × (maybe.read [] ≡ Ok (None, []))
optional-read = (refl, refl, refl)

-- what begins is not nothing
optional-other : maybe.read (1 ∷ 3 ∷ []) ≡ Err (3 ∷ [])
optional-other = refl

optional-stopped : maybe.stops [] None (Some 3)
optional-stopped = (refl, refl)

optional-goes-on : maybe.stops [] None (Some 1) → ⊥
optional-goes-on h = let e : true ≡ false = h.1 in cc

optional-spelled : maybe.spells (1 ∷ 2 ∷ []) (Some 2)
optional-spelled = (1, 2 ∷ [], refl, refl, (refl, refl))

unless-read : ((unless_some {A = ℕ} (Some 0) (item 1) (item 2)).read (1 ∷ []) ≡ Ok (1, [])) × ((unless_some {A = ℕ} None (item 1) (item 2)).read (1 ∷ []) ≡ Err (1 ∷ []))
unless-read = (refl, refl)

by-option-read : ((by_option {A = ℕ} (Some 1) (item 2) item).read (1 ∷ []) ≡ Ok (1, [])) × ((by_option {A = ℕ} None (item 2) item).read (1 ∷ []) ≡ Err (1 ∷ []))
by-option-read = (refl, refl)

end-read : ((at_end {I = ℕ} from).read [] ≡ Ok (0, [])) × ((at_end from).read (1 ∷ []) ≡ Err (1 ∷ []))
end-read = (refl, refl)

-- ---- so many

times-read : (times 2 (item 1)).read (1 ∷ 1 ∷ 1 ∷ []) ≡ Ok (1 ∷ 1 ∷ [], 1 ∷ [])
unfolding productions_on_literals
times-read = refl

times-few : (times 2 (item 1)).read (1 ∷ 2 ∷ []) ≡ Err (2 ∷ [])
unfolding productions_on_literals
times-few = refl

-- each number is one more than the one before
abbrev counting : ℕ → Production ℕ (List ℕ) (ℕ × ℕ)
counting n = item n >>= λ x. give (x, n + 1)

run-read : (run counting 3 4).read (4 ∷ 5 ∷ 6 ∷ 7 ∷ []) ≡ Ok ((4 ∷ 5 ∷ 6 ∷ [], 7), 7 ∷ [])
unfolding productions_on_literals
run-read = refl

run-other : (run counting 3 4).read (4 ∷ 4 ∷ []) ≡ Err (4 ∷ [])
unfolding productions_on_literals
run-other = refl

-- ---- lists

abbrev closed : ℕ → Production ℕ (List ℕ) (List ℕ)
closed = many (is 9) from (item 1)

many-read : ((closed 2).read (1 ∷ 1 ∷ 9 ∷ 5 ∷ []) ≡ Ok (1 ∷ 1 ∷ [], 5 ∷ [])) × ((closed 2).read (9 ∷ []) ≡ Ok ([], []))
unfolding productions_on_literals
many-read = (refl, refl)

many-too-many : (closed 2).read (1 ∷ 1 ∷ 1 ∷ 9 ∷ []) ≡ Err (1 ∷ 9 ∷ [])
unfolding productions_on_literals
many-too-many = refl

many-open : (closed 2).read (1 ∷ []) ≡ Err []
unfolding productions_on_literals
many-open = refl

abbrev commas : ℕ → Production ℕ (List ℕ) (List ℕ)
commas = listed (is 8) (is 9) (λ x ts. ts) (item 1)

listed-read : (commas 4).read (1 ∷ 8 ∷ 1 ∷ 9 ∷ 5 ∷ []) ≡ Ok (1 ∷ 1 ∷ [], 5 ∷ [])
unfolding productions_on_literals
listed-read = refl

-- a comma at the end
listed-last : (commas 4).read (1 ∷ 8 ∷ 9 ∷ []) ≡ Ok (1 ∷ [], [])
unfolding productions_on_literals
listed-last = refl

listed-two-commas : (commas 4).read (1 ∷ 8 ∷ 8 ∷ 9 ∷ []) ≡ Err (8 ∷ 9 ∷ [])
unfolding productions_on_literals
listed-two-commas = refl

listed-none : (commas 4).read (9 ∷ []) ≡ Err (9 ∷ [])
unfolding productions_on_literals
listed-none = refl

listed-no-comma : (commas 4).read (1 ∷ 1 ∷ 9 ∷ []) ≡ Err (1 ∷ 9 ∷ [])
unfolding productions_on_literals
listed-no-comma = refl

-- at most one more than the number
listed-many : ((commas 1).read (1 ∷ 8 ∷ 1 ∷ 9 ∷ []) ≡ Ok (1 ∷ 1 ∷ [], [])) × ((commas 1).read (1 ∷ 8 ∷ 1 ∷ 8 ∷ 1 ∷ 9 ∷ []) ≡ Err (8 ∷ 1 ∷ 9 ∷ []))
unfolding productions_on_literals
listed-many = (refl, refl)

abbrev params : Production ℕ (List ℕ) (List ℕ)
params = entries (λ x. comma_or (is 8) (is 9) from) (item 1) (never from) 4

entries-read : params.read (1 ∷ 8 ∷ 1 ∷ 9 ∷ 5 ∷ []) ≡ Ok (1 ∷ 1 ∷ [], 5 ∷ [])
unfolding productions_on_literals
entries-read = refl

-- no comma at the end
entries-last : params.read (1 ∷ 8 ∷ 9 ∷ []) ≡ Err (9 ∷ [])
unfolding productions_on_literals
entries-last = refl

-- ---- to the end

abbrev whole : Production ℕ (List ℕ) (List ℕ)
whole = all (is 7) from (λ t. item 1) 2

all-read : (whole.read (7 ∷ 1 ∷ 7 ∷ 1 ∷ []) ≡ Ok (1 ∷ 1 ∷ [], [])) × (whole.read [] ≡ Ok ([], []))
unfolding productions_on_literals
all-read = (refl, refl)

all-other : (whole.read (7 ∷ 1 ∷ 5 ∷ []) ≡ Err (5 ∷ [])) × (whole.read (7 ∷ 2 ∷ []) ≡ Err (2 ∷ []))
unfolding productions_on_literals
all-other = (refl, refl)
