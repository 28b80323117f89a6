-- Names of which no two differ in case alone.
use Rattle.std.specs.Prelude.{ℕ, Bool, List, map}
use Rattle.std.specs.Ordering.{is_eq, nat_cmp}
use Rattle.std.specs.Cmp.Lexicographic.{slice_cmp}
use Rattle.std.specs.List.{list_any}
use Rattle.std.specs.BTreeSet.{insert_key}
use Rattle.std.specs.Char.{to_ascii_lowercase}

-- the text in lower case
abbrev pub lower : List ℕ → List ℕ
lower text = map to_ascii_lowercase text

-- a name of these, which stand in lower case, differs from the text in case at most
abbrev pub has_name : List (List ℕ) → List ℕ → Bool
has_name names text = list_any (λ name. is_eq (slice_cmp nat_cmp (lower text) name)) names

-- these names and one more, in lower case and in the order of their texts
abbrev pub with_name : List (List ℕ) → List ℕ → List (List ℕ)
with_name names text = insert_key (slice_cmp nat_cmp) names (lower text)
