-- Texts, arrays and objects, as the data that they are.
use Rattle.std.proofs.Common.{◌≡◌, ℕ, List, [], ◌∷◌, Some, None, Ordering, Less, Equal, Greater, nat_cmp, is_eq, refl, sym, ap, ◌∙◌, arith}
use Rattle.std.proofs.lemmas.Map.Text.{is_eq-slice_cmp}
use Rattle.std.proofs.lemmas.Slice.Eq.{bytes_eq-Decides}
use Rattle.std.specs.Cmp.Lexicographic.{slice_cmp}
use Rattle.std.specs.Ordering.{match_ordering}
use Rattle.serde_json.specs.Data as json
use Rattle.serde_json.specs.Data.{Data, Items, Members, no_members, member, no_items, item}
use Rattle.serde_json.specs.Events.{members_len}
use Rattle.serde_json.specs.Find.{as_str, as_array, as_object, get_member, get}
use Rattle.serde_json.specs.View.{items_of}
use Rattle.serde_json.proofs.Views.{get_member-put}
use Rattle.value_json.specs.Json.{one_member}

pub text-is : (d : Data) (s : List ℕ) → Some s ≡ as_str d → d ≡ json.string s
text-is json.null s e = absurd (cc)
text-is (json.boolean b) s e = absurd (cc)
text-is (json.number n) s e = absurd (cc)
text-is (json.string t) s e = cc
text-is (json.array ds) s e = absurd (cc)
text-is (json.object ms) s e = absurd (cc)

pub array-is : (d : Data) (ds : Items) → Some ds ≡ as_array d → d ≡ json.array ds
array-is json.null s e = absurd (cc)
array-is (json.boolean b) s e = absurd (cc)
array-is (json.number n) s e = absurd (cc)
array-is (json.string t) s e = absurd (cc)
array-is (json.array ds) s e = cc
array-is (json.object ms) s e = absurd (cc)

pub object-is : (d : Data) (ms : Members) → Some ms ≡ as_object d → d ≡ json.object ms
object-is json.null s e = absurd (cc)
object-is (json.boolean b) s e = absurd (cc)
object-is (json.number n) s e = absurd (cc)
object-is (json.string t) s e = absurd (cc)
object-is (json.array ds) s e = absurd (cc)
object-is (json.object ms) s e = cc

pub same-key : (k l : List ℕ) → slice_cmp nat_cmp k l ≡ Equal → k ≡ l
same-key k l e = (bytes_eq-Decides k l).0 (sym (is_eq-slice_cmp k l) ∙ ap is_eq e)

pub single-found : (ms : Members) (l : List ℕ) (x : Data) → members_len ms ≡ 1 → get_member l ms ≡ Some x → json.object ms ≡ one_member l x
single-found no_members l x one found = absurd (cc)
single-found (member k d no_members) l x one found = by (slice_cmp nat_cmp l k) refl found
  where
    by : (o : Ordering) → slice_cmp nat_cmp l k ≡ o → match_ordering o None (Some d) None ≡ Some x → json.object (member k d no_members) ≡ one_member l x
    by Less e f = absurd (cc)
    by Greater e f = absurd (cc)
    by Equal e f = let same = same-key l k e in let is : d ≡ x = cc in rw (same, is) refl
single-found (member k d (member k2 d2 ms)) l x one found = absurd (omega (arith, one))

pub single-get : (l : List ℕ) (d : Data) → get l (one_member l d) ≡ Some d
single-get l d = get_member-put l d no_members

abbrev list_of : Items → List Data
list_of no_items = []
list_of (item d ds) = d ∷ list_of ds

list_of_items : (ds : List Data) → list_of (items_of ds) ≡ ds
list_of_items [] = refl
list_of_items (d ∷ ds) = ap (λ xs. d ∷ xs) (list_of_items ds)

-- an array's items are one list
pub only_items : (js ks : List Data) → json.array (items_of js) ≡ json.array (items_of ks) → js ≡ ks
only_items js ks e =
    let same : items_of js ≡ items_of ks = cc in
    sym (list_of_items js) ∙ ap list_of same ∙ list_of_items ks

abbrev length_of : Data → ℕ
length_of (json.object ms) = members_len ms
length_of _ = 0

pub one-long : (ms : Members) (l : List ℕ) (d : Data) → json.object ms ≡ one_member l d → members_len ms ≡ 1
one-long ms l d e = ap length_of e

members_of_object : Data → Members
members_of_object (json.object ms) = ms
members_of_object _ = no_members

pub same-members : (ms ns : Members) → json.object ms ≡ json.object ns → ms ≡ ns
unfolding members_of_object
same-members ms ns e = ap members_of_object e
