-- The return area: what a function's result tells of it; where no block meets it, it is live in the memory that is lent with these blocks.
use Rattle.std.proofs.Common.{◌≡◌, ◌+◌, ◌&&◌, ◌≤◌, ◌<◌, ℕ, true, false, Some, MatchOption, List, [], ◌∷◌, length, nat_le, nat_lt, refl, sym, subst, arith}
use Rattle.std.specs.List.{list_all}
use Rattle.std.proofs.lemmas.Bool.{le-leb, lt-ltb, ltb-true, and_from, and_parts, or_from, not_from_false}
use Rattle.std.proofs.lemmas.Bool.Decides.{nat_tests}
use Rattle.canonical_abi.specs.Guest.{IsWithin}
use Rattle.canonical_abi.specs.Layout.{size}
use Rattle.canonical_abi.specs.Types.{FunctionType, record_type}
use Rattle.canonical_abi.specs.declared.flat.Flat.{Flat}
use Rattle.memory.specs.Blocks.{is_in_block, is_apart, are_good, can_lend}
use Rattle.memory.specs.Lent.{is_kept}
use Rattle.memory.specs.declared.block.Block.{Block}
use Rattle.layout.specs.Layout.{AreWithin}
use Rattle.tables.specs.Closed.{IsFunction, function_at}
use Rattle.tables.specs.declared.tables.Function.{Function}
use Rattle.tables.specs.declared.tables.FunctionId.{FunctionId}
use Rattle.tables.specs.declared.tables.Resolve.{Resolve}
use Rattle.tables.specs.declared.tables.ValType.{ValType}
use Rattle.values.specs.Members.{fields_of_types, AreAllInside}
use Rattle.adapter.proofs.ParametersAsTableTypes.{same_types}
use Rattle.adapter.proofs.FunctionsInLayouts.{result-known, result-inside, all-inside, result-small}
use Rattle.host_calls.specs.Calling.{KeepsArea, area_block}

within : (b : Block) (a : ℕ) → IsWithin a b.at b.size → is_in_block b a ≡ true
within b a h = and_from (nat_le b.at a) (nat_lt a (b.at + b.size)) (le-leb b.at a h.0) (lt-ltb a (b.at + b.size) h.1)

apart : (b c : Block) (a : ℕ) → is_apart b c ≡ true → is_in_block b a ≡ true → is_in_block c a ≡ false
unfolding is_apart
apart b c a h i = grind (arith, nat_tests)

not-kept : (b : Block) (bs : List Block) (a : ℕ) → list_all (is_apart b) bs ≡ true → is_in_block b a ≡ true → is_kept bs a ≡ false
not-kept b [] a h i = refl
not-kept b (c ∷ bs) a h i =
    let t = and_parts (is_apart b c) (list_all (is_apart b) bs) h in
    or_from (is_in_block c a) (is_kept bs a) (apart b c a t.0 i) (not-kept b bs a t.1 i)

beside : (len : ℕ) (b : Block) (bs : List Block) → can_lend len b bs ≡ true → list_all (is_apart b) bs ≡ true
beside len b bs h = (and_parts (are_good len bs) (list_all (is_apart b) bs) (and_parts (nat_lt len 4294967296) (are_good len bs && list_all (is_apart b) bs) h).1).1

-- a memory that blocks are handed out of has less than 2^32 bytes
pub lent-limited : (len : ℕ) (b : Block) (bs : List Block) → can_lend len b bs ≡ true → len < 4294967296
lent-limited len b bs h = ltb-true len 4294967296 (and_parts (nat_lt len 4294967296) (are_good len bs && list_all (is_apart b) bs) h).0

-- where no block was granted, only its length counts
pub none-lent : (len : ℕ) (b : Block) (bs : List Block) → bs ≡ [] → len < 4294967296 → can_lend len b bs ≡ true
none-lent len b bs none small =
    let P : List Block → Type 0 = λ cs. can_lend len b cs ≡ true in
    subst P (sym none) (and_from (nat_lt len 4294967296) true (lt-ltb len 4294967296 small) refl)

pub keeps-area : (f : FunctionType) (flats : List Flat) (caller : List ℕ) (blocks : List Block) → can_lend (length caller) (area_block f flats) blocks ≡ true
    → KeepsArea f flats caller blocks
keeps-area f flats caller blocks can name fits a inside =
    let b = area_block f flats in
    not_from_false (is_kept blocks a) (not-kept b blocks a (beside (length caller) b blocks can) (within b a inside))

-- the result of a function as a list of types, each of which the table has
pub all-of-result : (r : Resolve) (f : FunctionId) (h : IsFunction r f) (s : Function) (found : function_at r f ≡ Some s) (ts : List ValType) → MatchOption s.result (ts ≡ []) (λ t. ts ≡ t ∷ [])
    → AreAllInside r ts
all-of-result r f h s found ts listed = subst (AreAllInside r) (sym (same_types s.result ts listed)) (all-inside r s.result (result-inside r f h s found))

-- which is small as a record
pub small-result : (r : Resolve) (f : FunctionId) (h : IsFunction r f) (s : Function) (found : function_at r f ≡ Some s) → ∥ AreWithin r ∥₁ → (ts : List ValType) → MatchOption s.result (ts ≡ []) (λ t. ts ≡ t ∷ [])
    → size (record_type (fields_of_types r ts)) ≤ 16777216
small-result r f h s found within ts listed =
    subst (λ us. size (record_type (fields_of_types r us)) ≤ 16777216) (sym (same_types s.result ts listed)) (result-small r within s.result (result-known r f h s found))
