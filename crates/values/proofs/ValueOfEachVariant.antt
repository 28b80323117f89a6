-- The value that a `Val` stands for, variant by variant.
use Rattle.std.proofs.Common.{◌≡◌, ℕ, map, Some, None, Vec, Box, String, Global, string_bytes, rules}
use Rattle.canonical_abi.specs.Values.{values_of, list_value, record_value, plain_value, payload_value, string_value, flags_value}
use Rattle.values.specs.Val.{value_of}
use Rattle.values.specs.declared.val.Val.{Val, List as Listed, String as Text, Record, Variant, Flags, the_lemmas}

pub value_of-List : (v : Vec Val Global) → value_of (Listed v) ≡ list_value (values_of (map value_of v.items))
value_of-List v = search (rules, the_lemmas)

pub value_of-Record : (v : Vec Val Global) → value_of (Record v) ≡ record_value (values_of (map value_of v.items))
value_of-Record v = search (rules, the_lemmas)

pub value_of-None : (i : ℕ) → value_of (Variant i None) ≡ plain_value i
value_of-None i = search (rules, the_lemmas)

pub value_of-Some : (i : ℕ) (b : Box Val Global) → value_of (Variant i (Some b)) ≡ payload_value i (value_of b.value)
value_of-Some i b = search (rules, the_lemmas)

pub value_of-String : (s : String Global) → value_of (Text s) ≡ string_value (string_bytes s)
value_of-String s = search (rules, the_lemmas)

pub value_of-Flags : (n : ℕ) → value_of (Flags n) ≡ flags_value n
value_of-Flags n = search (rules, the_lemmas)
