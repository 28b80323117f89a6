-- What is owed of a fault in bytes: it stands within them.
use Rattle.std.specs.Prelude.{ℕ, suc, ◌<◌, ◌≤◌, List, [], ◌∷◌, ◌++◌, length, slice_index}
use Rattle.std.proofs.Common.{arith}
use Rattle.std.proofs.lemmas.List.{length-append}
use Rattle.atoms.specs.Exactness as general
use Rattle.atoms.specs.Exactness.{Rules, Anything, AtEnd}
use Rattle.ctype_format.specs.declared.error.Stuck.{Stuck}
use Rattle.ctype_format.specs.declared.error.Stuck.TheVariants.{End, At, Past}
use Rattle.ctype_format.specs.Bytes.{Bytes}

-- each number of the list is a byte
abbrev pub IsBytes : List ℕ → Type 0
IsBytes bytes = (i : ℕ) → slice_index bytes i < 256

-- a fault with a place has it within these bytes or at their end
abbrev pub Inside : Stuck → List ℕ → Type 0
Inside End bytes = Unit {0}
Inside (At fault left) bytes = left ≤ length bytes
Inside (Past more) bytes = Unit {0}

-- the end of a list of bytes is one too
pub IsBytes-rest : (text rest : List ℕ) → IsBytes (text ++ rest) → IsBytes rest
IsBytes-rest [] rest h i = h i
IsBytes-rest (b ∷ text) rest h i = IsBytes-rest text rest (λ j. h (suc j)) i

-- a fault within the last of these bytes is within all of them
pub inside_behind : (text rest : List ℕ) (f : Stuck) → Inside f rest → Inside f (text ++ rest)
inside_behind text rest End h = tt
inside_behind text rest (At fault left) h = omega (arith, h, length-append text rest)
inside_behind text rest (Past more) h = tt

-- what each production over bytes keeps: its faults are within the bytes
abbrev pub within : Rules ℕ Stuck
within = record {
  fits = IsBytes;
  stays = λ E bytes f. Inside f bytes;
  fits_behind = IsBytes-rest;
  stays_first = λ E E' bytes f same h. h;
  stays_behind = λ E E' text rest f same h. inside_behind text rest f h;
}

-- reading finds just what the production spells, or its first fault, whatever comes after it
abbrev pub ExactBytes : {X : Type 0} → Bytes X → Type 0
ExactBytes p = general.Exact within Anything p

-- reading finds just what the production spells up to the end of the input, or its first fault
abbrev pub ExactToEnd : {X : Type 0} → Bytes X → Type 0
ExactToEnd p = general.Exact within AtEnd p

-- What is spelled is spelled by what is written of it too, which is no longer.
pub record Written {X : Type 0} (p : Bytes X) (write : X → List ℕ) : Type 0 where
  pub spelt : (bytes : List ℕ) (x : X) → p.spells bytes x → p.spells (write x) x
  pub short : (bytes : List ℕ) (x : X) → p.spells bytes x → length (write x) ≤ length bytes
