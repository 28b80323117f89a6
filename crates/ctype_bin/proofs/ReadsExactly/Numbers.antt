-- Numbers are read exactly, from what `atoms` tells of them.
use Rattle.std.proofs.Common.{◌≡◌, ℕ, ◌≤◌, List, length, ◌++◌, take, drop, Result, Ok, Err, refl, sym, ap, subst, ◌∙◌, arith, inl, inr}
use Rattle.std.specs.Prelude.{◌⊎◌, IfErr}
use Rattle.std.proofs.lemmas.List.{drop_at, take-append-drop}
use Rattle.atoms.specs.declared.error.AtomError.{AtomError}
use Rattle.atoms.specs.declared.error.AtomError.TheVariants as atoms
use Rattle.atoms.specs.Leb128.{Spells, groups_at}
use Rattle.atoms.proofs.NumbersMeetTheirSpellings.{is_found, is_truncated, groups_again, only_errors, failed}
use Rattle.atoms.proofs.GroupsOfSevenBits.{spells-groups}
use Rattle.ctype_format.specs.declared.error.Fault.{Fault}
use Rattle.ctype_format.specs.declared.error.Fault.TheVariants.{Overlong}
use Rattle.ctype_format.specs.declared.error.Stuck.{Stuck}
use Rattle.ctype_format.specs.declared.error.Stuck.TheVariants.{End, At}
use Rattle.atoms.specs.Exactness.{Took}
use Rattle.atoms.proofs.productions.ProductionsReadExactly.{no_err}
use Rattle.ctype_bin.specs.Exactness.{IsBytes, Inside, ExactBytes}
use Rattle.ctype_format.specs.Bytes.{Bytes, NoNumber, number, number_from, u32, s33, signed_fault}
use Rattle.ctype_bin.proofs.ReadsExactly.PlainProductions.{ok_is, took}

number_ok : (fault : List ℕ → Fault) (bytes : List ℕ) (r : Result (ℕ × ℕ) AtomError) (y : ℕ × List ℕ) → number_from fault bytes r ≡ Ok y → (x : ℕ × ℕ) × (r ≡ Ok x) × ((x.0, drop x.1 bytes) ≡ y)
number_ok fault bytes (Ok x) y e = (x, refl, ok_is (x.0, drop x.1 bytes) y e)
number_ok fault bytes (Err atoms.Truncated) y e = absurd cc
number_ok fault bytes (Err atoms.Overlong) y e = absurd cc
number_ok fault bytes (Err atoms.BadLabel) y e = absurd cc
number_ok fault bytes (Err atoms.BadName) y e = absurd cc
number_ok fault bytes (Err atoms.NoMemory) y e = absurd cc

number_err : (fault : List ℕ → Fault) (bytes : List ℕ) (r : Result (ℕ × ℕ) AtomError) (f : Stuck) → IfErr r (λ e. (e ≡ atoms.Truncated) ⊎ (e ≡ atoms.Overlong)) → number_from fault bytes r ≡ Err f → ((r ≡ Err atoms.Truncated) × (f ≡ End)) ⊎ ((r ≡ Err atoms.Overlong) × (f ≡ At (fault bytes) (length bytes)))
number_err fault bytes (Ok x) f h e = absurd (no_err (x.0, drop x.1 bytes) f e)
number_err fault bytes (Err atoms.Truncated) f h e = inl (refl, cc)
number_err fault bytes (Err atoms.Overlong) f h e = inr (refl, cc)
number_err fault bytes (Err atoms.BadLabel) f h e = absurd (elim h [ inl k ↦ cc | inr k ↦ cc ])
number_err fault bytes (Err atoms.BadName) f h e = absurd (elim h [ inl k ↦ cc | inr k ↦ cc ])
number_err fault bytes (Err atoms.NoMemory) f h e = absurd (elim h [ inl k ↦ cc | inr k ↦ cc ])

both_ways : (x : ℕ × ℕ) (d : AtomError) → Ok x ≡ Err d → ⊥
both_ways x d h = cc

overlong_early : (r : Result (ℕ × ℕ) AtomError) → r ≡ Err atoms.Truncated → r ≡ Err atoms.Overlong → ⊥
overlong_early r e h = let k : failed atoms.Truncated ≡ failed atoms.Overlong = sym e ∙ h in cc

module _ (limit : ℕ) (low : 16 ≤ limit) (high : limit ≤ 128) (fault : List ℕ → Fault) where
  abbrev p : Bytes ℕ
  p = number (Spells limit) limit fault

  number_complete : (text rest : List ℕ) (x : ℕ) → Spells limit text x → p.read (text ++ rest) ≡ Ok (x, rest)
  number_complete text rest x s =
      let g = groups_again limit 4 text rest x high (spells-groups limit 4 text x high s.ends s.short s.fifth s.value) in
      rw (g, drop_at text rest (length text) refl) refl

  number_sound : (bytes : List ℕ) (x : ℕ) (rest : List ℕ) → IsBytes bytes → p.read bytes ≡ Ok (x, rest) → Took p bytes x rest
  number_sound bytes x rest fits e =
      let h = number_ok fault bytes (groups_at limit 4 bytes) (x, rest) e in
      let found = is_found limit low high bytes fits (Ok h.0) (sym h.1) in
      subst (λ (z : ℕ × List ℕ). Took p bytes z.0 z.1) h.2 (took p number_complete bytes (take h.0.1 bytes) (drop h.0.1 bytes) h.0.0 (sym (take-append-drop h.0.1 bytes)) found.1 found.1)

  none_spelt : (bytes : List ℕ) → groups_at limit 4 bytes ≡ Err atoms.Overlong → (n k : ℕ) → Spells limit (take k bytes) n → ⊥
  none_spelt bytes e n k s =
      let g = groups_again limit 4 (take k bytes) (drop k bytes) n high (spells-groups limit 4 (take k bytes) n high s.ends s.short s.fifth s.value) in
      let whole : groups_at limit 4 bytes ≡ Ok (n, length (take k bytes)) = ap (groups_at limit 4) (sym (take-append-drop k bytes)) ∙ g in
      both_ways (n, length (take k bytes)) atoms.Overlong (sym whole ∙ e)

  no_number : (bytes : List ℕ) → IsBytes bytes → groups_at limit 4 bytes ≡ Err atoms.Overlong → NoNumber (Spells limit) bytes
  no_number bytes fits e = (none_spelt bytes e, λ early. overlong_early (groups_at limit 4 bytes) ((is_truncated limit low high bytes fits (groups_at limit 4 bytes) refl).1 early) e)

  too_long : (bytes : List ℕ) → IsBytes bytes → NoNumber (Spells limit) bytes → groups_at limit 4 bytes ≡ Err atoms.Overlong
  too_long bytes fits none = by (groups_at limit 4 bytes) refl (only_errors limit 4 bytes)
    where
      by : (r : Result (ℕ × ℕ) AtomError) → r ≡ groups_at limit 4 bytes → IfErr r (λ e. (e ≡ atoms.Truncated) ⊎ (e ≡ atoms.Overlong)) → r ≡ Err atoms.Overlong
      by (Ok x) is h = absurd (none.0 x.0 x.1 (is_found limit low high bytes fits (Ok x) is).1)
      by (Err atoms.Truncated) is h = absurd (none.1 ((is_truncated limit low high bytes fits (groups_at limit 4 bytes) refl).0 (sym is)))
      by (Err atoms.Overlong) is h = refl
      by (Err atoms.BadLabel) is h = absurd (elim h [ inl k ↦ cc | inr k ↦ cc ])
      by (Err atoms.BadName) is h = absurd (elim h [ inl k ↦ cc | inr k ↦ cc ])
      by (Err atoms.NoMemory) is h = absurd (elim h [ inl k ↦ cc | inr k ↦ cc ])

  number_met : (bytes : List ℕ) (f : Stuck) → IsBytes bytes → p.fails bytes f → p.read bytes ≡ Err f
  number_met bytes f fits h =
      elim h [
        | inl k ↦ let early : groups_at limit 4 bytes ≡ Err atoms.Truncated = (is_truncated limit low high bytes fits (groups_at limit 4 bytes) refl).1 k.0 in rw (early, k.1) refl
        | inr k ↦ rw (too_long bytes fits k.0, k.1) refl
      ]

  pub exact-number : ExactBytes p
  exact-number = record {
    sound = number_sound;
    complete = λ text rest x s end. number_complete text rest x s;
    taken = number_complete;
    met = number_met;
    faulty = λ bytes f fits e.
        elim (number_err fault bytes (groups_at limit 4 bytes) f (only_errors limit 4 bytes) e) [
          | inl h ↦ inl ((is_truncated limit low high bytes fits (groups_at limit 4 bytes) refl).0 h.0, h.1)
          | inr h ↦ inr (no_number bytes fits h.0, h.1)
        ];
    stays = λ bytes f fits e.
        elim (number_err fault bytes (groups_at limit 4 bytes) f (only_errors limit 4 bytes) e) [
          | inl h ↦ subst (λ (g : Stuck). Inside g bytes) (sym h.1) tt
          | inr h ↦ subst (λ (g : Stuck). Inside g bytes) (sym h.1) (omega arith)
        ];
  }

pub exact-u32 : ExactBytes u32
exact-u32 = exact-number 128 (omega arith) (omega arith) (λ bytes. Overlong)

pub exact-s33 : ExactBytes s33
exact-s33 = exact-number 64 (omega arith) (omega arith) signed_fault
