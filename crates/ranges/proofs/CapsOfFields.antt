-- Caps of one field after another.
use Rattle.std.proofs.Common.{◌≡◌, inl, inr, ℕ, ◌+◌, ◌-◌, ◌<◌, ◌≤◌, List, [], replicate, get_or, Some, sym, ◌∙◌, arith}
use Rattle.std.specs.Int.{next_multiple_of}
use Rattle.std.proofs.lemmas.Bool.{cases_lt}
use Rattle.std.proofs.lemmas.List.{get_or-replicate, get_or_past, length-replicate}
use Rattle.canonical_abi.specs.Types.{ClosedType, record_type, Fields, field, nth_field, field_count}
use Rattle.canonical_abi.specs.Layout.{size, align}
use Rattle.canonical_abi.proofs.Layouts.LeastPlaces.{le-next_multiple_of}
use Rattle.ranges.specs.Bytewise.{AreBytewise, AreTested, fields_cap, nodes_in}
use Rattle.ranges.proofs.CapsAndBlends.{field-before, field-within, field-after, cap-past}
use Rattle.values.proofs.FieldsFromAPlace.{fields_from, fields-next, fields-last}
use Rattle.ranges.specs.Plan.{IsBlank, Fills}

-- the caps of the first k fields, which end at `end`
pub record Filled (fs : Fields) (k end at : ℕ) (old now : List ℕ) (seen : ℕ) : Type 0 where
  pub bytewise : AreBytewise (fields_from k fs) → AreBytewise fs
  pub tested : ((m : List ℕ) (a : ℕ) → AreTested (fields_from k fs) m a end) → (m : List ℕ) (a : ℕ) → AreTested fs m a 0
  pub caps : (m : List ℕ) (a i : ℕ) → i < end → get_or now (at + i) 0 ≡ fields_cap fs m a 0 i
  pub others : (m : List ℕ) (a i : ℕ) → end ≤ i → fields_cap (fields_from k fs) m a end i ≡ fields_cap fs m a 0 i
  pub blank : IsBlank now (at + end)
  pub below : (i : ℕ) → i < at → get_or now i 0 ≡ get_or old i 0
  -- with the record itself
  pub visited : (m : List ℕ) (a : ℕ) → 1 + nodes_in fs m a 0 ≡ seen + nodes_in (fields_from k fs) m a end

module _ (fs : Fields) (k end at : ℕ) (old now new : List ℕ) (seen more : ℕ) (t : ClosedType) (next : nth_field fs k ≡ Some t) where
  abbrev start : ℕ
  start = next_multiple_of end (align t)

  abbrev rest : Fields
  rest = fields_from (k + 1) fs

  pub filled-next : Filled fs k end at old now seen → Fills t (at + start) now new more → Filled fs (k + 1) (start + size t) at old new (seen + more)
  filled-next f g =
      let e = fields-next fs k t next in
      let le = le-next_multiple_of end (align t) in
      record {
        bytewise = λ b. f.bytewise (rw e (g.bytewise, b));
        tested = λ b. f.tested (λ m a. rw e (g.tested m (a + start), b m a));
        caps = λ m a i h. by m a i h;
        others = λ m a i h. sym (field-after t rest m a end i h) ∙ (let o = f.others m a i (omega (arith, le, h)) in rw e at o);
        blank = λ i h. let j : at + start + (i - (at + start)) ≡ i = omega (arith, h) in
            let c = g.caps [] 0 (i - (at + start)) in
            rw j at c ∙ cap-past t [] 0 (i - (at + start)) (omega (arith, h));
        below = λ i h. g.below i (omega (arith, h)) ∙ f.below i h;
        visited = λ m a. (let v = f.visited m a in let w = rw e at v in omega (arith, w, g.visited m (a + start)));
      }
    where
      told : (m : List ℕ) (a i : ℕ) → end ≤ i → fields_cap (field t rest) m a end i ≡ fields_cap fs m a 0 i
      told m a i h = let e = fields-next fs k t next in let o = f.others m a i h in rw e at o

      by : (m : List ℕ) (a i : ℕ) → i < start + size t → get_or new (at + i) 0 ≡ fields_cap fs m a 0 i
      by m a i h =
          let le = le-next_multiple_of end (align t) in
          elim (cases_lt i start) [
            | inl b ↦ elim (cases_lt i end) [
              | inl c ↦ g.below (at + i) (omega (arith, b)) ∙ f.caps m a i c
              | inr c ↦ g.below (at + i) (omega (arith, b)) ∙ f.blank (at + i) (omega (arith, c)) ∙ sym (field-before t rest m a end i b) ∙ told m a i c
            ]
            | inr b ↦
                let j : at + start + (i - start) ≡ at + i = omega (arith, b) in
                let c = g.caps m (a + start) (i - start) in
                rw j at c ∙ sym (field-within t rest m a end i b h) ∙ told m a i (omega (arith, b, le))
          ]

pub filled-record : (fs : Fields) (n end at : ℕ) (old now : List ℕ) (seen : ℕ) → field_count fs ≡ n → Filled fs n end at old now seen → Fills (record_type fs) at old now seen
filled-record fs n end at old now seen counted f =
    let e = fields-last fs n counted in
    record {
      bytewise = f.bytewise (rw e tt);
      tested = λ m a. f.tested (λ m a. rw e tt) m a;
      caps = λ m a i. elim (cases_lt i end) [
        | inl h ↦ f.caps m a i h
        | inr g ↦ (let o = f.others m a i g in f.blank (at + i) (omega (arith, g)) ∙ rw e at o)
      ];
      below = f.below;
      visited = λ m a. (let v = f.visited m a in let w = rw e at v in omega (arith, w));
    }

pub zeros : (n i : ℕ) → let none : ℕ = 0 in get_or (replicate n none) i none ≡ none
zeros n i = elim (cases_lt i n) [
  | inl h ↦ get_or-replicate n i 0 0 h
  | inr g ↦ get_or_past (replicate n 0) i 0 (omega (arith, length-replicate {A = ℕ} n 0, g))
]
