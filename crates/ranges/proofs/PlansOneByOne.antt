-- Plans of one value after another.
use Rattle.std.proofs.Common.{◌≡◌, inl, inr, ℕ, ◌+◌, ◌-◌, ◌*◌, ◌<◌, ◌≤◌, List, [], ◌∷◌, ◌++◌, length, get_or, Some, refl, sym, ap, ◌∙◌, subst, arith}
use Rattle.std.specs.Int.{next_multiple_of}
use Rattle.std.proofs.lemmas.Bool.{cases_lt}
use Rattle.canonical_abi.specs.Types.{ClosedType, record_type, Fields, field, nth_field, field_count}
use Rattle.canonical_abi.specs.Layout.{size, align}
use Rattle.canonical_abi.proofs.Layouts.LeastPlaces.{le-next_multiple_of}
use Rattle.values.proofs.FieldsFromAPlace.{fields_from, fields-next, fields-last}
use Rattle.ranges.specs.Bytewise.{IsBytewise, AreBytewise, AreTested, cap_at, fields_cap, nodes_at, nodes_in, HasRows}
use Rattle.ranges.specs.Plan.{IsBlank, Fills}
use Rattle.ranges.specs.Columns.{case_in, laid, overlaid, HaveCases, column_nodes, AreBefore, planned_cap, planned_nodes, HasPlain, HasPlan, Plans}
use Rattle.ranges.specs.declared.columns.Column.{Column}
use Rattle.ranges.specs.declared.planned.Plan.{Plan}
use Rattle.ranges.proofs.CapsAndBlends.{field-before, field-within, field-after, cap-past}
use Rattle.ranges.proofs.ColumnsLaidOverCaps.{laid-before, laid-within, laid-after, laid-past, laid-last, cases-before, case-last, nodes-last, before-more, before-last}

-- nothing was planned from a place on
blank-cap : (p : Plan) (at : ℕ) → IsBlank p.plain.bytes at → AreBefore at p.columns.items → (m : List ℕ) (a i : ℕ) → at ≤ i → planned_cap p m a i ≡ 0
blank-cap p at blank before m a i h = laid-past p.columns.items m a at i _ before h ∙ blank i h

module _ (t : ClosedType) (at : ℕ) (old new : Plan) (same_size : new.plain.size ≡ old.plain.size) (blank : IsBlank old.plain.bytes at) (before : AreBefore at old.columns.items) where
  -- caps more
  pub plans-plain : (k : ℕ) → Fills t at old.plain.bytes new.plain.bytes k → new.columns.items ≡ old.columns.items → new.plain.nodes ≡ old.plain.nodes + k → Plans t at old new
  plans-plain k f same total = record {
    bytewise = f.bytewise;
    kept = λ m a h. subst (λ cs. HaveCases cs m a) same h;
    tested = λ m a h. f.tested m (a + at);
    caps = λ m a i h. laid-past new.columns.items m a at (at + i) _ still (omega arith) ∙ f.caps m (a + at) i;
    below = λ m a i h. ap (overlaid new.columns.items m a i) (f.below i h) ∙ ap (λ cs. overlaid cs m a i (get_or old.plain.bytes i 0)) same;
    visited = λ m a h. (let n = f.visited m (a + at) in let c = ap (λ cs. column_nodes cs m a) same in omega (arith, total, n, c));
    blank = λ i h. let j : at + (i - at) ≡ i = omega (arith, h) in
        let c = f.caps [] 0 (i - at) in
        rw j at c ∙ cap-past t [] 0 (i - at) (omega (arith, h));
    before = before-more new.columns.items at (at + size t) (omega arith) still;
    same_size = same_size;
  }
    where
      still : AreBefore at new.columns.items
      still = subst (AreBefore at) (sym same) before

  -- a column more
  pub plans-column : (c : Column) → c.at ≡ at → 0 < c.rows.size → c.rows.size ≤ 16 → c.rows.cases ≤ 16 → IsBytewise t → HasRows t c.rows.size c.rows.cases c.rows.caps c.rows.nodes
      → new.columns.items ≡ old.columns.items ++ c ∷ [] → new.plain.bytes ≡ old.plain.bytes → new.plain.nodes ≡ old.plain.nodes → Plans t at old new
  plans-column c is some short few bytewise has more same total = record {
    bytewise = bytewise;
    kept = λ m a h. cases-before c m a cs (good m a h);
    tested = λ m a h. rw is at (has.tested m (a + c.at) (case-last c m a cs (good m a h)));
    caps = λ m a i h. by m a i (case-last c m a cs (good m a h));
    below = λ m a i h. cap-of m a i ∙ laid-before c (case_in c m a) i _ (omega (arith, is, h));
    visited = λ m a h. (
        let e = ap (λ l. column_nodes l m a) more in
        let n = ap (λ x. nodes_at t m (a + x)) (sym is) ∙ has.nodes_are m (a + c.at) (case-last c m a cs (good m a h)) in
        let o = nodes-last c m a cs in
        omega (arith, total, e, o, n)
        );
    blank = λ i h. ap (λ l. get_or l i 0) same ∙ blank i (omega (arith, h));
    before = subst (AreBefore (at + size t)) (sym more) (before-last cs c at (at + size t) (omega arith) before (omega (arith, is, has.step_is), some, short, few, tt));
    same_size = same_size;
  }
    where
      cs : List Column
      cs = old.columns.items

      good : (m : List ℕ) (a : ℕ) → HaveCases new.columns.items m a → HaveCases (cs ++ c ∷ []) m a
      good m a h = subst (λ l. HaveCases l m a) more h

      cap-of : (m : List ℕ) (a i : ℕ) → planned_cap new m a i ≡ laid c (case_in c m a) i (planned_cap old m a i)
      cap-of m a i = ap (λ l. overlaid l m a i (get_or new.plain.bytes i 0)) more ∙ laid-last c m a cs i (get_or new.plain.bytes i 0) ∙ ap (λ l. laid c (case_in c m a) i (overlaid cs m a i (get_or l i 0))) same

      by : (m : List ℕ) (a i : ℕ) → case_in c m a < c.rows.cases → planned_cap new m a (at + i) ≡ cap_at t m (a + at) i
      by m a i low = elim (cases_lt i c.rows.size) [
        | inl h ↦
            let back : at + i - c.at ≡ i = omega (arith, is) in
            let n = case_in c m a in
            let row : laid c n (at + i) (planned_cap old m a (at + i)) ≡ get_or c.rows.caps (n * 16 + i) 0 =
            laid-within c n (at + i) (planned_cap old m a (at + i)) (omega (arith, is)) (omega (arith, is, h)) ∙ ap (λ x. get_or c.rows.caps (n * 16 + x) 0) back in
            let own = has.caps_are m (a + c.at) i low h in
            cap-of m a (at + i) ∙ row ∙ own ∙ ap (λ x. cap_at t m (a + x) i) is
        | inr h ↦
            cap-of m a (at + i) ∙ laid-after c (case_in c m a) (at + i) _ (omega (arith, is, h)) ∙ blank-cap old at blank before m a (at + i) (omega arith)
            ∙ sym (cap-past t m (a + at) i (omega (arith, has.step_is, h)))
      ]

-- the first k fields were planned, which end at `end`; the record itself is a node
pub record FieldsPlanned (fs : Fields) (k end at : ℕ) (old now : Plan) : Type 0 where
  pub bytewise : AreBytewise (fields_from k fs) → AreBytewise fs
  pub kept : (m : List ℕ) (a : ℕ) → HaveCases now.columns.items m a → HaveCases old.columns.items m a
  pub tested : (m : List ℕ) (a : ℕ) → HaveCases now.columns.items m a → AreTested (fields_from k fs) m (a + at) end → AreTested fs m (a + at) 0
  pub caps : (m : List ℕ) (a i : ℕ) → i < end → HaveCases now.columns.items m a → planned_cap now m a (at + i) ≡ fields_cap fs m (a + at) 0 i
  pub others : (m : List ℕ) (a i : ℕ) → end ≤ i → fields_cap (fields_from k fs) m a end i ≡ fields_cap fs m a 0 i
  pub below : (m : List ℕ) (a i : ℕ) → i < at → planned_cap now m a i ≡ planned_cap old m a i
  pub visited : (m : List ℕ) (a : ℕ) → HaveCases now.columns.items m a → planned_nodes old m a + 1 + nodes_in fs m (a + at) 0 ≡ planned_nodes now m a + nodes_in (fields_from k fs) m (a + at) end
  pub blank : IsBlank now.plain.bytes (at + end)
  pub before : AreBefore (at + end) now.columns.items
  pub same_size : now.plain.size ≡ old.plain.size

module _ (fs : Fields) (k end at : ℕ) (old now new : Plan) (t : ClosedType) (next : nth_field fs k ≡ Some t) where
  abbrev start : ℕ
  start = next_multiple_of end (align t)

  abbrev rest : Fields
  rest = fields_from (k + 1) fs

  pub planned-next : FieldsPlanned fs k end at old now → Plans t (at + start) now new → FieldsPlanned fs (k + 1) (start + size t) at old new
  planned-next f g =
      let e = fields-next fs k t next in
      let le = le-next_multiple_of end (align t) in
      record {
        bytewise = λ b. f.bytewise (rw e (g.bytewise, b));
        kept = λ m a h. f.kept m a (g.kept m a h);
        tested = λ m a h b. f.tested m a (g.kept m a h) (rw e (let one = g.tested m a h in let s : a + (at + start) ≡ a + at + start = omega arith in (rw s at one, b)));
        caps = λ m a i h b. by m a i h b;
        others = λ m a i h. sym (field-after t rest m a end i h) ∙ (let o = f.others m a i (omega (arith, le, h)) in rw e at o);
        below = λ m a i h. g.below m a i (omega (arith, h)) ∙ f.below m a i h;
        visited = λ m a h. (
            let v = f.visited m a (g.kept m a h) in
            let w = rw e at v in
            let n = g.visited m a h in
            let s : a + (at + start) ≡ a + at + start = omega arith in
            let o = rw s at n in
            omega (arith, w, o)
            );
        blank = (let s : at + start + size t ≡ at + (start + size t) = omega arith in rw s at g.blank);
        before = (let s : at + start + size t ≡ at + (start + size t) = omega arith in rw s at g.before);
        same_size = g.same_size ∙ f.same_size;
      }
    where
      told : (m : List ℕ) (a i : ℕ) → end ≤ i → fields_cap (field t rest) m a end i ≡ fields_cap fs m a 0 i
      told m a i h = let e = fields-next fs k t next in let o = f.others m a i h in rw e at o

      by : (m : List ℕ) (a i : ℕ) → i < start + size t → HaveCases new.columns.items m a → planned_cap new m a (at + i) ≡ fields_cap fs m (a + at) 0 i
      by m a i h good =
          let le = le-next_multiple_of end (align t) in
          elim (cases_lt i start) [
            | inl b ↦ elim (cases_lt i end) [
              | inl c ↦ g.below m a (at + i) (omega (arith, b)) ∙ f.caps m a i c (g.kept m a good)
              | inr c ↦ g.below m a (at + i) (omega (arith, b)) ∙ blank-cap now (at + end) f.blank f.before m a (at + i) (omega (arith, c)) ∙ sym (field-before t rest m (a + at) end i b) ∙ told m (a + at) i c
            ]
            | inr b ↦
                let j : at + start + (i - start) ≡ at + i = omega (arith, b) in
                let s : a + (at + start) ≡ a + at + start = omega arith in
                let c = g.caps m a (i - start) good in
                rw (j, s) at c ∙ sym (field-within t rest m (a + at) end i b h) ∙ told m (a + at) i (omega (arith, b, le))
          ]

pub planned-record : (fs : Fields) (n end at : ℕ) (old now : Plan) → field_count fs ≡ n → at + end ≤ at + size (record_type fs) → FieldsPlanned fs n end at old now → Plans (record_type fs) at old now
planned-record fs n end at old now counted fits f =
    let e = fields-last fs n counted in
    record {
      bytewise = f.bytewise (rw e tt);
      kept = f.kept;
      tested = λ m a h. f.tested m a h (rw e tt);
      caps = λ m a i h. elim (cases_lt i end) [
        | inl b ↦ f.caps m a i b h
        | inr g ↦ (let o = f.others m (a + at) i g in blank-cap now (at + end) f.blank f.before m a (at + i) (omega (arith, g)) ∙ rw e at o)
      ];
      below = f.below;
      visited = λ m a h. (let v = f.visited m a h in let w = rw e at v in omega (arith, w));
      blank = λ i h. f.blank i (omega (arith, h, fits));
      before = before-more now.columns.items (at + end) (at + size (record_type fs)) fits f.before;
      same_size = f.same_size;
    }

-- the plan of a whole element
pub planned-whole : (t : ClosedType) (old new : Plan) → old.plain.size ≡ size t → old.plain.nodes ≡ 0 → old.columns.items ≡ [] → Plans t 0 old new → HasPlan t new
planned-whole t old new sized none empty p = record {
  step_is = p.same_size ∙ sized;
  bytewise = p.bytewise;
  tested = λ m a h. (let here : a + 0 ≡ a = omega arith in let g = p.tested m a h in rw here at g);
  caps_are = λ m a i h. (let here : a + 0 ≡ a = omega arith in let byte : 0 + i ≡ i = omega arith in let g = p.caps m a i h in rw (here, byte) at g);
  nodes_are = λ m a h. (
      let here : a + 0 ≡ a = omega arith in
      let g = p.visited m a h in
      let v = rw here at g in
      let nothing = ap (λ cs. column_nodes cs m a) empty in
      omega (arith, v, none, nothing)
      );
}

none-left : (cs : List Column) → length cs ≡ 0 → cs ≡ []
none-left [] e = refl
none-left (c ∷ cs) e = absurd (omega (arith, e))

-- an element without variants
pub planned-plain : (t : ClosedType) (p : Plan) → length p.columns.items ≡ 0 → HasPlan t p → HasPlain t p.plain
planned-plain t p short has = record {
  bytewise = has.bytewise;
  tested = λ m a. has.tested m a (none m a);
  caps_are = record {
    step_is = has.step_is;
    caps_are = λ m a i h. sym (ap (λ cs. overlaid cs m a i (get_or p.plain.bytes i 0)) empty) ∙ has.caps_are m a i (none m a);
  };
  nodes_are = λ m a. (let nothing = ap (λ cs. column_nodes cs m a) empty in let n = has.nodes_are m a (none m a) in omega (arith, n, nothing));
}
  where
    empty : p.columns.items ≡ []
    empty = none-left p.columns.items short

    none : (m : List ℕ) (a : ℕ) → HaveCases p.columns.items m a
    none m a = subst (λ cs. HaveCases cs m a) (sym empty) tt
