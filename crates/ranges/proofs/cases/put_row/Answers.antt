use Rattle.std.proofs.Common.{◌≡◌, inl, inr, ◌+◌, ◌-◌, ◌*◌, get_or, ap, ◌∙◌, arith}
use Rattle.std.proofs.lemmas.Bool.{cases_lt}
use Rattle.ranges.proofs.cases.put_row.Goals as goal

pub returns-else-width-le8-clause-put : goal.returns-else-width-le8-clause-put
returns-else-width-le8-clause-put c = λ j h.
    let one = c.put_word-else-width-le8.ensures in
    let two = c.put_word-else-width-le8-2.ensures in
    elim (cases_lt j 8) [
      | inl low ↦ two.below (c.args.at + j) (omega (arith, low)) ∙ one.put j low ∙ c.word_of-first.ensures j low
      | inr high ↦
          let at : c.args.at + 8 + (j - 8) ≡ c.args.at + j = omega (arith, high) in
          let of : c.args.row * 16 + 8 + (j - 8) ≡ c.args.row * 16 + j = omega (arith, high) in
          let put = two.put (j - 8) (omega (arith, h, high)) in
          rw at at put ∙ c.word_of-second.ensures (j - 8) (omega (arith, h, high, c.requires.short)) ∙ ap (λ x. get_or c.args.rows.now x 0) of
    ]
