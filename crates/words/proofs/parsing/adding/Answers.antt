use Rattle.std.proofs.Common.{◌≡◌, ap, ap₂, sym, ◌∙◌, map, take, get_or, ◌+◌, ◌++◌, ◌∷◌, ◌||◌, [], List, ℕ}
use Rattle.std.proofs.lemmas.List.{map_more, map-append}
use Rattle.std.specs.Borrow.{Bor}
use Rattle.clap.specs.Walk.{Rule}
use Rattle.clap.specs.Simple.{with_rule}
use Rattle.words.specs.Earlier.{lent_texts}
use Rattle.words.specs.Reader.{required, with_words}
use Rattle.words.proofs.parsing.adding.Goals as goal

pub loop-word-preserved : goal.loop-word-preserved
loop-word-preserved c =
    let word = get_or c.args.words.now c.loop-word.word-index (record { ref_ptr = (0, 0); now = [] }) in
    let words : lent_texts (take (c.loop-word.word-index + 1) c.args.words.now) ≡ lent_texts (take c.loop-word.word-index c.args.words.now) ++ word.now ∷ [] =
    map_more (λ (w : Bor (List ℕ)). w.now) c.args.words.now c.loop-word.word-index (record { ref_ptr = (0, 0); now = [] }) c.loop-word-test.true in
    let rules : map required (lent_texts (take (c.loop-word.word-index + 1) c.args.words.now)) ≡ map required (lent_texts (take c.loop-word.word-index c.args.words.now)) ++ required word.now ∷ [] =
    ap (map required) words ∙ map-append required (lent_texts (take c.loop-word.word-index c.args.words.now)) (word.now ∷ []) in (
      c.in_ok-command.ensures.shape c.required_word.ensures.own ∙ ap₂ with_rule c.loop-word.invariant.0 c.required_word.ensures.rule
          ∙ ap (λ (rs : List Rule). record { top = record (with_words c.args.name.now []) { rules = rs }; subs = [] }) (sym rules),
      c.in_ok-command.ensures.globals ∙ ap₂ (λ a b. a || b) c.loop-word.invariant.1 c.required_word.ensures.own,
    )
