use Rattle.std.proofs.Common.{rules, ◌≡◌, IfSome, inl, refl, sym, ◌∙◌}
use Rattle.c_border.specs.declared.line.Line.{Line}
use Rattle.c_border.proofs.LinesInArrays.{told, cut, when-ok}
use Rattle.c_border.proofs.line.tell_line.Goals as goal

pub returns-then-room-count-clause-told : goal.returns-then-room-count-clause-told
returns-then-room-count-clause-told g c =
    let wrote = when-ok _ (sym c.is_err-has_failed.ensures.value ∙ c.if-has_failed.false) c.write.ensures.writes in
    inl (cut (λ w. w.out.now) (λ w. w.count) (λ w. w.out.ghost_name) _ (λ s bs t r. r.0) (λ s bs t r. r.1) (λ s bs t r. r.2) (g.T.Display.output c.args.shown.now) _ _ _ (λ same. search rules) refl (search rules) wrote (search rules))

pub returns-clause-told : goal.returns-clause-told
returns-clause-told g c =
    let wrote = when-ok _ (sym c.is_err-has_failed.ensures.value ∙ c.if-has_failed.false) c.write.ensures.writes in
    inl (told (λ w. w.out.now) (λ w. w.count) (λ w. w.out.ghost_name) _ (λ s bs t r. r.0) (λ s bs t r. r.1) (λ s bs t r. r.2) (g.T.Display.output c.args.shown.now) _ _ _ (λ same. search rules) refl (search rules) wrote (search rules))
