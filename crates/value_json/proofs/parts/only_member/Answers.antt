use Rattle.std.proofs.Common.{◌≡◌, ℕ, List, Option, Some, None, option_map, Bor, length, sym, ap, ◌∙◌}
use Rattle.std.specs.Prelude.{IfSome, IfNone}
use Rattle.serde_json.specs.Data.{Data, object}
use Rattle.serde_json.specs.Events.{members_len}
use Rattle.serde_json.specs.Find.{get, get_member}
use Rattle.serde_json.specs.View.{view, members_view}
use Rattle.serde_json.specs.declared.value.Value.{Value}
use Rattle.serde_json.proofs.Views.{members_len-members_view}
use Rattle.value_json.specs.Json.{one_member}
use Rattle.value_json.proofs.JsonAsData.{object-is, single-found, single-get, one-long}
use Rattle.value_json.proofs.parts.only_member.Goals as goal

found-some : (r : Option (Bor Value)) (json : Data) (l : List ℕ) (es : _) → json ≡ object (members_view es) → length es ≡ 1
    → option_map (λ v. view v.now) r ≡ get l json → IfSome r (λ d. json ≡ one_member l (view d.now))
found-some None json l es is one e = tt
found-some (Some d) json l es is one e =
    let found : get_member l (members_view es) ≡ Some (view d.now) = sym (e ∙ ap (get l) is) in
    is ∙ single-found (members_view es) l (view d.now) (members_len-members_view es ∙ one) found

found-none : (r : Option (Bor Value)) (json : Data) (l : List ℕ)
    → option_map (λ v. view v.now) r ≡ get l json → IfNone r ((d : Data) → json ≡ one_member l d → ⊥)
found-none None json l e = λ d is. let some : None ≡ Some d = e ∙ ap (get l) is ∙ single-get l d in absurd (cc)
found-none (Some d) json l e = tt

pub returns-then-len-ne1-clause-none : goal.returns-then-len-ne1-clause-none
returns-then-len-ne1-clause-none c = λ d is.
    let same : object (members_view c.in_ok-object.object.now.entries) ≡ one_member c.args.label.now d = sym (object-is _ _ c.in_ok-object.ensures) ∙ is in
    let len : members_len (members_view c.in_ok-object.object.now.entries) ≡ 1 = one-long _ _ _ same in
    c.if-len-ne1.true (c.len.ensures.len ∙ sym (members_len-members_view c.in_ok-object.object.now.entries) ∙ len)

pub returns-clause-some : goal.returns-clause-some
returns-clause-some c = found-some c.get.result _ _ c.in_ok-object.object.now.entries (object-is _ _ c.in_ok-object.ensures) (sym c.len.ensures.len ∙ c.if-len-ne1.false) c.get.ensures

pub returns-clause-none : goal.returns-clause-none
returns-clause-none c = found-none c.get.result _ _ c.get.ensures
