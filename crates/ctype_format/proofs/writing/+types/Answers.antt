use Rattle.std.proofs.Common.{◌≡◌, [], ◌∷◌, ap, subst, sym, ◌∙◌, append_assoc}
use Rattle.std.proofs.lemmas.Result.{on_ok_weaker}
use Rattle.ctype_format.specs.declared.raw.RawType.{RawType}
use Rattle.ctype_format.specs.View.{type_view, decl_view}
use Rattle.ctype_format.specs.Writing.{counted, type_bytes, decl_bytes}
use Rattle.ctype_format.specs.Formed.{FormedType}
use Rattle.ctype_format.proofs.WrittenDeclarationsAsLists.{bytes-Component, bytes-Instance, formed-Component, formed-Instance}
use Rattle.ctype_format.proofs.writing.+types.Goals as goal

pub put_type-returns-in_ok-push-in-Component-clause-bytes : goal.put_type-returns-in_ok-push-in-Component-clause-bytes
put_type-returns-in_ok-push-in-Component-clause-bytes t c =
    let all = counted (λ d. decl_bytes (decl_view d)) c.in-Component.decls.items in
    let bytes : type_bytes (type_view c.args.ty.now) ≡ 0x41 ∷ all = ap (λ (u : RawType). type_bytes (type_view u)) c.in-Component.is ∙ bytes-Component c.in-Component.decls in
    on_ok_weaker c.put_decls.result (λ e. e ∙ rw (c.as_slice.ensures.value, c.in_ok-push-in-Component.ensures.items, bytes) (append_assoc c.args.out.now.items (0x41 ∷ []) all)) c.put_decls.ensures.bytes

pub put_type-returns-in_ok-push-in-Component-clause-formed : goal.put_type-returns-in_ok-push-in-Component-clause-formed
put_type-returns-in_ok-push-in-Component-clause-formed t c =
    on_ok_weaker c.put_decls.result (λ h. subst (λ (u : RawType). FormedType (type_view u)) (sym c.in-Component.is) (formed-Component c.in-Component.decls (rw c.as_slice.ensures.value at h))) c.put_decls.ensures.formed

pub put_type-returns-in_ok-push-in-Instance-clause-bytes : goal.put_type-returns-in_ok-push-in-Instance-clause-bytes
put_type-returns-in_ok-push-in-Instance-clause-bytes t c =
    let all = counted (λ d. decl_bytes (decl_view d)) c.in-Instance.decls.items in
    let bytes : type_bytes (type_view c.args.ty.now) ≡ 0x42 ∷ all = ap (λ (u : RawType). type_bytes (type_view u)) c.in-Instance.is ∙ bytes-Instance c.in-Instance.decls in
    on_ok_weaker c.put_decls-in-Instance.result (λ e. e ∙ rw (c.as_slice-in-Instance.ensures.value, c.in_ok-push-in-Instance.ensures.items, bytes) (append_assoc c.args.out.now.items (0x42 ∷ []) all)) c.put_decls-in-Instance.ensures.bytes

pub put_type-returns-in_ok-push-in-Instance-clause-formed : goal.put_type-returns-in_ok-push-in-Instance-clause-formed
put_type-returns-in_ok-push-in-Instance-clause-formed t c =
    on_ok_weaker c.put_decls-in-Instance.result (λ h. subst (λ (u : RawType). FormedType (type_view u)) (sym c.in-Instance.is) (formed-Instance c.in-Instance.decls (rw c.as_slice-in-Instance.ensures.value at h))) c.put_decls-in-Instance.ensures.formed
