-- The types of a table are made of what `Nodes` says of their kinds.
use Rattle.std.proofs.Common.{◌≡◌, ℕ, Bool, true, false, IsTrue, List, [], ◌∷◌, map, length, Option, Some, None, refl, ap, sym, ◌∙◌}
use Rattle.std.specs.Option.{option_map}
use Rattle.canonical_abi.specs.Types.{ClosedType, field, record_type, variant_type, flags_type, plain_case, case_with}
use Rattle.canonical_abi.specs.Labelled.{Label, LabelledType, labelled_record, ok_label, error_label, closed, closed_members, closed_fields, closed_cases, closed_payload, plain_cases}
use Rattle.tables.specs.declared.tables.ValType.{ValType}
use Rattle.tables.specs.declared.tables.TypeDefKind.{TypeDefKind}
use Rattle.tables.specs.declared.tables.TypeDefKind.TheVariants as kind
use Rattle.tables.specs.declared.tables.Field.{Field}
use Rattle.tables.specs.declared.tables.Case.{Case}
use Rattle.tables.specs.declared.tables.Parameter.{Parameter}
use Rattle.tables.specs.Labelled.{labelled_val, labelled_payload, labelled_members, labelled_fields, labelled_cases, labelled_params, labelled_kind}
use Rattle.package_changes.specs.declared.type_nodes.Spelling.TheVariants as spelled
use Rattle.package_changes.specs.Forms.{node_form, bare, part, form_of, field_labels, case_labels, bare_parts, member_parts, payload_part, field_parts, case_parts}
use Rattle.package_changes.specs.Nodes.{spelling_of, labels_of, parts_of}
use Rattle.package_changes.specs.Comparing.{is_own}
use Rattle.package_changes.proofs.TypesByParts.{parts_form, part_fields, part_cases, AllThere, IsMadeOf}

module _ (rows : List LabelledType) where
  -- the labelled types of parts
  abbrev typed : List (Option ValType) → List (Option LabelledType)
  typed ps = map (option_map (labelled_val rows)) ps

  all-there : {A : Type 0} (ty : A → ValType) (xs : List A) → AllThere (typed (map (λ x. Some (ty x)) xs))
  all-there ty [] = tt
  all-there ty (x ∷ xs) = all-there ty xs

  members-form : (vs : List ValType) → member_parts (labelled_members rows vs) ≡ parts_form (typed (map (λ v. Some v) vs))
  members-form [] = refl
  members-form (v ∷ vs) = ap (part (form_of (labelled_val rows v))) (members-form vs)

  members-closed : (vs : List ValType) → closed_members (labelled_members rows vs) ≡ part_fields (typed (map (λ v. Some v) vs))
  members-closed [] = refl
  members-closed (v ∷ vs) = ap (field (closed (labelled_val rows v))) (members-closed vs)

  fields-form : (fs : List Field) → field_parts (labelled_fields rows fs) ≡ parts_form (typed (map (λ f. Some f.ty) fs))
  fields-form [] = refl
  fields-form (f ∷ fs) = ap (part (form_of (labelled_val rows f.ty))) (fields-form fs)

  fields-closed : (fs : List Field) → closed_fields (labelled_fields rows fs) ≡ part_fields (typed (map (λ f. Some f.ty) fs))
  fields-closed [] = refl
  fields-closed (f ∷ fs) = ap (field (closed (labelled_val rows f.ty))) (fields-closed fs)

  fields-labels : (fs : List Field) → field_labels (labelled_fields rows fs) ≡ map (λ f. f.name) fs
  fields-labels [] = refl
  fields-labels (f ∷ fs) = ap (λ (ls : List Label). f.name ∷ ls) (fields-labels fs)

  params-form : (ps : List Parameter) → field_parts (labelled_params rows ps) ≡ parts_form (typed (map (λ p. Some p.ty) ps))
  params-form [] = refl
  params-form (p ∷ ps) = ap (part (form_of (labelled_val rows p.ty))) (params-form ps)

  params-closed : (ps : List Parameter) → closed_fields (labelled_params rows ps) ≡ part_fields (typed (map (λ p. Some p.ty) ps))
  params-closed [] = refl
  params-closed (p ∷ ps) = ap (field (closed (labelled_val rows p.ty))) (params-closed ps)

  params-labels : (ps : List Parameter) → field_labels (labelled_params rows ps) ≡ map (λ p. p.name) ps
  params-labels [] = refl
  params-labels (p ∷ ps) = ap (λ (ls : List Label). p.name ∷ ls) (params-labels ps)

  payload-form : (v : Option ValType) (qs : List (Option LabelledType)) → payload_part (labelled_payload rows v) (parts_form qs) ≡ parts_form (option_map (labelled_val rows) v ∷ qs)
  payload-form None qs = refl
  payload-form (Some v) qs = refl

  payload-closed : (v : Option ValType) (qs : List (Option LabelledType)) → closed_payload (labelled_payload rows v) (part_cases qs) ≡ part_cases (option_map (labelled_val rows) v ∷ qs)
  payload-closed None qs = refl
  payload-closed (Some v) qs = refl

  cases-form : (cs : List Case) → case_parts (labelled_cases rows cs) ≡ parts_form (typed (map (λ c. c.ty) cs))
  cases-form [] = refl
  cases-form (c ∷ cs) = ap (payload_part (labelled_payload rows c.ty)) (cases-form cs) ∙ payload-form c.ty (typed (map (λ (c : Case). c.ty) cs))

  cases-closed : (cs : List Case) → closed_cases (labelled_cases rows cs) ≡ part_cases (typed (map (λ c. c.ty) cs))
  cases-closed [] = refl
  cases-closed (c ∷ cs) = ap (closed_payload (labelled_payload rows c.ty)) (cases-closed cs) ∙ payload-closed c.ty (typed (map (λ (c : Case). c.ty) cs))

  cases-labels : (cs : List Case) → case_labels (labelled_cases rows cs) ≡ map (λ c. c.name) cs
  cases-labels [] = refl
  cases-labels (c ∷ cs) = ap (λ (ls : List Label). c.name ∷ ls) (cases-labels cs)

  names-form : (ls : List Label) → bare_parts ls ≡ parts_form (typed (map (λ l. None) ls))
  names-form [] = refl
  names-form (l ∷ ls) = ap bare (names-form ls)

  names-closed : (ls : List Label) → plain_cases ls ≡ part_cases (typed (map (λ l. None) ls))
  names-closed [] = refl
  names-closed (l ∷ ls) = ap plain_case (names-closed ls)

  pub kind-made : (k : TypeDefKind) → IsTrue (is_own k) → IsMadeOf (labelled_kind rows k) (spelling_of k) (labels_of k) (map (option_map (labelled_val rows)) (parts_of k))
  kind-made (kind.Use t) own = absurd (cc)
  kind-made (kind.Alias v) own = absurd (cc)
  kind-made (kind.List v) own = record { form = refl; shape = refl; fit = tt }
  kind-made (kind.Option v) own = record { form = refl; shape = refl; fit = tt }
  kind-made (kind.Result ok error) own =
      let last = option_map (labelled_val rows) error ∷ [] in
      record {
        form = ap (λ ps. node_form spelled.Result (ok_label ∷ error_label ∷ []) (payload_part (labelled_payload rows ok) ps)) (payload-form error [])
            ∙ ap (node_form spelled.Result (ok_label ∷ error_label ∷ [])) (payload-form ok last);
        shape = ap (λ cs. variant_type (closed_payload (labelled_payload rows ok) cs)) (payload-closed error []) ∙ ap variant_type (payload-closed ok last);
        fit = tt;
      }
  kind-made (kind.Tuple vs) own = record { form = ap (node_form spelled.Tuple []) (members-form vs); shape = ap record_type (members-closed vs); fit = all-there (λ v. v) vs }
  kind-made (kind.Record fs) own = record {
    form = ap (λ ls. node_form spelled.Record ls (field_parts (labelled_fields rows fs))) (fields-labels fs) ∙ ap (node_form spelled.Record (map (λ (f : Field). f.name) fs)) (fields-form fs);
    shape = ap record_type (fields-closed fs);
    fit = all-there (λ (f : Field). f.ty) fs;
  }
  kind-made (kind.Variant cs) own = record {
    form = ap (λ ls. node_form spelled.Variant ls (case_parts (labelled_cases rows cs))) (cases-labels cs) ∙ ap (node_form spelled.Variant (map (λ (c : Case). c.name) cs)) (cases-form cs);
    shape = ap variant_type (cases-closed cs);
    fit = tt;
  }
  kind-made (kind.Enum names) own = record { form = ap (node_form spelled.Enum names) (names-form names); shape = ap variant_type (names-closed names); fit = tt }
  kind-made (kind.Flags names) own = record { form = refl; shape = refl; fit = tt }

  -- a function's parameters are made as a record is
  pub parameters-made : (ps : List Parameter)
      → IsMadeOf (labelled_record (labelled_params rows ps)) spelled.Record (map (λ p. p.name) ps) (map (option_map (labelled_val rows)) (map (λ p. Some p.ty) ps))
  parameters-made ps = record {
    form = ap (λ ls. node_form spelled.Record ls (field_parts (labelled_params rows ps))) (params-labels ps) ∙ ap (node_form spelled.Record (map (λ (p : Parameter). p.name) ps)) (params-form ps);
    shape = ap record_type (params-closed ps);
    fit = all-there (λ (p : Parameter). p.ty) ps;
  }
