-- A list of steps of a session: none taken yet, and one more.
use Rattle.std.proofs.Common.{◌≡◌, ℕ, ◌+◌, ◌-◌, ◌<◌, arith, length-drop, List, [], ◌∷◌, ◌++◌, length, map, take, drop, get_or, refl, sym, ap, ◌∙◌, subst, append_assoc}
use Rattle.std.specs.List.{All}
use Rattle.std.proofs.Math.Seq.{drop-append_seam, take-length}
use Rattle.std.proofs.lemmas.List.{append-nil, map-append, take_all, take_more}
use Rattle.std.proofs.lemmas.List.Elements.{All-nil, All-push}
use Rattle.canonical_abi.specs.Call.{Parties, CallState, exact}
use Rattle.canonical_abi.specs.Guest.{Release}
use Rattle.canonical_abi.specs.Session.{TakesStep, RunsSession}
use Rattle.canonical_abi.proofs.Sessions.RunsWithOneStepMore.{runs-longer}
use Rattle.tables.specs.declared.tables.Resolve.{Resolve}
use Rattle.witcall.specs.Steps.{AreOfSteps, IsKnownAnswer, IsOfStep, answer_of, step_of, RunsSteps}
use Rattle.witcall.specs.declared.steps.Answer.{Answer}
use Rattle.witcall.specs.declared.steps.Step.{Step}

types_more : (steps : List Step) (answers : List Answer) (s : Step) (a : Answer) → AreOfSteps steps answers → IsOfStep s a
    → AreOfSteps (steps ++ s ∷ []) (answers ++ a ∷ [])
types_more [] [] s a h e = (e, tt)
types_more [] (b ∷ answers) s a h e = absurd h
types_more (t ∷ steps) [] s a h e = absurd h
types_more (t ∷ steps) (b ∷ answers) s a h e = (h.0, types_more steps answers s a h.1 e)

module _ (parties : Parties) (caller_releases : Release) (r : Resolve) (steps : List Step) (before : List Answer) (old : CallState) where
  pub none_ran : RunsSteps parties caller_releases r [] before old before old
  none_ran = record {
    made = [];
    appended = sym (append-nil before);
    known = All-nil (IsKnownAnswer r);
    types = tt;
    run = (refl, refl);
  }

  -- the answers of this run are those behind the ones that were there
  pub made_is : (n : ℕ) (items : List Answer) (now : CallState) (ran : RunsSteps parties caller_releases r (take n steps) before old items now) → drop (length before) items ≡ ran.made
  made_is n items now ran = ap (λ xs. drop (length before) xs) ran.appended ∙ drop-append_seam before ran.made

  pub known_so_far : (n : ℕ) (items : List Answer) (now : CallState) → RunsSteps parties caller_releases r (take n steps) before old items now
      → All (IsKnownAnswer r) (drop (length before) items)
  known_so_far n items now ran = subst (All (IsKnownAnswer r)) (sym (made_is n items now ran)) ran.known

  pub one_more : (n : ℕ) (items : List Answer) (now : CallState) (s : Step) (a : Answer) (new : CallState) → n < length steps → s ≡ get_or steps n s
      → RunsSteps parties caller_releases r (take n steps) before old items now
      → TakesStep parties caller_releases exact (map (answer_of r) (drop (length before) items)) now (step_of r s) (answer_of r a) new → IsKnownAnswer r a → IsOfStep s a
      → RunsSteps parties caller_releases r (take (n + 1) steps) before old (items ++ a ∷ []) new
  one_more n items now s a new less is ran taken known of_type =
      let first = take n steps in
      let more : take (n + 1) steps ≡ first ++ s ∷ [] = take_more steps n s less ∙ ap (λ x. first ++ x ∷ []) (sym is) in
      let here : TakesStep parties caller_releases exact (map (answer_of r) ran.made) now (step_of r s) (answer_of r a) new =
      subst (λ xs. TakesStep parties caller_releases exact (map (answer_of r) xs) now (step_of r s) (answer_of r a) new) (made_is n items now ran) taken in
      let longer = runs-longer parties caller_releases exact [] old now (map (step_of r) first) (map (answer_of r) ran.made) (step_of r s) (answer_of r a) new ran.run here in
      let answers : map (answer_of r) (ran.made ++ a ∷ []) ≡ map (answer_of r) ran.made ++ answer_of r a ∷ [] = map-append (answer_of r) ran.made (a ∷ []) in
      let moves : map (step_of r) (take (n + 1) steps) ≡ map (step_of r) first ++ step_of r s ∷ [] = ap (map (step_of r)) more ∙ map-append (step_of r) first (s ∷ []) in
      record {
        made = ran.made ++ a ∷ [];
        appended = ap (λ xs. xs ++ a ∷ []) ran.appended ∙ append_assoc before ran.made (a ∷ []);
        known = All-push (IsKnownAnswer r) ran.made a ran.known known;
        types = subst (λ ss. AreOfSteps ss (ran.made ++ a ∷ [])) (sym more) (types_more first ran.made s a ran.types of_type);
        run = subst (λ ss. RunsSession parties caller_releases exact [] old ss (map (answer_of r) (ran.made ++ a ∷ [])) new) (sym moves)
            (subst (λ xs. RunsSession parties caller_releases exact [] old (map (step_of r) first ++ step_of r s ∷ []) xs new) (sym answers) longer);
      }

  pub all_ran : (n : ℕ) (items : List Answer) (now : CallState) → n ≡ length steps → RunsSteps parties caller_releases r (take n steps) before old items now
      → RunsSteps parties caller_releases r steps before old items now
  all_ran n items now is ran =
      let whole : take n steps ≡ steps = ap (λ k. take k steps) is ∙ take-length steps in
      subst (λ ss. RunsSteps parties caller_releases r ss before old items now) whole ran

-- what stands from a place to the end, as a slice of it
pub to_the_end : {A : Type 0} (n : ℕ) (xs : List A) → take (length xs - n) (drop n xs) ≡ drop n xs
to_the_end n xs = take_all (length xs - n) (drop n xs) (let e = length-drop n xs in omega (arith, e))
