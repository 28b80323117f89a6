-- Uses, one by one.
use Rattle.std.proofs.Common.{◌≡◌, List, [], ◌∷◌, ◌++◌}
use Rattle.std.specs.Prelude.{All, IsTrue}
use Rattle.std.proofs.lemmas.List.Elements.{All-push}
use Rattle.wit_names.specs.declared.file.File.{File}
use Rattle.wit_names.specs.declared.name.Site.{Site}
use Rattle.wit_names.specs.declared.places.Declaration.{Declaration}
use Rattle.wit_names.specs.Sites.{is_site}
use Rattle.wit_targets.specs.declared.target.Use.{Use}
use Rattle.wit_targets.specs.Meaning.{is_spelled}

-- one more use, at a name
pub one_more_site : (fs : List File) (us after : List Use) (u : Use) (s : Site) → after ≡ us ++ u ∷ [] → u.site ≡ s → IsTrue (is_site fs s) → All (λ (v : Use). IsTrue (is_site fs v.site)) us → All (λ (v : Use). IsTrue (is_site fs v.site)) after
one_more_site fs us after u s e at is all = rw e (All-push (λ (v : Use). IsTrue (is_site fs v.site)) us u all (rw at is))

-- one more use, which is spelled as what it means
pub one_more_spelled : (fs : List File) (ds : List Declaration) (us after : List Use) (u : Use) → after ≡ us ++ u ∷ [] → IsTrue (is_spelled fs ds u.site u.target) → All (λ (v : Use). IsTrue (is_spelled fs ds v.site v.target)) us → All (λ (v : Use). IsTrue (is_spelled fs ds v.site v.target)) after
one_more_spelled fs ds us after u e is all = rw e (All-push (λ (v : Use). IsTrue (is_spelled fs ds v.site v.target)) us u all is)
