use Rattle.std.proofs.Common.{ℕ, ◌+◌, ltb, arith}
use Rattle.std.proofs.lemmas.Simd.{length-chunk, zip2_of_maps, splat_is_map}
use lib.Lanes.{chunk}
use Rattle.wit_tokens.proofs.LanesOfWords.{lane, pairs, length-pairs, firsts, seconds, go_on}
use Rattle.wit_tokens.proofs.lanes.lanes_on.Goals as goal

pub returns : goal.returns
returns c =
    let text = c.args.text.now in
    let at = c.args.at in
    let xs = chunk at 16 text in
    let ys = chunk (at + 1) 16 text in
    let long = length-chunk at 16 text (omega arith) in
    let wide = length-chunk (at + 1) 16 text (omega arith) in
    let vs = pairs xs ys in
    let count = length-pairs xs ys 16 long wide in
    let before = firsts xs ys 16 long wide in
    let here = seconds xs ys 16 long wide in
    go_on text at _ _ c.requires c.first_set.ensures
    (zip2_of_maps {X = ℕ} {Y = ℕ} {Z = ℕ} _ _ _ vs
    (zip2_of_maps {X = ℕ} {Y = ℕ} {Z = ℕ} _ _ _ vs (zip2_of_maps {X = ℕ} {Y = ℕ} {Z = ℕ} _ _ _ vs here (splat_is_map vs 16 97 count)) (zip2_of_maps {X = ℕ} {Y = ℕ} {Z = ℕ} (λ (a b : ℕ). lane (ltb a b)) _ _ vs (splat_is_map vs 16 122 count) here))
    (zip2_of_maps {X = ℕ} {Y = ℕ} {Z = ℕ} _ _ _ vs
    (zip2_of_maps {X = ℕ} {Y = ℕ} {Z = ℕ} _ _ _ vs
    (zip2_of_maps {X = ℕ} {Y = ℕ} {Z = ℕ} _ _ _ vs (zip2_of_maps {X = ℕ} {Y = ℕ} {Z = ℕ} _ _ _ vs here (splat_is_map vs 16 48 count)) (zip2_of_maps {X = ℕ} {Y = ℕ} {Z = ℕ} (λ (a b : ℕ). lane (ltb a b)) _ _ vs (splat_is_map vs 16 57 count) here))
    (zip2_of_maps {X = ℕ} {Y = ℕ} {Z = ℕ} _ _ _ vs here (splat_is_map vs 16 45 count)))
    (zip2_of_maps {X = ℕ} {Y = ℕ} {Z = ℕ} _ _ _ vs before (splat_is_map vs 16 45 count))))
