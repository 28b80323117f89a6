use Rattle.std.proofs.Common.{◌≡◌, ◌^◌, ◌%◌, [], ◌∷◌, refl, ap, ◌∙◌, arith}
use Rattle.std.proofs.Math.Nat.{mod-lt}
use Rattle.std.proofs.Math.Pow.{pow_pos}
use Rattle.canonical_abi.specs.Values.{flags_value}
use Rattle.canonical_abi.specs.Layout.{flags_size}
use Rattle.canonical_abi.specs.Reading.{number_at, byte_width}
use Rattle.canonical_abi.specs.Trace.{write}
use Rattle.crossing.proofs.leaves.cross_flags.Goals as goal

pub returns : goal.returns
returns g c =
    let m = c.args.source.now in
    let size : c.flags_bytes-width.result ≡ flags_size c.args.labels = c.flags_bytes-width.ensures.value in
    let bits = number_at m c.args.at.from (byte_width (flags_size c.args.labels)) in
    let low : c.low_flags.result ≡ bits % 2 ^ c.args.labels =
    c.low_flags.ensures ∙ ap (λ b. b % 2 ^ c.args.labels) (c.number_of_size-bits.ensures ∙ ap (λ w. number_at m c.args.at.from (byte_width w)) size) in
    let led = rw (size, low) at c.write_number.ensures.led in
    λ n. record {
      events = write c.args.at.to _ ∷ [];
      scripted = (flags_value (bits % 2 ^ c.args.labels), refl, (bits % 2 ^ c.args.labels, refl, mod-lt _ (pow_pos c.args.labels), refl));
      leads = (g.G.Guest.memory c.write_number.new.guest, led, refl);
      no_shorter = omega (arith, c.write_number.ensures.same_length);
      counted = omega arith;
    }
