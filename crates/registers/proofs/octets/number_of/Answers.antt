use Rattle.std.proofs.Common.{◌≡◌, ◌*◌, ◌%◌, ◌^◌, ℕ, List, take, min, length, rules, reverse, fold, ap, ◌∙◌, arith, length-take, get_or-take, get_or, ◌<◌, ◌≤◌}
use lib.Bits.{bit_or}
use Rattle.stream.specs.Bits.{octet_bits, packed}
use Rattle.registers.proofs.Filling.{number_folded}
use Rattle.registers.proofs.octets.number_of.Goals as goal

pub returns : goal.returns
returns c =
    let used : List ℕ = take (min (length c.args.octets.now) 16) c.args.octets.now in
    let folded : c.fold.result ≡ fold (λ n x. bit_or ((n * 2 ^ 8) % 2 ^ 128) x) 0 (reverse used) = search rules in
    let same : used ≡ take 16 c.args.octets.now = search rules in
    let n : ℕ = min (length c.args.octets.now) 16 in
    let few : length used ≤ 16 = omega (arith, length-take n c.args.octets.now) in
    let below : (i : ℕ) → i < length used → get_or used i 0 < 256 =
    λ i inside. omega (arith, get_or-take n c.args.octets.now i 0 (omega (arith, length-take n c.args.octets.now)), c.type_inv.octets i) in
    folded ∙ number_folded used few below ∙ ap (λ l. packed (octet_bits l)) same
