use Rattle.std.proofs.Common.{◌≡◌, ◌++◌, vec_items, codes, refl, inl, rules}
use Rattle.scenario.proofs.read.read_line.Goals as goal

pub returns-in-Some : goal.returns-in-Some
returns-in-Some c =
    let text : c.args.line.now ≡ codes "say " ++ vec_items c.in_ok-from_slice.field-0 = search rules in
    inl (c.in_ok-from_slice.field-0, refl, text)
