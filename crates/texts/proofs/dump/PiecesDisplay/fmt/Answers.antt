use Rattle.std.proofs.Common.{◌≡◌, [], ◌++◌, sym, ap, ◌∙◌, append_assoc, append-nil, rules}
use Rattle.std.proofs.Output.{has_written_append, has_written_of_eq}
use Rattle.std.specs.List.{flat_map}
use Rattle.std.specs.Slice.Iter.{chunks_rest, chunks_size}
use Rattle.std.proofs.lemmas.List.{nil_from_length}
use Rattle.std.proofs.lemmas.Grind.{flat_map-append}
use Rattle.texts.specs.Dump.{piece}
use Rattle.texts.proofs.Lines.{written_none}
use Rattle.texts.proofs.dump.PiecesDisplay.fmt.Goals as goal

pub loop-octets-init : goal.loop-octets-init
loop-octets-init g c =
    let size : chunks_size c.into_iter-octets-iterator.result ≡ 16 = search rules in
    let rest : chunks_rest c.into_iter-octets-iterator.result ≡ c.args.self.now.octets.now = search rules in
    (size, ([], sym rest, λ p. written_none _ _ p))

pub loop-octets-preserved : goal.loop-octets-preserved
loop-octets-preserved g c =
    let step = c.in-Some.ensures.steps in
    let old = c.loop-octets.invariant in
    let row = c.in-Some.octets.now in
    let shown = flat_map (piece c.args.self.now.spaced) in
    let text : c.ascii.result.now ≡ shown row = search rules in (
      step.0 ∙ old.0,
      (
        old.1.0 ++ row,
        old.1.1 ∙ ap (λ r. old.1.0 ++ r) step.1.0 ∙ sym (append_assoc old.1.0 row _),
        λ p. has_written_of_eq _ _ _ _ _ (ap (λ t. shown old.1.0 ++ t) text ∙ sym (flat_map-append _ old.1.0 row))
            (has_written_append _ _ _ _ _ _ (old.1.2 p) (c.write_str.ensures.writes (old.1.2 p).plain (search rules))),
      ),
    )

pub returns : goal.returns
returns g c =
    let none = nil_from_length _ c.in-None.ensures.steps.1.0 in
    let all = c.loop-octets.invariant.1.1 ∙ ap (λ r. c.loop-octets.invariant.1.0 ++ r) none ∙ append-nil _ in
    record { writes = λ p ok. has_written_of_eq _ _ _ _ _ (ap (flat_map (piece c.args.self.now.spaced)) (sym all)) (c.loop-octets.invariant.1.2 p); styled = tt }
