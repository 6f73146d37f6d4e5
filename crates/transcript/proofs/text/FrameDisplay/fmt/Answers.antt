use Rattle.std.proofs.Common.{◌++◌, take, drop, codes, ap, ◌∙◌}
use Rattle.std.proofs.Output.{has_written_of_eq}
use Rattle.std.proofs.lemmas.List.{take_min, drop_min}
use Rattle.texts.specs.Dump.{hex_digits}
use Rattle.transcript.specs.Texts.{frame_text}
use Rattle.transcript.proofs.text.FrameDisplay.fmt.Goals as goal

pub returns-clause-writes : goal.returns-clause-writes
unfolding frame_text
returns-clause-writes g c = λ p ok.
    let xs = c.args.self.now.0.now in
    let header = c.new-header.ensures.holds ∙ c.split_at.ensures.front ∙ ap (λ n. take n xs) c.min.ensures ∙ take_min 10 xs in
    let payload = c.new-payload.ensures.holds ∙ c.split_at.ensures.back ∙ ap (λ n. drop n xs) c.min.ensures ∙ drop_min 10 xs in
    has_written_of_eq _ _ _ _ _ (λ i. codes "frame " ++ (hex_digits (header i) ++ (codes " " ++ hex_digits (payload i)))) (c.write.ensures.writes p ok)
