use Rattle.std.proofs.Common.{ℕ, List, arith}
use Rattle.column.proofs.Outcomes.{torn_granted, none_written, one_written, all_written}
use Rattle.column.proofs.words.torn_raise.Goals as goal

pub returns-in-0 : goal.returns-in-0
returns-in-0 c =
    let words : List ℕ = c.args.words.now in
    let found = c.in_ok-torn.ensures in
    torn_granted c.args.writes_done c.args.junk words _ found.0
    (none_written words c.in_ok-torn.torn.at c.in_ok-torn.torn.mark found.2 found.1 c.args.writes_done c.args.junk c.in-0.is)

pub returns-in-1 : goal.returns-in-1
returns-in-1 c =
    let words : List ℕ = c.args.words.now in
    let found = c.in_ok-torn.ensures in
    torn_granted c.args.writes_done c.args.junk words _ found.0
    (one_written words c.in_ok-torn.torn.at c.in_ok-torn.torn.mark found.2 found.1 c.args.writes_done c.args.junk c.in-1.is)

pub returns-in_default : goal.returns-in_default
returns-in_default c =
    let words : List ℕ = c.args.words.now in
    let found = c.in_ok-torn.ensures in
    torn_granted c.args.writes_done c.args.junk words _ found.0
    (all_written words c.in_ok-torn.torn.at c.in_ok-torn.torn.mark found.2 found.1 c.args.writes_done c.args.junk (omega arith))
