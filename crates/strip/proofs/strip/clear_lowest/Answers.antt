use Rattle.std.proofs.Common.{cond, set, sym, ap, ◌∙◌, arith, rules}
use Rattle.strip.specs.Strips.{raised_by}
use Rattle.strip.proofs.Clearing.{used_below, octet_set, some_left, none_left, raised-one, raised_none}
use Rattle.strip.proofs.strip.clear_lowest.Goals as goal

pub bounds-octets-place : goal.bounds-octets-place
bounds-octets-place c = used_below c.args.octets.now c.in_ok-place.ensures

pub bounds-octets-place-then-written : goal.bounds-octets-place-then-written
bounds-octets-place-then-written c = used_below c.args.octets.now c.in_ok-place.ensures

pub without_lowest-requires : goal.without_lowest-requires
without_lowest-requires c = octet_set c.args.octets.now c.in_ok-place.ensures

pub returns-then-written : goal.returns-then-written
returns-then-written c = (
  some_left c.args.octets.now c.in_ok-place.ensures (omega arith),
  ap (set c.args.octets.now c.in_ok-place.place) c.without_lowest.ensures
      ∙ raised-one c.args.octets.now c.in_ok-place.ensures (omega arith)
      ∙ ap (λ b. raised_by (cond b 1 0) c.args.octets.now) (sym c.if-written.true),
)

pub returns-else-written : goal.returns-else-written
returns-else-written c = (
  some_left c.args.octets.now c.in_ok-place.ensures (omega arith),
  sym (raised_none c.args.octets.now) ∙ ap (λ b. raised_by (cond b 1 0) c.args.octets.now) (sym c.if-written.false),
)

pub returns-in_err-place : goal.returns-in_err-place
returns-in_err-place c =
    let none = none_left c.args.octets.now c.in_err-place.ensures.1 in
    search rules
