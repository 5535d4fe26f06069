use Rattle.std.proofs.Common.{◌≡◌, arith}
use Rattle.trlab_jobs.proofs.RuleSteps.{nasch_read, vdr_read, rickert_read, no_second_lane}
use Rattle.trlab_jobs.proofs.rule.rule_from.Goals as goal

pub returns-in-Nasch : goal.returns-in-Nasch
returns-in-Nasch c =
    let read = nasch_read c.in-Nasch.brake c.args.lanes.count c.args.number c.args.rest c.nasch.result c.rule_with_rest.result c.nasch.ensures.published c.nasch.ensures.rule c.rule_with_rest.ensures in
    record { reported = rw c.in-Nasch.is read.0; suits = read.1 }

pub returns-in-Vdr : goal.returns-in-Vdr
returns-in-Vdr c =
    let read = vdr_read c.in-Vdr.moving c.in-Vdr.stopped c.args.lanes.count c.args.number c.args.rest c.vdr.result c.rule_with_rest-in-Vdr.result c.vdr.ensures.published c.vdr.ensures.rule c.rule_with_rest-in-Vdr.ensures in
    record { reported = rw c.in-Vdr.is read.0; suits = read.1 }

pub returns-then-lanes-eq1 : goal.returns-then-lanes-eq1
returns-then-lanes-eq1 c = record {
  reported = rw (c.at.ensures, c.too_few.ensures, c.in-Rickert.is) (no_second_lane c.in-Rickert.brake c.in-Rickert.crossing c.args.lanes.count c.args.number c.args.rest c.if-lanes-eq1.true);
  suits = tt;
}

pub returns-else-lanes-eq1 : goal.returns-else-lanes-eq1
returns-else-lanes-eq1 c =
    let two : c.args.lanes.count ≡ 2 = omega (arith, c.args.lanes.in_range.0, c.args.lanes.in_range.1, c.if-lanes-eq1.false) in
    let read = rickert_read c.in-Rickert.brake c.in-Rickert.crossing c.args.lanes.count c.args.number c.args.rest c.rickert.result c.rule_with_rest-else-lanes-eq1.result two c.rickert.ensures.published c.rickert.ensures.rule c.rule_with_rest-else-lanes-eq1.ensures in
    record { reported = rw c.in-Rickert.is read.0; suits = read.1 }
