use Rattle.trlab_explain.proofs.PlainTokens.{utf8_plain}
use Rattle.trlab_explain.proofs.object.plain_str.Goals as goal

pub unreachable-requires : goal.unreachable-requires
unreachable-requires c = c.in-Err.ensures.cases.0 (utf8_plain c.args.bytes.now c.requires)
