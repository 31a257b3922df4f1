use Rattle.std.proofs.Common.{◌∙◌, arith}
use Rattle.geo_outside.specs.Device.{most_bytes}
use Rattle.feature_feed.proofs.TakingFacts.{whole_at_end, whole_at_limit}
use Rattle.feature_feed.proofs.taking.take_source.Goals as goal

pub returns-then-n-eq0-clause-whole : goal.returns-then-n-eq0-clause-whole
returns-then-n-eq0-clause-whole g c = λ rest is.
    whole_at_end most_bytes c.args.source.now.left c.take_some.new.source.left c.args.taken.now.items c.take_some.new.taken.items rest
    (c.take_some.ensures.bytes ∙ c.loop-block.invariant.bytes) (c.in_ok-n.ensures.end c.if-n-eq0.true) is

pub returns-clause-whole : goal.returns-clause-whole
returns-clause-whole g c = λ rest is.
    whole_at_limit most_bytes c.args.source.now.left c.loop-block.source.left c.args.taken.now.items c.loop-block.taken.items rest c.loop-block.invariant.bytes
    (omega arith) is
