use Rattle.std.proofs.Common.{◌∙◌, ◌<◌, ◌≤◌, length, arith}
use Rattle.std.proofs.lemmas.Result.{IfOk-weaker}
use Rattle.serde_json.specs.View.{view}
use Rattle.geo_layer.proofs.TokenFacts.{few_members, many_members}
use Rattle.geo_layer.proofs.read_layer.replacements_of.Goals as goal

pub returns-then-len-gt4096 : goal.returns-then-len-gt4096
returns-then-len-gt4096 c =
    let many : 4096 < length c.in-Some.members.now.entries = omega (arith, c.len.ensures.len, c.if-len-gt4096.true) in
    many_members (view c.args.value.now) c.in-Some.members.now.entries c.in-Some.ensures many

pub returns : goal.returns
returns c =
    let few : length c.in-Some.members.now.entries ≤ 4096 = omega (arith, c.len.ensures.len, c.if-len-gt4096.false) in
    IfOk-weaker c.map_of.result _ _ (λ o is. is ∙ few_members (view c.args.value.now) c.in-Some.members.now.entries c.in-Some.ensures few) c.map_of.ensures
