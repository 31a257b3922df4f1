use Rattle.std.proofs.Common.{◌∙◌, ◌<◌, ◌≤◌, Some, length, ap, arith}
use Rattle.std.specs.Prelude.{option_map}
use Rattle.std.proofs.lemmas.Bool.Decides.{nat_tests}
use Rattle.std.proofs.lemmas.Result.{IfOk-weaker}
use Rattle.serde_json.specs.View.{view}
use Rattle.geo_layer.specs.Json.{each_of}
use Rattle.geo_layer.specs.LayerText.{name_of}
use Rattle.geo_layer.proofs.LayerFacts.{stack_of-values, many_values}
use Rattle.geo_layer.proofs.read_layer.stack_of.Goals as goal

pub returns-then-len-gt64 : goal.returns-then-len-gt64
returns-then-len-gt64 c =
    let many : 64 < length c.in-Some.values.now.items = grind (arith, nat_tests) in
    many_values (view c.args.value.now) c.in-Some.values.now.items c.in-Some.ensures many

pub returns : goal.returns
returns c =
    let few : length c.in-Some.values.now.items ≤ 64 = grind (arith, nat_tests) in
    IfOk-weaker c.names_in.result _ _ (λ o is. ap (option_map Some) is ∙ (ap (λ vs. option_map Some (each_of (λ v. name_of (view v)) vs)) c.as_slice.ensures.value ∙ stack_of-values (view c.args.value.now) c.in-Some.values.now.items c.in-Some.ensures few)) c.names_in.ensures
