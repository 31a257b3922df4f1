use Rattle.std.proofs.Common.{◌≡◌, ◌∙◌, Ok, [], sym, ap}
use Rattle.std.specs.Prelude.{codes, ok_or, None, option_and_then}
use Rattle.serde_json.specs.View.{view}
use Rattle.geo_layer.specs.Json.{member, natural_of, optional}
use Rattle.geo_layer.specs.Layer.{is_name}
use Rattle.geo_layer.specs.LayerText.{stack_of, replacements_of}
use Rattle.geo_layer.specs.declared.layer.LayerFault.TheVariants as fault
use Rattle.geo_layer.proofs.LayerFacts.{name-is, zoom-is, stack-is, tokens-few, scale-is}
use Rattle.geo_layer.proofs.read_layer.layer_of_value.Goals as goal

pub from_parts-requires : goal.from_parts-requires
from_parts-requires c =
    let stack : Ok c.in-Some-2.stack ≡ optional stack_of None fault.Stack (member (codes "stack") (view c.args.value.now)) = ap (λ o. ok_or o fault.Stack) (sym c.in-Some-2.is) ∙ c.in_ok-stack.ensures in
    let tokens : Ok c.in-Some-3.tokens ≡ optional replacements_of [] fault.Tokens (member (codes "tokens") (view c.args.value.now)) = ap (λ o. ok_or o fault.Tokens) (sym c.in-Some-3.is) ∙ c.in_ok-tokens.ensures in
    let scale = scale-is (member (codes "scoremax") (view c.args.value.now)) c.in-Some-scale_in.scoremax c.in-Some-scale_in.ensures in
    record {
      name = ap is_name c.in_ok-name.ensures ∙ name-is (member (codes "name") (view c.args.value.now)) c.in-Some.name.now c.in-Some.ensures;
      zoom = zoom-is (option_and_then natural_of (member (codes "zoom") (view c.args.value.now))) c.in-Some-zoom_in.zoom c.in-Some-zoom_in.ensures;
      stack = stack-is (member (codes "stack") (view c.args.value.now)) c.in-Some-2.stack stack;
      scale = scale.0;
      scale_bound = scale.1;
      few = tokens-few (member (codes "tokens") (view c.args.value.now)) c.in-Some-3.tokens tokens;
      words = c.len-token_count.ensures.is;
    }
