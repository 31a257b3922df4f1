use Rattle.std.proofs.Common.{◌≡◌, [], ◌∷◌, option_and_then, sym, ap, ◌∙◌, arith}
use Rattle.json.specs.Json.{parse_map, value}
use Rattle.json.specs.Reads.{token_of}
use Rattle.json.proofs.Grammar.{value_is}
use Rattle.serde_json.specs.Data.{array}
use Rattle.serde_json.specs.Read.{of_json, converted}
use Rattle.geo_layer.specs.Json.{list_of, each_of}
use Rattle.feature_json.specs.Tiles.{tile_in}
use Rattle.feature_json.proofs.Objects.{array_opened, array_too_deep, no_array}
use Rattle.feature_json.proofs.tile_list.read_list.Goals as goal

pub returns-in_err-token-clause-err : goal.returns-in_err-token-clause-err
returns-in_err-token-clause-err c refused =
    let empty : c.args.reader.now ≡ [] = grind arith in
    ap (converted of_json) (ap (value c.args.depth) empty ∙ value_is c.args.depth [])

pub returns-then-not-begins_array-clause-ok : goal.returns-then-not-begins_array-clause-ok
returns-then-not-begins_array-clause-ok c =
    let first : c.args.reader.now ≡ token_of c.in_ok-token.token ∷ c.next.new.self = grind arith in
    let seen = c.in_ok-see_token.ensures.ok in
    let none = no_array c.args.depth (token_of c.in_ok-token.token) c.next.new.self c.see_token.new.reader seen.0 c.if-not-begins_array.ensures seen.1 in
    (seen.0, ap (λ ts. converted of_json (value c.args.depth ts)) first ∙ seen.1, sym (ap (option_and_then (λ ds. each_of tile_in (list_of ds))) none))

pub returns-then-depth-eq0-clause-err : goal.returns-then-depth-eq0-clause-err
returns-then-depth-eq0-clause-err c refused =
    let first : c.args.reader.now ≡ token_of c.in_ok-token.token ∷ c.next.new.self = grind arith in
    ap (λ ts. converted of_json (value c.args.depth ts)) first ∙ array_too_deep c.args.depth (token_of c.in_ok-token.token) c.next.new.self c.if-not-begins_array.ensures (omega arith)

pub returns-in_err-good-clause-err : goal.returns-in_err-good-clause-err
returns-in_err-good-clause-err c refused =
    let first : c.args.reader.now ≡ token_of c.in_ok-token.token ∷ c.next.new.self = grind arith in
    let opened = ap (λ ts. converted of_json (value c.args.depth ts)) first ∙ array_opened c.args.depth (token_of c.in_ok-token.token) c.next.new.self c.if-not-begins_array.ensures (omega arith) in
    opened ∙ ap (parse_map array) (c.in_err-good.ensures.err (grind arith))

pub returns-clause-ok : goal.returns-clause-ok
returns-clause-ok c =
    let first : c.args.reader.now ≡ token_of c.in_ok-token.token ∷ c.next.new.self = grind arith in
    let opened = ap (λ ts. converted of_json (value c.args.depth ts)) first ∙ array_opened c.args.depth (token_of c.in_ok-token.token) c.next.new.self c.if-not-begins_array.ensures (omega arith) in
    let found = c.in_ok-good.ensures.ok in
    (array found.0, opened ∙ ap (parse_map array) found.1, found.2)
