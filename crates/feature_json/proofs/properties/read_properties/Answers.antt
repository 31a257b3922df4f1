use Rattle.std.proofs.Common.{◌≡◌, [], ◌∷◌, Some, option_map, sym, ap, ◌∙◌, arith}
use Rattle.json.specs.Json.{parse_map, value}
use Rattle.json.specs.Reads.{token_of}
use Rattle.json.proofs.Grammar.{value_is}
use Rattle.serde_json.specs.Data.{object}
use Rattle.serde_json.specs.Read.{of_json, converted}
use Rattle.feature_json.specs.Said.{properties_said}
use Rattle.feature_json.proofs.Objects.{object_opened, object_too_deep, no_object}
use Rattle.feature_json.proofs.properties.read_properties.Goals as goal

pub returns-in_err-token-clause-err : goal.returns-in_err-token-clause-err
returns-in_err-token-clause-err c refused =
    let empty : c.args.reader.now ≡ [] = grind arith in
    ap (converted of_json) (ap (value c.args.depth) empty ∙ value_is c.args.depth [])

pub returns-then-not-begins_object-clause-ok : goal.returns-then-not-begins_object-clause-ok
returns-then-not-begins_object-clause-ok c =
    let first : c.args.reader.now ≡ token_of c.in_ok-token.token ∷ c.next.new.self = grind arith in
    let seen = c.in_ok-see_token.ensures.ok in
    let none = no_object c.args.depth (token_of c.in_ok-token.token) c.next.new.self c.see_token.new.reader seen.0 c.if-not-begins_object.ensures seen.1 in
    (seen.0, ap (λ ts. converted of_json (value c.args.depth ts)) first ∙ seen.1, sym (ap (option_map properties_said) none))

pub returns-then-depth-eq0-clause-err : goal.returns-then-depth-eq0-clause-err
returns-then-depth-eq0-clause-err c refused =
    let first : c.args.reader.now ≡ token_of c.in_ok-token.token ∷ c.next.new.self = grind arith in
    ap (λ ts. converted of_json (value c.args.depth ts)) first ∙ object_too_deep c.args.depth (token_of c.in_ok-token.token) c.next.new.self c.if-not-begins_object.ensures (omega arith)

pub returns-in_err-found-clause-err : goal.returns-in_err-found-clause-err
returns-in_err-found-clause-err c refused =
    let first : c.args.reader.now ≡ token_of c.in_ok-token.token ∷ c.next.new.self = grind arith in
    let opened = ap (λ ts. converted of_json (value c.args.depth ts)) first ∙ object_opened c.args.depth (token_of c.in_ok-token.token) c.next.new.self c.if-not-begins_object.ensures (omega arith) in
    opened ∙ ap (parse_map object) (c.in_err-found.ensures.err (grind arith))

pub returns-clause-ok : goal.returns-clause-ok
returns-clause-ok c =
    let first : c.args.reader.now ≡ token_of c.in_ok-token.token ∷ c.next.new.self = grind arith in
    let opened = ap (λ ts. converted of_json (value c.args.depth ts)) first ∙ object_opened c.args.depth (token_of c.in_ok-token.token) c.next.new.self c.if-not-begins_object.ensures (omega arith) in
    let found = c.in_ok-found.ensures.ok in
    (object found.0, opened ∙ ap (parse_map object) found.1, ap Some found.2)
