use Rattle.std.proofs.Common.{◌≡◌, ◌∙◌, ◌++◌, ◌∷◌, ◌+◌, [], ℕ, List, get_or, true, false, drop, sym, ap, subst, arith, rules}
use Rattle.std.specs.Prelude.{string_bytes}
use Rattle.std.specs.Char.{encode_utf8, to_ascii_lowercase}
use Rattle.std.proofs.lemmas.List.{drop_all, drop_more}
use Rattle.std.proofs.lemmas.Result.{on_ok_weaker}
use Rattle.geo_text.specs.Normal.{is_token_char}
use Rattle.geo_text.specs.Tokens.{replaced}
use Rattle.geo_text.proofs.AsciiTokens.{lower, lower_facts, tokens_of-ascii}
use Rattle.geo_text.proofs.TokenWalks.{Along, along_token, along_end, along_last}
use Rattle.geo_text.proofs.normalizer.ascii_tokens.Goals as goal
use Rattle.geo_text.proofs.normalizer.ascii_tokens.Goals.{then-is_ascii_alphanumeric+in_ok-push, else-is_ascii_alphanumeric+in_ok-end_token}

pub loop-b-preserved : goal.loop-b-preserved
loop-b-preserved g c =
    let r = c.args.replace.now in
    let text : List ℕ = c.args.text.now in
    let b : ℕ = get_or text c.loop-b.b-index 0 in
    let left : List ℕ = lower (drop (c.loop-b.b-index + 1) text) in
    let before = g.S.TokenSink.has c.args.sink.now in
    let now = g.S.TokenSink.has c.loop-b.sink in
    let token : List ℕ = string_bytes c.loop-b.token in
    let here : lower (drop c.loop-b.b-index text) ≡ to_ascii_lowercase b ∷ left = ap lower (drop_more text c.loop-b.b-index 0 c.loop-b-test.true) in
    let so_far : Along r before now token (to_ascii_lowercase b ∷ left) (lower text) = subst (λ (l : List ℕ). Along r before now token l (lower text)) here c.loop-b.invariant in
    let facts = lower_facts b (c.requires c.loop-b.b-index) in
    elim c.if-is_ascii_alphanumeric.branch [
      | then-is_ascii_alphanumeric+in_ok-push w ↦
          let inside : is_token_char (to_ascii_lowercase b) ≡ true = facts.0 ∙ search rules in
          let pushed : w.from.result ≡ to_ascii_lowercase b = search rules in
          let grown : token ++ encode_utf8 (to_ascii_lowercase b) ≡ string_bytes c.if-is_ascii_alphanumeric.token = sym (ap string_bytes w.token-is ∙ w.in_ok-push.ensures.bytes ∙ ap (λ (ch : ℕ). token ++ encode_utf8 ch) pushed) in
          subst (λ s. Along r before (g.S.TokenSink.has s) (string_bytes c.if-is_ascii_alphanumeric.token) left (lower text)) (sym w.sink-is)
          (subst (λ (t : List ℕ). Along r before now t left (lower text)) grown (along_token r before now token (to_ascii_lowercase b) left (lower text) so_far facts.2 inside))
      | else-is_ascii_alphanumeric+in_ok-end_token w ↦
          let outside : is_token_char (to_ascii_lowercase b) ≡ false = facts.0 ∙ search rules in
          let gone : [] ≡ string_bytes c.if-is_ascii_alphanumeric.token = sym (ap string_bytes w.token-is ∙ w.in_ok-end_token.ensures.empty) in
          subst (λ s. Along r before (g.S.TokenSink.has s) (string_bytes c.if-is_ascii_alphanumeric.token) left (lower text)) (sym w.sink-is)
          (subst (λ (t : List ℕ). Along r before (g.S.TokenSink.has w.end_token.new.sink) t left (lower text)) gone (along_end r before now token (to_ascii_lowercase b) left (lower text) so_far (g.S.TokenSink.has w.end_token.new.sink) facts.2 outside w.in_ok-end_token.ensures.given))
    ]

pub returns : goal.returns
returns g c =
    let r = c.args.replace.now in
    let text : List ℕ = c.args.text.now in
    let before = g.S.TokenSink.has c.args.sink.now in
    let now = g.S.TokenSink.has c.loop-b.sink in
    let token : List ℕ = string_bytes c.loop-b.token in
    let gone : lower (drop c.loop-b.b-index text) ≡ [] = ap lower (drop_all c.loop-b.b-index text (omega arith)) in
    let so_far : Along r before now token [] (lower text) = subst (λ (l : List ℕ). Along r before now token l (lower text)) gone c.loop-b.invariant in
    on_ok_weaker c.end_token-2.result (λ given tokens had.
    subst (λ (l : List (List ℕ)). g.S.TokenSink.has c.end_token-2.new.sink (tokens ++ replaced r l)) (sym (tokens_of-ascii text c.requires))
    (along_last r before now (g.S.TokenSink.has c.end_token-2.new.sink) token (lower text) so_far given tokens had)) c.end_token-2.ensures.given
